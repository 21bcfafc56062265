use Rattle.std.proofs.Common.{◌≡◌, ℕ, ◌<◌, ◌+◌, length, map, max, take, arith}
use Rattle.std.proofs.lemmas.List.{length-map}
use Rattle.widl_idl.specs.DefinitionTerms.{SigTerm, arg_term, sig_term}
use Rattle.widl_overload.specs.sets.Sets.{longest}
use Rattle.widl_overload.proofs.Lengths.{args_few, longest_more}
use Rattle.widl_overload.proofs.Terms.{item_term}
use Rattle.widl_overload.proofs.sets.longest_list.Goals as goal

pub loop-sig-preserved : goal.loop-sig-preserved
loop-sig-preserved c =
    let sigs = map sig_term c.args.sigs.now in
    let i : ℕ = c.loop-sig.sig-index in
    let s : SigTerm = sig_term c.sig-item.result in
    let below : i < length sigs = omega (arith, length-map c.args.sigs.now sig_term) in
    let is = item_term sig_term c.args.sigs.now i c.sig-item.result (omega arith) c.sig-item.is in
    let size : length s.args ≡ length c.sig-item.result.args = length-map c.sig-item.result.args arg_term in
    let more : longest (take (i + 1) sigs) ≡ max (longest (take i sigs)) (length s.args) = longest_more sigs i s below is in
    (omega arith, λ numbered. let few : length s.args < 4294967296 = args_few sigs i s numbered below is in let before = c.loop-sig.invariant.1 numbered in omega arith)
