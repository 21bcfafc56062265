use Rattle.std.proofs.Common.{◌≡◌, ◌+◌, map, nat_eq, true, false, arith, sym, ap, ◌∙◌}
use Rattle.std.proofs.lemmas.List.{length-map}
use Rattle.widl_idl.specs.DefinitionTerms.{arg_term}
use Rattle.widl_overload.specs.sets.Sets.{is_free}
use Rattle.widl_overload.proofs.Shorter.{free_more, not_free}
use Rattle.widl_overload.proofs.Terms.{item_term}
use Rattle.widl_overload.proofs.sets.all_free.Goals as goal

pub returns-then-not-is_free : goal.returns-then-not-is_free
returns-then-not-is_free c =
    let no : c.is_free.result ≡ false = (let not = c.if-not-is_free.true in cc) in
    let size = sym (length-map c.args.args.now arg_term) in
    let told = c.is_free.ensures ∙ ap (λ n. is_free c.index-args-place.result.opt (nat_eq (c.loop-place.place + 1) n)) size in
    not_free (map arg_term c.args.args.now) c.loop-place.place (arg_term c.index-args-place.result) c.is_free.result (omega (arith, size)) (item_term arg_term c.args.args.now c.loop-place.place c.index-args-place.result (omega arith) c.index-args-place.is) told no c.loop-place.invariant

pub loop-place-preserved : goal.loop-place-preserved
loop-place-preserved c =
    let yes : c.is_free.result ≡ true = (let not = c.if-not-is_free.false in cc) in
    let size = sym (length-map c.args.args.now arg_term) in
    let told = c.is_free.ensures ∙ ap (λ n. is_free c.index-args-place.result.opt (nat_eq (c.loop-place.place + 1) n)) size in
    free_more (map arg_term c.args.args.now) c.loop-place.place (arg_term c.index-args-place.result) c.is_free.result (omega (arith, size)) (item_term arg_term c.args.args.now c.loop-place.place c.index-args-place.result (omega arith) c.index-args-place.is) told yes c.loop-place.invariant
