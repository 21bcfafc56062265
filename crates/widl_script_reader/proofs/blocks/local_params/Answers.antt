use Rattle.std.proofs.Common.{◌≡◌, ◌∙◌, sym, ap, take, [], ◌∷◌, get_or, nat_eq, List, ℕ, length, arith}
use Rattle.std.specs.Prelude.{fold}
use Rattle.std.proofs.lemmas.List.{take_more, take_all}
use Rattle.std.proofs.lemmas.List.Sums.{fold-append}
use Rattle.indexmap.specs.IndexSet.{insert_key}
use Rattle.widl_script_reader.proofs.blocks.local_params.Goals as goal

pub loop-name-preserved : goal.loop-name-preserved
loop-name-preserved c =
    let items = c.as_slice-name-items.result.now in
    let k = c.loop-name.name-index in
    c.in_ok-put.ensures.ok ∙ ap (λ (x : List ℕ). insert_key nat_eq x (get_or items k 0)) c.loop-name.invariant
    ∙ sym (fold-append (insert_key nat_eq) [] (take k items) (get_or items k 0 ∷ []))
    ∙ ap (λ (x : List ℕ). fold (insert_key nat_eq) [] x) (sym (take_more items k 0 c.loop-name-test.true))

pub returns : goal.returns
returns c =
    c.loop-name.invariant ∙ ap (λ (x : List ℕ). fold (insert_key nat_eq) [] x) (take_all c.loop-name.name-index c.as_slice-name-items.result.now c.loop-name-test.false ∙ c.as_slice-name-items.ensures)
