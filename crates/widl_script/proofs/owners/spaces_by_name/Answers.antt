use Rattle.std.proofs.Common.{◌≡◌, ◌≤◌, ◌+◌, ◌∙◌, ◌∷◌, [], ap, arith, if◌then◌else◌, length, map, None, option_map, slice_get, Some, sym, take}
use Rattle.std.specs.Prelude.{bytes_eq}
use Rattle.std.specs.Option.{option_or}
use Rattle.std.proofs.lemmas.List.{length-map, take_all}
use Rattle.std.proofs.lemmas.Option.{slice_get-map}
use Rattle.widl_idl.specs.declared.callee.Owner.TheVariants as owners
use Rattle.widl_idl.specs.DefinitionTerms.{space_term}
use Rattle.widl_script.specs.Owners.{owner_there}
use Rattle.widl_script.proofs.OwnerNumbers.{not_large, owner_next}
use Rattle.widl_script_rules.proofs.Surrounding.{at_place}
use Rattle.widl_script.proofs.owners.spaces_by_name.Goals as goal

pub spaces-preserved : goal.spaces-preserved
spaces-preserved c =
    let all = c.args.spaces.now in
    let k = c.spaces.number in
    let space = c.index-spaces-number.result in
    let terms = map space_term all in
    let is : slice_get terms k ≡ Some (space_term space) = slice_get-map space_term all k ∙ ap (option_map space_term) (at_place all k space c.spaces-test.true c.index-spaces-number.is) in (
      λ text. c.in_ok-add_space.ensures.owners text ∙ ap (λ o. option_or o (if bytes_eq text space.name then Some (owners.Space k) else None)) (c.spaces.invariant.0 text) ∙ sym (owner_next terms k (space_term space) text is),
      λ unit. owner_next terms k (space_term space) ((65536 + unit) ∷ []) is
          ∙ ap (λ b. option_or (owner_there (take k terms) ((65536 + unit) ∷ [])) (if b then Some (owners.Space k) else None)) (not_large unit space.name c.in_ok-add_space.ensures.units)
          ∙ ap (λ o. option_or o None) (c.spaces.invariant.1 unit),
    )

pub returns-clause-owners : goal.returns-clause-owners
returns-clause-owners c = λ text.
    let terms = map space_term c.args.spaces.now in
    let long : length terms ≤ c.spaces.number = omega (arith, length-map c.args.spaces.now space_term, c.spaces-test.false, c.spaces.auto.number-end) in
    c.spaces.invariant.0 text ∙ ap (λ ss. owner_there ss text) (take_all c.spaces.number terms long)

pub returns-clause-none : goal.returns-clause-none
returns-clause-none c = λ unit.
    let terms = map space_term c.args.spaces.now in
    let long : length terms ≤ c.spaces.number = omega (arith, length-map c.args.spaces.now space_term, c.spaces-test.false, c.spaces.auto.number-end) in
    sym (ap (λ ss. owner_there ss ((65536 + unit) ∷ [])) (take_all c.spaces.number terms long)) ∙ c.spaces.invariant.1 unit
