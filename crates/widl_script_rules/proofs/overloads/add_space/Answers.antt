use Rattle.std.proofs.Common.{◌≡◌, List, ℕ, Option, Some, None, is_some, true, false, refl, subst, rules, if◌then◌else◌}
use Rattle.std.specs.Prelude.{bytes_eq}
use Rattle.std.specs.Option.{option_or}
use Rattle.std.proofs.lemmas.Map.Text.{hash_map_updates_str}
use Rattle.indexmap.specs.IndexMap.{get_by}
use Rattle.widl_idl.specs.DefinitionTerms.{SpaceTerm, space_term}
use Rattle.widl_script_rules.specs.Lookups.{IsSpaceOf}
use Rattle.widl_script_rules.proofs.Lookups.{space_added, space_kept}
use Rattle.widl_script_rules.proofs.overloads.add_space.Goals as goal

pub returns-in_ok-insert : goal.returns-in_ok-insert
returns-in_ok-insert c =
    let old = c.args.spaces.now in
    let new = c.insert.new.self in
    let name = c.as_slice-name.result.now in
    let space = space_term c.args.space.now in
    subst (λ (n : List ℕ). (text : List ℕ) (found : Option SpaceTerm) → IsSpaceOf (get_by (λ k. bytes_eq text k.now) old) found → IsSpaceOf (get_by (λ k. bytes_eq text k.now) new) (option_or found (if bytes_eq text n then Some space else None))) c.as_slice-name.ensures
    (space_added (λ text. get_by (λ k. bytes_eq text k.now) old) (λ text. get_by (λ k. bytes_eq text k.now) new) (record { space = c.args.space; operations = c.in_ok-operations.operations }) space name
    (λ text. hash_map_updates_str name old new _ c.in_ok-insert.ensures.updates text) (let h : is_some (get_by (λ k. bytes_eq name k.now) old) ≡ false = search rules in h)
    (record { same = refl; operations = c.in_ok-operations.ensures }))

pub returns-else-not-contains_key : goal.returns-else-not-contains_key
returns-else-not-contains_key c =
    let old = c.args.spaces.now in
    let name = c.as_slice-name.result.now in
    let space = space_term c.args.space.now in
    subst (λ (n : List ℕ). (text : List ℕ) (found : Option SpaceTerm) → IsSpaceOf (get_by (λ k. bytes_eq text k.now) old) found → IsSpaceOf (get_by (λ k. bytes_eq text k.now) old) (option_or found (if bytes_eq text n then Some space else None))) c.as_slice-name.ensures
    (space_kept (λ text. get_by (λ k. bytes_eq text k.now) old) space name (let h : is_some (get_by (λ k. bytes_eq name k.now) old) ≡ true = search rules in h))
