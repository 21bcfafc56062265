use Rattle.std.proofs.Common.{◌≡◌, false, if◌then◌else◌, is_some, List, None, rules, Some, subst, ℕ}
use Rattle.std.specs.Prelude.{bytes_eq}
use Rattle.std.specs.Option.{option_or}
use Rattle.std.proofs.lemmas.Map.Text.{hash_map_updates_str}
use Rattle.widl_idl.specs.declared.callee.Owner.TheVariants as owners
use Rattle.widl_script.specs.Owners.{owner_in}
use Rattle.widl_script_rules.proofs.OwnerTexts.{first_put}
use Rattle.widl_script.proofs.owners.add_space.Goals as goal

pub returns-clause-owners : goal.returns-clause-owners
returns-clause-owners c =
    let old = c.args.owners.now in
    let new = c.insert.new.self in
    let name = c.as_slice-name.result.now in
    let space = owners.Space c.args.number in
    subst (λ (n : List ℕ). (text : List ℕ) → owner_in new text ≡ option_or (owner_in old text) (if bytes_eq text n then Some space else None)) c.as_slice-name.ensures
    (first_put (λ (t : List ℕ). owner_in old t) (λ (t : List ℕ). owner_in new t) space name (λ t. hash_map_updates_str name old new _ c.in_ok-insert.ensures.updates t)
    (let h : is_some (owner_in old name) ≡ false = search rules in h))
