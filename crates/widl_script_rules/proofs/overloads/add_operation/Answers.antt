use Rattle.std.proofs.Common.{List, ℕ}
use Rattle.std.specs.Prelude.{bytes_eq}
use Rattle.std.specs.Borrow.{Bor}
use Rattle.std.proofs.lemmas.Map.Text.{hash_map_updates_str}
use Rattle.indexmap.specs.IndexMap.{get_by}
use Rattle.widl_idl.specs.declared.operation.OpName.{OpName}
use Rattle.widl_idl.specs.DefinitionTerms.{op_name_term}
use Rattle.widl_script_rules.proofs.Lookups.{added}
use Rattle.std.proofs.Common.{rules, subst, ◌≡◌, is_some, false, Some, None, if◌then◌else◌}
use Rattle.std.specs.Option.{option_or}
use Rattle.widl_script_rules.specs.Lookups.{operation_in}
use Rattle.widl_script_rules.proofs.overloads.add_operation.Goals as goal

pub returns-in_ok-insert : goal.returns-in_ok-insert
returns-in_ok-insert c =
    let old = c.args.operations.now in
    let new = c.insert.new.self in
    let name = c.as_slice-name.result.now in
    subst (λ (n : List ℕ). (text : List ℕ) → operation_in new text ≡ option_or (operation_in old text) (if bytes_eq text n then Some (op_name_term c.args.operation.now) else None)) c.as_slice-name.ensures
    (added (λ (o : Bor OpName). op_name_term o.now) (λ text. get_by (λ k. bytes_eq text k.now) old) (λ text. get_by (λ k. bytes_eq text k.now) new) c.args.operation name
    (λ text. hash_map_updates_str name old new _ c.in_ok-insert.ensures.updates text) (let h : is_some (get_by (λ k. bytes_eq name k.now) old) ≡ false = search rules in h))
