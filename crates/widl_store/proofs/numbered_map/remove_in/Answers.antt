use Rattle.std.proofs.Common.{sym, ◌∙◌, ap}
use Rattle.std.specs.Prelude.{is_some}
use Rattle.std.specs.List.{position}
use Rattle.std.specs.Map.{lookup, keys_of}
use Rattle.widl_store.specs.Objects.{same_key}
use Rattle.widl_store.proofs.KeyEquality.{test_is}
use Rattle.widl_store.proofs.KeyFinds.{nothing_leaves}
use Rattle.widl_store.proofs.Changing.{removed}
use Rattle.widl_store.proofs.Sorting.{in_some, none_of}
use Rattle.widl_store.proofs.numbered_map.remove_in.Goals as goal

pub returns-in-Some-clause-leaves : goal.returns-in-Some-clause-leaves
returns-in-Some-clause-leaves c = removed c.args.key.now c.in-Some.index c.args.entries.now.entries c.swap_remove_index-removed.new.self.entries c.swap_remove_index-removed.result (sym (c.in-Some.ensures.index ∙ ap (λ test. position test (keys_of c.args.entries.now.entries)) (test_is c.args.key.now))) c.swap_remove_index-removed.ensures.entry c.swap_remove_index-removed.ensures.entries (in_some c.swap_remove_index-removed.result _ _ (λ x u. ap (λ test. lookup test c.swap_remove_index-removed.new.self.entries) (sym (test_is x.0)) ∙ u.1) c.swap_remove_index-removed.ensures.updates)

pub returns-in_default-clause-leaves : goal.returns-in_default-clause-leaves
returns-in_default-clause-leaves c = nothing_leaves c.args.key.now c.args.entries.now.entries (none_of (lookup (same_key c.args.key.now) c.args.entries.now.entries) (ap is_some (sym c.in_default.is) ∙ c.get_index_of.ensures.found ∙ ap (λ test. is_some (lookup test c.args.entries.now.entries)) (test_is c.args.key.now)))
