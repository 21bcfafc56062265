use Rattle.std.proofs.Common.{◌∙◌, ap, arith}
use Rattle.std.specs.Prelude.{[], ◌∷◌, ◌++◌}
use Rattle.indexmap.specs.IndexMap.{insert_entry}
use Rattle.widl_store.specs.Objects.{prop_at, same_key}
use Rattle.widl_store.proofs.Changing.{created_numbered, created_shown}
use Rattle.widl_store.proofs.numbered_map.NumberedMap.create.Goals as goal

pub invariant_of-self-2 : goal.invariant_of-self-2
invariant_of-self-2 c = created_numbered c.args.key c.args.prop c.self.inside.next c.in-Some.next c.self.inside.entries.entries c.insert_in.new.entries.entries c.self.invariant (ap (λ v. prop_at v c.args.key) c.self.view_is ∙ c.requires) (omega (arith, c.in-Some.ensures)) (c.in_ok-insert_in.ensures.ok ∙ ap (insert_entry same_key c.self.inside.entries.entries c.args.key) c.new.ensures) c.insert_in.ensures.unique

pub returns-clause-ok : goal.returns-clause-ok
returns-clause-ok c =
    created_shown c.args.key c.args.prop c.self.inside.next c.in-Some.next c.self.inside.entries.entries c.insert_in.new.entries.entries c.self.invariant (ap (λ v. prop_at v c.args.key) c.self.view_is ∙ c.requires) (omega (arith, c.in-Some.ensures)) (c.in_ok-insert_in.ensures.ok ∙ ap (insert_entry same_key c.self.inside.entries.entries c.args.key) c.new.ensures)
    ∙ ap (λ v. v ++ (c.args.key, c.args.prop) ∷ []) c.self.view_is
