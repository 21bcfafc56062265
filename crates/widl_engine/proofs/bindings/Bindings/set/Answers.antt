use Rattle.std.proofs.Common.{◌∙◌, ap, List, ℕ, nat_eq}
use Rattle.indexmap.specs.IndexMap.{insert_entry}
use Rattle.widl_value.specs.declared.value.Value.{Value}
use Rattle.widl_engine.specs.Bound.{more_in}
use Rattle.widl_engine.proofs.FewBindings.{at_in_same, set_found}
use Rattle.widl_engine.proofs.bindings.Bindings.set.Goals as goal

pub returns-in-Some : goal.returns-in-Some
returns-in-Some c =
    set_found c.args.name c.args.value c.self.inside.few.items (more_in c.self.inside.more) c.in-Some.place c.index_mut.result.now (at_in_same c.args.name c.self.inside.few.items c.as_slice.result.now c.in-Some.place c.as_slice.ensures.value c.in-Some.ensures.some) c.index_mut.ensures.value
    ∙ ap (λ (l : List (ℕ × Value)). insert_entry nat_eq l c.args.name c.args.value) c.self.view_is
