use Rattle.std.proofs.Common.{◌∙◌, ap, sym, List, ℕ, nat_eq}
use Rattle.std.specs.Map.{lookup}
use Rattle.widl_value.specs.declared.value.Value.{Value}
use Rattle.widl_engine.specs.Bound.{more_in}
use Rattle.widl_engine.proofs.FewBindings.{at_in_same, lookup_past, value_found}
use Rattle.widl_engine.proofs.bindings.Bindings.get.Goals as goal

pub returns-in-Some : goal.returns-in-Some
returns-in-Some c =
    value_found c.args.name c.self.inside.few.items (more_in c.self.inside.more) c.in-Some.place c.index.result.now (at_in_same c.args.name c.self.inside.few.items c.as_slice.result.now c.in-Some.place c.as_slice.ensures.value c.in-Some.ensures.some) c.index.ensures
    ∙ ap (λ (l : List (ℕ × Value)). lookup (nat_eq c.args.name) l) c.self.view_is

pub returns-in-None : goal.returns-in-None
returns-in-None c =
    c.get_more.ensures
    ∙ sym (lookup_past c.args.name c.self.inside.few.items (more_in c.self.inside.more) (ap (λ (l : List (ℕ × Value)). lookup (nat_eq c.args.name) l) (sym c.as_slice.ensures.value) ∙ c.in-None.ensures.none))
    ∙ ap (λ (l : List (ℕ × Value)). lookup (nat_eq c.args.name) l) c.self.view_is
