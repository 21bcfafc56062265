use Rattle.std.proofs.Common.{◌∙◌, ap, ℕ, List, map}
use Rattle.widl_value.specs.declared.value.Value.{Value}
use Rattle.widl_script_tree.specs.Tables.{name_at}
use Rattle.widl_script_tree.specs.declared.function.Function.{Function}
use Rattle.widl_runs.specs.Worlds.{bound_parameters}
use Rattle.widl_engine.specs.Place.{named}
use Rattle.widl_engine.proofs.ContextLaws.{new_context}
use Rattle.widl_engine.proofs.entering.new_context.Goals as goal

pub returns : goal.returns
returns c =
    new_context c.args.script.now c.args.number c.args.this c.args.args c.as_slice.result.now c.bind_parameters.new.locals
    (c.as_slice.ensures ∙ ap (λ (f : Function). f.params) c.function.ensures.function)
    (c.in_ok-bind_parameters.ensures ∙ ap (λ (l : List (ℕ × Value)). bound_parameters (named (name_at c.args.script.now) l) (map (name_at c.args.script.now) c.as_slice.result.now) c.args.args) c.new-locals.ensures)
