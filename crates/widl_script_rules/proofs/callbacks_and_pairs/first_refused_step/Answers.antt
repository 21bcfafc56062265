use Rattle.std.proofs.Common.{Option, flat_map, subst, sym}
use Rattle.widl_lines.specs.declared.script_place.ScriptPlace.{ScriptPlace}
use Rattle.widl_script_rules.specs.CallbacksAndPairs.{pair_words, refused_call, refused_words}
use Rattle.widl_script_rules.specs.Lookups.{overload_term}
use Rattle.widl_script_rules.specs.StepUses.{invoked_in}
use Rattle.widl_script_rules.specs.Surroundings.{plain_line}
use Rattle.widl_script_rules.specs.UsedPlaces.{FirstAt}
use Rattle.widl_script_rules.proofs.UsedPlaces.{joined_at}
use Rattle.widl_script_rules.proofs.callbacks_and_pairs.first_refused_step.Goals as goal

pub returns : goal.returns
returns c = λ list known.
    let o = overload_term c.args.overload in
    let line = plain_line c.args.line.now in
    let step = c.args.step.now in
    subst (λ (r : Option ScriptPlace). FirstAt 14 line (refused_words list o step) r) (sym c.first_of.ensures)
    (joined_at 14 line (pair_words step) (flat_map (refused_call list o) (invoked_in step)) c.refused_pairs-pairs.result c.refused_invoke-invoke.result c.refused_pairs-pairs.ensures (c.refused_invoke-invoke.ensures list known))
