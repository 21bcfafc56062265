use Rattle.std.proofs.Common.{Contains, Option, subst, sym, ap, ◌∙◌}
use Rattle.widl_first.specs.Keys.{Either, IsFirst, first_of}
use Rattle.widl_first.proofs.KeyFirsts.{first_either}
use Rattle.widl_fits.specs.Fitting.{Knows}
use Rattle.widl_idl.specs.DefinitionTerms.{DefsTerm}
use Rattle.widl_lines.specs.declared.script_place.ScriptPlace.{ScriptPlace}
use Rattle.widl_script_rules.specs.Arguments.{lost_words}
use Rattle.widl_script_rules.specs.CallbacksAndPairs.{refused_words}
use Rattle.widl_script_rules.specs.Fits.{Misfits}
use Rattle.widl_script_rules.specs.LeastBreak.{place_key}
use Rattle.widl_script_rules.specs.Lookups.{overload_term}
use Rattle.widl_script_rules.specs.Slots.{lost_slots}
use Rattle.widl_script_rules.specs.StepWalks.{InStep}
use Rattle.widl_script_rules.specs.Surroundings.{plain_line}
use Rattle.widl_script_rules.specs.UsedPlaces.{AtWords}
use Rattle.widl_script_rules.proofs.step_walk.first_in_step.Goals as goal

pub returns : goal.returns
returns c = λ list known.
    let o = overload_term c.args.overload in
    let line = plain_line c.args.line.now in
    let step = c.args.step.now in
    let lost = c.first_lost_argument-lost.result in
    let slot = c.first_lost_slot-slot.result in
    let refused = c.first_refused_step-refused.result in
    let misfit = c.first_misfit-misfit.result in
    let is = known.is in
    let fit : IsFirst place_key (AtWords 13 line (Misfits list o step)) misfit =
    subst (λ (l : DefsTerm). IsFirst place_key (AtWords 13 line (Misfits l o step)) misfit) is
    (c.first_misfit-misfit.ensures (subst (λ (l : DefsTerm). Knows l c.args.tables.now.fits) (sym is) known.fits) (ap (λ (l : DefsTerm). l.ifaces) is ∙ known.bare)) in
    let former = Either (Either (AtWords 11 line (Contains (lost_words o step))) (AtWords 12 line (Contains (lost_slots o step)))) (AtWords 14 line (Contains (refused_words list o step))) in
    subst (λ (r : Option ScriptPlace). IsFirst place_key (InStep list o line step) r) (sym c.first_of.ensures)
    (first_either place_key former (AtWords 13 line (Misfits list o step)) c.first_of-all.result misfit
    (subst (λ (r : Option ScriptPlace). IsFirst place_key former r) (sym c.first_of-all.ensures)
    (subst (λ (r : Option ScriptPlace). IsFirst place_key former (first_of place_key r refused)) (sym c.first_of-first.ensures)
    (first_either place_key (Either (AtWords 11 line (Contains (lost_words o step))) (AtWords 12 line (Contains (lost_slots o step)))) (AtWords 14 line (Contains (refused_words list o step))) (first_of place_key lost slot) refused
    (first_either place_key (AtWords 11 line (Contains (lost_words o step))) (AtWords 12 line (Contains (lost_slots o step))) lost slot c.first_lost_argument-lost.ensures c.first_lost_slot-slot.ensures)
    (c.first_refused_step-refused.ensures list known.takes)))) fit)
