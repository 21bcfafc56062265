use Rattle.std.proofs.Common.{◌∙◌, Some, ap, refl}
use Rattle.widl_script_rules.proofs.StepWalks.{for_missing, for_other, for_some}
use Rattle.widl_script_rules.proofs.Surrounding.{at_place}
use Rattle.widl_script_rules.proofs.step_walk.overload_around.Goals as goal

pub returns-in-Some-opening : goal.returns-in-Some-opening
returns-in-Some-opening c = λ list lines limit outer count known around.
    for_some list lines c.args.openings.now limit c.in-Some.place c.args.around outer c.in-Some-opening.opening c.in-Some-opening.opening.overload known c.in-Some.is
    (at_place c.args.openings.now c.in-Some.place c.in-Some-get.opening.now c.in-Some-get.ensures.lookup.3.0 c.in-Some-get.ensures.lookup.1 ∙ ap Some c.in-Some-opening.is) refl around

pub returns-in-None-opening : goal.returns-in-None-opening
returns-in-None-opening c = λ list lines limit outer count known around.
    for_other list lines c.args.openings.now limit c.in-Some.place c.args.around outer known c.in-Some.is
    (at_place c.args.openings.now c.in-Some.place c.in-Some-get.opening.now c.in-Some-get.ensures.lookup.3.0 c.in-Some-get.ensures.lookup.1 ∙ ap Some c.in-None-opening.is) around

pub returns-in-None-get : goal.returns-in-None-get
returns-in-None-get c = λ list lines limit outer count known around.
    for_missing list lines c.args.openings.now limit c.in-Some.place c.args.around outer count c.in-Some.is c.in-None-get.ensures.lookup.3 around
