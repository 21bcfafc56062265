use Rattle.std.proofs.Common.{Contains, subst, sym}
use Rattle.widl_first.specs.Keys.{Either}
use Rattle.widl_idl.specs.DefinitionTerms.{defs_term}
use Rattle.widl_script_rules.specs.BrokenRules.{BreaksNames}
use Rattle.widl_script_rules.specs.Names.{unknown_names}
use Rattle.widl_script_rules.specs.Placing.{misplaced_words}
use Rattle.widl_script_rules.specs.RepeatedFunctions.{repeated_functions}
use Rattle.widl_script_rules.specs.RepeatedParameters.{repeated_parameters}
use Rattle.widl_script_rules.specs.Standings.{standings}
use Rattle.widl_script_rules.specs.Surroundings.{plain_lines}
use Rattle.widl_script_rules.proofs.LeastBreaks.{First, one_more}
use Rattle.widl_script_rules.proofs.least_break.first_break_of_names.Goals as goal

pub returns : goal.returns
returns c =
    let list = defs_term c.args.list.now in
    let script = standings (plain_lines c.args.lines.now) in
    let places = Either (Contains (unknown_names list script)) (Contains (misplaced_words script)) in
    subst (First (BreaksNames list script)) (sym c.first_of.ensures)
    (one_more (Either places (Contains (repeated_functions list script))) (Contains (repeated_parameters script)) c.first_of-first-2.result c.in_ok-parameter.parameter
    (subst (First (Either places (Contains (repeated_functions list script)))) (sym c.first_of-first-2.ensures)
    (one_more places (Contains (repeated_functions list script)) c.first_of-first.result c.in_ok-function.function
    (subst (First places) (sym c.first_of-first.ensures) (one_more (Contains (unknown_names list script)) (Contains (misplaced_words script)) c.in_ok-unknown.unknown c.first_misplaced_word-misplaced.result c.in_ok-unknown.ensures c.first_misplaced_word-misplaced.ensures))
    c.in_ok-function.ensures)) c.in_ok-parameter.ensures)
