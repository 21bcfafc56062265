use Rattle.std.proofs.Common.{◌≡◌, rules, map, None, sym, ap, ◌∙◌, arith}
use Rattle.widl_idl.specs.DefinitionTerms.{defs_term, sig_term}
use Rattle.widl_tables.specs.Decided.{met_test}
use Rattle.widl_tables.specs.Picks.{pick_of, tests}
use Rattle.widl_tables.specs.EntriesByNumber.{entries_in}
use Rattle.widl_tables.proofs.Picking.{settled, undecided}
use Rattle.widl_tables.proofs.overload_pick.by_tests.Goals as goal

pub loop-test-init : goal.loop-test-init
loop-test-init c = ap (λ sigs. pick_of (defs_term c.args.defs.now) (entries_in sigs c.args.kept.now.argcount c.args.kept.now.overloads) c.args.place c.args.class c.args.probed) c.overload_list-sigs.ensures

pub loop-test-preserved : goal.loop-test-preserved
loop-test-preserved c =
    let none : c.test_pick.result ≡ None = search rules in
    sym (undecided (met_test (defs_term c.args.defs.now) (entries_in (map sig_term c.overload_list-sigs.result.now) c.args.kept.now.argcount c.args.kept.now.overloads) c.args.place c.args.class) c.args.probed tests c.loop-test.test-index _ (omega arith) (sym c.test_pick.ensures ∙ none))
    ∙ c.loop-test.invariant

pub returns-in-Some : goal.returns-in-Some
returns-in-Some c =
    sym (settled (met_test (defs_term c.args.defs.now) (entries_in (map sig_term c.overload_list-sigs.result.now) c.args.kept.now.argcount c.args.kept.now.overloads) c.args.place c.args.class) c.args.probed tests c.loop-test.test-index _ c.in-Some.pick (omega arith) (sym c.test_pick.ensures ∙ c.in-Some.is))
    ∙ c.loop-test.invariant
