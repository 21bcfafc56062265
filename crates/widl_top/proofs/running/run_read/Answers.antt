use Rattle.std.proofs.Common.{refl, sym, subst, ◌∙◌, true≢false}
use Rattle.widl_idl.specs.DefinitionTerms.{defs_term}
use Rattle.widl_idl.specs.MergedSets.{MergedSet}
use Rattle.widl_script_tree.specs.Tables.{script_tree}
use Rattle.widl_engine.specs.ReadOver.{IsReadOver}
use Rattle.widl_top.proofs.PlainSteps.{plain_steps}
use Rattle.widl_top.proofs.ReadScripts.{read_over}
use Rattle.widl_top.proofs.ScriptRuns.{ended_run, broken_run, failed_run, ran_over}
use Rattle.widl_top.proofs.running.run_read.Goals as goal

pub realm-requires : goal.realm-requires
realm-requires g c = c.requires.served.0

pub run-end-requires-clause-read : goal.run-end-requires-clause-read
run-end-requires-clause-read g c =
    subst (λ (set : MergedSet). IsReadOver (defs_term set.defs) c.args.script.now) (sym c.in-Ok-compile.ensures) (read_over (defs_term c.args.accepted.defs) c.args.script.now c.requires.read.1.answers (c.requires.served.0))

pub run-end-requires-clause-plain : goal.run-end-requires-clause-plain
run-end-requires-clause-plain g c = plain_steps (script_tree c.args.script.now) _ c.requires.read.1.script.spelled

pub returns-then-is_write_fault : goal.returns-then-is_write_fault
returns-then-is_write_fault g c text read =
    failed_run (defs_term c.args.accepted.defs) text (script_tree c.args.script.now) c.args.budget read.script (c.has_one_trace.ensures (defs_term c.args.accepted.defs) (script_tree c.args.script.now) c.args.budget)
    _ _ _ c.run-end.new.writer _ _ _ _ c.run-end.result.1
    (ran_over _ _ _ _ _ _ _ _ _ c.in-Ok-compile.ensures c.in-Ok-new.ensures c.run-end.ensures.run) c.run-end.ensures.faults (c.is_write_fault.ensures.0 c.if-is_write_fault.true) refl refl

pub returns-in-Ok-flush : goal.returns-in-Ok-flush
returns-in-Ok-flush g c text read =
    ended_run (defs_term c.args.accepted.defs) text (script_tree c.args.script.now) c.args.budget read.script (c.has_one_trace.ensures (defs_term c.args.accepted.defs) (script_tree c.args.script.now) c.args.budget)
    _ _ _ c.run-end.new.writer _ _ _ _ c.run-end.result.1 _ c.status_of.ensures
    (ran_over _ _ _ _ _ _ _ _ _ c.in-Ok-compile.ensures c.in-Ok-new.ensures c.run-end.ensures.run) c.run-end.ensures.faults
    (λ e. true≢false (sym (c.is_write_fault.ensures.1 e) ∙ c.if-is_write_fault.false)) c.in-Ok-flush.ensures.ok c.in-Ok-flush.ensures.cause.kept

pub returns : goal.returns
returns g c text read =
    broken_run (defs_term c.args.accepted.defs) text (script_tree c.args.script.now) c.args.budget read.script (c.has_one_trace.ensures (defs_term c.args.accepted.defs) (script_tree c.args.script.now) c.args.budget)
    _ _ _ c.run-end.new.writer _ _ _ _ c.run-end.result.1
    (ran_over _ _ _ _ _ _ _ _ _ c.in-Ok-compile.ensures c.in-Ok-new.ensures c.run-end.ensures.run) c.run-end.ensures.faults (λ e. true≢false (sym (c.is_write_fault.ensures.1 e) ∙ c.if-is_write_fault.false)) c.in-Err.ensures.err c.in-Err.ensures.cause.later c.in-Err.ensures.cause.failed
