-- The steps of each job: all algorithms of a run, together.
-- Source: ECMA-262 and Web IDL, the sections named at the head of each file that is cited here.
use Rattle.widl_steps.specs.BuiltCalls.{calls_built_today}
use Rattle.widl_steps.specs.CallRules.{call_rule}
use Rattle.widl_steps.specs.Operations.{lines_of}
use Rattle.widl_runs.specs.Jobs.{Program, Job, RunStatements, RunStatement, Evaluate, EvaluateRow, ReadMember, SetMember, DefineMember, DefineAccessor, DeleteMember, CallValue, ConstructValue, Talk, Asked, Fail, Doing}
use Rattle.widl_runs.specs.Errors.{fail}
use Rattle.widl_runs.specs.Calls.{call, construct}
use Rattle.widl_runs.specs.Members.{read_member, set_member, define_member, define_accessor, delete_member}
use Rattle.widl_runs.specs.Expressions.{evaluate, evaluate_row}
use Rattle.widl_runs.specs.Statements.{run_statements, run_statement}
use Rattle.widl_runs.specs.Asks.{asks, in_world}

abbrev pub rule : Program → Job → Doing
rule p (RunStatements ss) = run_statements ss
rule p (RunStatement s) = run_statement s
rule p (Evaluate e) = evaluate e
rule p (EvaluateRow what vs es) = evaluate_row what vs es
rule p (ReadMember of key) = read_member of key
rule p (SetMember of key v) = set_member of key v
rule p (DefineMember of key v hidden) = define_member of key v hidden
rule p (DefineAccessor of key getter setter) = define_accessor of key getter setter
rule p (DeleteMember of key) = delete_member of key
rule p (CallValue f this args) = call p f this args
rule p (ConstructValue f args) = construct f args
rule p (Talk task) = in_world (call_rule calls_built_today p.list (lines_of p.list p.script) task)
rule p (Asked ask) = asks ask
rule p (Fail code) = fail code
