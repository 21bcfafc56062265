use Rattle.std.proofs.Common.{ap, subst, sym}
use Rattle.std.specs.declared.result.Result.TheVariants as results
use Rattle.widl_runs.specs.Fitting.{FitsJob}
use Rattle.widl_runs.specs.Rules.{rule}
use Rattle.widl_runs.specs.Jobs.{Program}
use Rattle.widl_script_tree.specs.Tables.{Tables}
use Rattle.widl_engine.specs.declared.jobs.Job.{Job}
use Rattle.widl_engine.specs.Frames.{job_of, program_of}
use Rattle.widl_engine.proofs.Beginning.{leads_by, leads_over}
use Rattle.widl_engine.proofs.Talking.{leads_same}
use Rattle.widl_engine.proofs.moves.begin.Goals as goal

pub returns-in-Statements : goal.returns-in-Statements
returns-in-Statements c = leads_by c.args.tables.now c.args.script.now (λ (p : Program) (j : Job). rule p (job_of c.args.script.now j)) c.args.job _ (results.Ok c.run_statements.result) c.in-Statements.is c.run_statements.ensures

pub returns-in-Statement : goal.returns-in-Statement
returns-in-Statement c = leads_by c.args.tables.now c.args.script.now (λ (p : Program) (j : Job). rule p (job_of c.args.script.now j)) c.args.job _ (results.Ok c.run_statement.result) c.in-Statement.is c.run_statement.ensures

pub returns-in-Evaluate : goal.returns-in-Evaluate
returns-in-Evaluate c = leads_by c.args.tables.now c.args.script.now (λ (p : Program) (j : Job). rule p (job_of c.args.script.now j)) c.args.job _ c.evaluate.result c.in-Evaluate.is c.evaluate.ensures

pub returns-in-Row : goal.returns-in-Row
returns-in-Row c = leads_by c.args.tables.now c.args.script.now (λ (p : Program) (j : Job). rule p (job_of c.args.script.now j)) c.args.job _ (results.Ok c.evaluate_row.result) c.in-Row.is c.evaluate_row.ensures

pub returns-in-Read : goal.returns-in-Read
returns-in-Read c = leads_by c.args.tables.now c.args.script.now (λ (p : Program) (j : Job). rule p (job_of c.args.script.now j)) c.args.job _ c.read_member.result c.in-Read.is c.read_member.ensures

pub returns-in-Set : goal.returns-in-Set
returns-in-Set c = leads_by c.args.tables.now c.args.script.now (λ (p : Program) (j : Job). rule p (job_of c.args.script.now j)) c.args.job _ c.set_member.result c.in-Set.is c.set_member.ensures

pub returns-in-Define : goal.returns-in-Define
returns-in-Define c = leads_by c.args.tables.now c.args.script.now (λ (p : Program) (j : Job). rule p (job_of c.args.script.now j)) c.args.job _ c.define_member.result c.in-Define.is c.define_member.ensures

pub returns-in-Accessor : goal.returns-in-Accessor
returns-in-Accessor c = leads_by c.args.tables.now c.args.script.now (λ (p : Program) (j : Job). rule p (job_of c.args.script.now j)) c.args.job _ c.define_accessor.result c.in-Accessor.is c.define_accessor.ensures

pub returns-in-Delete : goal.returns-in-Delete
returns-in-Delete c = leads_by c.args.tables.now c.args.script.now (λ (p : Program) (j : Job). rule p (job_of c.args.script.now j)) c.args.job _ c.delete_member.result c.in-Delete.is c.delete_member.ensures

pub returns-in-Call : goal.returns-in-Call
returns-in-Call c = leads_by c.args.tables.now c.args.script.now (λ (p : Program) (j : Job). rule p (job_of c.args.script.now j)) c.args.job _ (results.Ok c.call.result) c.in-Call.is (λ p. c.call.ensures p c.args.script.now)

pub returns-in-Construct : goal.returns-in-Construct
returns-in-Construct c = leads_by c.args.tables.now c.args.script.now (λ (p : Program) (j : Job). rule p (job_of c.args.script.now j)) c.args.job _ (results.Ok c.construct.result) c.in-Construct.is (λ p. c.construct.ensures p c.args.script.now)

pub returns-in-Asked : goal.returns-in-Asked
returns-in-Asked c = leads_over c.args.tables.now c.args.script.now (λ (p : Program) (s : Tables) (j : Job). rule p (job_of s j)) c.args.job _ c.asks.result c.in-Asked.is c.asks.ensures

pub returns-in-Fail : goal.returns-in-Fail
returns-in-Fail c = leads_by c.args.tables.now c.args.script.now (λ (p : Program) (j : Job). rule p (job_of c.args.script.now j)) c.args.job _ (results.Ok c.fail.result) c.in-Fail.is (λ p. c.fail.ensures p c.args.script.now)

pub begins-requires : goal.begins-requires
begins-requires c = record { few = subst (λ (j : Job). FitsJob (job_of c.args.script.now j)) c.in-Function.is c.requires }

pub returns-in-Function : goal.returns-in-Function
returns-in-Function c = leads_same c.args.tables.now c.args.script.now _ _ c.begins.result (ap (λ (j : Job). rule (program_of c.args.tables.now c.args.script.now) (job_of c.args.script.now j)) (sym c.in-Function.is)) c.begins.ensures
