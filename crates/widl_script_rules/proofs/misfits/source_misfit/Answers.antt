use Rattle.widl_idl.specs.DefinitionTerms.{defs_term}
use Rattle.widl_script_rules.specs.Lookups.{overload_term}
use Rattle.widl_script_rules.specs.MisfitTerms.{SourceMisfits}
use Rattle.widl_script_rules.specs.Surroundings.{plain_line}
use Rattle.widl_script_rules.proofs.MisfitTests.{tested_first, tested_none}
use Rattle.widl_script_rules.proofs.misfits.source_misfit.Goals as goal

pub returns-then-is_source_misfit : goal.returns-then-is_source_misfit
returns-then-is_source_misfit c = λ word is known bare.
    tested_first (SourceMisfits (defs_term c.args.list.now) (overload_term c.args.overload) c.args.step.now (record { word = word; source = c.args.used.source.now; number = c.args.used.number })) 13 (plain_line c.args.line.now) word c.is_source_misfit.result c.place_near.result
    (c.is_source_misfit.ensures word known bare) c.if-is_source_misfit.true (c.place_near.ensures word is)

pub returns-else-is_source_misfit : goal.returns-else-is_source_misfit
returns-else-is_source_misfit c = λ word is known bare.
    tested_none (SourceMisfits (defs_term c.args.list.now) (overload_term c.args.overload) c.args.step.now (record { word = word; source = c.args.used.source.now; number = c.args.used.number })) 13 (plain_line c.args.line.now) word c.is_source_misfit.result
    (c.is_source_misfit.ensures word known bare) c.if-is_source_misfit.false
