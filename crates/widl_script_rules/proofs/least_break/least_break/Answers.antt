use Rattle.std.proofs.Common.{subst, sym}
use Rattle.widl_idl.specs.DefinitionTerms.{defs_term}
use Rattle.widl_script_rules.specs.LeastBreak.{Broken}
use Rattle.widl_script_rules.specs.Standings.{standings}
use Rattle.widl_script_rules.specs.Surroundings.{plain_lines}
use Rattle.widl_script_rules.proofs.LeastBreaks.{First, first_broken}
use Rattle.widl_script_rules.proofs.OwnerTexts.{no_ifaces}
use Rattle.widl_script_rules.proofs.least_break.least_break.Goals as goal

pub first_block_break-requires-clause-interfaces : goal.first_block_break-requires-clause-interfaces
first_block_break-requires-clause-interfaces c = no_ifaces (defs_term c.args.list.now) c.requires.rules

pub returns : goal.returns
returns c =
    let list = defs_term c.args.list.now in
    let script = standings (plain_lines c.args.lines.now) in
    subst (First (Broken list script)) (sym c.first_of.ensures) (first_broken list script c.in_ok-names.names c.in_ok-blocks.blocks c.in_ok-names.ensures c.in_ok-blocks.ensures)
