use Rattle.std.proofs.Common.{List, Option, option_map, subst}
use Rattle.std.proofs.lemmas.Result.{IfOk-weaker}
use Rattle.widl_first.specs.Keys.{IsFirst}
use Rattle.widl_idl.specs.DefinitionTerms.{DefsTerm}
use Rattle.widl_lines.specs.TextBreaks.{Line}
use Rattle.widl_script_rules.specs.declared.overloads.Overload.{Overload as Found}
use Rattle.widl_script_rules.specs.FormedLines.{IsFormed}
use Rattle.widl_script_rules.specs.LeastBreak.{place_key}
use Rattle.widl_script_rules.specs.Lookups.{overload_term}
use Rattle.widl_script_rules.specs.StepWalks.{InLine, IsFor, IsForOne}
use Rattle.widl_script_rules.specs.Surroundings.{plain_line}
use Rattle.widl_script_rules.specs.ListLookups.{AreListTables}
use Rattle.widl_script_rules.proofs.StepWalks.{no_step}
use Rattle.widl_script_rules.proofs.step_walk.first_in_line.Goals as goal

pub returns-in-Some : goal.returns-in-Some
returns-in-Some c =
    let line = plain_line c.args.line.now in
    IfOk-weaker c.first_in_block.result (λ first. (list : DefsTerm) (around : List Line) → AreListTables list c.args.tables.now → IsFor list around (overload_term c.in-Some.overload) → IsFormed around line → IsFirst place_key (InLine list around line) first)
    (λ first. (list : DefsTerm) (around : List Line) → AreListTables list c.args.tables.now → IsForOne list around (option_map overload_term c.args.overload) → IsFormed around line → IsFirst place_key (InLine list around line) first)
    (λ first h list around known one formed. h list around known (subst (λ (o : Option Found). IsForOne list around (option_map overload_term o)) c.in-Some.is one) formed)
    c.first_in_block.ensures

pub returns-in-None : goal.returns-in-None
returns-in-None c = λ list around known one formed. no_step list around (plain_line c.args.line.now) (subst (λ (o : Option Found). IsForOne list around (option_map overload_term o)) c.in-None.is one)
