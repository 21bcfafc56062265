use Rattle.std.proofs.Common.{map, sym, ap, ◌∙◌, arith}
use Rattle.widl_idl.specs.DefinitionTerms.{dict_term}
use Rattle.widl_tables.specs.Levels.{nearest}
use Rattle.widl_convert.proofs.LevelMembers.{level_kept, level_lost, level_none}
use Rattle.widl_convert.proofs.members_left.level_within.Goals as goal

pub returns-in-None-level-clause-level : goal.returns-in-None-level-clause-level
returns-in-None-level-clause-level c =
    let dicts = map dict_term c.args.tables.now.defs.dicts in
    level_none dicts c.in-Some.dictionary c.args.links c.requires (sym c.level.ensures ∙ c.in-None-level.is) ∙ ap (nearest dicts c.args.links 0) (sym c.in-Some.is)

pub returns-then-level-links-clause-level : goal.returns-then-level-links-clause-level
returns-then-level-links-clause-level c =
    let dicts = map dict_term c.args.tables.now.defs.dicts in
    level_kept dicts c.in-Some.dictionary c.args.links c.in-Some-level.level c.requires (sym c.level.ensures ∙ c.in-Some-level.is) (omega arith) ∙ ap (nearest dicts c.args.links 0) (sym c.in-Some.is)

pub returns-else-level-links-clause-level : goal.returns-else-level-links-clause-level
returns-else-level-links-clause-level c =
    let dicts = map dict_term c.args.tables.now.defs.dicts in
    level_lost dicts c.in-Some.dictionary c.args.links c.in-Some-level.level c.requires (sym c.level.ensures ∙ c.in-Some-level.is) (omega arith) ∙ ap (nearest dicts c.args.links 0) (sym c.in-Some.is)
