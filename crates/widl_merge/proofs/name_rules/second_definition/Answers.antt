use Rattle.std.proofs.Common.{rules, Some, None, true, false, ap, refl}
use Rattle.widl_idl.specs.PlainTypes.{name_of}
use Rattle.widl_idl.specs.PlainTrees.{definition_of, plain_definitions}
use Rattle.widl_merge.proofs.NameRules.{second_here}
use Rattle.widl_merge.proofs.name_rules.second_definition.Goals as goal

pub returns-then-is_below : goal.returns-then-is_below
returns-then-is_below c = second_here (plain_definitions c.args.meanings.now) c.args.number (definition_of c.args.definition.now) (name_of c.in-Some.name.now) true (Some c.at.result) c.in-Some.ensures (search rules) (ap Some c.at.ensures)

pub returns-else-is_below : goal.returns-else-is_below
returns-else-is_below c = second_here (plain_definitions c.args.meanings.now) c.args.number (definition_of c.args.definition.now) (name_of c.in-Some.name.now) false None c.in-Some.ensures (search rules) refl
