use Rattle.widl_idl.specs.PlainTypes.{attribute_of}
use Rattle.widl_type_rules.proofs.SettledUses.{none_listed, some_listed}
use Rattle.widl_type_rules.proofs.resolved_uses.are_none.Goals as goal

pub returns-then-is_empty : goal.returns-then-is_empty
returns-then-is_empty c = none_listed attribute_of c.args.outer.now c.args.own.now _ _ c.is_empty.ensures c.if-is_empty.true c.is_empty-then-is_empty.ensures

pub returns-else-is_empty : goal.returns-else-is_empty
returns-else-is_empty c = some_listed attribute_of c.args.outer.now c.args.own.now _ c.is_empty.ensures c.if-is_empty.false
