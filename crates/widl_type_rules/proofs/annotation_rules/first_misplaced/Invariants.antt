use Rattle.std.proofs.Common.{map, take}
use Rattle.widl_idl.specs.First.{FirstWhere, Somewhere}
use Rattle.widl_idl.specs.PlainTypes.{attribute_of}
use Rattle.widl_idl.specs.Terms.{type_term}
use Rattle.widl_type_rules.specs.Misplaced.{IsMisplacedOn}
use Rattle.widl_type_rules.proofs.annotation_rules.first_misplaced.Given as goal

abbrev pub invariant-loop-attribute : goal.invariant-loop-attribute
invariant-loop-attribute l = FirstWhere (Somewhere (IsMisplacedOn (type_term l.inner)) (take l.attribute-index (map attribute_of l.attributes))) l.best
