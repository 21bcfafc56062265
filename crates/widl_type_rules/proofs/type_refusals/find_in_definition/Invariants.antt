use Rattle.std.proofs.Common.{map, take}
use Rattle.widl_idl.specs.DefinitionTerms.{defs_term}
use Rattle.widl_idl.specs.PlainTrees.{plain_definitions}
use Rattle.widl_refusals.specs.Refusals.{IsFirst}
use Rattle.widl_overload.specs.rules.OnTypes.{SomeBreaks, type_rules}
use Rattle.widl_type_rules.specs.UsesListed.{use_of}
use Rattle.widl_type_rules.proofs.type_refusals.find_in_definition.Given as goal

abbrev pub invariant-loop-written : goal.invariant-loop-written
invariant-loop-written l = IsFirst (SomeBreaks (defs_term l.fn.defs).ifaces (plain_definitions l.fn.scope) (map use_of (take l.written-index l.written-items))) type_rules l.best
