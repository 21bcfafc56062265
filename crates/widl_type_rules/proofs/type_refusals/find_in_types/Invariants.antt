use Rattle.std.proofs.Common.{take}
use Rattle.widl_idl.specs.DefinitionTerms.{defs_term}
use Rattle.widl_idl.specs.PlainTrees.{plain_definitions}
use Rattle.widl_names.specs.Listings.{listed_definitions}
use Rattle.widl_overload.specs.rules.TypeUses.{type_uses_of}
use Rattle.widl_type_rules.specs.Lineages.{TellRelated}
use Rattle.widl_refusals.specs.Refusals.{IsFirst}
use Rattle.widl_overload.specs.rules.OnTypes.{SomeBreaks, type_rules}
use Rattle.widl_type_rules.proofs.type_refusals.find_in_types.Given as goal

abbrev pub invariant-loop-definition : goal.invariant-loop-definition
invariant-loop-definition l =
    IsFirst (SomeBreaks (defs_term l.fn.defs).ifaces (plain_definitions l.fn.scope) (type_uses_of (listed_definitions (take l.definition-index l.definitions)))) type_rules l.best
    × TellRelated (defs_term l.fn.defs).ifaces l.lineages.spans.items
