use Rattle.std.proofs.Common.{◌-◌, map}
use Rattle.widl_idl.specs.DefinitionTerms.{defs_term, sig_term}
use Rattle.widl_overload.specs.sets.Numbers.{IsRow}
use Rattle.widl_overload.specs.rules.OverloadRules.{DifferEarly, LacksIndex}
use Rattle.widl_overload.specs.rules.OverloadViolations.{IsSmallestBelow}
use Rattle.widl_overload.specs.sets.Sets.{effective_tuples}
use Rattle.widl_overload.specs.sets.Spans.{AreListed}
use Rattle.widl_overload.proofs.overload_sizes.breaking_lengths.Given as goal

abbrev pub invariant-loop-m : goal.invariant-loop-m
invariant-loop-m l = record {
  row : IsRow (defs_term l.defs).ifaces (map sig_term l.sigs) (l.m - 1) l.row;
  listed : AreListed l.spans l.m l.row.end l.row.overloads;
  indistinguishable : IsSmallestBelow (LacksIndex (defs_term l.defs).ifaces (effective_tuples (map sig_term l.sigs) 0)) l.m l.indistinguishable;
  early : IsSmallestBelow (DifferEarly (defs_term l.defs).ifaces (effective_tuples (map sig_term l.sigs) 0)) l.m l.early;
}
