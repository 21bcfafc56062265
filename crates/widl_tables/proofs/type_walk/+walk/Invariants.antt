use Rattle.std.proofs.Common.{◌≡◌, ◌+◌, min, take, map, false}
use Rattle.std.specs.List.{list_any}
use Rattle.widl_idl.specs.DefinitionTerms.{defs_term}
use Rattle.widl_idl.specs.Flattened.{flattened_members}
use Rattle.widl_idl.specs.Terms.{packed, type_term}
use Rattle.widl_tables.specs.TypeTests.{before, suits}
use Rattle.widl_tables.proofs.type_walk.+walk.Given as goal

abbrev pub invariant-find_among-loop-member : goal.invariant-find_among-loop-member
invariant-find_among-loop-member l = record {
  none : list_any (suits (defs_term l.defs) l.class l.test) (flattened_members (packed (map type_term (take l.member-index l.member-items)))) ≡ false;
  so_far : l.so_far ≡ min (l.fn.passed + before (suits (defs_term l.defs) l.class l.test) (flattened_members (packed (map type_term (take l.member-index l.member-items))))) 18446744073709551615;
}
