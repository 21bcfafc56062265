use Rattle.std.proofs.Common.{◌≡◌, take, map, false}
use Rattle.widl_idl.specs.Terms.{type_term}
use Rattle.widl_overload.specs.sets.Distinct.{category}
use Rattle.widl_type_rules.proofs.IndistinguishableKinds.{Tells}
use Rattle.widl_type_rules.specs.IndistinguishablePairs.{any_pair, clash}
use Rattle.widl_type_rules.proofs.indistinguishable_members.any_clash.Given as goal

abbrev pub invariant-loop-t : goal.invariant-loop-t
invariant-loop-t l = record {
  none : any_pair clash (map category (map type_term (take l.t-index l.t-items))) ≡ false;
  tells : Tells l.seen (map category (map type_term (take l.t-index l.t-items)));
}
