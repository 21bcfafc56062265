use Rattle.std.proofs.Common.{◌≡◌, take, map, true}
use Rattle.widl_idl.specs.Sameness.{same_terms}
use Rattle.widl_idl.specs.Terms.{packed, type_term}
use Rattle.widl_idl.proofs.sameness.+same.Given as goal

abbrev pub invariant-all_same-loop-place : goal.invariant-all_same-loop-place
invariant-all_same-loop-place l = same_terms (packed (map type_term (take l.place l.t-items))) (packed (map type_term (take l.place l.others))) ≡ true
