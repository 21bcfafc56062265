use Rattle.std.proofs.Common.{◌≡◌, ◌<◌, take, map}
use Rattle.widl_idl.specs.DefinitionTerms.{sig_term}
use Rattle.widl_overload.specs.sets.Sets.{AreNumbered, longest}
use Rattle.widl_overload.proofs.sets.longest_list.Given as goal

abbrev pub invariant-loop-sig : goal.invariant-loop-sig
invariant-loop-sig l = (l.most ≡ longest (take l.sig-index (map sig_term l.sigs))) × (AreNumbered (map sig_term l.sigs) → l.most < 4294967296)
