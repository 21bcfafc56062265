use Rattle.std.proofs.Common.{◌≡◌, ◌-◌, length, map}
use Rattle.widl_idl.specs.DefinitionTerms.{iface_term}
use Rattle.widl_overload.specs.sets.Inheritance.{inherits, is_among}
use Rattle.widl_overload.proofs.inheritance.inherits.Given as goal

abbrev pub invariant-loop-link : goal.invariant-loop-link
invariant-loop-link l = is_among (map iface_term l.ifaces) (length (map iface_term l.ifaces) - l._link) l.ancestor l.at ≡ inherits (map iface_term l.ifaces) l.number l.ancestor
