use Rattle.std.proofs.Common.{◌≡◌, take}
use Rattle.widl_script_rules.proofs.owner_names.has_owner.Given as goal

abbrev pub invariant-loop-byte : goal.invariant-loop-byte
invariant-loop-byte l = l.room.items ≡ take l.byte-index l.text
