use Rattle.std.proofs.Common.{◌≡◌, ◌≤◌, length, take}
use Rattle.std.specs.Prelude.{vec_len, vec_capacity}
use Rattle.widl_text.proofs.units.Units.of_bytes.Given as goal

-- the units so far are the bytes so far, and there is room for the others
abbrev pub invariant-loop-byte : goal.invariant-loop-byte
invariant-loop-byte l = record {
  same : l.items.items ≡ take l.byte-index l.bytes;
  count : vec_len l.items ≡ l.byte-index;
  room : length l.bytes ≤ vec_capacity l.items;
}
