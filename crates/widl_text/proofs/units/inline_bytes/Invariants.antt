use Rattle.std.proofs.Common.{◌≡◌, length, take}
use Rattle.widl_text.proofs.units.inline_bytes.Given as goal

-- the units so far are the bytes so far
abbrev pub invariant-loop-place : goal.invariant-loop-place
invariant-loop-place l = record {
  room : length l.units ≡ 15;
  same : take l.place l.units ≡ take l.place l.bytes;
}
