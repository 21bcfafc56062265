use Rattle.std.proofs.Common.{◌≡◌, ◌<◌, take}
use Rattle.widl_lex.proofs.Characters.{utf8_run}
use Rattle.widl_lex.proofs.utf8.fault_place.Given as goal

abbrev pub invariant-loop-place : goal.invariant-loop-place
invariant-loop-place l = record { small : l.state < 9; state : l.state ≡ utf8_run 0 (take l.place l.bytes); alive : l.state ≡ 1 → ⊥ }
