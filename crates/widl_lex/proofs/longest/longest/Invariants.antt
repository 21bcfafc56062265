use Rattle.std.proofs.Common.{◌≡◌, ◌<◌, ◌≤◌, ◌-◌, length, take}
use Rattle.widl_lex.proofs.Table.{run, Best}
use Rattle.widl_lex.proofs.longest.longest.Given as goal

abbrev pub invariant-loop-place : goal.invariant-loop-place
invariant-loop-place l = record { small : l.state < 38; within : l.place ≤ length l.text; state : l.state ≡ run 0 (take l.place l.text); best : Best l.best l.place l.text }

abbrev pub decreases-loop-place : goal.decreases-loop-place
decreases-loop-place l = length l.text - l.place
