use Rattle.std.proofs.Common.{◌≡◌, ℕ, List, map, take}
use Rattle.widl_idl.specs.PlainTrees.{plain_definitions}
use Rattle.widl_idl.specs.Meanings.{meaning}
use Rattle.widl_names.specs.Numbers.{number_in}
use Rattle.widl_names.proofs.meanings.Meanings.of.Given as goal

abbrev pub invariant-loop-number : goal.invariant-loop-number
invariant-loop-number l = (text : List ℕ) → number_in l.numbers text ≡ meaning (plain_definitions (map (λ d. d.now) (take l.number l.definitions))) text
