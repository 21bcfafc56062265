-- For proofs alone. Links between definitions: for each definition the numbers of those that it leads to.
use Rattle.std.specs.Prelude.{ℕ, List, length}
use Rattle.widl_graph.specs.declared.walk.Walk.{Walk}
use Rattle.widl_graph.specs.Order.{IsOrder, StandsBefore}
use Rattle.widl_graph.specs.Reaching.{ReachesItself, Step, TellsCyclic}
use Rattle.widl_idl.specs.declared.violation.Violation.{Violation}
use Rattle.widl_idl.specs.Meanings.{declared_name}
use Rattle.widl_idl.specs.MergingRules.{AtName}
use Rattle.widl_idl.specs.PlainTrees.{PlainDefinition}

-- the definition of this number comes back to itself by the links: at its name
abbrev pub Returns : List (List ℕ) → ℕ → PlainDefinition → Violation → Type 0
Returns links number d s = ReachesItself links number × AtName (declared_name d.kind) (λ name. Unit {0}) s

-- the same of the definition that stands after these
abbrev pub ReturnsAfter : List (List ℕ) → List PlainDefinition → PlainDefinition → Violation → Type 0
ReturnsAfter links before d s = Returns links (length before) d s
