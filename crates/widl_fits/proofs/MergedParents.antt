-- No definition of a set of files with a merged list inherits from itself.
use Rattle.std.proofs.Common.{ℕ, List, arith, refl, Contains}
use Rattle.widl_graph.specs.Reaching.{ReachesItself}
use Rattle.widl_idl.specs.declared.violation.Violation.{Violation}
use Rattle.widl_idl.specs.First.{violation_at}
use Rattle.widl_idl.specs.Meanings.{declared_name, kind_of}
use Rattle.widl_idl.specs.MergingRules.{AtName, ComesBack, parent_links, parent_numbers, parent_of}
use Rattle.widl_idl.specs.PlainTrees.{PlainDefinition, PlainKind, DictionaryDefinition, InterfaceDefinition}
use Rattle.widl_graph.proofs.Reach.{first_step}
use Rattle.widl_graph.proofs.ParentSteps.{from_step}

module _ (definitions : List PlainDefinition) (known : (s : Violation) → ComesBack (parent_links definitions) definitions s → ⊥) where
  -- a definition with a parent has a name
  named : (kind : PlainKind) (y : ℕ) → Contains (parent_numbers definitions (kind_of kind) (parent_of kind)) y → (s : Violation) × AtName (declared_name kind) (λ name. Unit {0}) s
  named (InterfaceDefinition i) y c = (violation_at i.name.at, (tt, refl))
  named (DictionaryDefinition d) y c = (violation_at d.name.at, (tt, refl))
  named kind y c = absurd (let below = c.1 in omega arith)

  pub none_back : (x : ℕ) → ReachesItself (parent_links definitions) x → ⊥
  none_back x back =
      let step = first_step back in
      let from = from_step (λ d. parent_numbers definitions (kind_of d.kind) (parent_of d.kind)) definitions x step.0 step.1 in
      let place = named from.0.kind step.0 from.2 in
      known place.0 (record { number = x; definition = from.0; is = from.1; back = back; at_name = place.1 })
