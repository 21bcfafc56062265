-- The least name of a definition that comes back to itself.
use Rattle.std.proofs.Common.{◌≡◌, ◌↔◌, ℕ, ◌<◌, Bool, true, false, cond, IsTrue, List, length, take, map, slice_get, Option, None, Some, arith, sym, subst, length-take-le}
use Rattle.std.proofs.lemmas.List.{length-map}
use Rattle.std.proofs.lemmas.Option.{slice_get_within}
use Rattle.widl_graph.specs.Reaching.{ReachesItself, TellsCyclic}
use Rattle.widl_idl.specs.declared.violation.Violation.{Violation}
use Rattle.widl_idl.specs.First.{FirstWhere, AtOne, violation_at}
use Rattle.widl_idl.specs.Meanings.{declared_name}
use Rattle.widl_idl.specs.MergingRules.{AtName, ComesBack}
use Rattle.widl_idl.specs.PlainTypes.{PlainName}
use Rattle.widl_idl.specs.PlainTrees.{PlainDefinition}
use Rattle.widl_idl.proofs.Order.{first_same, one_place}
use Rattle.widl_merge.specs.Links.{Returns, ReturnsAfter}

-- a definition without a name has no place to come back to
pub nameless : (links : List (List ℕ)) (number : ℕ) (d : PlainDefinition) → None ≡ declared_name d.kind → FirstWhere (Returns links number d) None
nameless links number d none = λ s h. subst (λ m. AtName m (λ name. Unit {0}) s) (sym none) h.1

-- at a definition's name, where a flag tells whether it comes back
pub returns_here : (links : List (List ℕ)) (flags : List Bool) (number : ℕ) (d : PlainDefinition) (name : PlainName) (b : Bool) (found : Option Violation) → TellsCyclic links flags → Some name ≡ declared_name d.kind → IsTrue b ↔ (slice_get flags number ≡ Some true) → found ≡ cond b (Some (violation_at name.at)) None → FirstWhere (Returns links number d) found
returns_here links flags number d name b found tells named set is =
    first_same (λ s. ReachesItself links number × (violation_at name.at ≡ s)) (Returns links number d) found
    (λ s h. (h.0, subst (λ m. AtName m (λ n. Unit {0}) s) named (tt, h.1)))
    (λ s h. (h.0, (subst (λ m. AtName m (λ n. Unit {0}) s) (sym named) h.1).1))
    (one_place (ReachesItself links number) name.at b found (λ e. (tells.tells number).0 (set.0 e)) (λ e back. clash e (set.1 ((tells.tells number).1 back))) is)
  where
    clash : b ≡ false → b ≡ true → ⊥
    clash e f = (cc)

-- the same of each definition by its number
pub by_number : (links : List (List ℕ)) (definitions : List PlainDefinition) (found : Option Violation) → FirstWhere (AtOne (ReturnsAfter links) definitions) found → FirstWhere (ComesBack links definitions) found
by_number links definitions found l = first_same (AtOne (ReturnsAfter links) definitions) (ComesBack links definitions) found
    (λ s u. record { number = u.index; definition = u.item; is = u.is; back = subst (ReachesItself links) (before u.index u.below) u.breaks.0; at_name = u.breaks.1 })
    (λ s h. let below = slice_get_within definitions h.number h.definition h.is in record { index = h.number; below = below; item = h.definition; is = h.is; breaks = (subst (ReachesItself links) (sym (before h.number below)) h.back, h.at_name) })
    l
  where
    before : (n : ℕ) → n < length definitions → length (take n definitions) ≡ n
    before n below = length-take-le n definitions (omega arith)

-- at the number of the definitions before, as a loop over the definitions has it
pub here_after : {X : Type 0} (links : List (List ℕ)) (f : X → PlainDefinition) (xs : List X) (number : ℕ) (d : PlainDefinition) (found : Option Violation) → number < length xs → FirstWhere (Returns links number d) found → FirstWhere (ReturnsAfter links (take number (map f xs)) d) found
here_after links f xs number d found below l = subst (λ n. FirstWhere (Returns links n d) found) (sym (length-take-le number (map f xs) (let size = length-map xs f in omega arith))) l
