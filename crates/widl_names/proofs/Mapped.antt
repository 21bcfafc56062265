-- Loops over a list whose items are seen through a function, as definitions after references are: xs is walked, and the rule speaks of ys.
use Rattle.std.proofs.Common.{◌≡◌, ℕ, ◌+◌, ◌<◌, List, length, take, map, get_or, Option, arith, sym, ap, ◌∙◌}
use Rattle.std.proofs.lemmas.List.{length-map, get_or-map}
use Rattle.widl_idl.specs.declared.violation.Violation.{Violation}
use Rattle.widl_idl.specs.First.{earlier, FirstWhere, Somewhere, Upto, AtOne}
use Rattle.widl_idl.proofs.Somewhere.{somewhere_next, somewhere_all}
use Rattle.widl_idl.proofs.Steps.{first_next, first_all}

module _ {X Y : Type 0} (f : X → Y) (xs : List X) (ys : List Y) (same : map f xs ≡ ys) where
  same_length : length xs ≡ length ys
  same_length = sym (length-map xs f) ∙ ap length same

  same_item : (i : ℕ) (x : X) → i < length xs → x ≡ get_or xs i x → f x ≡ get_or ys i (f x)
  same_item i x below is = ap f is ∙ sym (get_or-map f xs i x (f x) below) ∙ ap (λ l. get_or l i (f x)) same

  -- one item more, for a rule about one item at a time
  pub next_somewhere : (P : Y → Violation → Type 0) (i : ℕ) (x : X) (best found now : Option Violation) → i < length xs → x ≡ get_or xs i x → FirstWhere (Somewhere P (take i ys)) best → FirstWhere (P (f x)) found → now ≡ earlier best found → FirstWhere (Somewhere P (take (i + 1) ys)) now
  next_somewhere P i x best found now below is l m e = let size = same_length in somewhere_next P ys i (f x) best found now (omega arith) (same_item i x below is) l m e

  -- after the last item
  pub all_somewhere : (P : Y → Violation → Type 0) (i : ℕ) (best : Option Violation) → i ≡ length xs → FirstWhere (Somewhere P (take i ys)) best → FirstWhere (Somewhere P ys) best
  all_somewhere P i best end l = somewhere_all P ys i best (end ∙ same_length) l

  -- one item more, for a rule about an item and those before it
  pub next_at_one : (P : List Y → Y → Violation → Type 0) (i : ℕ) (x : X) (best found now : Option Violation) → i < length xs → x ≡ get_or xs i x → FirstWhere (Upto P ys i) best → FirstWhere (P (take i ys) (f x)) found → now ≡ earlier best found → FirstWhere (Upto P ys (i + 1)) now
  next_at_one P i x best found now below is l m e = let size = same_length in first_next P ys i (f x) best found now (omega arith) (same_item i x below is) l m e

  -- after the last item
  pub all_at_one : (P : List Y → Y → Violation → Type 0) (i : ℕ) (best : Option Violation) → i ≡ length xs → FirstWhere (Upto P ys i) best → FirstWhere (AtOne P ys) best
  all_at_one P i best end l = first_all P ys i best (end ∙ same_length) l
