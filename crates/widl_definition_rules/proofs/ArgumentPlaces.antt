-- Where the rules on lists of arguments are broken, by what the program knows of the arguments before.
use Rattle.std.proofs.Common.{◌≡◌, ◌<◌, Bool, true, false, cond, ◌&&◌, List, length, get_or, slice_get, Option, None, Some, option_map, arith, refl, sym, ap, ◌∙◌, length-take-le}
use Rattle.std.specs.List.{list_any}
use Rattle.std.proofs.lemmas.Option.{slice_get-map, slice_get_read, slice_get_within}
use Rattle.widl_idl.specs.declared.violation.Violation.{Violation}
use Rattle.widl_idl.specs.First.{AtOne, IsFirst, FirstWhere, violation_at}
use Rattle.widl_idl.specs.PlainTrees.{PlainArgument, argument_of, arguments_of}
use Rattle.widl_idl.specs.declared.tree.arguments.Argument.{Argument}
use Rattle.widl_idl.proofs.Order.{not_before_same, one_place}
use Rattle.widl_names.proofs.Pushed.{some_is}
use Rattle.widl_overload.specs.rules.ArgumentRules.{FollowsOptional, IsArgumentPastLimit, is_optional, is_required}

both_true : (a b : Bool) → (a && b) ≡ true → (a ≡ true) × (b ≡ true)
both_true true b e = (refl, e)
both_true false b e = absurd (cc)

both_are : (a b c : Bool) → b ≡ c → (a && b) ≡ false → (a ≡ true) × (c ≡ true) → ⊥
both_are a b c same e h = let first = h.0 in let second = h.1 in grind arith

-- a required argument, where it is known whether one before it is optional
pub required_here : (before : List PlainArgument) (a : PlainArgument) (optional : Bool) (found : Option Violation) → optional ≡ list_any (λ (b : PlainArgument). is_optional b.kind) before → found ≡ cond (is_required a.kind && optional) (Some (violation_at a.name.at)) None → FirstWhere (FollowsOptional before a) found
required_here before a optional found known e =
    one_place ((is_required a.kind ≡ true) × (list_any (λ (b : PlainArgument). is_optional b.kind) before ≡ true)) a.name.at (is_required a.kind && optional) found
    (λ h. let both = both_true (is_required a.kind) optional h in (both.0, sym known ∙ both.1))
    (both_are (is_required a.kind) optional (list_any (λ (b : PlainArgument). is_optional b.kind) before) known)
    e

module _ (xs : List PlainArgument) where
  -- the argument that 64 others stand before
  is_past_limit : (s : Violation) (u : AtOne IsArgumentPastLimit xs s) → u.index ≡ 64
  is_past_limit s u = let below = u.below in sym (length-take-le u.index xs (omega (arith, below))) ∙ u.breaks.0

  argument_past_limit : (a : PlainArgument) → slice_get xs 64 ≡ Some a → IsFirst (AtOne IsArgumentPastLimit xs) (violation_at a.name.at)
  argument_past_limit a is =
      let below : 64 < length xs = slice_get_within xs 64 a is in
      record {
        holds = record { index = 64; below = below; item = a; is = is; breaks = (length-take-le 64 xs (omega (arith, below)), refl) };
        first = λ t u before.
            let same : u.item ≡ a = some_is (sym u.is ∙ ap (slice_get xs) (is_past_limit t u) ∙ is) in
            let here : violation_at a.name.at ≡ t = ap (λ (b : PlainArgument). violation_at b.name.at) (sym same) ∙ u.breaks.1 in
            not_before_same (violation_at a.name.at) t here before;
      }

-- the same of arguments of a tree
pub found_past_limit : (arguments : List Argument) (a : Argument) → 64 < length arguments → a ≡ get_or arguments 64 a → IsFirst (AtOne IsArgumentPastLimit (arguments_of arguments)) (violation_at a.name.at)
found_past_limit arguments a below is = argument_past_limit (arguments_of arguments) (argument_of a) (slice_get-map argument_of arguments 64 ∙ ap (option_map argument_of) (slice_get_read arguments (length arguments) 64 a refl below is))
