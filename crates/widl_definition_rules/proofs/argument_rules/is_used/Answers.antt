use Rattle.std.proofs.Common.{◌≡◌, ◌<◌, ℕ, Bool, true, List, length, map, get_or, bytes_eq, sym, ap, ◌∙◌, arith}
use Rattle.std.proofs.lemmas.List.{length-map}
use Rattle.std.specs.List.{list_any}
use Rattle.std.proofs.Math.ListN.{get_or-map}
use Rattle.std.proofs.lemmas.List.Folds.{list_any_at}
use Rattle.widl_idl.specs.PlainTrees.{PlainArgument, argument_of}
use Rattle.widl_definition_rules.proofs.argument_rules.is_used.Goals as goal

-- an item that passes a test is found among all
found : {X : Type 0} (f : X → PlainArgument) (test : PlainArgument → Bool) (xs : List X) (i : ℕ) (x : X) → i < length xs → x ≡ get_or xs i x → test (f x) ≡ true → list_any test (map f xs) ≡ true
found f test xs i x below is h =
    let within : i < length (map f xs) = simp length-map below in
    list_any_at test (map f xs) i (f x) within (ap test (get_or-map f xs i x ∙ ap f (sym is)) ∙ h)

pub returns-then-eq : goal.returns-then-eq
returns-then-eq c =
    let named = ap (λ text. bytes_eq text c.args.text.now) (sym c.as_str.ensures.value) ∙ sym c.eq.ensures ∙ c.if-eq.true in
    sym (found argument_of (λ (a : PlainArgument). bytes_eq a.name.text c.args.text.now) c.args.arguments.now c.loop-argument.argument-index c.argument-item.result (omega arith) c.argument-item.is named)
