-- Lemmas on the arguments that are budgets.
use Rattle.std.proofs.Common.{◌≡◌, ℕ, ◌^◌, ◌<◌, true, ◌&&◌, List, Option, None, Some, IfSome, IfNone, arith, ap, ◌∙◌, sym, subst}
use Rattle.std.specs.Prelude.{nat_lt, nat_le, Result, Ok, Err}
use Rattle.std.specs.Fmt.{decimal}
use Rattle.std.specs.Str.{bytes_eq}
use Rattle.std.specs.Str.Parse.{digits_value, ParsesUnsigned}
use Rattle.std.proofs.lemmas.Bool.{and_from, and_parts, cond-false, cond-true, false_from_ne_true, le-leb, leb-true, lt-ltb, ltb-true}
use Rattle.std.proofs.lemmas.Fmt.{decimal_is_IsNumeral, parse-decimal}
use Rattle.std.proofs.lemmas.Slice.Eq.{bytes_eq-Decides}
use Rattle.widl_text.specs.Limits.{most_units}
use Rattle.widl_top.specs.Requests.{IsBudget, budget_of}

ok_same : {E : Type 0} (a b : ℕ) → ◌≡◌ {A = Result ℕ E} (Ok a) (Ok b) → a ≡ b
ok_same a b e = (cc)

ok_not_err : {E : Type 0} (a : ℕ) (e : E) → ◌≡◌ {A = Result ℕ E} (Ok a) (Err e) → ⊥
ok_not_err a e h = (cc)

-- the budget as a function
pub budget_found : (word : List ℕ) (units : ℕ) → IsBudget word units → Some units ≡ budget_of word
unfolding budget_of
budget_found word units is =
    let small : units < 2 ^ 64 = (let most = is.most in omega (arith, most)) in
    let value : digits_value 10 word ≡ units = ap (digits_value 10) is.text ∙ (decimal_is_IsNumeral units small).1 in
    rw value (sym (cond-true _ _ _ (and_from _ _ ((bytes_eq-Decides word (decimal units)).1 is.text) (and_from _ _ (lt-ltb _ _ is.earliest) (le-leb _ _ is.most)))))

pub budget_missing : (word : List ℕ) → ((units : ℕ) → IsBudget word units → ⊥) → None ≡ budget_of word
unfolding budget_of
budget_missing word none = sym (cond-false _ _ _ (false_from_ne_true _ refuse))
  where
    refuse : (bytes_eq word (decimal (digits_value 10 word)) && (nat_lt 0 (digits_value 10 word) && nat_le (digits_value 10 word) most_units)) ≡ true → ⊥
    refuse holds =
        let parts = and_parts _ _ holds in
        let bounds = and_parts _ _ parts.1 in
        none (digits_value 10 word) (record { text = (bytes_eq-Decides _ _).0 parts.0; earliest = ltb-true _ _ bounds.0; most = leb-true _ _ bounds.1 })

-- what a number that was read from the argument says of budgets
pub budget_read : {E : Type 0} (word : List ℕ) (r : Result ℕ E) (number : ℕ) → ParsesUnsigned 64 10 word r → r ≡ Ok number → (IsBudget word number → ⊥) → (units : ℕ) → IsBudget word units → ⊥
budget_read word r number parses read none units is =
    let small : units < 2 ^ 64 = (let most = is.most in omega (arith, most)) in
    let same : units ≡ number = ok_same _ _ (sym (parse-decimal 64 units word r small small is.text parses) ∙ read) in
    none (subst (IsBudget word) same is)

pub budget_unread : {E : Type 0} (word : List ℕ) (r : Result ℕ E) (e : E) → ParsesUnsigned 64 10 word r → r ≡ Err e → (units : ℕ) → IsBudget word units → ⊥
budget_unread word r e parses read units is =
    let small : units < 2 ^ 64 = (let most = is.most in omega (arith, most)) in
    ok_not_err _ _ (sym (parse-decimal 64 units word r small small is.text parses) ∙ read)

pub budget_is : (word : List ℕ) (result : Option ℕ) → IfSome result (IsBudget word) → IfNone result ((units : ℕ) → IsBudget word units → ⊥) → result ≡ budget_of word
budget_is word None some none = budget_missing word none
budget_is word (Some units) some none = budget_found word units some

pub budget_read_if : {E : Type 0} (word : List ℕ) (r : Result ℕ E) (number : ℕ) (result : Option ℕ) → ParsesUnsigned 64 10 word r → r ≡ Ok number
    → IfNone result (IsBudget word number → ⊥) → IfNone result ((units : ℕ) → IsBudget word units → ⊥)
budget_read_if word r number None parses read none = budget_read word r number parses read none
budget_read_if word r number (Some units) parses read none = tt

pub budget_some : (word : List ℕ) (number : ℕ) (result : Option ℕ) → IfSome result (λ budget. (budget ≡ number) × IsBudget word number) → IfSome result (IsBudget word)
budget_some word number None some = tt
budget_some word number (Some units) some = subst (IsBudget word) (sym some.0) some.1
