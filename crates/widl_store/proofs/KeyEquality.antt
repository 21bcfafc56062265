-- Keys are told apart by their equality.
use Rattle.std.proofs.Common.{◌≡◌, Bool, List, true, refl, sym, ◌∙◌, ap, subst, true≢false, eqb-true, eq-eqb}
use Rattle.std.specs.List.{IsDistinct}
use Rattle.std.specs.Cmp.{IsEquivalence, decided}
use Rattle.std.specs.Cmp.Lexicographic.{bytes_decides}
use Rattle.widl_store.specs.Objects.{same_key}
use Rattle.widl_text.specs.declared.key.Key.{Key}
use Rattle.widl_text.specs.declared.key.Key.TheVariants.{Name, Sym}
use Rattle.widl_text.specs.contracts.key.KeyPartialEq.TheImpl as tests

pub key_true : (a b : Key) → same_key a b ≡ true → a ≡ b
key_true (Name a) (Name b) h = ap Name ((bytes_decides a b).0 h)
key_true (Name a) (Sym b) h = absurd (true≢false (sym h))
key_true (Sym a) (Name b) h = absurd (true≢false (sym h))
key_true (Sym a) (Sym b) h = ap Sym (eqb-true a b h)

pub key_self : (a : Key) → same_key a a ≡ true
key_self (Name a) = (bytes_decides a a).1 refl
key_self (Sym a) = eq-eqb a a refl

pub key_same : (a b : Key) → a ≡ b → same_key a b ≡ true
key_same a b e = ap (same_key a) (sym e) ∙ key_self a

pub same_key_equiv : IsEquivalence same_key
same_key_equiv = decided same_key (λ a b. (key_true a b, key_same a b))

-- the test of the code
pub test_at : (a b : Key) → (tests.eq-value).it a b ≡ same_key a b
test_at (Name a) (Name b) = refl
test_at (Name a) (Sym b) = refl
test_at (Sym a) (Name b) = refl
test_at (Sym a) (Sym b) = refl

pub test_is : (a : Key) → (tests.eq-value).it a ≡ same_key a
test_is a = λ i b. test_at a b i

pub distinct_by_test : (keys : List Key) → IsDistinct (tests.eq-value).it keys → IsDistinct same_key keys
distinct_by_test keys distinct = subst (λ (test : Key → Key → Bool). IsDistinct test keys) (λ i a b. test_at a b i) distinct
