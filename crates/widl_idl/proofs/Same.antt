-- The test of terms for equality is exact.
use Rattle.std.proofs.Common.{◌≡◌, ◌≢◌, ℕ, zero, suc, ◌+◌, ◌<◌, ◌&&◌, ◌++◌, Bool, true, false, List, [], ◌∷◌, length, take, map, get_or, length-take-le, arith, refl, sym, ap, ◌∙◌}
use Rattle.std.proofs.lemmas.Bool.{eqb-true, eq-eqb}
use Rattle.std.proofs.lemmas.List.{length-map}
use Rattle.widl_idl.proofs.Members.{terms_more}
use Rattle.widl_idl.specs.declared.int_kind.IntKind.{IntKind}
use Rattle.widl_idl.specs.declared.int_kind.IntKind.TheVariants.{Byte, Octet, Short, UShort, Long, ULong, LongLong, ULongLong}
use Rattle.widl_idl.specs.declared.int_kind.Mode.{Mode}
use Rattle.widl_idl.specs.declared.int_kind.Mode.TheVariants.{Wrap, Clamp, Enforce}
use Rattle.widl_idl.specs.declared.text_kind.TextKind.{TextKind}
use Rattle.widl_idl.specs.declared.text_kind.TextKind.TheVariants as texts
use Rattle.widl_idl.specs.declared.types.IdlType.{IdlType}
use Rattle.widl_idl.specs.Terms.{TypeTerm, TypeTerms, AnyType, UndefinedType, BooleanType, IntegerType, StringType, EnumerationType, InterfaceType, CallbackFunctionType, CallbackInterfaceType, DictionaryType, ObjectType, SequenceType, RecordType, PromiseType, NullableType, UnionType, no_types, more_types, packed, type_term}
use Rattle.widl_idl.specs.Sameness.{same_kind, same_mode, same_text, same_bool, same_term, same_terms}

kind_is : (k l : IntKind) → same_kind k l ≡ true → k ≡ l
kind_is Byte Byte h = refl
kind_is Octet Octet h = refl
kind_is Short Short h = refl
kind_is UShort UShort h = refl
kind_is Long Long h = refl
kind_is ULong ULong h = refl
kind_is LongLong LongLong h = refl
kind_is ULongLong ULongLong h = refl
kind_is k l h = cc

mode_is : (m n : Mode) → same_mode m n ≡ true → m ≡ n
mode_is Wrap Wrap h = refl
mode_is Clamp Clamp h = refl
mode_is Enforce Enforce h = refl
mode_is m n h = cc

text_is : (k l : TextKind) → same_text k l ≡ true → k ≡ l
text_is texts.Dom texts.Dom h = refl
text_is texts.Usv texts.Usv h = refl
text_is texts.Byte texts.Byte h = refl
text_is k l h = cc

bool_is : (b c : Bool) → same_bool b c ≡ true → b ≡ c
bool_is true true h = refl
bool_is true false h = cc
bool_is false true h = cc
bool_is false false h = refl

left : (a b : Bool) → (a && b) ≡ true → a ≡ true
left true b h = refl
left false b h = h

right : (a b : Bool) → (a && b) ≡ true → b ≡ true
right true b h = h
right false b h = cc

mutual
  term_is : (t u : TypeTerm) → same_term t u ≡ true → t ≡ u
  term_is AnyType AnyType h = refl
  term_is UndefinedType UndefinedType h = refl
  term_is BooleanType BooleanType h = refl
  term_is (IntegerType k m) (IntegerType l n) h = λ i. IntegerType (kind_is k l (left (same_kind k l) (same_mode m n) h) i) (mode_is m n (right (same_kind k l) (same_mode m n) h) i)
  term_is (StringType k b) (StringType l c) h = λ i. StringType (text_is k l (left (same_text k l) (same_bool b c) h) i) (bool_is b c (right (same_text k l) (same_bool b c) h) i)
  term_is (EnumerationType m) (EnumerationType n) h = ap EnumerationType (eqb-true m n h)
  term_is (InterfaceType m) (InterfaceType n) h = ap InterfaceType (eqb-true m n h)
  term_is (CallbackFunctionType m) (CallbackFunctionType n) h = ap CallbackFunctionType (eqb-true m n h)
  term_is (CallbackInterfaceType m) (CallbackInterfaceType n) h = ap CallbackInterfaceType (eqb-true m n h)
  term_is (DictionaryType m) (DictionaryType n) h = ap DictionaryType (eqb-true m n h)
  term_is ObjectType ObjectType h = refl
  term_is (SequenceType t) (SequenceType u) h = ap SequenceType (term_is t u h)
  term_is (RecordType k t) (RecordType l u) h = λ i. RecordType (text_is k l (left (same_text k l) (same_term t u) h) i) (term_is t u (right (same_text k l) (same_term t u) h) i)
  term_is (PromiseType t) (PromiseType u) h = ap PromiseType (term_is t u h)
  term_is (NullableType t) (NullableType u) h = ap NullableType (term_is t u h)
  term_is (UnionType ts) (UnionType us) h = ap UnionType (terms_are ts us h)
  term_is t u h = cc

  terms_are : (ts us : TypeTerms) → same_terms ts us ≡ true → ts ≡ us
  terms_are no_types no_types h = refl
  terms_are (more_types t ts) (more_types u us) h = λ i. more_types (term_is t u (left (same_term t u) (same_terms ts us) h) i) (terms_are ts us (right (same_term t u) (same_terms ts us) h) i)
  terms_are ts us h = cc

kind_itself : (k : IntKind) → same_kind k k ≡ true
kind_itself Byte = refl
kind_itself Octet = refl
kind_itself Short = refl
kind_itself UShort = refl
kind_itself Long = refl
kind_itself ULong = refl
kind_itself LongLong = refl
kind_itself ULongLong = refl

mode_itself : (m : Mode) → same_mode m m ≡ true
mode_itself Wrap = refl
mode_itself Clamp = refl
mode_itself Enforce = refl

text_itself : (k : TextKind) → same_text k k ≡ true
text_itself texts.Dom = refl
text_itself texts.Usv = refl
text_itself texts.Byte = refl

bool_itself : (b : Bool) → same_bool b b ≡ true
bool_itself true = refl
bool_itself false = refl

mutual
  term_itself : (t : TypeTerm) → same_term t t ≡ true
  term_itself AnyType = refl
  term_itself UndefinedType = refl
  term_itself BooleanType = refl
  term_itself (IntegerType k m) = λ i. kind_itself k i && mode_itself m i
  term_itself (StringType k b) = λ i. text_itself k i && bool_itself b i
  term_itself (EnumerationType n) = eq-eqb n n refl
  term_itself (InterfaceType n) = eq-eqb n n refl
  term_itself (CallbackFunctionType n) = eq-eqb n n refl
  term_itself (CallbackInterfaceType n) = eq-eqb n n refl
  term_itself (DictionaryType n) = eq-eqb n n refl
  term_itself ObjectType = refl
  term_itself (SequenceType t) = term_itself t
  term_itself (RecordType k t) = λ i. text_itself k i && term_itself t i
  term_itself (PromiseType t) = term_itself t
  term_itself (NullableType t) = term_itself t
  term_itself (UnionType ts) = terms_themselves ts

  terms_themselves : (ts : TypeTerms) → same_terms ts ts ≡ true
  terms_themselves no_types = refl
  terms_themselves (more_types t ts) = λ i. term_itself t i && terms_themselves ts i

pub tells_same : (t u : TypeTerm) (same : Bool) → same ≡ same_term t u → same ≡ true → t ≡ u
tells_same t u same is told = term_is t u (sym is ∙ told)

pub is_told_same : (t u : TypeTerm) (same : Bool) → same ≡ same_term t u → t ≡ u → same ≡ true
is_told_same t u same is equal = is ∙ ap (same_term t) (sym equal) ∙ term_itself t

and_false : (b : Bool) → (b && false) ≡ false
and_false true = refl
and_false false = refl

lengths_differ : (ts us : List TypeTerm) → length ts ≢ length us → same_terms (packed ts) (packed us) ≡ false
lengths_differ [] [] h = absurd (h refl)
lengths_differ [] (u ∷ us) h = refl
lengths_differ (t ∷ ts) [] h = refl
lengths_differ (t ∷ ts) (u ∷ us) h = let differ : length ts ≢ length us = λ e. h (omega arith) in ap (λ b. same_term t u && b) (lengths_differ ts us differ) ∙ and_false (same_term t u)

-- lists of different lengths are not the same
pub lengths_tell : (xs ys : List IdlType) → length xs ≢ length ys → false ≡ same_terms (packed (map type_term xs)) (packed (map type_term ys))
lengths_tell xs ys h = sym (lengths_differ (map type_term xs) (map type_term ys) (λ e. h (sym (length-map xs type_term) ∙ e ∙ length-map ys type_term)))

-- nor are lists with different types at one place
pub differ_at : (xs ys : List IdlType) (i : ℕ) (t u : IdlType) → i < length xs → i < length ys → t ≡ get_or xs i t → u ≡ get_or ys i u → same_term (type_term t) (type_term u) ≡ false → false ≡ same_terms (packed (map type_term xs)) (packed (map type_term ys))
differ_at [] ys i t u in_xs in_ys t_is u_is h = absurd (omega arith)
differ_at (x ∷ xs) [] i t u in_xs in_ys t_is u_is h = absurd (omega arith)
differ_at (x ∷ xs) (y ∷ ys) zero t u in_xs in_ys t_is u_is h = sym ((λ i. same_term (type_term (sym t_is i)) (type_term (sym u_is i)) && same_terms (packed (map type_term xs)) (packed (map type_term ys))) ∙ ap (λ b. b && same_terms (packed (map type_term xs)) (packed (map type_term ys))) h)
differ_at (x ∷ xs) (y ∷ ys) (suc i) t u in_xs in_ys t_is u_is h = sym (and_false (same_term (type_term x) (type_term y))) ∙ ap (λ b. same_term (type_term x) (type_term y) && b) (differ_at xs ys i t u (omega arith) (omega arith) t_is u_is h)

same_terms-append : (ts us : List TypeTerm) (t u : TypeTerm) → length ts ≡ length us → same_terms (packed ts) (packed us) ≡ true → same_term t u ≡ true → same_terms (packed (ts ++ t ∷ [])) (packed (us ++ u ∷ [])) ≡ true
same_terms-append [] [] t u e so h = λ i. h i && true
same_terms-append [] (v ∷ us) t u e so h = absurd (omega arith)
same_terms-append (v ∷ ts) [] t u e so h = absurd (omega arith)
same_terms-append (v ∷ ts) (w ∷ us) t u e so h =
    λ i. left (same_term v w) (same_terms (packed ts) (packed us)) so i && same_terms-append ts us t u (omega arith) (right (same_term v w) (same_terms (packed ts) (packed us)) so) h i

-- the lists are the same as far as a place, and at it
pub same_more : (xs ys : List IdlType) (i : ℕ) (t u : IdlType) → i < length xs → i < length ys → t ≡ get_or xs i t → u ≡ get_or ys i u → same_term (type_term t) (type_term u) ≡ true
    → same_terms (packed (map type_term (take i xs))) (packed (map type_term (take i ys))) ≡ true → same_terms (packed (map type_term (take (i + 1) xs))) (packed (map type_term (take (i + 1) ys))) ≡ true
same_more xs ys i t u in_xs in_ys t_is u_is h so =
    let even : length (map type_term (take i xs)) ≡ length (map type_term (take i ys)) = length-map (take i xs) type_term ∙ length-take-le i xs (omega arith) ∙ sym (length-take-le i ys (omega arith)) ∙ sym (length-map (take i ys) type_term) in
    (λ j. same_terms (packed (terms_more xs i t in_xs t_is j)) (packed (terms_more ys i u in_ys u_is j))) ∙ same_terms-append (map type_term (take i xs)) (map type_term (take i ys)) (type_term t) (type_term u) even so h
