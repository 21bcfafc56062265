-- What doesn't fit, by the tests of the program.
use Rattle.std.proofs.Common.{◌≡◌, ◌⊎◌, inl, inr, ◌↔◌, ℕ, zero, suc, ◌+◌, ◌<◌, Bool, true, false, not, IsTrue, List, [], ◌∷◌, ◌++◌, length, map, take, get_or, Contains, Option, Some, None, option_map, refl, sym, ap, subst, ◌∙◌, arith}
use Rattle.std.proofs.lemmas.List.{length-map, take_more}
use Rattle.std.proofs.lemmas.List.Elements.{Contains-append_left, Contains-push, Contains-push_cases}
use Rattle.widl_first.specs.Keys.{Either, IsFirst, first_of}
use Rattle.widl_first.proofs.KeyFirsts.{first_either, first_same}
use Rattle.widl_idl.specs.DefinitionTerms.{DefsTerm, CallbackTerm}
use Rattle.widl_idl.specs.Terms.{TypeTerm}
use Rattle.widl_lines.specs.declared.script_place.ScriptPlace.{ScriptPlace}
use Rattle.widl_lines.specs.TextBreaks.{Line}
use Rattle.widl_script_tree.specs.declared.steps.Invoke.{Invoke}
use Rattle.widl_script_tree.specs.declared.steps.StepLine.{StepLine}
use Rattle.widl_script_tree.specs.declared.steps.StepLine.TheVariants as step
use Rattle.widl_script_rules.specs.declared.step_uses.Used.{Used as Listed}
use Rattle.widl_script_rules.specs.CallbacksAndPairs.{callback_called}
use Rattle.widl_script_rules.specs.Fits.{Misfits, source_misfits, result_misfits, SourceFits, TypeFits, is_returned, wanted}
use Rattle.widl_script_rules.specs.LeastBreak.{place_key}
use Rattle.widl_script_rules.specs.MisfitTerms.{IsResultMisfit, IsSourceMisfit, ResultMisfits, SomeSource, SourceMisfits}
use Rattle.widl_script_rules.specs.Standings.{IsAtWord}
use Rattle.widl_script_rules.specs.StepUses.{Invoked, Used, used_in}
use Rattle.widl_script_rules.specs.Targets.{Overload}
use Rattle.widl_script_rules.specs.UsedPlaces.{AtWords, FirstAt, capped_use, listed_term}

some_is : {A : Type 0} {a b : A} → Some a ≡ Some b → a ≡ b
some_is e = (cc)

only : {A : Type 0} (x y : A) → Contains (x ∷ []) y → x ≡ y
only x y (zero, below, is) = is
only x y (suc k, below, is) = absurd (omega (arith, below))

nothing_in : {A : Type 0} (y : A) → Contains [] y → ⊥
nothing_in y c = let l = c.1 in omega arith

-- what an option is, by what it maps to
pub mapped_some : {A B : Type 0} (f : A → B) (r : Option A) (x : A) (o : Option B) → option_map f r ≡ o → r ≡ Some x → o ≡ Some (f x)
mapped_some f r x o e is = sym e ∙ ap (option_map f) is

-- 1. The place of a word, where a fact holds

pub word_first : (Q : Type 0) (rule : ℕ) (line : Line) (number : ℕ) (r : Option ScriptPlace) → Q → FirstAt rule line (number ∷ []) r → IsFirst place_key (λ p. Q × IsAtWord rule line number p) r
word_first Q rule line number r holds first =
    first_same place_key (AtWords rule line (Contains (number ∷ []))) (λ p. Q × IsAtWord rule line number p) r
    (λ p a. (holds, subst (λ w. IsAtWord rule line w p) (sym (only number a.word a.breaks)) a.at))
    (λ p h. record { word = number; breaks = (0, omega arith, refl); at = h.1 }) first

-- nothing, where it doesn't
pub no_first : (Q : Type 0) (rule : ℕ) (line : Line) (number : ℕ) → (Q → ⊥) → IsFirst place_key (λ p. Q × IsAtWord rule line number p) None
no_first Q rule line number none = λ p h. none h.0

-- by a test
pub tested_first : (Q : Type 0) (rule : ℕ) (line : Line) (number : ℕ) (b : Bool) (r : Option ScriptPlace) → IsTrue b ↔ Q → b ≡ true → FirstAt rule line (number ∷ []) r → IsFirst place_key (λ p. Q × IsAtWord rule line number p) r
tested_first Q rule line number b r told set first = word_first Q rule line number r (told.0 set) first

pub tested_none : (Q : Type 0) (rule : ℕ) (line : Line) (number : ℕ) (b : Bool) → IsTrue b ↔ Q → b ≡ false → IsFirst place_key (λ p. Q × IsAtWord rule line number p) None
tested_none Q rule line number b told unset = no_first Q rule line number (λ q. let f : true ≡ false = sym (told.1 q) ∙ unset in absurd (cc))

-- 2. Sources

unset : (b : Bool) (Q : Type 0) → IsTrue b ↔ Q → IsTrue (not b) ↔ (Q → ⊥)
unset true Q t = (λ h. absurd (let f : false ≡ true = h in (cc)), λ h. absurd (h (t.0 refl)))
unset false Q t = (λ h q. let f : false ≡ true = t.1 q in (cc), λ h. refl)

module _ (list : DefsTerm) (o : Overload) (line : StepLine) (u : Used) where
  pub source_told : (t : TypeTerm) (b : Bool) → wanted list o line u ≡ Some t → IsTrue b ↔ SourceFits list o u.source t → IsTrue (not b) ↔ SourceMisfits list o line u
  source_told t b wants told =
      let n = unset b (SourceFits list o u.source t) told in (
        λ h. record { type_wanted = t; wants = wants; misfits = n.0 h },
        λ m. n.1 (λ f. m.misfits (subst (SourceFits list o u.source) (some_is (sym wants ∙ m.wants)) f)),
      )

-- 3. Results

module _ (list : DefsTerm) (o : Overload) where
  pub result_told : (i : Invoke) (c : CallbackTerm) (b : Bool) → callback_called list o (record { word = 1; call = i }) ≡ Some c → IsTrue b ↔ TypeFits list c.sig.returned o.signature.returned → IsTrue (not b) ↔ ResultMisfits list o (step.ReturnInvoke i)
  result_told i c b is told =
      let n = unset b (TypeFits list c.sig.returned o.signature.returned) told in
      let own : Invoked = record { word = 1; call = i } in (
        λ h. record { called = own; listed = (0, omega arith, refl); callback = c; is = is; misfits = n.0 h },
        λ m.
            let same : own ≡ m.called = only own m.called m.listed in
            let one : c ≡ m.callback = some_is (sym is ∙ ap (callback_called list o) same ∙ m.is) in
            n.1 (λ f. m.misfits (subst (λ (x : CallbackTerm). TypeFits list x.sig.returned o.signature.returned) one f)),
      )

-- 4. The sources that are listed

head_same : {A : Type 0} {x y : A} {xs ys : List A} → x ∷ xs ≡ y ∷ ys → x ≡ y
head_same e = (cc)

tail_same : {A : Type 0} {x y : A} {xs ys : List A} → x ∷ xs ≡ y ∷ ys → xs ≡ ys
tail_same e = (cc)

-- the source of a place
pub use_at : (listed : List Listed) (uses : List Used) (i : ℕ) (u : Listed) → map listed_term listed ≡ map capped_use uses → i < length listed → u ≡ get_or listed i u → (v : Used) × (i < length uses) × (v ≡ get_or uses i v) × (listed_term u ≡ capped_use v)
use_at [] uses i u e within is = absurd (omega arith)
use_at (l ∷ listed) [] i u e within is = absurd (let f : listed_term l ∷ map listed_term listed ≡ [] = e in (cc))
use_at (l ∷ listed) (v ∷ uses) zero u e within is = (v, omega arith, refl, ap listed_term is ∙ head_same e)
use_at (l ∷ listed) (v ∷ uses) (suc i) u e within is = let w = use_at listed uses i u (tail_same e) (omega arith) is in let b = w.1 in (w.0, omega (arith, b), w.2, w.3)

pub same_count : (listed : List Listed) (uses : List Used) → map listed_term listed ≡ map capped_use uses → length listed ≡ length uses
same_count listed uses e = sym (length-map listed listed_term) ∙ ap length e ∙ length-map uses capped_use

module _ (list : DefsTerm) (o : Overload) (line : StepLine) (words : Line) where
  -- what of the result, or of the first sources, doesn't fit
  abbrev pub Among : List Used → ScriptPlace → Type 0
  Among uses p = IsResultMisfit list o line words p ⊎ SomeSource list o line words uses p

  pub among_none : (r : Option ScriptPlace) → IsFirst place_key (IsResultMisfit list o line words) r → IsFirst place_key (Among []) r
  among_none r h = first_same place_key (IsResultMisfit list o line words) (Among []) r (λ p x. inl x) (λ p e. elim e [ inl x ↦ x | inr s ↦ absurd (nothing_in s.0 s.1) ]) h

  pub among_more : (uses : List Used) (i : ℕ) (v : Used) (p q : Option ScriptPlace) → i < length uses → v ≡ get_or uses i v → IsFirst place_key (Among (take i uses)) p → IsFirst place_key (IsSourceMisfit list o line words v) q → IsFirst place_key (Among (take (i + 1) uses)) (first_of place_key p q)
  among_more uses i v p q within is h k =
      subst (λ us. IsFirst place_key (Among us) (first_of place_key p q)) (sym (take_more uses i v within ∙ ap (λ x. take i uses ++ x ∷ []) (sym is)))
      (first_same place_key (Either (Among (take i uses)) (IsSourceMisfit list o line words v)) (Among (take i uses ++ v ∷ [])) (first_of place_key p q) (λ r e. to r e) (λ r e. from r e) (first_either place_key (Among (take i uses)) (IsSourceMisfit list o line words v) p q h k))
    where
      to : (r : ScriptPlace) → Either (Among (take i uses)) (IsSourceMisfit list o line words v) r → Among (take i uses ++ v ∷ []) r
      to r (inl (inl x)) = inl x
      to r (inl (inr s)) = inr (s.0, Contains-append_left (take i uses) (v ∷ []) s.0 s.1, s.2)
      to r (inr m) = inr (v, Contains-push (take i uses) v, m)

      from : (r : ScriptPlace) → Among (take i uses ++ v ∷ []) r → Either (Among (take i uses)) (IsSourceMisfit list o line words v) r
      from r (inl x) = inl (inl x)
      from r (inr s) = elim (Contains-push_cases (take i uses) v s.0 s.1) [ inl c ↦ inl (inr (s.0, c, s.2)) | inr e ↦ inr (subst (λ u. IsSourceMisfit list o line words u r) (sym e) s.2) ]

  first_word_of : (line : StepLine) (i : Invoked) → Contains (is_returned line) i → i.word ≡ 1
  first_word_of (step.ReturnInvoke j) i c = ap (λ (x : Invoked). x.word) (sym (only (record { word = 1; call = j }) i c))
  first_word_of (step.Return s) i c = absurd (nothing_in i c)
  first_word_of (step.SetSlot text s) i c = absurd (nothing_in i c)
  first_word_of (step.Append key s) i c = absurd (nothing_in i c)
  first_word_of step.Clear i c = absurd (nothing_in i c)
  first_word_of (step.Throw v) i c = absurd (nothing_in i c)
  first_word_of (step.Invoke j) i c = absurd (nothing_in i c)

  -- a source as it is listed is that of its place
  pub whole_use : (v : Used) (u : Listed) (r : Option ScriptPlace) → listed_term u ≡ capped_use v → IsFirst place_key (IsSourceMisfit list o line words (record { word = v.word; source = u.source.now; number = u.number })) r → IsFirst place_key (IsSourceMisfit list o line words v) r
  whole_use v u r e h =
      let source : u.source.now ≡ v.source = ap (λ (x : Used). x.source) e in
      let number : u.number ≡ v.number = ap (λ (x : Used). x.number) e in
      subst (λ n. IsFirst place_key (IsSourceMisfit list o line words (record { word = v.word; source = v.source; number = n })) r) number
      (subst (λ s. IsFirst place_key (IsSourceMisfit list o line words (record { word = v.word; source = s; number = u.number })) r) source h)

  -- all misfits of a line
  pub among_all : (r : Option ScriptPlace) → IsFirst place_key (Among (used_in line)) r → IsFirst place_key (AtWords 13 words (Misfits list o line)) r
  among_all r h = first_same place_key (Among (used_in line)) (AtWords 13 words (Misfits list o line)) r (λ p e. to p e) (λ p a. from p a.word a.breaks a.at) h
    where
      to : (p : ScriptPlace) → Among (used_in line) p → AtWords 13 words (Misfits list o line) p
      to p (inl (m, at)) = record { word = m.called.word; breaks = result_misfits m.called m.callback m.listed m.is m.misfits; at = subst (λ w. IsAtWord 13 words w p) (sym (first_word_of line m.called m.listed)) at }
      to p (inr (u, listed, both)) = let m = both.0 in record { word = u.word; breaks = source_misfits u m.type_wanted listed m.wants m.misfits; at = both.1 }

      from : (p : ScriptPlace) (word : ℕ) → Misfits list o line word → IsAtWord 13 words word p → Among (used_in line) p
      from p word (source_misfits u t listed wants misfits) at = inr (u, listed, (record { type_wanted = t; wants = wants; misfits = misfits }, at))
      from p word (result_misfits i c listed is misfits) at = inl (record { called = i; listed = listed; callback = c; is = is; misfits = misfits }, subst (λ w. IsAtWord 13 words w p) (first_word_of line i listed) at)
