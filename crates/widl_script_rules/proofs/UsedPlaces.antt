-- The first place of some words of a step line.
use Rattle.std.proofs.Common.{◌≡◌, ℕ, zero, suc, ◌+◌, ◌-◌, ◌^◌, ◌≤◌, min, List, [], ◌∷◌, ◌++◌, length, map, take, slice_get, Contains, flat_map, Option, Some, None, option_map, refl, sym, ◌∙◌, ap, subst, arith, inl, inr, append_assoc}
use Rattle.std.proofs.lemmas.List.{append-nil, length-map, take_all}
use Rattle.std.proofs.lemmas.List.Elements.{Contains-append_left, Contains-append_right, Contains-append_cases}
use Rattle.std.proofs.lemmas.Option.{slice_get-map}
use Rattle.widl_first.specs.Keys.{first_of, Either}
use Rattle.widl_first.proofs.KeyFirsts.{first_either, first_same}
use Rattle.widl_lines.specs.declared.script_place.ScriptPlace.{ScriptPlace}
use Rattle.widl_lines.specs.TextBreaks.{Line}
use Rattle.widl_script_tree.specs.declared.steps.Source.{Source}
use Rattle.widl_script_rules.specs.declared.step_uses.Used.{Used as Listed}
use Rattle.widl_script_rules.specs.LeastBreak.{place_key}
use Rattle.widl_script_rules.specs.StepUses.{Used, source_words, used_from}
use Rattle.widl_script_rules.specs.UsedPlaces.{AtWords, FirstAt, capped, capped_use, listed_term}

-- 1. Places

pub joined_at : (rule : ℕ) (line : Line) (a b : List ℕ) (p q : Option ScriptPlace) → FirstAt rule line a p → FirstAt rule line b q → FirstAt rule line (a ++ b) (first_of place_key p q)
joined_at rule line a b p q h k =
    first_same place_key (Either (AtWords rule line (Contains a)) (AtWords rule line (Contains b))) (AtWords rule line (Contains (a ++ b))) (first_of place_key p q)
    (λ r e. elim e [
      | inl x ↦ record { word = x.word; breaks = Contains-append_left a b x.word x.breaks; at = x.at }
      | inr x ↦ record { word = x.word; breaks = Contains-append_right a b x.word x.breaks; at = x.at }
    ])
    (λ r e. elim (Contains-append_cases a b e.word e.breaks) [
      | inl x ↦ inl (record { word = e.word; breaks = x; at = e.at })
      | inr x ↦ inr (record { word = e.word; breaks = x; at = e.at })
    ])
    (first_either place_key (AtWords rule line (Contains a)) (AtWords rule line (Contains b)) p q h k)

-- 2. The sources that a line uses

flat_suc : {X A : Type 0} (f : X → List A) (xs : List X) (k : ℕ) (x : X) → slice_get xs k ≡ Some x → flat_map f (take (suc k) xs) ≡ (flat_map f (take k xs) ++ f x)
flat_suc f [] k x e = absurd (let bad : None ≡ Some x = e in cc)
flat_suc f (y ∷ xs) zero x e = let same : y ≡ x = cc in append-nil (f y) ∙ ap f same
flat_suc f (y ∷ xs) (suc k) x e = ap (λ ys. f y ++ ys) (flat_suc f xs k x e) ∙ sym (append_assoc (f y) (flat_map f (take k xs)) (f x))

-- a source further
pub next_use : (rule : ℕ) (line : Line) (f : Used → List ℕ) (before : List ℕ) (us : List Used) (k : ℕ) (u : Used) (p q : Option ScriptPlace) → slice_get us k ≡ Some u →
    FirstAt rule line (before ++ flat_map f (take k us)) p → FirstAt rule line (f u) q → FirstAt rule line (before ++ flat_map f (take (k + 1) us)) (first_of place_key p q)
next_use rule line f before us k u p q is h g =
    let one : suc k ≡ k + 1 = omega arith in
    let e : ((before ++ flat_map f (take k us)) ++ f u) ≡ (before ++ flat_map f (take (k + 1) us)) =
    append_assoc before (flat_map f (take k us)) (f u) ∙ ap (λ ws. before ++ ws) (sym (flat_suc f us k u is) ∙ ap (λ n. flat_map f (take n us)) one) in
    subst (λ ws. FirstAt rule line ws (first_of place_key p q)) e (joined_at rule line (before ++ flat_map f (take k us)) (f u) p q h g)

pub first_use : (rule : ℕ) (line : Line) (f : Used → List ℕ) (before : List ℕ) (us : List Used) (p : Option ScriptPlace) → FirstAt rule line before p → FirstAt rule line (before ++ flat_map f (take 0 us)) p
first_use rule line f before us p h = subst (λ ws. FirstAt rule line ws p) (sym (append-nil before)) h

-- what stands at a place of the list
pub record UseAt (us : List Used) (k : ℕ) (x : Listed) : Type 0 where
  pub use_of : Used
  pub is : slice_get us k ≡ Some use_of
  pub word : x.word ≡ capped use_of.word
  pub source : x.source.now ≡ use_of.source

pub use_at : (listed : List Listed) (us : List Used) (k : ℕ) (x : Listed) → map listed_term listed ≡ map capped_use us → slice_get listed k ≡ Some x → UseAt us k x
use_at listed us k x e is = by (slice_get us k) refl
  where
    both : Some (listed_term x) ≡ option_map capped_use (slice_get us k)
    both = ap (option_map listed_term) (sym is) ∙ sym (slice_get-map listed_term listed k) ∙ ap (λ xs. slice_get xs k) e ∙ slice_get-map capped_use us k

    by : (o : Option Used) → slice_get us k ≡ o → UseAt us k x
    by None f = absurd (let bad : Some (listed_term x) ≡ None = both ∙ ap (option_map capped_use) f in cc)
    by (Some u) f =
        let same : Some (listed_term x) ≡ Some (capped_use u) = both ∙ ap (option_map capped_use) f in
        let one : listed_term x ≡ capped_use u = cc in
        record { use_of = u; is = f; word = ap (λ (v : Used). v.word) one; source = ap (λ (v : Used). v.source) one }

pub all_uses : (rule : ℕ) (line : Line) (f : Used → List ℕ) (before : List ℕ) (listed : List Listed) (us : List Used) (k : ℕ) (p : Option ScriptPlace) → map listed_term listed ≡ map capped_use us → length listed ≤ k →
    FirstAt rule line (before ++ flat_map f (take k us)) p → FirstAt rule line (before ++ flat_map f us) p
all_uses rule line f before listed us k p e end h =
    let size : length us ≡ length listed = sym (length-map us capped_use) ∙ ap length (sym e) ∙ length-map listed listed_term in
    subst (λ vs. FirstAt rule line (before ++ flat_map f vs) p) (take_all k us (omega (arith, size, end))) h

-- 3. The list of the sources of a call

-- the word behind these sources
abbrev pub word_after : ℕ → List Source → ℕ
word_after word [] = word
word_after word (s ∷ sources) = word_after (word + source_words s + 1) sources

used_suc : (word number : ℕ) (sources : List Source) (k : ℕ) (s : Source) → slice_get sources k ≡ Some s →
    used_from word number (take (suc k) sources) ≡ (used_from word number (take k sources) ++ record { word = word_after word (take k sources); source = s; number = number + k } ∷ [])
used_suc word number [] k s e = absurd (let bad : None ≡ Some s = e in cc)
used_suc word number (t ∷ sources) zero s e =
    let same : t ≡ s = cc in
    let none : number ≡ number + 0 = omega arith in
    ap (λ (x : Source). record { word = word; source = x; number = number } ∷ []) same ∙ ap (λ (n : ℕ). record { word = word; source = s; number = n } ∷ []) none
used_suc word number (t ∷ sources) (suc k) s e =
    let sum : number + 1 + k ≡ number + suc k = omega arith in
    ap (λ us. record { word = word; source = t; number = number } ∷ us) (used_suc (word + source_words t + 1) (number + 1) sources k s e)
    ∙ ap (λ (n : ℕ). record { word = word; source = t; number = number } ∷ (used_from (word + source_words t + 1) (number + 1) (take k sources) ++ record { word = word_after (word + source_words t + 1) (take k sources); source = s; number = n } ∷ [])) sum

after_suc : (word : ℕ) (sources : List Source) (k : ℕ) (s : Source) → slice_get sources k ≡ Some s → word_after word (take (suc k) sources) ≡ word_after word (take k sources) + source_words s + 1
after_suc word [] k s e = absurd (let bad : None ≡ Some s = e in cc)
after_suc word (t ∷ sources) zero s e = let same : t ≡ s = cc in ap (λ (x : Source). word + source_words x + 1) same
after_suc word (t ∷ sources) (suc k) s e = after_suc (word + source_words t + 1) sources k s e

pub listed_next : (first : ℕ) (sources : List Source) (k : ℕ) (s : Source) (before old new : List Used) (word : ℕ) → slice_get sources k ≡ Some s → word ≡ capped (word_after first (take k sources)) →
    old ≡ (before ++ map capped_use (used_from first 0 (take k sources))) → new ≡ (old ++ record { word = word; source = s; number = k } ∷ []) → new ≡ (before ++ map capped_use (used_from first 0 (take (k + 1) sources)))
listed_next first sources k s before old new word is at h put =
    let one : suc k ≡ k + 1 = omega arith in
    let zeroth : 0 + k ≡ k = omega arith in
    let last : Used = record { word = word_after first (take k sources); source = s; number = k } in
    let more : used_from first 0 (take (k + 1) sources) ≡ (used_from first 0 (take k sources) ++ last ∷ []) =
    ap (λ n. used_from first 0 (take n sources)) (sym one) ∙ used_suc first 0 sources k s is ∙ ap (λ (n : ℕ). used_from first 0 (take k sources) ++ record { word = word_after first (take k sources); source = s; number = n } ∷ []) zeroth in
    put ∙ ap (λ us. us ++ record { word = word; source = s; number = k } ∷ []) h
    ∙ ap (λ (w : ℕ). (before ++ map capped_use (used_from first 0 (take k sources))) ++ record { word = w; source = s; number = k } ∷ []) at
    ∙ append_assoc before (map capped_use (used_from first 0 (take k sources))) (capped_use last ∷ [])
    ∙ ap (λ us. before ++ us) (sym (map_pushed capped_use (used_from first 0 (take k sources)) last) ∙ ap (map capped_use) (sym more))
  where
    map_pushed : {X Y : Type 0} (f : X → Y) (xs : List X) (x : X) → map f (xs ++ x ∷ []) ≡ (map f xs ++ f x ∷ [])
    map_pushed f [] x = refl
    map_pushed f (y ∷ xs) x = ap (λ ys. f y ∷ ys) (map_pushed f xs x)

pub word_next : (first : ℕ) (sources : List Source) (k : ℕ) (s : Source) (word size next : ℕ) → slice_get sources k ≡ Some s → word ≡ capped (word_after first (take k sources)) → size ≡ source_words s → next ≡ min (word + (size + 1)) (2 ^ 64 - 1) →
    next ≡ capped (word_after first (take (k + 1) sources))
word_next first sources k s word size next is at few e =
    let one : suc k ≡ k + 1 = omega arith in
    let after : word_after first (take (k + 1) sources) ≡ word_after first (take k sources) + source_words s + 1 = ap (λ n. word_after first (take n sources)) (sym one) ∙ after_suc first sources k s is in
    let sum : min (word + (size + 1)) (2 ^ 64 - 1) ≡ min (word_after first (take k sources) + source_words s + 1) (2 ^ 64 - 1) = omega (arith, at, few) in
    e ∙ sum ∙ ap capped (sym after)
