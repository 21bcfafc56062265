-- The listed words are found by their slots: by tests that the checker computes.
use Rattle.std.proofs.Common.{◌≡◌, ℕ, ◌<◌, zero, suc, Bool, true, false, List, [], ◌∷◌, Some, None, length, get_or, refl, sym, ◌∙◌, ap, arith, nat_lt, ltb-true, Bor}
use Rattle.std.proofs.lemmas.Slice.Eq.{bytes_eq-Decides}
use Rattle.std.proofs.lemmas.List.Folds.{list_all_at}
use Rattle.std.specs.Prelude.{◌&&◌, cond, map, find, option_map, slice_index}
use Rattle.std.specs.List.{list_all}
use Rattle.std.specs.Str.{bytes_eq}
use Rattle.widl_lines.specs.declared.grammar.Terminal.{Terminal}
use Rattle.widl_lines.specs.declared.grammar.Terminal.TheVariants.{Unknown}
use Rattle.widl_lines.specs.declared.spelling.TheConstants.{SPELLED, SPELLED_AT}
use Rattle.widl_lines.specs.ListedWords.{listed_words}
use Rattle.widl_lines.specs.Slots.{listed_at, slot_of}
use Rattle.widl_lines.specs.Terminals.{listed}

same_at : {X Y Z : Type 0} (f : X → Z) (g : Y → Z) (xs : List X) (ys : List Y) (k : ℕ) (d : X) (e : Y) → map f xs ≡ map g ys → k < length ys → f (get_or xs k d) ≡ g (get_or ys k e)
same_at f g [] [] k d e same lt = absurd (omega (arith, lt))
same_at f g [] (y ∷ ys) k d e same lt = cc
same_at f g (x ∷ xs) [] k d e same lt = cc
same_at f g (x ∷ xs) (y ∷ ys) zero d e same lt = cc
same_at f g (x ∷ xs) (y ∷ ys) (suc k) d e same lt = let rest : map f xs ≡ map g ys = cc in same_at f g xs ys k d e rest (omega (arith, lt))

pub spelling_at : (xs : List (Bor (List ℕ))) (k : ℕ) (d : Bor (List ℕ)) → map (λ x. x.now) xs ≡ map (λ word. word.0) listed_words → k < 53 → (get_or xs k d).now ≡ (listed_at k).0
spelling_at xs k d same lt = same_at (λ x. x.now) (λ word. word.0) xs listed_words k d ([], Unknown) same lt

all_spelled : map (λ t. t) SPELLED ≡ map (λ word. word.1) listed_words
all_spelled = refl

pub spelled_at : (k : ℕ) (d : Terminal) → k < 53 → get_or SPELLED k d ≡ (listed_at k).1
spelled_at k d lt = same_at (λ t. t) (λ word. word.1) SPELLED listed_words k d ([], Unknown) all_spelled lt

all_small : list_all (λ n. nat_lt n 53) SPELLED_AT ≡ true
all_small = refl

pub number_below : (slot : ℕ) → slot < 256 → slice_index SPELLED_AT slot < 53
number_below slot lt = go (nat_lt (slice_index SPELLED_AT slot) 53) refl
  where
    go : (c : Bool) → nat_lt (slice_index SPELLED_AT slot) 53 ≡ c → slice_index SPELLED_AT slot < 53
    go true less = ltb-true _ _ less
    go false not_less = let broken = list_all_at (λ n. nat_lt n 53) SPELLED_AT slot 0 lt not_less in cc

each_found : map (λ word. listed word.0) listed_words ≡ map (λ word. Some word.1) listed_words
each_found = refl

pub found : (k : ℕ) (text : List ℕ) → k < 53 → bytes_eq (listed_at k).0 text ≡ true → Some (listed_at k).1 ≡ listed text
found k text lt is =
    sym (same_at (λ word. listed word.0) (λ word. Some word.1) listed_words listed_words k ([], Unknown) ([], Unknown) each_found lt)
    ∙ ap listed ((bytes_eq-Decides (listed_at k).0 text).0 is)

-- the one listed word that can be the text
candidate : List ℕ → List ℕ
candidate text = (listed_at (slice_index SPELLED_AT (slot_of text))).0

own_candidate : List ℕ × Terminal → Bool
own_candidate word = bytes_eq (candidate word.0) word.0

each_own : list_all own_candidate listed_words ≡ true
unfolding own_candidate candidate
each_own = refl

both_true : (a b : Bool) → (a && b) ≡ true → (a ≡ true) × (b ≡ true)
both_true true true e = (refl, refl)
both_true true false e = cc
both_true false b e = cc

not_first : (word : List ℕ × Terminal) (text : List ℕ) → own_candidate word ≡ true → bytes_eq (candidate text) text ≡ false → (c : Bool) → bytes_eq word.0 text ≡ c → bytes_eq word.0 text ≡ false
unfolding own_candidate
not_first word text own other true same =
    let is = (bytes_eq-Decides word.0 text).0 same in
    let own_is : bytes_eq (candidate text) text ≡ true = sym (ap (λ t. bytes_eq (candidate t) t) is) ∙ own in
    cc
not_first word text own other false differs = differs

not_among : (words : List (List ℕ × Terminal)) (text : List ℕ) → list_all own_candidate words ≡ true → bytes_eq (candidate text) text ≡ false → find (λ word. bytes_eq word.0 text) words ≡ None
not_among [] text own other = refl
not_among (word ∷ words) text own other =
    let parts = both_true (own_candidate word) (list_all own_candidate words) own in
    ap (λ b. cond b (Some word) (find (λ w. bytes_eq w.0 text) words)) (not_first word text parts.0 other (bytes_eq word.0 text) refl) ∙ not_among words text parts.1 other

pub not_found : (text : List ℕ) → bytes_eq (listed_at (slice_index SPELLED_AT (slot_of text))).0 text ≡ false → None ≡ listed text
unfolding candidate
not_found text other = sym (ap (option_map (λ word. word.1)) (not_among listed_words text each_own other))
