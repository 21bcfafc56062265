-- What is found in tables by name, and the lines that open steps blocks.
use Rattle.std.proofs.Common.{◌≡◌, ℕ, zero, suc, ◌+◌, Bool, true, false, cond, List, [], ◌∷◌, ◌++◌, length, take, slice_get, Option, Some, None, option_map, is_some, refl, sym, ◌∙◌, ap, subst, arith, if◌then◌else◌, inl, inr, true≢false}
use Rattle.std.specs.Prelude.{bytes_eq, find}
use Rattle.std.specs.Option.{option_or}
use Rattle.std.proofs.lemmas.Slice.Eq.{bytes_eq-Decides}
use Rattle.widl_idl.specs.DefinitionTerms.{DefsTerm, SpaceTerm}
use Rattle.widl_lines.specs.declared.script_place.ScriptPlace.{ScriptPlace}
use Rattle.widl_lines.specs.TextBreaks.{Line}
use Rattle.widl_script_rules.specs.declared.overloads.Namespace.{Namespace}
use Rattle.widl_script_rules.specs.declared.targets.Opening.{Opening}
use Rattle.widl_script_rules.specs.Lookups.{AreOpenings, IsOpening, IsSpace, IsSpaceOf, LacksIn}
use Rattle.widl_script_rules.specs.Standings.{standings}
use Rattle.widl_script_rules.specs.Surroundings.{around_at}
use Rattle.widl_script_rules.specs.Targets.{LacksTarget}
use Rattle.widl_script_rules.proofs.LineWalks.{Below, Placed, listed_at, placed_in, pushed_cases}
use Rattle.widl_script_rules.proofs.OwnerTexts.{first_put}
use Rattle.widl_script_rules.proofs.OwnerTexts.{same_turned}

-- 1. The first of a name

or_none : {X : Type 0} (o : Option X) → option_or o None ≡ o
or_none None = refl
or_none (Some x) = refl

or_assoc : {X : Type 0} (a b c : Option X) → option_or a (option_or b c) ≡ option_or (option_or a b) c
or_assoc None b c = refl
or_assoc (Some x) b c = refl

one_found : {X : Type 0} (p : X → Bool) (x : X) → find p (x ∷ []) ≡ (if p x then Some x else None)
one_found p x = by (p x) refl
  where
    by : (c : Bool) → p x ≡ c → find p (x ∷ []) ≡ (if p x then Some x else None)
    by true e = refl
    by false e = refl

behind : {X : Type 0} (p : X → Bool) (y : X) (more fewer : List X) (x : X) → find p more ≡ option_or (find p fewer) (if p x then Some x else None) → find p (y ∷ more) ≡ option_or (find p (y ∷ fewer)) (if p x then Some x else None)
behind p y more fewer x h = by (p y) refl
  where
    by : (c : Bool) → p y ≡ c → find p (y ∷ more) ≡ option_or (find p (y ∷ fewer)) (if p x then Some x else None)
    by true f = ap (λ b. cond b (Some y) (find p more)) f ∙ ap (λ b. option_or (cond b (Some y) (find p fewer)) (if p x then Some x else None)) (sym f)
    by false f = ap (λ b. cond b (Some y) (find p more)) f ∙ h ∙ ap (λ b. option_or (cond b (Some y) (find p fewer)) (if p x then Some x else None)) (sym f)

find_suc : {X : Type 0} (p : X → Bool) (xs : List X) (k : ℕ) (x : X) → slice_get xs k ≡ Some x → find p (take (suc k) xs) ≡ option_or (find p (take k xs)) (if p x then Some x else None)
find_suc p [] k x e = absurd (let bad : None ≡ Some x = e in cc)
find_suc p (y ∷ xs) zero x e = let same : y ≡ x = cc in ap (λ z. find p (z ∷ [])) same ∙ one_found p x
find_suc p (y ∷ xs) (suc k) x e = behind p y (take (suc k) xs) (take k xs) x (find_suc p xs k x e)

pub find_next : {X : Type 0} (p : X → Bool) (xs : List X) (k : ℕ) (x : X) → slice_get xs k ≡ Some x → find p (take (k + 1) xs) ≡ option_or (find p (take k xs)) (if p x then Some x else None)
find_next p xs k x e = let one : k + 1 ≡ suc k = omega arith in ap (λ n. find p (take n xs)) one ∙ find_suc p xs k x e

none_there : {X : Type 0} (o : Option X) → is_some o ≡ false → o ≡ None
none_there None e = refl
none_there (Some x) e = cc

-- 2. What is added under a name

mapped_or : {V T : Type 0} (f : V → T) (o : Option V) (c : Bool) (v : V) → option_map f (option_or o (if c then Some v else None)) ≡ option_or (option_map f o) (if c then Some (f v) else None)
mapped_or f (Some x) c v = refl
mapped_or f None true v = refl
mapped_or f None false v = refl

pub added : {V T : Type 0} (f : V → T) (old new : List ℕ → Option V) (v : V) (name : List ℕ) → ((text : List ℕ) → new text ≡ cond (bytes_eq name text) (Some v) (old text)) → is_some (old name) ≡ false →
    (text : List ℕ) → option_map f (new text) ≡ option_or (option_map f (old text)) (if bytes_eq text name then Some (f v) else None)
added f old new v name put none text = ap (option_map f) (first_put old new v name put none text) ∙ mapped_or f (old text) (bytes_eq text name) v

kept_found : (m : Namespace) (found more : Option SpaceTerm) → IsSpaceOf (Some m) found → IsSpaceOf (Some m) (option_or found more)
kept_found m found more h = subst (λ o. IsSpaceOf (Some m) (option_or o more)) (sym h.1) (h.0, refl, h.2)

pub space_added : (old new : List ℕ → Option Namespace) (n : Namespace) (space : SpaceTerm) (name : List ℕ) → ((text : List ℕ) → new text ≡ cond (bytes_eq name text) (Some n) (old text)) → is_some (old name) ≡ false → IsSpace n space →
    (text : List ℕ) (found : Option SpaceTerm) → IsSpaceOf (old text) found → IsSpaceOf (new text) (option_or found (if bytes_eq text name then Some space else None))
space_added old new n space name put none is text found h = by (bytes_eq name text) refl
  where
    after : (c : Bool) → bytes_eq name text ≡ c → IsSpaceOf (cond c (Some n) (old text)) (option_or found (if c then Some space else None)) → IsSpaceOf (new text) (option_or found (if bytes_eq text name then Some space else None))
    after c e k =
        subst (λ o. IsSpaceOf o (option_or found (if bytes_eq text name then Some space else None))) (sym (put text ∙ ap (λ c. cond c (Some n) (old text)) e))
        (subst (λ d. IsSpaceOf (cond c (Some n) (old text)) (option_or found (if d then Some space else None))) (sym (same_turned text name ∙ e)) k)

    by : (c : Bool) → bytes_eq name text ≡ c → IsSpaceOf (new text) (option_or found (if bytes_eq text name then Some space else None))
    by true e =
        let same : name ≡ text = (bytes_eq-Decides name text).0 e in
        let nothing : old text ≡ None = ap old (sym same) ∙ none_there (old name) none in
        let no : found ≡ None = subst (λ o. IsSpaceOf o found) nothing h in
        after true e (subst (λ o. IsSpaceOf (Some n) (option_or o (Some space))) (sym no) (space, refl, is))
    by false e = after false e (subst (IsSpaceOf (old text)) (sym (or_none found)) h)

pub space_kept : (old : List ℕ → Option Namespace) (space : SpaceTerm) (name : List ℕ) → is_some (old name) ≡ true →
    (text : List ℕ) (found : Option SpaceTerm) → IsSpaceOf (old text) found → IsSpaceOf (old text) (option_or found (if bytes_eq text name then Some space else None))
space_kept old space name some text found h = by (bytes_eq text name) refl
  where
    has : (o : Option Namespace) → is_some o ≡ true → IsSpaceOf o found → IsSpaceOf o (option_or found (if bytes_eq text name then Some space else None))
    has None e k = absurd (true≢false (sym e))
    has (Some m) e k = kept_found m found (if bytes_eq text name then Some space else None) k

    by : (c : Bool) → bytes_eq text name ≡ c → IsSpaceOf (old text) (option_or found (if bytes_eq text name then Some space else None))
    by true e = let same : text ≡ name = (bytes_eq-Decides text name).0 e in has (old text) (ap (λ t. is_some (old t)) same ∙ some) h
    by false e = subst (λ c. IsSpaceOf (old text) (option_or found (if c then Some space else None))) (sym e) (subst (IsSpaceOf (old text)) (sym (or_none found)) h)

-- 3. The lines that open steps blocks

pub openings_pushed : (list : DefsTerm) (lines : List Line) (all : List (Option Opening)) (line : Line) (o : Option Opening) (k : ℕ) → length all ≡ k → slice_get lines k ≡ Some line → IsOpening list line o → AreOpenings list lines all →
    AreOpenings list lines (all ++ o ∷ [])
openings_pushed list lines all line o k count is h known place other p e f =
    elim (pushed_cases all o place p f) [
      | inl g ↦ known place other p e g
      | inr g ↦
          let at : place ≡ k = g.0 ∙ count in
          let same : line ≡ other = (let two : Some line ≡ Some other = sym is ∙ ap (slice_get lines) (sym at) ∙ e in cc) in
          subst (λ (l : Line). IsOpening list l p) same (subst (λ (x : Option Opening). IsOpening list line x) g.1 h)
    ]

-- rule 9
pub lacks_there : (list : DefsTerm) (lines : List Line) (n : ℕ) (p : ScriptPlace) → Below lines (λ k line q. LacksIn list line q) n p → LacksTarget list (standings lines) p
lacks_there list lines n p h = record {
  standing = record { around = around_at lines h.place; line = h.line };
  listed = listed_at lines h.place h.line h.is;
  target = h.holds.target;
  opens = h.holds.opens;
  lacks = h.holds.lacks;
  at = h.holds.at;
}

pub lacks_back : (list : DefsTerm) (lines : List Line) (p : ScriptPlace) → LacksTarget list (standings lines) p → (k : ℕ) × (line : Line) × (slice_get lines k ≡ Some line) × LacksIn list line p
lacks_back list lines p h =
    let at : Placed lines h.standing = placed_in lines h.standing h.listed in
    let same : h.standing.line ≡ at.line = ap (λ s. s.line) at.standing in
    (at.place, at.line, at.is, subst (λ (l : Line). LacksIn list l p) same (record { target = h.target; opens = h.opens; lacks = h.lacks; at = h.at }))

-- 4. The first that passes, in a loop that stops at it

unpassed : {X : Type 0} (p : X → Bool) (y : X) (xs ys : List X) (o : Option X) → (find p ys ≡ None → find p xs ≡ o) → find p (y ∷ ys) ≡ None → find p (y ∷ xs) ≡ o
unpassed p y xs ys o h none = by (p y) refl
  where
    by : (c : Bool) → p y ≡ c → find p (y ∷ xs) ≡ o
    by true e = absurd (let bad : Some y ≡ None = ap (λ c. cond c (Some y) (find p ys)) (sym e) ∙ none in cc)
    by false e = ap (λ c. cond c (Some y) (find p xs)) e ∙ h (ap (λ c. cond c (Some y) (find p ys)) (sym e) ∙ none)

pub found_first : {X : Type 0} (p : X → Bool) (xs : List X) (k : ℕ) (x : X) → slice_get xs k ≡ Some x → p x ≡ true → find p (take k xs) ≡ None → find p xs ≡ Some x
found_first p [] k x e passes none = absurd (let bad : None ≡ Some x = e in cc)
found_first p (y ∷ xs) zero x e passes none = let same : y ≡ x = cc in ap (λ c. cond c (Some y) (find p xs)) (ap p same ∙ passes) ∙ ap Some same
found_first p (y ∷ xs) (suc k) x e passes none = unpassed p y xs (take k xs) (Some x) (found_first p xs k x e passes) none

pub is_mapped : {X Y : Type 0} (f : X → Y) (o : Option X) → is_some (option_map f o) ≡ is_some o
is_mapped f None = refl
is_mapped f (Some x) = refl
