-- The members of a dictionary that are left: those of the levels of its line, and the next of them.
use Rattle.std.proofs.Common.{◌≡◌, ℕ, zero, suc, ◌+◌, ◌-◌, ◌<◌, ◌≤◌, Bool, true, false, nat_lt, if◌then◌else◌, List, [], ◌∷◌, ◌++◌, length, map, Option, Some, None, refl, sym, ap, subst, ◌∙◌, arith, ltb-true, ltb-false}
use Rattle.std.specs.Prelude.{drop, flat_map, reverse, slice_get, IfNone, IfSome}
use Rattle.std.specs.List.{AllByRecursion}
use Rattle.std.specs.Option.{option_and_then, option_map_or}
use Rattle.std.proofs.lemmas.Grind.{flat_map-append}
use Rattle.std.proofs.lemmas.List.{append_assoc, append-nil, reverse-append}
use Rattle.widl_idl.specs.DefinitionTerms.{DefsTerm, DictTerm, MemberTerm}
use Rattle.widl_tables.specs.declared.level.Level.{Level}
use Rattle.widl_tables.specs.Levels.{declares, has_any, level_of, nearest}
use Rattle.widl_tables.specs.MemberOrder.{DeclaredMember, by_name, declared_by, declared_from, line_within, own_order, parent_in}
use Rattle.widl_tables.proofs.NameOrder.{all_by_name}
use Rattle.widl_convert.specs.Members.{declared_at, members_from, no_member, own_members}

-- 1. A walk of fewer links finds the same, where that is within them

abbrev within : ℕ → Option Level → Option Level
within bound None = None
within bound (Some l) = if nat_lt l.links bound then Some l else None

kept : (bound : ℕ) (l : Level) (b : Bool) → l.links < bound → nat_lt l.links bound ≡ b → Some l ≡ (if b then Some l else None)
kept bound l true below e = refl
kept bound l false below e = absurd (omega (arith, below, ltb-false l.links bound e))

lost : (bound : ℕ) (l : Level) (b : Bool) → bound ≤ l.links → nat_lt l.links bound ≡ b → None ≡ (if b then Some l else None)
lost bound l true above e = absurd (omega (arith, above, ltb-true l.links bound e))
lost bound l false above e = refl

module _ (dicts : List DictTerm) where
  nothing_within : (k links bound : ℕ) (at : Option ℕ) → bound ≤ links → None ≡ within bound (nearest dicts k links at)
  nothing_within zero links bound at above = refl
  nothing_within (suc k) links bound None above = refl
  nothing_within (suc k) links bound (Some n) above = by (declares dicts n) (nothing_within k (links + 1) bound (parent_in dicts n) (omega (arith, above)))
    where
      here : Level
      here = record { dictionary = n; links = links }

      by : (b : Bool) → None ≡ within bound (nearest dicts k (links + 1) (parent_in dicts n)) → None ≡ within bound (if b then Some here else nearest dicts k (links + 1) (parent_in dicts n))
      by true later = lost bound here (nat_lt links bound) above refl
      by false later = later

  shorter : (k total links bound : ℕ) (at : Option ℕ) → k ≤ total → bound ≡ links + k → nearest dicts k links at ≡ within bound (nearest dicts total links at)
  shorter zero total links bound at below e = nothing_within total links bound at (omega (arith, e))
  shorter (suc k) zero links bound at below e = absurd (omega (arith, below))
  shorter (suc k) (suc total) links bound None below e = refl
  shorter (suc k) (suc total) links bound (Some n) below e = by (declares dicts n) (shorter k total (links + 1) bound (parent_in dicts n) (omega (arith, below)) (omega (arith, e)))
    where
      here : Level
      here = record { dictionary = n; links = links }

      by : (b : Bool) → nearest dicts k (links + 1) (parent_in dicts n) ≡ within bound (nearest dicts total (links + 1) (parent_in dicts n))
          → (if b then Some here else nearest dicts k (links + 1) (parent_in dicts n)) ≡ within bound (if b then Some here else nearest dicts total (links + 1) (parent_in dicts n))
      by true later = kept bound here (nat_lt links bound) (omega (arith, e)) refl
      by false later = later

  -- the level of a dictionary, where it is within so many links
  pub level_kept : (n links : ℕ) (l : Level) → links ≤ length dicts → level_of dicts n ≡ Some l → l.links < links → Some l ≡ nearest dicts links 0 (Some n)
  level_kept n links l few e below =
      kept links l (nat_lt l.links links) below refl
      ∙ ap (within links) (sym e)
      ∙ sym (shorter links (length dicts) 0 links (Some n) few (omega arith))

  pub level_lost : (n links : ℕ) (l : Level) → links ≤ length dicts → level_of dicts n ≡ Some l → links ≤ l.links → None ≡ nearest dicts links 0 (Some n)
  level_lost n links l few e above =
      lost links l (nat_lt l.links links) above refl
      ∙ ap (within links) (sym e)
      ∙ sym (shorter links (length dicts) 0 links (Some n) few (omega arith))

  pub level_none : (n links : ℕ) → links ≤ length dicts → level_of dicts n ≡ None → None ≡ nearest dicts links 0 (Some n)
  level_none n links few e = ap (within links) (sym e) ∙ sym (shorter links (length dicts) 0 links (Some n) few (omega arith))

-- 2. The members of a line: those of its levels

module _ (list : DefsTerm) where
  abbrev pub line_members : ℕ → Option ℕ → List DeclaredMember
  line_members links at = flat_map (own_members list) (line_within list.dicts links at)

  declared_none : (n : ℕ) (members : List MemberTerm) → has_any members ≡ false → by_name (declared_from n 0 members) ≡ []
  declared_none n [] e = refl
  declared_none n (m ∷ members) e = absurd (cc)

  -- a dictionary that declares no member
  own_none : (n : ℕ) → declares list.dicts n ≡ false → own_members list n ≡ []
  own_none n none = by (slice_get list.dicts n) none
    where
      by : (d : Option DictTerm) → option_map_or (λ (x : DictTerm). has_any x.members) d false ≡ false → by_name (option_map_or (λ (x : DictTerm). declared_from n 0 x.members) d []) ≡ []
      by None e = refl
      by (Some d) e = declared_none n d.members e

  -- the members of a line, and of its first dictionary
  line_more : (links n : ℕ) → line_members (suc links) (Some n) ≡ line_members links (parent_in list.dicts n) ++ own_members list n
  line_more links n = flat_map-append (own_members list) (line_within list.dicts links (parent_in list.dicts n)) (n ∷ []) ∙ ap (λ (ms : List DeclaredMember). line_members links (parent_in list.dicts n) ++ ms) (append-nil (own_members list n))

  -- where no dictionary of a line declares a member
  pub none_left : (k links : ℕ) (at : Option ℕ) → nearest list.dicts k links at ≡ None → line_members k at ≡ []
  none_left zero links at e = refl
  none_left (suc k) links None e = refl
  none_left (suc k) links (Some n) e = by (declares list.dicts n) refl e (none_left k (links + 1) (parent_in list.dicts n))
    where
      by : (b : Bool) → declares list.dicts n ≡ b → (if b then Some (record { dictionary = n; links = links }) else nearest list.dicts k (links + 1) (parent_in list.dicts n)) ≡ None
          → (nearest list.dicts k (links + 1) (parent_in list.dicts n) ≡ None → line_members k (parent_in list.dicts n) ≡ []) → line_members (suc k) (Some n) ≡ []
      by true d e later = absurd (cc)
      by false d e later = line_more k n ∙ ap (λ (ms : List DeclaredMember). ms ++ own_members list n) (later e) ∙ own_none n d

  -- the nearest level of a line: its members come after those of the line of its parent
  pub record IsLevelOf (k links : ℕ) (at : Option ℕ) (l : Level) : Type 0 where
    pub from : links ≤ l.links
    pub below : l.links < links + k
    pub members : line_members k at ≡ line_members (links + k - (l.links + 1)) (parent_in list.dicts l.dictionary) ++ own_members list l.dictionary

  pub to_level : (k links : ℕ) (at : Option ℕ) (l : Level) → nearest list.dicts k links at ≡ Some l → IsLevelOf k links at l
  to_level zero links at l e = absurd (cc)
  to_level (suc k) links None l e = absurd (cc)
  to_level (suc k) links (Some n) l e = by (declares list.dicts n) refl e (to_level k (links + 1) (parent_in list.dicts n) l)
    where
      found : Some (record { dictionary = n; links = links }) ≡ Some l → IsLevelOf (suc k) links (Some n) l
      found e =
          let same : record { dictionary = n; links = links } ≡ l = cc in
          let rest : links + suc k - (links + 1) ≡ k = omega arith in
          subst (λ (x : Level). IsLevelOf (suc k) links (Some n) x) same (record {
            from = omega arith;
            below = omega arith;
            members = line_more k n ∙ ap (λ (i : ℕ). line_members i (parent_in list.dicts n) ++ own_members list n) (sym rest);
          })

      passed : declares list.dicts n ≡ false → IsLevelOf k (links + 1) (parent_in list.dicts n) l → IsLevelOf (suc k) links (Some n) l
      passed none later =
          let rest : links + 1 + k - (l.links + 1) ≡ links + suc k - (l.links + 1) = omega arith in
          record {
            from = (let from = later.from in omega (arith, from));
            below = (let below = later.below in omega (arith, below));
            members =
                line_more k n ∙ ap (λ (ms : List DeclaredMember). line_members k (parent_in list.dicts n) ++ ms) (own_none n none) ∙ append-nil (line_members k (parent_in list.dicts n)) ∙ later.members
                ∙ ap (λ (i : ℕ). line_members i (parent_in list.dicts l.dictionary) ++ own_members list l.dictionary) rest;
          }

      by : (b : Bool) → declares list.dicts n ≡ b → (if b then Some (record { dictionary = n; links = links }) else nearest list.dicts k (links + 1) (parent_in list.dicts n)) ≡ Some l
          → (nearest list.dicts k (links + 1) (parent_in list.dicts n) ≡ Some l → IsLevelOf k (links + 1) (parent_in list.dicts n) l) → IsLevelOf (suc k) links (Some n) l
      by true d e later = found e
      by false d e later = passed d (later e)

  -- one level more is listed
  pub levels_more : (links : ℕ) (at : Option ℕ) (levels new : List ℕ) (l : Level) (all : List DeclaredMember) → nearest list.dicts links 0 at ≡ Some l → new ≡ levels ++ l.dictionary ∷ []
      → all ≡ line_members links at ++ flat_map (own_members list) (reverse levels) → all ≡ line_members (links - (l.links + 1)) (parent_in list.dicts l.dictionary) ++ flat_map (own_members list) (reverse new)
  levels_more links at levels new l all found pushed so =
      let is = to_level links 0 at l found in
      let rest : 0 + links - (l.links + 1) ≡ links - (l.links + 1) = omega arith in
      let others = flat_map (own_members list) (reverse levels) in
      so ∙ ap (λ (ms : List DeclaredMember). ms ++ others) (is.members ∙ ap (λ (i : ℕ). line_members i (parent_in list.dicts l.dictionary) ++ own_members list l.dictionary) rest)
      ∙ append_assoc (line_members (links - (l.links + 1)) (parent_in list.dicts l.dictionary)) (own_members list l.dictionary) others
      ∙ ap (λ (ms : List DeclaredMember). line_members (links - (l.links + 1)) (parent_in list.dicts l.dictionary) ++ ms) (sym (ap (flat_map (own_members list)) (ap reverse pushed ∙ reverse-append levels (l.dictionary ∷ []))))

  pub from_first : (levels : List ℕ) → members_from list 0 levels ≡ flat_map (own_members list) levels
  from_first [] = refl
  from_first (level ∷ levels) = refl

  -- 3. The next member

  abbrev IsDeclared : ℕ → DeclaredMember → Type 0
  IsDeclared n m = m ≡ declared_at list (record { dictionary = n; number = m.number })

  all_declared_from : (n number : ℕ) (d : DictTerm) (members : List MemberTerm) → slice_get list.dicts n ≡ Some d → ((k : ℕ) (m : MemberTerm) → slice_get members k ≡ Some m → slice_get d.members (number + k) ≡ Some m)
      → AllByRecursion (IsDeclared n) (declared_from n number members)
  all_declared_from n number d [] there each = tt
  all_declared_from n number d (m ∷ members) there each =
      let here : number + 0 ≡ number = omega arith in
      let found : slice_get d.members number ≡ Some m = subst (λ (k : ℕ). slice_get d.members k ≡ Some m) here (each 0 m refl) in (
        sym (ap (λ (o : Option DictTerm). record { dictionary = n; number = number; member = option_map_or (λ (x : MemberTerm). x) (option_and_then (λ (x : DictTerm). slice_get x.members number) o) no_member }) there
            ∙ ap (λ (o : Option MemberTerm). record { dictionary = n; number = number; member = option_map_or (λ (x : MemberTerm). x) o no_member }) found),
        all_declared_from n (number + 1) d members there (λ k x e. let next : number + suc k ≡ number + 1 + k = omega arith in subst (λ (i : ℕ). slice_get d.members i ≡ Some x) next (each (suc k) x e)),
      )

  all_declared : (n : ℕ) → AllByRecursion (IsDeclared n) (own_members list n)
  all_declared n = all_by_name (IsDeclared n) (declared_by list.dicts n) (by (slice_get list.dicts n) refl)
    where
      by : (d : Option DictTerm) → slice_get list.dicts n ≡ d → AllByRecursion (IsDeclared n) (option_map_or (λ (x : DictTerm). declared_from n 0 x.members) d [])
      by None e = tt
      by (Some d) e = all_declared_from n 0 d d.members e (λ k m there. let same : k ≡ 0 + k = omega arith in subst (λ (i : ℕ). slice_get d.members i ≡ Some m) same there)

  -- the numbers of members tell them
  told : (n : ℕ) (members : List DeclaredMember) (place number : ℕ) → AllByRecursion (IsDeclared n) members → slice_get (map (λ (m : DeclaredMember). m.number) members) place ≡ Some number
      → drop place members ≡ declared_at list (record { dictionary = n; number = number }) ∷ drop (place + 1) members
  told n [] place number all e = absurd (cc)
  told n (m ∷ members) zero number all e =
      let same : m.number ≡ number = cc in
      ap (λ (x : DeclaredMember). x ∷ members) (all.0 ∙ ap (λ (k : ℕ). declared_at list (record { dictionary = n; number = k })) same)
  told n (m ∷ members) (suc place) number all e =
      let next : suc (place + 1) ≡ suc place + 1 = omega arith in
      told n members place number all.1 e ∙ ap (λ (k : ℕ). declared_at list (record { dictionary = n; number = number }) ∷ drop k (m ∷ members)) next

  gone : (members : List DeclaredMember) (place : ℕ) → slice_get (map (λ (m : DeclaredMember). m.number) members) place ≡ None → drop place members ≡ []
  gone [] zero e = refl
  gone [] (suc place) e = refl
  gone (m ∷ members) zero e = absurd (cc)
  gone (m ∷ members) (suc place) e = gone members place e

  -- the first of what is left
  pub next_member : (levels : List ℕ) (place level number : ℕ) → slice_get levels 0 ≡ Some level → slice_get (own_order list.dicts level) place ≡ Some number
      → members_from list place levels ≡ declared_at list (record { dictionary = level; number = number }) ∷ members_from list (place + 1) levels
  next_member [] place level number e f = absurd (cc)
  next_member (l ∷ levels) place level number e f =
      let same : l ≡ level = cc in
      subst (λ (n : ℕ). members_from list place (n ∷ levels) ≡ declared_at list (record { dictionary = level; number = number }) ∷ members_from list (place + 1) (n ∷ levels)) (sym same)
      (ap (λ (ms : List DeclaredMember). ms ++ flat_map (own_members list) levels) (told level (own_members list level) place number (all_declared level) f))

  -- no level is left
  pub nothing_left : (levels : List ℕ) (place : ℕ) → slice_get levels 0 ≡ None → members_from list place levels ≡ []
  nothing_left [] place e = refl
  nothing_left (l ∷ levels) place e = absurd (cc)

  -- a level is done, and the members of the others are left
  pub next_level : (old new : List ℕ) (place level : ℕ) → slice_get (reverse old) 0 ≡ Some level → old ≡ new ++ level ∷ [] → slice_get (own_order list.dicts level) place ≡ None
      → members_from list place (reverse old) ≡ members_from list 0 (reverse new)
  next_level old new place level first popped none =
      ap (members_from list place) (ap reverse popped ∙ reverse-append new (level ∷ []))
      ∙ ap (λ (ms : List DeclaredMember). ms ++ flat_map (own_members list) (reverse new)) (gone (own_members list level) place none)
      ∙ sym (from_first (reverse new))

-- where a list has a last item, that is what was taken
pub taken_last : (old new : List ℕ) (level : ℕ) (r : Option ℕ) → slice_get (reverse old) 0 ≡ Some level → IfSome r (λ (x : ℕ). old ≡ new ++ x ∷ []) → IfNone r (old ≡ []) → old ≡ new ++ level ∷ []
taken_last old new level None first some none = absurd (let e = sym (ap (λ (xs : List ℕ). slice_get (reverse xs) 0) none) ∙ first in cc)
taken_last old new level (Some x) first some none =
    let same : x ≡ level = (let e = sym (ap (λ (xs : List ℕ). slice_get xs 0) (ap reverse some ∙ reverse-append new (x ∷ []))) ∙ first in cc) in
    some ∙ ap (λ (y : ℕ). new ++ y ∷ []) same
