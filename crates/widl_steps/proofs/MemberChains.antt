-- The dictionaries in the types of a dictionary's members, inherited ones included, are held in it.
use Rattle.std.proofs.Common.{◌≡◌, ℕ, zero, suc, ◌+◌, List, [], ◌∷◌, ◌++◌, length, Option, None, Some, refl, sym, subst, arith}
use Rattle.std.specs.Prelude.{Contains, flat_map, slice_get}
use Rattle.std.specs.List.{AllByRecursion}
use Rattle.std.specs.Option.{option_map_or}
use Rattle.std.proofs.lemmas.List.Elements.{Contains-append_left, Contains-append_right}
use mathlib.Core.Logic.{inl, inr}
use Rattle.widl_graph.specs.Reaching.{Reaches, one}
use Rattle.widl_graph.proofs.ParentSteps.{up_step}
use Rattle.widl_graph.proofs.Reach.{after_step}
use Rattle.widl_idl.specs.DefinitionTerms.{DefsTerm, DictTerm, MemberTerm}
use Rattle.widl_overload.specs.rules.Dictionaries.{HoldsIn, IsOfLine, dictionaries_in, dictionary_parents}
use Rattle.widl_tables.specs.MemberOrder.{DeclaredMember, parent_in, line_within, line_of, declared_from, declared_by, by_name, members_in_order}
use Rattle.widl_tables.proofs.NameOrder.{all_by_name}

-- 1. Generic

pub all_weaker : {X : Type 0} {P Q : X → Type 0} → ((x : X) → P x → Q x) → (xs : List X) → AllByRecursion P xs → AllByRecursion Q xs
all_weaker f [] all = tt
all_weaker f (x ∷ xs) all = (f x all.0, all_weaker f xs all.1)

all_joined : {X : Type 0} (P : X → Type 0) (xs ys : List X) → AllByRecursion P xs → AllByRecursion P ys → AllByRecursion P (xs ++ ys)
all_joined P [] ys x y = y
all_joined P (x ∷ xs) ys a y = (a.0, all_joined P xs ys a.1 y)

all_flat : {X Y : Type 0} (P : Y → Type 0) (f : X → List Y) (xs : List X) → AllByRecursion (λ (x : X). AllByRecursion P (f x)) xs → AllByRecursion P (flat_map f xs)
all_flat P f [] all = tt
all_flat P f (x ∷ xs) all = all_joined P (f x) (flat_map f xs) all.0 (all_flat P f xs all.1)

-- 2. A line has the dictionary itself and those from which it inherits

module _ (dicts : List DictTerm) where
  abbrev pub HeldBy : ℕ → DeclaredMember → Type 0
  HeldBy n m = (k : ℕ) → Contains (dictionaries_in m.member.ty) k → HoldsIn dicts n k

  -- the members that one dictionary of the line declares
  all_declared_from : (n level number : ℕ) (members : List MemberTerm) → ((k : ℕ) → Contains (flat_map (λ (m : MemberTerm). dictionaries_in m.ty) members) k → HoldsIn dicts n k) → AllByRecursion (HeldBy n) (declared_from level number members)
  all_declared_from n level number [] inside = tt
  all_declared_from n level number (m ∷ members) inside =
      let rest : List ℕ = flat_map (λ (m : MemberTerm). dictionaries_in m.ty) members in (
        λ k there. inside k (Contains-append_left (dictionaries_in m.ty) rest k there),
        all_declared_from n level (number + 1) members (λ k there. inside k (Contains-append_right (dictionaries_in m.ty) rest k there)),
      )

  all_declared : (n level : ℕ) → IsOfLine dicts n level → AllByRecursion (HeldBy n) (declared_by dicts level)
  all_declared n level of_line = by (slice_get dicts level) refl
    where
      by : (d : Option DictTerm) → slice_get dicts level ≡ d → AllByRecursion (HeldBy n) (declared_by dicts level)
      by None e = subst (λ (d : Option DictTerm). AllByRecursion (HeldBy n) (option_map_or (λ (x : DictTerm). declared_from level 0 x.members) d [])) (sym e) tt
      by (Some d) e = subst (λ (d : Option DictTerm). AllByRecursion (HeldBy n) (option_map_or (λ (x : DictTerm). declared_from level 0 x.members) d [])) (sym e) (all_declared_from n level 0 d.members (λ k inside. record { declaring = level; dictionary = d; of_line = of_line; is = e; inside = inside }))

  then_parent : (n m p : ℕ) → IsOfLine dicts n m → parent_in dicts m ≡ Some p → IsOfLine dicts n p
  then_parent n m p (inl same) e = inr (subst (λ (x : ℕ). Reaches (dictionary_parents dicts) x p) (sym same) (one (up_step (λ (d : DictTerm). d.parent) dicts m p e)))
  then_parent n m p (inr inherits) e = inr (after_step inherits (up_step (λ (d : DictTerm). d.parent) dicts m p e))

  all_of_line : (links n : ℕ) (m : Option ℕ) → ((x : ℕ) → m ≡ Some x → IsOfLine dicts n x) → AllByRecursion (IsOfLine dicts n) (line_within dicts links m)
  all_of_line zero n m of_line = tt
  all_of_line (suc links) n None of_line = tt
  all_of_line (suc links) n (Some m) of_line =
      all_joined (IsOfLine dicts n) (line_within dicts links (parent_in dicts m)) (m ∷ []) (all_of_line links n (parent_in dicts m) (λ p e. then_parent n m p (of_line m refl) e)) (of_line m refl, tt)

  itself_of_line : (n x : ℕ) → ◌≡◌ {A = Option ℕ} (Some n) (Some x) → IsOfLine dicts n x
  itself_of_line n x e = inl (cc)

-- 3. All members

pub all_held : (list : DefsTerm) (n : ℕ) → AllByRecursion (HeldBy list.dicts n) (members_in_order list n)
all_held list n =
    all_flat (HeldBy list.dicts n) (λ (level : ℕ). by_name (declared_by list.dicts level)) (line_of list.dicts n)
    (all_weaker (λ level of_line. all_by_name (HeldBy list.dicts n) (declared_by list.dicts level) (all_declared list.dicts n level of_line)) (line_of list.dicts n)
    (all_of_line list.dicts (length list.dicts) n (Some n) (itself_of_line list.dicts n)))
