-- The numbers of members, sorted by the names of the members, are the numbers of the members by name.
use Rattle.std.proofs.Common.{◌≡◌, ℕ, zero, suc, ◌+◌, Bool, true, false, cond, if◌then◌else◌, List, [], ◌∷◌, ◌++◌, length, map, Some, refl, sym, ap, subst, ◌∙◌, arith}
use Rattle.std.specs.Prelude.{slice_get, not, ◌&&◌}
use Rattle.std.specs.Cmp.{IsStrictWeakOrder}
use Rattle.std.specs.Cmp.Lexicographic.{slice_cmp}
use Rattle.std.specs.List.{filter, AllByRecursion}
use Rattle.std.specs.List.Sorted.{IsSortedBy, IsStableBy, ties}
use Rattle.std.specs.Ordering.{is_gt, is_lt, nat_cmp, ordering_reverse}
use Rattle.std.specs.declared.cmp.Ordering.{Ordering}
use Rattle.std.specs.declared.cmp.Ordering.TheVariants.{Less, Equal, Greater}
use Rattle.std.proofs.lemmas.Cmp.{nat_list_cmp_total}
use Rattle.std.proofs.lemmas.List.Sorted.{ranks_by}
use Rattle.widl_idl.specs.DefinitionTerms.{MemberTerm}
use Rattle.widl_tables.specs.MemberOrder.{DeclaredMember, declared_from, comes_after, with_member, by_name}
use Rattle.widl_tables.specs.MemberTables.{name_in, numbers_by_name, numbers_from}
use Rattle.widl_tables.proofs.NameOrder.{Before, Rises, rises, all_by_name}
use Rattle.widl_tables.proofs.StableSorts.{First, Ascends, ascends, one_order}

abbrev number_of : DeclaredMember → ℕ
number_of m = m.number

-- 1. The numbers of members

pub numbers_more : (n count : ℕ) → numbers_from n (count + 1) ≡ numbers_from n count ++ (n + count) ∷ []
numbers_more n zero = ap (λ (k : ℕ). k ∷ []) (omega arith)
numbers_more n (suc count) =
    let next : suc count + 1 ≡ suc (count + 1) = omega arith in
    ap (numbers_from n) next ∙ ap (λ (ns : List ℕ). n ∷ ns) (numbers_more (n + 1) count ∙ ap (λ (k : ℕ). numbers_from (n + 1) count ++ k ∷ []) (omega arith))

numbers_declared : (n number : ℕ) (members : List MemberTerm) → map number_of (declared_from n number members) ≡ numbers_from number (length members)
numbers_declared n number [] = refl
numbers_declared n number (m ∷ members) = ap (λ (ns : List ℕ). number ∷ ns) (numbers_declared n (number + 1) members)

-- 2. Each has the name of its number

module _ (all : List MemberTerm) where
  abbrev pub lower : ℕ → ℕ → Bool
  lower a b = is_lt (slice_cmp nat_cmp (name_in all a) (name_in all b))

  pub lower_order : IsStrictWeakOrder lower
  lower_order = ranks_by nat_list_cmp_total (name_in all)

  abbrev Agrees : DeclaredMember → Type 0
  Agrees m = name_in all m.number ≡ m.member.name

  agree_from : (n number : ℕ) (members : List MemberTerm) → ((k : ℕ) (m : MemberTerm) → slice_get members k ≡ Some m → name_in all (number + k) ≡ m.name) → AllByRecursion Agrees (declared_from n number members)
  agree_from n number [] named = tt
  agree_from n number (m ∷ members) named =
      let here : number + 0 ≡ number = omega arith in
      (subst (λ (k : ℕ). name_in all k ≡ m.name) here (named 0 m refl), agree_from n (number + 1) members (λ k x e. let next : number + suc k ≡ number + 1 + k = omega arith in subst (λ (i : ℕ). name_in all i ≡ x.name) next (named (suc k) x e)))

  named_here : (k : ℕ) (m : MemberTerm) → slice_get all k ≡ Some m → name_in all (0 + k) ≡ m.name
  named_here k m e = let same : 0 + k ≡ k = omega arith in ap (name_in all) same ∙ (let f = e in cc)

  agree : (n : ℕ) → AllByRecursion Agrees (declared_from n 0 all)
  agree n = agree_from n 0 all named_here

  -- 3. In order

  first_number : (x : DeclaredMember) (members : List DeclaredMember) → Agrees x → AllByRecursion Agrees members → Before x members → First lower x.number (map number_of members)
  first_number x [] a named before = tt
  first_number x (y ∷ members) a named before = ap (λ (name : List ℕ). is_lt (slice_cmp nat_cmp name (name_in all x.number))) named.0 ∙ ap (λ (name : List ℕ). is_lt (slice_cmp nat_cmp y.member.name name)) a ∙ before

  numbers_ascend : (members : List DeclaredMember) → AllByRecursion Agrees members → Rises members → Ascends lower (map number_of members)
  numbers_ascend [] named up = tt
  numbers_ascend (x ∷ members) named up = (first_number x members named.0 named.1 up.0, numbers_ascend members named.1 up.1)

  -- 4. Those that tie stay in place

  -- the name ties with that of a number
  abbrev alike : ℕ → DeclaredMember → Bool
  alike x m = not (is_lt (slice_cmp nat_cmp (name_in all x) m.member.name)) && not (is_lt (slice_cmp nat_cmp m.member.name (name_in all x)))

  alike_number : (x : ℕ) (m : DeclaredMember) → Agrees m → ties lower x m.number ≡ alike x m
  alike_number x m a = ap (λ (name : List ℕ). not (is_lt (slice_cmp nat_cmp (name_in all x) name)) && not (is_lt (slice_cmp nat_cmp name (name_in all x)))) a

  filtered : (x : ℕ) (members : List DeclaredMember) → AllByRecursion Agrees members → filter (ties lower x) (map number_of members) ≡ map number_of (filter (alike x) members)
  filtered x [] named = refl
  filtered x (m ∷ members) named = ap (λ (b : Bool). cond b (m.number ∷ filter (ties lower x) (map number_of members)) (filter (ties lower x) (map number_of members))) (alike_number x m named.0) ∙ by (alike x m) (filtered x members named.1)
    where
      by : (b : Bool) → filter (ties lower x) (map number_of members) ≡ map number_of (filter (alike x) members)
          → cond b (m.number ∷ filter (ties lower x) (map number_of members)) (filter (ties lower x) (map number_of members)) ≡ map number_of (cond b (m ∷ filter (alike x) members) (filter (alike x) members))
      by true e = ap (λ (ns : List ℕ). m.number ∷ ns) e
      by false e = e

  both_not : (a b : Bool) → (not a && not b) ≡ true → (a ≡ false) × (b ≡ false)
  both_not true b e = absurd (cc)
  both_not false true e = absurd (cc)
  both_not false false e = (refl, refl)

  not_gt : (r : Ordering) → is_lt (ordering_reverse r) ≡ false → is_gt r ≡ false
  not_gt Less e = refl
  not_gt Equal e = refl
  not_gt Greater e = absurd (cc)

  -- a member that ties with another one doesn't come after it
  not_after : (x : ℕ) (m other : DeclaredMember) → alike x m ≡ true → alike x other ≡ true → comes_after m other ≡ false
  not_after x m other a b =
      let first = both_not (is_lt (slice_cmp nat_cmp (name_in all x) m.member.name)) (is_lt (slice_cmp nat_cmp m.member.name (name_in all x))) a in
      let second = both_not (is_lt (slice_cmp nat_cmp (name_in all x) other.member.name)) (is_lt (slice_cmp nat_cmp other.member.name (name_in all x))) b in
      let by_names : IsStrictWeakOrder (λ (p q : List ℕ). is_lt (slice_cmp nat_cmp p q)) = ranks_by nat_list_cmp_total (λ (name : List ℕ). name) in
      not_gt (slice_cmp nat_cmp m.member.name other.member.name)
      (subst (λ (r : Ordering). is_lt r ≡ false) (nat_list_cmp_total.antisymm other.member.name m.member.name) (by_names.chain other.member.name (name_in all x) m.member.name second.1 first.0))

  swap : (x : ℕ) (a b : Bool) (m other : DeclaredMember) (members : List DeclaredMember) → alike x m ≡ a → alike x other ≡ b → comes_after m other ≡ true
      → cond b (other ∷ cond a (m ∷ filter (alike x) members) (filter (alike x) members)) (cond a (m ∷ filter (alike x) members) (filter (alike x) members))
      ≡ cond a (m ∷ cond b (other ∷ filter (alike x) members) (filter (alike x) members)) (cond b (other ∷ filter (alike x) members) (filter (alike x) members))
  swap x true true m other members e f after = absurd (let none = not_after x m other e f in cc)
  swap x true false m other members e f after = refl
  swap x false true m other members e f after = refl
  swap x false false m other members e f after = refl

  same_with : (x : ℕ) (m : DeclaredMember) (members : List DeclaredMember) → filter (alike x) (with_member m members) ≡ filter (alike x) (m ∷ members)
  same_with x m [] = refl
  same_with x m (other ∷ members) = by (comes_after m other) refl (same_with x m members)
    where
      by : (b : Bool) → comes_after m other ≡ b → filter (alike x) (with_member m members) ≡ filter (alike x) (m ∷ members)
          → filter (alike x) (if b then other ∷ with_member m members else m ∷ other ∷ members) ≡ filter (alike x) (m ∷ other ∷ members)
      by true e later =
          ap (λ (ms : List DeclaredMember). cond (alike x other) (other ∷ ms) ms) later
          ∙ swap x (alike x m) (alike x other) m other members refl refl e
      by false e later = refl

  same_by_name : (x : ℕ) (members : List DeclaredMember) → filter (alike x) (by_name members) ≡ filter (alike x) members
  same_by_name x [] = refl
  same_by_name x (m ∷ members) = same_with x m (by_name members) ∙ ap (λ (ms : List DeclaredMember). cond (alike x m) (m ∷ ms) ms) (same_by_name x members)

  -- 5. A stable sort of the numbers

  pub sorted_numbers : (n : ℕ) (new : List ℕ) → IsSortedBy lower new → IsStableBy lower (numbers_from 0 (length all)) new → new ≡ numbers_by_name (declared_from n 0 all)
  sorted_numbers n new up stable =
      let ds = declared_from n 0 all in
      let agreeing = agree n in
      let named = all_by_name Agrees ds agreeing in
      one_order lower lower_order new (map number_of (by_name ds)) (ascends lower new up) (numbers_ascend (by_name ds) named (rises ds))
      (λ x. stable x ∙ ap (filter (ties lower x)) (sym (numbers_declared n 0 all)) ∙ filtered x ds agreeing ∙ ap (map number_of) (sym (same_by_name x ds)) ∙ sym (filtered x (by_name ds) named))
