-- What the limit leaves of depths, and what the depth of a type takes from the names in it.
use Rattle.std.proofs.Common.{◌≡◌, inl, inr, ℕ, ◌+◌, ◌<◌, ◌≤◌, ◌++◌, min, max, zero, suc, List, [], ◌∷◌, length, take, get_or, Option, None, Some, arith, refl, sym, ap, ◌∙◌}
use Rattle.std.specs.List.{Contains}
use Rattle.std.proofs.lemmas.List.{take_more, take_all}
use Rattle.std.proofs.lemmas.List.Elements.{Contains-append_left, Contains-append_right, Contains-append_cases}
use Rattle.widl_idl.specs.declared.tree.types.AnnotatedType.{AnnotatedType}
use Rattle.widl_idl.specs.Nesting.{deeper, one_deeper, form_depth, type_depth, annotated_depth, union_depth, meant_depth, form_names, type_names, annotated_names, union_names}
use Rattle.widl_idl.specs.PlainTypes.{PlainName, PlainForm, PlainType, PlainAnnotated, PlainMembers, PlainNamed, PlainContainer, PlainRecord, PlainPromise, PlainUnion, plain_type, plain_annotated, no_plain, more_plain, annotated_of, union_of}
use Rattle.widl_idl.specs.PlainTrees.{PlainKind, PlainTypedef, TypedefDefinition}
use Rattle.widl_merge.specs.Depths.{capped}

pub capped_twice : (d : Option ℕ) → capped (capped d) ≡ capped d
capped_twice None = refl
capped_twice (Some n) = let e : min 17 (min 17 n) ≡ min 17 n = omega arith in ap Some e

pub capped_one_deeper : (d : Option ℕ) → capped (one_deeper (capped d)) ≡ capped (one_deeper d)
capped_one_deeper None = refl
capped_one_deeper (Some n) = let e : min 17 (min 17 n + 1) ≡ min 17 (n + 1) = omega arith in ap Some e

pub capped_deeper : (a b : Option ℕ) → capped (deeper a b) ≡ deeper (capped a) (capped b)
capped_deeper None b = refl
capped_deeper (Some n) None = refl
capped_deeper (Some n) (Some m) = let e : min 17 (max n m) ≡ max (min 17 n) (min 17 m) = omega arith in ap Some e

one_same : (a b : Option ℕ) → capped a ≡ capped b → capped (one_deeper a) ≡ capped (one_deeper b)
one_same a b e = sym (capped_one_deeper a) ∙ ap (λ d. capped (one_deeper d)) e ∙ capped_one_deeper b

both_same : (a b c d : Option ℕ) → capped a ≡ capped c → capped b ≡ capped d → capped (deeper a b) ≡ capped (deeper c d)
both_same a b c d e f = capped_deeper a b ∙ ap (λ x. deeper x (capped b)) e ∙ ap (deeper (capped c)) f ∙ sym (capped_deeper c d)

-- names whose depths are the same up to the limit give types whose depths are
module _ (named other : PlainName → Option ℕ) where
  abbrev Agree : List PlainName → Type 0
  Agree names = (name : PlainName) → Contains names name → capped (named name) ≡ capped (other name)

  mutual
    form_same : (f : PlainForm) → Agree (form_names f) → capped (form_depth named f) ≡ capped (form_depth other f)
    form_same (PlainNamed name) same = same name (0, omega arith, refl)
    form_same (PlainContainer container inner) same = one_same (annotated_depth named inner) (annotated_depth other inner) (annotated_same inner same)
    form_same (PlainRecord key inner) same = one_same (annotated_depth named inner) (annotated_depth other inner) (annotated_same inner same)
    form_same (PlainPromise inner) same = one_same (type_depth named inner) (type_depth other inner) (type_same inner same)
    form_same (PlainUnion members) same = one_same (union_depth named members) (union_depth other members) (union_same members same)
    form_same f same = refl

    pub type_same : (t : PlainType) → Agree (type_names t) → capped (type_depth named t) ≡ capped (type_depth other t)
    type_same (plain_type at form question) same = form_same form same

    pub annotated_same : (t : PlainAnnotated) → Agree (annotated_names t) → capped (annotated_depth named t) ≡ capped (annotated_depth other t)
    annotated_same (plain_annotated at attributes inner) same = type_same inner same

    union_same : (members : PlainMembers) → Agree (union_names members) → capped (union_depth named members) ≡ capped (union_depth other members)
    union_same no_plain same = refl
    union_same (more_plain member more) same = both_same (annotated_depth named member) (union_depth named more) (annotated_depth other member) (union_depth other more)
        (annotated_same member (λ name c. same name (Contains-append_left (annotated_names member) (union_names more) name c)))
        (union_same more (λ name c. same name (Contains-append_right (annotated_names member) (union_names more) name c)))

deeper_none : (a : Option ℕ) → deeper a None ≡ None
deeper_none None = refl
deeper_none (Some n) = refl

-- the only item of a list of one
pub only_item : {X : Type 0} (x y : X) → Contains (x ∷ []) y → x ≡ y
only_item x y c = by_place c.0 c.1 c.2
  where
    by_place : (k : ℕ) → k < length (x ∷ []) → get_or (x ∷ []) k y ≡ y → x ≡ y
    by_place zero below e = e
    by_place (suc k) below e = absurd (omega arith)

-- a name of no known depth leaves a type that has it without one
module _ (named : PlainName → Option ℕ) (name : PlainName) (none : named name ≡ None) where
  mutual
    form_unknown : (f : PlainForm) → Contains (form_names f) name → form_depth named f ≡ None
    form_unknown (PlainNamed n) c = ap named (only_item n name c) ∙ none
    form_unknown (PlainContainer container inner) c = ap one_deeper (annotated_unknown inner c)
    form_unknown (PlainRecord key inner) c = ap one_deeper (annotated_unknown inner c)
    form_unknown (PlainPromise inner) c = ap one_deeper (type_unknown inner c)
    form_unknown (PlainUnion members) c = ap one_deeper (union_unknown members c)
    form_unknown f c = absurd (let l = c.1 in omega arith)

    type_unknown : (t : PlainType) → Contains (type_names t) name → type_depth named t ≡ None
    type_unknown (plain_type at form question) c = form_unknown form c

    pub annotated_unknown : (t : PlainAnnotated) → Contains (annotated_names t) name → annotated_depth named t ≡ None
    annotated_unknown (plain_annotated at attributes inner) c = type_unknown inner c

    union_unknown : (members : PlainMembers) → Contains (union_names members) name → union_depth named members ≡ None
    union_unknown no_plain c = absurd (let l = c.1 in omega arith)
    union_unknown (more_plain member more) c = elim (Contains-append_cases (annotated_names member) (union_names more) name c) [ inl l ↦ ap (λ d. deeper d (union_depth named more)) (annotated_unknown member l) | inr r ↦ ap (deeper (annotated_depth named member)) (union_unknown more r) ∙ deeper_none (annotated_depth named member) ]

-- what a name means has the same depth up to the limit where a typedef's type has
pub meant_same : (f g : PlainAnnotated → Option ℕ) (k : Option PlainKind) → ((t : PlainTypedef) → k ≡ Some (TypedefDefinition t) → capped (f t.ty) ≡ capped (g t.ty)) → capped (meant_depth f k) ≡ capped (meant_depth g k)
meant_same f g None same = refl
meant_same f g (Some (TypedefDefinition t)) same = same t refl
meant_same f g (Some kind) same = refl

deeper_swap : (a : Option ℕ) → deeper a (Some 0) ≡ deeper (Some 0) a
deeper_swap None = refl
deeper_swap (Some n) = let e : max n 0 ≡ max 0 n = omega arith in ap Some e

deeper_assoc : (a b c : Option ℕ) → deeper a (deeper b c) ≡ deeper (deeper a b) c
deeper_assoc None b c = refl
deeper_assoc (Some n) None c = refl
deeper_assoc (Some n) (Some m) None = refl
deeper_assoc (Some n) (Some m) (Some k) = let e : max n (max m k) ≡ max (max n m) k = omega arith in ap Some e

module _ (named : PlainName → Option ℕ) where
  union_push : (members : List AnnotatedType) (m : AnnotatedType) → union_depth named (union_of (members ++ m ∷ [])) ≡ deeper (union_depth named (union_of members)) (annotated_depth named (annotated_of m))
  union_push [] m = deeper_swap (annotated_depth named (annotated_of m))
  union_push (first ∷ members) m = ap (deeper (annotated_depth named (annotated_of first))) (union_push members m) ∙ deeper_assoc (annotated_depth named (annotated_of first)) (union_depth named (union_of members)) (annotated_depth named (annotated_of m))

  -- the depth of a union's members with one more, as a loop over them has it
  pub union_more : (members : List AnnotatedType) (i : ℕ) (m : AnnotatedType) (old here new : Option ℕ) → i < length members → m ≡ get_or members i m → new ≡ deeper old here → here ≡ capped (annotated_depth named (annotated_of m)) → old ≡ capped (union_depth named (union_of (take i members))) → new ≡ capped (union_depth named (union_of (take (i + 1) members)))
  union_more members i m old here new below is so found was =
      so ∙ ap (deeper old) found ∙ ap (λ d. deeper d (capped (annotated_depth named (annotated_of m)))) was
      ∙ sym (capped_deeper (union_depth named (union_of (take i members))) (annotated_depth named (annotated_of m)))
      ∙ ap capped (sym (union_push (take i members) m)) ∙ ap (λ l. capped (union_depth named (union_of l))) (sym (take_more members i m below ∙ ap (λ y. take i members ++ y ∷ []) (sym is)))

  pub union_all : (members : List AnnotatedType) (i : ℕ) (new : Option ℕ) → length members ≤ i → new ≡ capped (union_depth named (union_of (take i members))) → new ≡ capped (union_depth named (union_of members))
  union_all members i new past so = so ∙ ap (λ l. capped (union_depth named (union_of l))) (take_all i members past)
