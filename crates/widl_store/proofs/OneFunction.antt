-- Each operation name has exactly one function among the first objects.
use Rattle.std.proofs.Common.{◌≡◌, ℕ, zero, suc, ◌+◌, ◌<◌, Bool, true, false, nat_eq, List, [], ◌∷◌, ◌++◌, Option, None, Some, refl, sym, ap, ◌∙◌, arith, map, filter, if◌then◌else◌, eqb-true, eq-eqb}
use Rattle.std.specs.Prelude.{◌&&◌, slice_get}
use Rattle.std.proofs.lemmas.List.{map-append}
use Rattle.widl_idl.specs.DefinitionTerms.{SpaceTerm, OpNameTerm}
use Rattle.widl_store.specs.Intrinsics.{intrinsics}
use Rattle.widl_store.specs.Objects.{Obj}
use Rattle.widl_store.specs.OperationFunctions.{is_function_of, HaveOneFunctionEach, AreNamed}
use Rattle.widl_store.specs.Plans.{Plan, object_of}
use Rattle.widl_store.specs.Realm.{operation_function, functions_from, namespace_object, namespace_plans, namespaces_from, after, realm_plans, realm_over}
use Rattle.widl_store.proofs.Creation.{filter_append}

-- the functions of these plans
abbrev pub functions_of : ℕ → ℕ → List Plan → List Obj
functions_of space place plans = filter (is_function_of space place) (map object_of plans)

pub apart : (a b : ℕ) → (a ≡ b → ⊥) → nat_eq a b ≡ false
apart a b other = go (nat_eq a b) refl
  where
    go : (t : Bool) → nat_eq a b ≡ t → t ≡ false
    go true is = absurd (other (eqb-true a b is))
    go false is = refl

pub of_both : (space place : ℕ) (xs ys : List Plan) → functions_of space place (xs ++ ys) ≡ functions_of space place xs ++ functions_of space place ys
of_both space place xs ys = ap (filter (is_function_of space place)) (map-append object_of xs ys) ∙ filter_append (is_function_of space place) (map object_of xs) (map object_of ys)

-- in another namespace there is none
pub none_elsewhere : (space place other first : ℕ) (ops : List OpNameTerm) → (space ≡ other → ⊥) → functions_of space place (functions_from other first ops) ≡ []
none_elsewhere space place other first [] apart_from = refl
none_elsewhere space place other first (op ∷ ops) apart_from =
    ap (λ b. if b && nat_eq place first then object_of (operation_function other first op) ∷ functions_of space place (functions_from other (first + 1) ops) else functions_of space place (functions_from other (first + 1) ops)) (apart space other apart_from)
    ∙ none_elsewhere space place other (first + 1) ops apart_from

-- of later names there is none
pub none_later : (space place first : ℕ) (ops : List OpNameTerm) → place < first → functions_of space place (functions_from space first ops) ≡ []
none_later space place first [] lt = refl
none_later space place first (op ∷ ops) lt =
    ap (λ b. if b && nat_eq place first then object_of (operation_function space first op) ∷ functions_of space place (functions_from space (first + 1) ops) else functions_of space place (functions_from space (first + 1) ops)) (eq-eqb space space refl)
    ∙ ap (λ b. if b then object_of (operation_function space first op) ∷ functions_of space place (functions_from space (first + 1) ops) else functions_of space place (functions_from space (first + 1) ops)) (apart place first (λ same. omega (arith, same, lt)))
    ∙ none_later space place (first + 1) ops (omega (arith, lt))

-- of the names of a namespace one has the place
pub one_here : (space place first k : ℕ) (ops : List OpNameTerm) (op : OpNameTerm) → first + k ≡ place → slice_get ops k ≡ Some op → functions_of space place (functions_from space first ops) ≡ object_of (operation_function space place op) ∷ []
one_here space place first k [] op sum at = absurd (let bad : None ≡ Some op = at in cc)
one_here space place first zero (o ∷ ops) op sum at =
    let same : o ≡ op = let f : Some o ≡ Some op = at in cc in
    let here : first ≡ place = omega (arith, sum) in
    ap (λ b. if b && nat_eq place first then object_of (operation_function space first o) ∷ functions_of space place (functions_from space (first + 1) ops) else functions_of space place (functions_from space (first + 1) ops)) (eq-eqb space space refl)
    ∙ ap (λ b. if b then object_of (operation_function space first o) ∷ functions_of space place (functions_from space (first + 1) ops) else functions_of space place (functions_from space (first + 1) ops)) (eq-eqb place first (sym here))
    ∙ ap (λ l. object_of (operation_function space first o) ∷ l) (none_later space place (first + 1) ops (omega (arith, here)))
    ∙ ap (λ x. object_of (operation_function space first x) ∷ []) same
    ∙ ap (λ x. object_of (operation_function space x op) ∷ []) here
one_here space place first (suc k) (o ∷ ops) op sum at =
    ap (λ b. if b && nat_eq place first then object_of (operation_function space first o) ∷ functions_of space place (functions_from space (first + 1) ops) else functions_of space place (functions_from space (first + 1) ops)) (eq-eqb space space refl)
    ∙ ap (λ b. if b then object_of (operation_function space first o) ∷ functions_of space place (functions_from space (first + 1) ops) else functions_of space place (functions_from space (first + 1) ops)) (apart place first (λ same. omega (arith, same, sum)))
    ∙ one_here space place (first + 1) k ops op (omega (arith, sum)) at

-- later namespaces have none
pub none_after : (space place id first : ℕ) (ns : List SpaceTerm) → space < first → functions_of space place (namespaces_from id first ns) ≡ []
none_after space place id first [] lt = refl
none_after space place id first (n ∷ ns) lt =
    of_both space place (namespace_plans id first n) (namespaces_from (after id n) (first + 1) ns)
    ∙ ap (λ l. l ++ functions_of space place (namespaces_from (after id n) (first + 1) ns)) (none_elsewhere space place first 0 n.members.ops (λ same. omega (arith, same, lt)))
    ∙ none_after space place (after id n) (first + 1) ns (omega (arith, lt))

pub one_among : (space place id first k : ℕ) (ns : List SpaceTerm) (n : SpaceTerm) (op : OpNameTerm) → first + k ≡ space → slice_get ns k ≡ Some n → slice_get n.members.ops place ≡ Some op → functions_of space place (namespaces_from id first ns) ≡ object_of (operation_function space place op) ∷ []
one_among space place id first k [] n op sum at named = absurd (let bad : None ≡ Some n = at in cc)
one_among space place id first zero (m ∷ ns) n op sum at named =
    let same : m ≡ n = let f : Some m ≡ Some n = at in cc in
    let here : first ≡ space = omega (arith, sum) in
    of_both space place (namespace_plans id first m) (namespaces_from (after id m) (first + 1) ns)
    ∙ ap (λ l. functions_of space place (namespace_plans id first m) ++ l) (none_after space place (after id m) (first + 1) ns (omega (arith, here)))
    ∙ ap (λ f. functions_of space place (functions_from f 0 m.members.ops) ++ []) here
    ∙ ap (λ l. l ++ []) (one_here space place 0 place m.members.ops op (omega arith) (ap (λ x. slice_get x.members.ops place) same ∙ named))
one_among space place id first (suc k) (m ∷ ns) n op sum at named =
    of_both space place (namespace_plans id first m) (namespaces_from (after id m) (first + 1) ns)
    ∙ ap (λ l. l ++ functions_of space place (namespaces_from (after id m) (first + 1) ns)) (none_elsewhere space place first 0 m.members.ops (λ same. omega (arith, same, sum)))
    ∙ one_among space place (after id m) (first + 1) k ns n op (omega (arith, sum)) at named

pub none_fixed : (space place : ℕ) → functions_of space place intrinsics ≡ []
unfolding intrinsics
none_fixed space place = refl

pub have_one_function : HaveOneFunctionEach
unfolding realm_over
have_one_function spaces space place n op at named =
    of_both space place intrinsics (namespaces_from 18 0 spaces)
    ∙ ap (λ l. l ++ functions_of space place (namespaces_from 18 0 spaces)) (none_fixed space place)
    ∙ one_among space place 18 0 space spaces n op (omega arith) at named

pub are_named : AreNamed
are_named space place op = refl
