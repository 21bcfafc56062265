-- For proofs alone. All that the first store holds is live.
use Rattle.std.proofs.Common.{◌≡◌, ℕ, ◌+◌, List, [], ◌∷◌, ◌++◌, Option, Some, length, map, refl, sym, ap, ◌∙◌, arith, append_assoc, length-append}
use Rattle.std.specs.Prelude.{slice_get}
use Rattle.std.specs.Option.{option_map}
use Rattle.std.proofs.lemmas.List.{map-append, length-map}
use Rattle.widl_idl.specs.DefinitionTerms.{DefsTerm, SpaceTerm, OpNameTerm}
use Rattle.widl_text.specs.declared.key.Key.{Key}
use Rattle.widl_value.specs.declared.object.Shape.{Shape}
use Rattle.widl_value.specs.declared.object.Shape.TheVariants.{Callable}
use Rattle.widl_store.specs.declared.property.Prop.{Prop}
use Rattle.widl_store.specs.Effects.{first_props}
use Rattle.widl_store.specs.Intrinsics.{intrinsics}
use Rattle.widl_store.specs.Objects.{Obj, IsLive, with_prop, function_object}
use Rattle.widl_store.specs.Plans.{Plan, tag, with_entries, object_of}
use Rattle.widl_store.specs.Realm.{operation_function, functions_from, operations_from, namespace_object, namespace_plans, namespaces_from, after, realm_plans, realm_over, realm_of}
use Rattle.widl_store.proofs.LiveHomes.{homes_live}
use Rattle.widl_store.proofs.PlanObjects.{intrinsics_are_18}
use Rattle.widl_store.proofs.RealmSteps.{longer}
use Rattle.widl_runs.specs.Actions.{ObjectPrototype, FunctionPrototype, ArrayPrototype, TypeErrorPrototype, ArrayIteratorPrototype}
use Rattle.widl_runs.specs.Fitting.{HasPrototypes}
use Rattle.widl_runs.specs.Traces.{first_world}
use Rattle.widl_runs.proofs.LiveParts.{LiveProps, LiveInner, LiveObjects}
use Rattle.widl_runs.proofs.LiveStores.{last_shape, live_first, live_with}
use Rattle.widl_runs.proofs.LiveWorlds.{LiveWorld}

-- 1. Plans

abbrev shape_at : List Obj → ℕ → Option Shape
shape_at objects id = option_map (λ o. o.shape) (slice_get objects id)

module _ (all : List Obj) where
  abbrev LivePlans : List Plan → Type 0
  LivePlans [] = Unit {0}
  LivePlans (plan ∷ plans) = (LiveProps all plan.entries × LiveInner all plan.inner) × LivePlans plans

  live_entries : (held entries : List (Key × Prop)) → LiveProps all held → LiveProps all entries → LiveProps all (with_entries held entries)
  live_entries held [] l x = l
  live_entries held (e ∷ es) l x = live_entries (with_prop held e.0 e.1) es (live_with all held e.0 e.1 l x.0) x.1

  live_plans : (plans : List Plan) → LivePlans plans → LiveObjects all (map object_of plans)
  live_plans [] l = tt
  live_plans (plan ∷ plans) l = ((live_entries (first_props plan.inner) plan.entries (live_first all plan.inner) l.0.0, l.0.1), live_plans plans l.1)

  plans_append : (plans more : List Plan) → LivePlans plans → LivePlans more → LivePlans (plans ++ more)
  plans_append [] more l x = x
  plans_append (plan ∷ plans) more l x = (l.0, plans_append plans more l.1 x)

  -- 2. Namespaces

  live_tagged : (entries : List (Key × Prop)) (name : List ℕ) → LiveProps all entries → LiveProps all (entries ++ tag name ∷ [])
  live_tagged [] name l = (tt, tt)
  live_tagged (e ∷ es) name l = (l.0, live_tagged es name l.1)

  live_functions : (space place : ℕ) (ops : List OpNameTerm) → LivePlans (functions_from space place ops)
  live_functions space place [] = tt
  live_functions space place (op ∷ ops) = (((tt, (tt, tt)), tt), live_functions space (place + 1) ops)

  live_operations : (before rest : List Obj) (space place id : ℕ) (ops : List OpNameTerm) → id ≡ length before → all ≡ before ++ (map object_of (functions_from space place ops) ++ rest) → LiveProps all (operations_from id ops)
  live_operations before rest space place id [] at is = tt
  live_operations before rest space place id (op ∷ ops) at is =
      let o : Obj = object_of (operation_function space place op) in
      let more : List Obj = map object_of (functions_from space (place + 1) ops) ++ rest in
      let here : shape_at all id ≡ Some Callable = ap (λ n. shape_at all n) at ∙ ap (λ l. shape_at l (length before)) is ∙ last_shape before more o in
      let long : length (before ++ o ∷ []) ≡ length before + 1 = length-append before (o ∷ []) in
      (here, live_operations (before ++ o ∷ []) rest space (place + 1) (id + 1) ops (omega (arith, at, long)) (is ∙ sym (append_assoc before (o ∷ []) more)))

  live_spaces : (before : List Obj) (space id : ℕ) (spaces : List SpaceTerm) → id ≡ length before → all ≡ before ++ map object_of (namespaces_from id space spaces) → LivePlans (namespaces_from id space spaces)
  live_spaces before space id [] at is = tt
  live_spaces before space id (n ∷ spaces) at is =
      let functions : List Plan = functions_from space 0 n.members.ops in
      let rest : List Plan = namespaces_from (after id n) (space + 1) spaces in
      let o : Obj = object_of (namespace_object id n) in
      let long : length (before ++ o ∷ []) ≡ length before + 1 = length-append before (o ∷ []) in
      let whole : all ≡ (before ++ o ∷ []) ++ (map object_of functions ++ map object_of rest) =
      is ∙ ap (λ l. before ++ o ∷ l) (map-append object_of functions rest) ∙ sym (append_assoc before (o ∷ []) (map object_of functions ++ map object_of rest)) in
      let next : List Obj = before ++ map object_of (namespace_plans id space n) in
      let further : all ≡ next ++ map object_of rest =
      is ∙ ap (λ l. before ++ l) (map-append object_of (namespace_plans id space n) rest) ∙ sym (append_assoc before (map object_of (namespace_plans id space n)) (map object_of rest)) in
      let grown : after id n ≡ length next =
      ap (λ m. after m n) at ∙ sym (longer before space n) ∙ ap (λ m. length (before ++ map object_of (namespace_plans m space n))) (sym at) in (
        (live_tagged (operations_from (id + 1) n.members.ops) n.name (live_operations (before ++ o ∷ []) (map object_of rest) space 0 (id + 1) n.members.ops (omega (arith, at, long)) whole), tt),
        plans_append functions rest (live_functions space 0 n.members.ops) (live_spaces next (space + 1) (after id n) spaces grown further),
      )

-- 3. The objects that are always there

record HasFunctions (all : List Obj) : Type 0 where
  eight : IsLive all (function_object 8)
  nine : IsLive all (function_object 9)
  ten : IsLive all (function_object 10)
  eleven : IsLive all (function_object 11)
  twelve : IsLive all (function_object 12)
  thirteen : IsLive all (function_object 13)
  fourteen : IsLive all (function_object 14)
  fifteen : IsLive all (function_object 15)
  sixteen : IsLive all (function_object 16)
  seventeen : IsLive all (function_object 17)

has_functions : (more : List Plan) → HasFunctions (map object_of (intrinsics ++ more))
unfolding intrinsics
has_functions more = record { eight = refl; nine = refl; ten = refl; eleven = refl; twelve = refl; thirteen = refl; fourteen = refl; fifteen = refl; sixteen = refl; seventeen = refl }

has_prototypes : (more : List Plan) → HasPrototypes (map object_of (intrinsics ++ more))
unfolding intrinsics
has_prototypes more ObjectPrototype = refl
has_prototypes more FunctionPrototype = refl
has_prototypes more ArrayPrototype = refl
has_prototypes more TypeErrorPrototype = refl
has_prototypes more ArrayIteratorPrototype = refl

live_intrinsics : (all : List Obj) → HasFunctions all → LivePlans all intrinsics
unfolding intrinsics
live_intrinsics all f = (
  ((f.eight, (f.nine, tt)), tt),
  (
    ((f.fifteen, tt), tt),
    (
      ((f.ten, (f.eleven, (f.twelve, (f.twelve, tt)))), tt),
      (
        ((f.sixteen, tt), tt),
        (
          (tt, tt),
          (
            ((f.seventeen, (tt, tt)), tt),
            (
              ((f.fourteen, tt), tt),
              (
                ((f.thirteen, (tt, tt)), tt),
                (
                  ((tt, (tt, tt)), tt),
                  (((tt, (tt, tt)), tt), (((tt, (tt, tt)), tt), (((tt, (tt, tt)), tt), (((tt, (tt, tt)), tt), (((tt, (tt, tt)), tt), (((tt, (tt, tt)), tt), (((tt, (tt, tt)), tt), (((tt, (tt, tt)), tt), (((tt, (tt, tt)), tt), tt))))))))),
                ),
              ),
            ),
          ),
        ),
      ),
    ),
  ),
)

realm_live : (spaces : List SpaceTerm) → (let all : List Obj = map object_of (realm_plans spaces) in LiveObjects all all)
realm_live spaces =
    let more : List Plan = namespaces_from 18 0 spaces in
    let all : List Obj = map object_of (intrinsics ++ more) in
    let first : List Obj = map object_of intrinsics in
    let long : 18 ≡ length first = sym (length-map intrinsics object_of ∙ intrinsics_are_18) in
    let live : LivePlans all more = live_spaces all first 0 18 spaces long (map-append object_of intrinsics more) in
    live_plans all (intrinsics ++ more) (plans_append all intrinsics more (live_intrinsics all (has_functions more)) live)

pub first_live : (list : DefsTerm) (budget : ℕ) → LiveWorld (first_world (realm_of list) budget)
unfolding realm_over
first_live list budget = record {
  prototypes = has_prototypes (namespaces_from 18 0 list.spaces);
  objects = realm_live list.spaces;
  homes = homes_live list.spaces;
  globals = tt;
  contexts = tt;
}
