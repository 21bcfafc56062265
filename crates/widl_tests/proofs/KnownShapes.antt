-- For proofs alone. The shapes of the first objects, and those after each change.
use Rattle.std.proofs.Common.{◌≡◌, ℕ, zero, suc, ◌+◌, List, [], ◌∷◌, ◌++◌, ◌⊎◌, inl, inr, ◌<◌, ◌≤◌, length, length-append, append_assoc, get_or, take, Option, None, Some, refl, sym, ap, ap₂, subst, ◌∙◌, arith, map, flat_map, replicate, slice_get, slice_set}
use Rattle.std.specs.Option.{option_map, option_map_or}
use Rattle.std.proofs.lemmas.List.{flat_map_more, map-append, length-map, replicate_more, take_all, take_more}
use Rattle.widl_idl.specs.declared.namespace.Space.{Space}
use Rattle.widl_idl.specs.DefinitionTerms.{OpNameTerm, SpaceTerm, op_name_term, space_term}
use Rattle.widl_store.specs.declared.property.Prop.{Prop}
use Rattle.widl_store.specs.Effects.{added, changed, new_object, with_props}
use Rattle.widl_store.specs.Inners.{InnerTerm}
use Rattle.widl_store.specs.Intrinsics.{intrinsics}
use Rattle.widl_store.specs.Objects.{Obj, StoreState, with_objects}
use Rattle.widl_store.specs.Plans.{object_of}
use Rattle.widl_store.specs.Realm.{after, functions_from, namespace_plans, namespaces_from, realm_over}
use Rattle.widl_store.proofs.Living.{live_changed, live_more}
use Rattle.widl_text.specs.declared.key.Key.{Key}
use Rattle.widl_value.specs.declared.object.ObjRef.{ObjRef}
use Rattle.widl_value.specs.declared.object.Shape.{Shape}
use Rattle.widl_value.specs.declared.object.Shape.TheVariants.{Plain, Callable}
use Rattle.widl_tests.specs.Shapes.{AreShapes, IsKnown}

abbrev shape_of : Obj → Shape
shape_of o = o.shape

-- the shapes of a namespace object and of its functions
abbrev pub space_shapes : SpaceTerm → List Shape
space_shapes s = Plain ∷ replicate (length s.members.ops) Callable

function_shapes : (space place : ℕ) (ops : List OpNameTerm) → map shape_of (map object_of (functions_from space place ops)) ≡ replicate (length ops) Callable
function_shapes space place [] = refl
function_shapes space place (op ∷ ops) = ap (λ l. Callable ∷ l) (function_shapes space (place + 1) ops)

namespace_shapes : (id space : ℕ) (spaces : List SpaceTerm) → map shape_of (map object_of (namespaces_from id space spaces)) ≡ flat_map space_shapes spaces
namespace_shapes id space [] = refl
namespace_shapes id space (n ∷ rest) =
    ap (map shape_of) (map-append object_of (namespace_plans id space n) (namespaces_from (after id n) (space + 1) rest))
    ∙ map-append shape_of (map object_of (namespace_plans id space n)) (map object_of (namespaces_from (after id n) (space + 1) rest))
    ∙ ap₂ (λ a b. (Plain ∷ a) ++ b) (function_shapes space 0 n.members.ops) (namespace_shapes (after id n) (space + 1) rest)

-- the shapes of the objects that are there whatever the definitions are
abbrev pub first_shapes : List Shape
first_shapes = Plain ∷ Plain ∷ Plain ∷ Plain ∷ Plain ∷ Plain ∷ Plain ∷ Plain ∷ Callable ∷ Callable ∷ Callable ∷ Callable ∷ Callable ∷ Callable ∷ Callable ∷ Callable ∷ Callable ∷ Callable ∷ []

intrinsic_shapes : map shape_of (map object_of intrinsics) ≡ first_shapes
unfolding intrinsics
intrinsic_shapes = refl

realm_shapes : (spaces : List SpaceTerm) → map shape_of (realm_over spaces).objects ≡ first_shapes ++ flat_map space_shapes spaces
unfolding realm_over
realm_shapes spaces =
    ap (map shape_of) (map-append object_of intrinsics (namespaces_from 18 0 spaces))
    ∙ map-append shape_of (map object_of intrinsics) (map object_of (namespaces_from 18 0 spaces))
    ∙ ap₂ (λ a b. a ++ b) intrinsic_shapes (namespace_shapes 18 0 spaces)

get_shape : (objects : List Obj) (i : ℕ) → slice_get (map shape_of objects) i ≡ option_map (λ o. o.shape) (slice_get objects i)
get_shape [] i = refl
get_shape (o ∷ objects) zero = refl
get_shape (o ∷ objects) (suc i) = get_shape objects i

-- all shapes are known of the first objects
realm_known : (spaces : List SpaceTerm) (shapes : List Shape) → shapes ≡ first_shapes ++ flat_map space_shapes spaces → AreShapes (realm_over spaces).objects shapes
realm_known spaces shapes are = subst (AreShapes (realm_over spaces).objects) (realm_shapes spaces ∙ sym are) (record {
  count = sym (length-map (realm_over spaces).objects shape_of);
  live = λ obj known. sym (get_shape (realm_over spaces).objects obj.id) ∙ known;
})

-- one more function
pub functions_more : (first shapes next : List Shape) (n : ℕ) → shapes ≡ first ++ Plain ∷ replicate n Callable → next ≡ shapes ++ Callable ∷ [] → next ≡ first ++ Plain ∷ replicate (n + 1) Callable
functions_more first shapes next n so pushed =
    pushed
    ∙ ap (λ l. l ++ Callable ∷ []) so
    ∙ append_assoc first (Plain ∷ replicate n Callable) (Callable ∷ [])
    ∙ ap (λ l. first ++ Plain ∷ l) (replicate_more n Callable)

-- one more namespace
pub spaces_more : (spaces : List Space) (i : ℕ) (s : Space) (shapes next : List Shape) (n : ℕ) → i < length spaces → s ≡ get_or spaces i s → n ≡ length s.ops → shapes ≡ first_shapes ++ flat_map space_shapes (map space_term (take i spaces)) → next ≡ shapes ++ Plain ∷ replicate n Callable → next ≡ first_shapes ++ flat_map space_shapes (map space_term (take (i + 1) spaces))
spaces_more spaces i s shapes next n small is size so pushed =
    let grown : map space_term (take (i + 1) spaces) ≡ map space_term (take i spaces) ++ space_term s ∷ [] =
    ap (map space_term) (take_more spaces i s small) ∙ map-append space_term (take i spaces) (get_or spaces i s ∷ []) ∙ ap (λ x. map space_term (take i spaces) ++ space_term x ∷ []) (sym is) in
    pushed
    ∙ ap₂ (λ a b. a ++ Plain ∷ replicate b Callable) so (size ∙ sym (length-map s.ops op_name_term))
    ∙ flat_map_more space_shapes first_shapes (map space_term (take i spaces)) (space_term s)
    ∙ ap (λ l. first_shapes ++ flat_map space_shapes l) (sym grown)

-- all shapes are known when all namespaces are through
pub all_known : (spaces : List Space) (i : ℕ) (shapes : List Shape) → length spaces ≤ i → shapes ≡ first_shapes ++ flat_map space_shapes (map space_term (take i spaces)) → AreShapes (realm_over (map space_term spaces)).objects shapes
all_known spaces i shapes through so = realm_known (map space_term spaces) shapes (so ∙ ap (λ l. first_shapes ++ flat_map space_shapes (map space_term l)) (take_all i spaces through))

length_set : (objects : List Obj) (i : ℕ) (x : Obj) → length (slice_set objects i x) ≡ length objects
length_set [] i x = refl
length_set (a ∷ objects) zero x = refl
length_set (a ∷ objects) (suc i) x = ap suc (length_set objects i x)

length_changed : (objects : List Obj) (id : ℕ) (change : Obj → List (Key × Prop)) → length (changed objects id change) ≡ length objects
length_changed objects id change = by (slice_get objects id)
  where
    by : (o : Option Obj) → length (option_map_or (λ o. slice_set objects id (with_props o (change o))) o objects) ≡ length objects
    by None = refl
    by (Some o) = length_set objects id (with_props o (change o))

-- where properties change, shapes stay
pub changed_known : (old new : StoreState) (shapes : List Shape) (id : ℕ) (change : Obj → List (Key × Prop)) → new ≡ with_objects old (changed old.objects id change) → AreShapes old.objects shapes → AreShapes new.objects shapes
changed_known old new shapes id change is are = subst (λ store. AreShapes store.objects shapes) (sym is) (record {
  count = length_changed old.objects id change ∙ are.count;
  live = λ obj known. live_changed old.objects id change obj (are.live obj known);
})

known_more : (shapes : List Shape) (s x : Shape) (i : ℕ) → slice_get (shapes ++ s ∷ []) i ≡ Some x → (slice_get shapes i ≡ Some x) ⊎ ((i ≡ length shapes) × (s ≡ x))
known_more [] s x zero h = inr (refl, (let f : Some s ≡ Some x = h in cc))
known_more [] s x (suc i) h = absurd (let bad : None ≡ Some x = h in cc)
known_more (a ∷ shapes) s x zero h = inl h
known_more (a ∷ shapes) s x (suc i) h = by (known_more shapes s x i h)
  where
    by : (slice_get shapes i ≡ Some x) ⊎ ((i ≡ length shapes) × (s ≡ x)) → (slice_get shapes i ≡ Some x) ⊎ ((suc i ≡ suc (length shapes)) × (s ≡ x))
    by (inl before) = inl before
    by (inr last) = inr (ap suc last.0, last.1)

last_shape : (objects : List Obj) (o : Obj) → option_map (λ o. o.shape) (slice_get (objects ++ o ∷ []) (length objects)) ≡ Some o.shape
last_shape [] o = refl
last_shape (a ∷ objects) o = last_shape objects o

-- the shape of an object that is added is known
pub added_known : (old new : StoreState) (shapes : List Shape) (proto : Option ObjRef) (inner : InnerTerm) → new ≡ with_objects old (added old.objects proto Plain inner) → AreShapes old.objects shapes → AreShapes new.objects (shapes ++ Plain ∷ [])
added_known old new shapes proto inner is are = subst (λ store. AreShapes store.objects (shapes ++ Plain ∷ [])) (sym is) (record {
  count = let one = length-append old.objects (made ∷ []) in let two = length-append shapes (Plain ∷ []) in let same = are.count in omega (arith, one, two, same);
  live = λ obj known. by obj (known_more shapes Plain obj.shape obj.id known);
})
  where
    made : Obj
    made = new_object proto Plain inner

    by : (obj : ObjRef) → IsKnown shapes obj ⊎ ((obj.id ≡ length shapes) × (Plain ≡ obj.shape)) → option_map (λ o. o.shape) (slice_get (old.objects ++ made ∷ []) obj.id) ≡ Some obj.shape
    by obj (inl before) = live_more old.objects made obj (are.live obj before)
    by obj (inr last) =
        ap (λ i. option_map (λ o. o.shape) (slice_get (old.objects ++ made ∷ []) i)) (last.0 ∙ sym are.count)
        ∙ last_shape old.objects made
        ∙ ap Some last.1
