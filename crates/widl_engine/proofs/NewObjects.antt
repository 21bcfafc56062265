-- For proofs alone. Objects that are added last, and their first properties.
use Rattle.std.proofs.Common.{◌≡◌, ℕ, false, List, [], ◌∷◌, ◌++◌, Option, Some, None, length, sym, ap, ◌∙◌, refl, codes, slice_get, slice_set, Ok, pos}
use Rattle.std.specs.Option.{option_map, option_map_or, option_and_then}
use Rattle.std.proofs.Math.Seq.{set-append_seam}
use Rattle.widl_text.specs.declared.key.Key.{Key}
use Rattle.widl_text.specs.declared.key.Key.TheVariants.{Name}
use Rattle.widl_value.specs.declared.number.Number.{Number}
use Rattle.widl_value.specs.declared.number.Number.TheVariants.{Whole}
use Rattle.widl_value.specs.declared.object.ObjRef.{ObjRef}
use Rattle.widl_value.specs.declared.object.Shape.TheVariants as shapes
use Rattle.widl_value.specs.declared.value.Value.TheVariants as values
use Rattle.widl_script_tree.specs.Trees.{Text}
use Rattle.widl_store.specs.declared.property.Prop.{Prop}
use Rattle.widl_store.specs.declared.property.Prop.TheVariants.{Plain}
use Rattle.widl_store.specs.Effects.{is_fixed, is_fixed_in, define_of, defined, changed, with_props, placed, added, new_object}
use Rattle.widl_store.specs.Inners.{ScriptPart}
use Rattle.widl_store.specs.Objects.{Obj, StoreState, with_objects, own_at, prop_at, length_key, IsLive, function_object}
use Rattle.widl_runs.specs.Actions.{FunctionPrototype, prototype, script_function, with_new}
use Rattle.widl_store.specs.Plans.{fixed_flags}

last_get : {X : Type 0} (xs : List X) (x : X) → slice_get (xs ++ x ∷ []) (length xs) ≡ Some x
last_get [] x = refl
last_get (y ∷ ys) x = last_get ys x

changed_last : (objects : List Obj) (o : Obj) (f : Obj → List (Key × Prop)) → changed (objects ++ o ∷ []) (length objects) f ≡ objects ++ with_props o (f o) ∷ []
changed_last objects o f =
    ap (λ (r : Option Obj). option_map_or (λ q. slice_set (objects ++ o ∷ []) (length objects) (with_props q (f q))) r (objects ++ o ∷ [])) (last_get objects o)
    ∙ set-append_seam objects o [] (with_props o (f o))

free_last : (objects : List Obj) (o : Obj) (key : Key) → is_fixed_in o key ≡ false → prop_at o.props key ≡ None → define_of (is_fixed (objects ++ o ∷ []) (length objects) key) (own_at (objects ++ o ∷ []) (length objects) key) ≡ Ok tt
unfolding is_fixed
free_last objects o key fixed own =
    ap (λ (r : Option Obj). define_of (option_map_or (λ q. is_fixed_in q key) r false) (option_and_then (λ q. prop_at q.props key) r)) (last_get objects o)
    ∙ (λ i. define_of (fixed i) (own i))

abbrev new_function : ℕ → Obj
new_function number = new_object (Some (prototype FunctionPrototype)) shapes.Callable (ScriptPart number)

pub function_free : (objects now : List Obj) (id number : ℕ) (key : Key) → now ≡ objects ++ new_function number ∷ [] → id ≡ length objects → define_of (is_fixed now id key) (own_at now id key) ≡ Ok tt
function_free objects now id number key is at = (λ i. define_of (is_fixed (is i) (at i) key) (own_at (is i) (at i) key)) ∙ free_last objects (new_function number) key refl refl

abbrev measured : ℕ → Key → Prop → Obj
measured number key prop = with_props (new_function number) ((key, prop) ∷ [])

pub function_measured : (objects before now : List Obj) (id number : ℕ) (key : Key) (prop : Prop) → before ≡ objects ++ new_function number ∷ [] → id ≡ length objects → now ≡ defined before id key prop → now ≡ objects ++ measured number key prop ∷ []
function_measured objects before now id number key prop was at is =
    is
    ∙ (λ i. changed (was i) (at i) (λ o. placed o key prop))
    ∙ changed_last objects (new_function number) (λ o. placed o key prop)

pub function_live : (objects now : List Obj) (object : ObjRef) (number : ℕ) (key : Key) (prop : Prop) → now ≡ objects ++ measured number key prop ∷ [] → object ≡ function_object (length objects) → IsLive now object
function_live objects now object number key prop is at =
    let id = ap (λ (r : ObjRef). r.id) at in
    (λ i. option_map (λ (o : Obj). o.shape) (slice_get (is i) (id i)))
    ∙ ap (option_map (λ (o : Obj). o.shape)) (last_get objects (measured number key prop))
    ∙ sym (ap (λ (r : ObjRef). Some r.shape) at)

pub function_free_again : (objects now : List Obj) (id number : ℕ) (first second : Text) (prop : Prop) → now ≡ objects ++ measured number (Name first) prop ∷ [] → id ≡ length objects → first ≡ codes "length" → second ≡ codes "name" → define_of (is_fixed now id (Name second)) (own_at now id (Name second)) ≡ Ok tt
function_free_again objects now id number first second prop is at length_text name_text =
    let other : prop_at ((Name first, prop) ∷ []) (Name second) ≡ None = (λ i. prop_at ((Name (length_text i), prop) ∷ []) (Name (name_text i))) in
    (λ i. define_of (is_fixed (is i) (at i) (Name second)) (own_at (is i) (at i) (Name second)))
    ∙ free_last objects (measured number (Name first) prop) (Name second) refl other

abbrev defined_in : StoreState → ℕ → Key → Prop → StoreState
defined_in t id key prop = with_objects t (defined t.objects id key prop)

pub function_added : (old first second third : StoreState) (id number : ℕ) (t1 t2 name text : Text) (n : Number) (count : ℕ) → first ≡ with_objects old (added old.objects (Some (prototype FunctionPrototype)) shapes.Callable (ScriptPart number)) → second ≡ defined_in first id (Name t1) (Plain (values.Num n) fixed_flags) → third ≡ defined_in second id (Name t2) (Plain (values.Str text) fixed_flags) → id ≡ length old.objects → t1 ≡ codes "length" → t2 ≡ codes "name" → text ≡ name → n ≡ Whole (pos count) → third ≡ with_objects old (with_new old.objects (script_function number name count))
unfolding length_key
function_added old first second third id number t1 t2 name text n count a b c at l1 l2 same many =
    let start : StoreState = with_objects old (added old.objects (Some (prototype FunctionPrototype)) shapes.Callable (ScriptPart number)) in
    c
    ∙ ap (λ (t : StoreState). defined_in t id (Name t2) (Plain (values.Str text) fixed_flags)) (b ∙ ap (λ (t : StoreState). defined_in t id (Name t1) (Plain (values.Num n) fixed_flags)) a)
    ∙ (λ i. defined_in (defined_in start (at i) (Name (l1 i)) (Plain (values.Num (many i)) fixed_flags)) (at i) (Name (l2 i)) (Plain (values.Str (same i)) fixed_flags))
