-- For proofs alone. Effects on a store keep its references live.
use Rattle.std.proofs.Common.{◌≡◌, ℕ, zero, suc, ◌+◌, List, [], ◌∷◌, ◌++◌, Option, Some, None, length, map, filter, refl, sym, ap, subst, ◌∙◌}
use Rattle.std.proofs.lemmas.Bool.{cond_both}
use Rattle.std.specs.Prelude.{is_some, slice_get, slice_set}
use Rattle.std.specs.Map.{lookup}
use Rattle.std.specs.Option.{option_and_then, option_map, option_map_or}
use Rattle.widl_text.specs.Index.{index_of}
use Rattle.widl_text.specs.declared.key.Key.{Key}
use Rattle.widl_value.specs.declared.object.ObjRef.{ObjRef}
use Rattle.widl_value.specs.declared.value.Value.{Value}
use Rattle.widl_store.specs.declared.property.Prop.{Prop}
use Rattle.widl_store.specs.Inners.{InnerTerm, is_array}
use Rattle.widl_store.specs.Objects.{Obj, IsLive, own_at, same_key, prop_at, replaced, with_prop, is_other, without_prop, length_key, length_prop}
use Rattle.widl_store.specs.Effects.{with_props, changed, is_above, raised_from, raised, placed, plain_with, put_in, defined, deleted, first_props, new_object, added, with_inner, with_part}
use Rattle.widl_store.specs.Found.{own_or, first_along, found_at}
use Rattle.widl_store.specs.Plans.{Plan}
use Rattle.widl_store.proofs.Living.{live_changed, live_inner, live_more}
use Rattle.widl_steps.specs.AskTerms.{ChangeTerm}
use Rattle.widl_runs.specs.Actions.{with_properties, with_new, with_change, changed_part, item_properties, inner_at, new_reference}
use Rattle.widl_runs.proofs.LiveParts.{Grows, LiveValue, LiveValues, LiveProp, LiveFound, LiveProps, LiveInner, LiveSeen, LiveObject, LiveObjects, LiveChange, live_changed_part, more_inner, more_props, more_objects}
use Rattle.widl_runs.proofs.LiveJobs.{LiveItems}

-- 1. The properties of one object

module _ (objects : List Obj) where
  pub live_at : (entries : List (Key × Prop)) (key : Key) → LiveProps objects entries → LiveFound objects (prop_at entries key)
  live_at [] key l = tt
  live_at (e ∷ es) key l = cond_both (same_key key e.0) (Some e.1) (lookup (same_key key) es) (LiveFound objects) (λ e. l.0) (λ e. live_at es key l.1)

  live_replaced : (entries : List (Key × Prop)) (key : Key) (prop : Prop) → LiveProps objects entries → LiveProp objects prop → LiveProps objects (map (replaced key prop) entries)
  live_replaced [] key prop l x = tt
  live_replaced (e ∷ es) key prop l x = (cond_both (same_key key e.0) (e.0, prop) e (λ (y : Key × Prop). LiveProp objects y.1) (λ e. x) (λ e. l.0), live_replaced es key prop l.1 x)

  live_last : (entries : List (Key × Prop)) (key : Key) (prop : Prop) → LiveProps objects entries → LiveProp objects prop → LiveProps objects (entries ++ (key, prop) ∷ [])
  live_last [] key prop l x = (x, tt)
  live_last (e ∷ es) key prop l x = (l.0, live_last es key prop l.1 x)

  pub live_with : (entries : List (Key × Prop)) (key : Key) (prop : Prop) → LiveProps objects entries → LiveProp objects prop → LiveProps objects (with_prop entries key prop)
  live_with entries key prop l x = cond_both (is_some (prop_at entries key)) (map (replaced key prop) entries) (entries ++ (key, prop) ∷ []) (LiveProps objects) (λ e. live_replaced entries key prop l x) (λ e. live_last entries key prop l x)

  live_without : (entries : List (Key × Prop)) (key : Key) → LiveProps objects entries → LiveProps objects (without_prop entries key)
  live_without [] key l = tt
  live_without (e ∷ es) key l = let rest = live_without es key l.1 in cond_both (is_other key e) (e ∷ filter (is_other key) es) (filter (is_other key) es) (LiveProps objects) (λ e. (l.0, rest)) (λ e. rest)

  live_raised_from : (entries : List (Key × Prop)) (index : ℕ) (found : Option Prop) → LiveProps objects entries → LiveProps objects (raised_from entries index found)
  live_raised_from entries index None l = l
  live_raised_from entries index (Some now) l = cond_both (is_above now index) entries (with_prop entries length_key (length_prop (index + 1))) (LiveProps objects) (λ e. l) (λ e. live_with entries length_key (length_prop (index + 1)) l tt)

  live_raised : (index : Option ℕ) (entries : List (Key × Prop)) → LiveProps objects entries → LiveProps objects (raised index entries)
  live_raised None entries l = l
  live_raised (Some index) entries l = live_raised_from entries index (prop_at entries length_key) l

  live_placed : (o : Obj) (key : Key) (prop : Prop) → LiveProps objects o.props → LiveProp objects prop → LiveProps objects (placed o key prop)
  live_placed o key prop l x =
      let props : List (Key × Prop) = with_prop o.props key prop in
      let held = live_with o.props key prop l x in
      cond_both (is_array o.inner) (raised (index_of key) props) props (LiveProps objects) (λ e. live_raised (index_of key) props held) (λ e. held)

  live_plain : (v : Value) (found : Option Prop) → LiveValue objects v → LiveProp objects (plain_with v found)
  live_plain v None l = l
  live_plain v (Some prop) l = l

  -- 2. The objects

  pub live_object : (os : List Obj) (id : ℕ) (o : Obj) → slice_get os id ≡ Some o → LiveObjects objects os → LiveObject objects o
  live_object [] id o at l = absurd (let bad : None ≡ Some o = at in cc)
  live_object (a ∷ os) zero o at l = let same : a ≡ o = let f : Some a ≡ Some o = at in cc in subst (λ (x : Obj). LiveObject objects x) same l.0
  live_object (a ∷ os) (suc id) o at l = live_object os id o at l.1

  live_set : (os : List Obj) (id : ℕ) (o : Obj) → LiveObjects objects os → LiveObject objects o → LiveObjects objects (slice_set os id o)
  live_set [] id o l x = tt
  live_set (a ∷ os) zero o l x = (x, l.1)
  live_set (a ∷ os) (suc id) o l x = (l.0, live_set os id o l.1 x)

  live_appended : (os : List Obj) (o : Obj) → LiveObjects objects os → LiveObject objects o → LiveObjects objects (os ++ o ∷ [])
  live_appended [] o l x = (x, tt)
  live_appended (a ∷ os) o l x = (l.0, live_appended os o l.1 x)

  live_change : (os : List Obj) (id : ℕ) (change : Obj → List (Key × Prop)) → LiveObjects objects os → ((o : Obj) → LiveProps objects o.props → LiveProps objects (change o)) → LiveObjects objects (changed os id change)
  live_change os id change l keeps = at (slice_get os id) refl
    where
      at : (o : Option Obj) → slice_get os id ≡ o → LiveObjects objects (option_map_or (λ x. slice_set os id (with_props x (change x))) o os)
      at None is = l
      at (Some o) is = let held = live_object os id o is l in live_set os id (with_props o (change o)) l (keeps o held.0, held.1)

  -- what a search finds
  live_own : (own : Option Prop) (proto : Option ObjRef) (further : ℕ → Option Prop) → LiveFound objects own → ((id : ℕ) → LiveFound objects (further id)) → LiveFound objects (own_or own proto further)
  live_own (Some prop) proto further l each = l
  live_own None None further l each = tt
  live_own None (Some p) further l each = each p.id

  live_one : (os : List Obj) (id : ℕ) (key : Key) (further : ℕ → Option Prop) (o : Option Obj) → slice_get os id ≡ o → LiveObjects objects os → ((i : ℕ) → LiveFound objects (further i)) → LiveFound objects (option_and_then (λ x. own_or (prop_at x.props key) x.proto further) o)
  live_one os id key further None is l each = tt
  live_one os id key further (Some o) is l each = live_own (prop_at o.props key) o.proto further (live_at o.props key (live_object os id o is l).0) each

  live_along : (n : ℕ) (os : List Obj) (id : ℕ) (key : Key) → LiveObjects objects os → LiveFound objects (first_along n os id key)
  live_along zero os id key l = tt
  live_along (suc n) os id key l = live_one os id key (λ i. first_along n os i key) (slice_get os id) refl l (λ i. live_along n os i key l)

  pub live_found : (os : List Obj) (id : ℕ) (key : Key) → LiveObjects objects os → LiveFound objects (found_at os id key)
  unfolding found_at
  live_found os id key l = live_along (suc id) os id key l

  -- what is seen of an object itself
  pub live_own_at : (os : List Obj) (id : ℕ) (key : Key) → LiveObjects objects os → LiveFound objects (own_at os id key)
  live_own_at os id key l = at (slice_get os id) refl
    where
      at : (o : Option Obj) → slice_get os id ≡ o → LiveFound objects (option_and_then (λ x. prop_at x.props key) o)
      at None is = tt
      at (Some o) is = live_at o.props key (live_object os id o is l).0

  pub live_inner_at : (os : List Obj) (o : ObjRef) → LiveObjects objects os → LiveSeen objects (inner_at os o)
  live_inner_at os r l = at (slice_get os r.id) refl
    where
      at : (o : Option Obj) → slice_get os r.id ≡ o → LiveSeen objects (option_map (λ x. x.inner) o)
      at None is = tt
      at (Some o) is = (live_object os r.id o is l).1

-- 3. The changes

-- what was live is live, and all that the objects hold
pub record Kept (objects more : List Obj) : Type 0 where
  pub grows : Grows objects more
  pub live : LiveObjects more more

kept_then : (a b c : List Obj) → Kept a b → Kept b c → Kept a c
kept_then a b c x y = record { grows = λ o l. y.grows o (x.grows o l); live = y.live }

kept_change : (objects : List Obj) (id : ℕ) (change : Obj → List (Key × Prop)) → LiveObjects objects objects → ((o : Obj) → LiveProps objects o.props → LiveProps objects (change o)) → Kept objects (changed objects id change)
kept_change objects id change l keeps =
    let grows : Grows objects (changed objects id change) = λ o x. live_changed objects id change o x in
    record { grows = grows; live = more_objects objects (changed objects id change) grows (changed objects id change) (live_change objects objects id change l keeps) }

pub kept_defined : (objects : List Obj) (id : ℕ) (key : Key) (prop : Prop) → LiveObjects objects objects → LiveProp objects prop → Kept objects (defined objects id key prop)
kept_defined objects id key prop l x = kept_change objects id (λ o. placed o key prop) l (λ o y. live_placed objects o key prop y x)

pub kept_put : (objects : List Obj) (id : ℕ) (key : Key) (v : Value) → LiveObjects objects objects → LiveValue objects v → Kept objects (put_in objects id key v)
kept_put objects id key v l x = kept_change objects id (λ o. placed o key (plain_with v (prop_at o.props key))) l (λ o y. live_placed objects o key (plain_with v (prop_at o.props key)) y (live_plain objects v (prop_at o.props key) x))

pub kept_deleted : (objects : List Obj) (id : ℕ) (key : Key) → LiveObjects objects objects → Kept objects (deleted objects id key)
kept_deleted objects id key l = kept_change objects id (λ o. without_prop o.props key) l (λ o y. live_without objects o.props key y)

kept_properties : (objects : List Obj) (id : ℕ) (entries : List (Key × Prop)) → LiveObjects objects objects → LiveProps objects entries → Kept objects (with_properties objects id entries)
kept_properties objects id [] l x = record { grows = λ o y. y; live = l }
kept_properties objects id (e ∷ es) l x =
    let one = kept_defined objects id e.0 e.1 l x.0 in
    let next : List Obj = defined objects id e.0 e.1 in
    kept_then objects next (with_properties next id es) one (kept_properties next id es one.live (more_props objects next one.grows es x.1))

-- an inner part is changed
live_part : (objects os : List Obj) (id : ℕ) (inner : InnerTerm) → LiveObjects objects os → LiveInner objects inner → LiveObjects objects (with_inner os id inner)
live_part objects os id inner l x = at (slice_get os id) refl
  where
    at : (o : Option Obj) → slice_get os id ≡ o → LiveObjects objects (option_map_or (λ y. slice_set os id (with_part y inner)) o os)
    at None is = l
    at (Some o) is = live_set objects os id (with_part o inner) l ((live_object objects os id o is l).0, x)

kept_inner : (objects : List Obj) (id : ℕ) (inner : InnerTerm) → LiveObjects objects objects → LiveInner objects inner → Kept objects (with_inner objects id inner)
kept_inner objects id inner l x =
    let more : List Obj = with_inner objects id inner in
    let grows : Grows objects more = λ r y. live_inner objects id inner r y in
    record { grows = grows; live = more_objects objects more grows more (live_part objects objects id inner l x) }

pub kept_changed : (objects : List Obj) (o : ObjRef) (change : ChangeTerm) → LiveObjects objects objects → LiveChange objects change → Kept objects (with_change objects o change)
kept_changed objects o change l y = at (inner_at objects o) (live_inner_at objects objects o l)
  where
    at : (inner : Option InnerTerm) → LiveSeen objects inner → Kept objects (option_map_or (λ x. with_inner objects o.id (changed_part change x)) inner objects)
    at None x = record { grows = λ r y. y; live = l }
    at (Some inner) x = kept_inner objects o.id (changed_part change inner) l (live_changed_part objects change inner y x)

-- the items of an array, and the properties of an object
pub live_items : (objects : List Obj) (index : ℕ) (items : List Value) → LiveValues objects items → LiveProps objects (item_properties index items)
live_items objects index [] l = tt
live_items objects index (v ∷ vs) l = (l.0, live_items objects (index + 1) vs l.1)

-- an object that is added, and its reference
pub record Made (objects more : List Obj) (o : ObjRef) : Type 0 where
  pub kept : Kept objects more
  pub live : IsLive more o

-- the shape of the object after these
pub last_shape : (os rest : List Obj) (o : Obj) → option_map (λ x. x.shape) (slice_get (os ++ o ∷ rest) (length os)) ≡ Some o.shape
last_shape [] rest o = refl
last_shape (a ∷ os) rest o = last_shape os rest o

made_object : (objects : List Obj) (o : Obj) (r : ObjRef) → r.id ≡ length objects → r.shape ≡ o.shape → ((more : List Obj) → Grows objects more → LiveObject more o) → LiveObjects objects objects → Made objects (objects ++ o ∷ []) r
made_object objects o r id shape bare l =
    let more : List Obj = objects ++ o ∷ [] in
    let grows : Grows objects more = λ p x. live_more objects o p x in
    record {
      kept = record { grows = grows; live = live_appended more objects o (more_objects objects more grows objects l) (bare more grows) };
      live = ap (λ n. option_map (λ x. x.shape) (slice_get more n)) id ∙ last_shape objects [] o ∙ ap Some (sym shape);
    }

made_then : (objects more last : List Obj) (o : ObjRef) → Made objects more o → Kept more last → Made objects last o
made_then objects more last o x y = record { kept = kept_then objects more last x.kept y; live = y.grows o x.live }

-- the first properties of a new object: the length of an array
pub live_first : (objects : List Obj) (inner : InnerTerm) → LiveProps objects (first_props inner)
live_first objects inner = cond_both (is_array inner) ((length_key, length_prop 0) ∷ []) [] (LiveProps objects) (λ e. (tt, tt)) (λ e. tt)

pub made_new : (objects : List Obj) (plan : Plan) → LiveObjects objects objects → LiveItems objects plan.inner plan.entries → Made objects (with_new objects plan) (new_reference (length objects) plan)
made_new objects plan l items =
    let more : List Obj = added objects plan.proto plan.shape plan.inner in
    let o : ObjRef = new_reference (length objects) plan in
    let one = made_object objects (new_object plan.proto plan.shape plan.inner) o refl refl (λ us g. (live_first us plan.inner, more_inner objects us g plan.inner items.0)) l in
    made_then objects more (with_new objects plan) o one (kept_properties more (length objects) plan.entries one.kept.live (more_props objects more one.kept.grows plan.entries items.1))
