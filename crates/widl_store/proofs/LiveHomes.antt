-- The objects that stand for definitions are live and of their kind in the first store.
use Rattle.std.proofs.Common.{◌≡◌, ℕ, zero, suc, ◌+◌, List, [], ◌∷◌, ◌++◌, length, Option, None, Some, refl, sym, ap, subst, ◌∙◌, append_assoc, map, slice_get}
use Rattle.std.specs.Option.{option_map}
use Rattle.std.proofs.lemmas.List.{map-append, length-map, length-replicate}
use Rattle.widl_idl.specs.declared.callee.Owner.TheVariants.{Iface, Space}
use Rattle.widl_idl.specs.declared.namespace.Space.{Space as SpaceItem}
use Rattle.widl_idl.specs.DefinitionTerms.{SpaceTerm, space_term}
use Rattle.widl_store.specs.declared.homes.Home.{Home}
use Rattle.widl_store.specs.declared.homes.Home.TheVariants as places
use Rattle.widl_store.specs.declared.homes.IfaceHome.{IfaceHome}
use Rattle.widl_store.specs.declared.homes.SpaceHome.{SpaceHome}
use Rattle.widl_store.specs.Inners.{InnerKind, ASpace, kind_of}
use Rattle.widl_store.specs.Intrinsics.{intrinsics}
use Rattle.widl_store.specs.Objects.{Obj, IsLive, home_of, plain_object}
use Rattle.widl_store.specs.Plans.{object_of}
use Rattle.widl_store.specs.Realm.{namespace_object, namespace_plans, namespaces_from, functions_from, homes_from, after, realm_plans, realm_over}
use Rattle.widl_store.specs.Sound.{IsLiveAs, SoundHomes}
use Rattle.widl_store.proofs.PlanObjects.{intrinsics_are_18}
use Rattle.widl_store.proofs.RealmSteps.{longer}
use Rattle.widl_value.specs.declared.object.ObjRef.{ObjRef}
use Rattle.widl_value.specs.declared.object.Shape.{Shape}
use Rattle.widl_value.specs.declared.object.Shape.TheVariants.{Plain}

-- what a home tells of its object
record Told : Type 0 where
  shape : Shape
  kind : InnerKind

abbrev told : Obj → Told
told o = record { shape = o.shape; kind = kind_of o.inner }

abbrev told_at : List Obj → ℕ → Option Told
told_at objects id = option_map told (slice_get objects id)

abbrev told_of : SpaceHome → Told
told_of home = record { shape = Plain; kind = ASpace home.slots }

next_told : (objs more : List Obj) (o : Obj) → told_at (objs ++ o ∷ more) (length objs) ≡ Some (told o)
next_told [] more o = refl
next_told (a ∷ objs) more o = next_told objs more o

homes_told : (objs : List Obj) (space : ℕ) (spaces : List SpaceTerm) (i : ℕ) (home : SpaceHome) → slice_get (homes_from (length objs) spaces) i ≡ Some home → told_at (objs ++ map object_of (namespaces_from (length objs) space spaces)) home.object ≡ Some (told_of home)
homes_told objs space [] i home h = absurd (let bad : None ≡ Some home = h in cc)
homes_told objs space (n ∷ spaces) zero home h =
    let first : SpaceHome = record { object = length objs; slots = length n.members.attrs } in
    let here : first ≡ home = let f : Some first ≡ Some home = h in cc in
    ap (λ (p : SpaceHome). told_at (objs ++ map object_of (namespaces_from (length objs) space (n ∷ spaces))) p.object) (sym here)
    ∙ next_told objs (map object_of (functions_from space 0 n.members.ops ++ namespaces_from (after (length objs) n) (space + 1) spaces)) (object_of (namespace_object (length objs) n))
    ∙ ap (λ m. Some (told_of (record { object = length objs; slots = m }))) (length-replicate (length n.members.attrs) None)
    ∙ ap (λ p. Some (told_of p)) here
homes_told objs space (n ∷ spaces) (suc i) home h =
    let long : length (objs ++ map object_of (namespace_plans (length objs) space n)) ≡ after (length objs) n = longer objs space n in
    let whole : (objs ++ map object_of (namespace_plans (length objs) space n)) ++ map object_of (namespaces_from (length (objs ++ map object_of (namespace_plans (length objs) space n))) (space + 1) spaces) ≡ objs ++ map object_of (namespaces_from (length objs) space (n ∷ spaces)) =
    ap (λ m. (objs ++ map object_of (namespace_plans (length objs) space n)) ++ map object_of (namespaces_from m (space + 1) spaces)) long
    ∙ append_assoc objs (map object_of (namespace_plans (length objs) space n)) (map object_of (namespaces_from (after (length objs) n) (space + 1) spaces))
    ∙ ap (λ l. objs ++ l) (sym (map-append object_of (namespace_plans (length objs) space n) (namespaces_from (after (length objs) n) (space + 1) spaces))) in
    ap (λ l. told_at l home.object) (sym whole)
    ∙ homes_told (objs ++ map object_of (namespace_plans (length objs) space n)) (space + 1) spaces i home (ap (λ m. slice_get (homes_from m spaces) i) long ∙ h)

first_long : length (map object_of intrinsics) ≡ 18
first_long = length-map intrinsics object_of ∙ intrinsics_are_18

space_told : (spaces : List SpaceTerm) (i : ℕ) (home : SpaceHome) → slice_get (homes_from 18 spaces) i ≡ Some home → told_at (map object_of (realm_plans spaces)) home.object ≡ Some (told_of home)
space_told spaces i home h =
    ap (λ l. told_at l home.object) (map-append object_of intrinsics (namespaces_from 18 0 spaces) ∙ ap (λ n. map object_of intrinsics ++ map object_of (namespaces_from n 0 spaces)) (sym first_long))
    ∙ homes_told (map object_of intrinsics) 0 spaces i home (ap (λ n. slice_get (homes_from n spaces) i) first_long ∙ h)

-- what is told of an object is its shape and its kind
live_as : (objects : List Obj) (home : SpaceHome) → told_at objects home.object ≡ Some (told_of home) → IsLiveAs (ASpace home.slots) objects (plain_object home.object)
live_as objects home told_is = by (slice_get objects home.object) refl told_is
  where
    by : (o : Option Obj) → slice_get objects home.object ≡ o → option_map told o ≡ Some (told_of home) → IsLiveAs (ASpace home.slots) objects (plain_object home.object)
    by None at is = absurd (let bad : None ≡ Some (told_of home) = is in cc)
    by (Some o) at is =
        let same : told o ≡ told_of home = let f : Some (told o) ≡ Some (told_of home) = is in cc in
        record {
          live = ap (option_map (λ (x : Obj). x.shape)) at ∙ ap (λ (t : Told). Some t.shape) same;
          kind = ap (option_map (λ (x : Obj). kind_of x.inner)) at ∙ ap (λ (t : Told). Some t.kind) same;
        }

pub realm_homes_sound : (spaces : List SpaceTerm) → SoundHomes (map object_of (realm_plans spaces)) (record { ifaces = []; spaces = homes_from 18 spaces })
realm_homes_sound spaces = record {
  interfaces = λ i home at. absurd (let bad : None ≡ Some home = at in cc);
  prototypes = λ i home at. absurd (let bad : None ≡ Some home = at in cc);
  iterator_prototypes = λ i id home at has. absurd (let bad : None ≡ Some home = at in cc);
  namespaces = λ i home at. live_as (map object_of (realm_plans spaces)) home (space_told spaces i home at);
}

pub homes_are_sound : (spaces : List SpaceItem) (objs : List Obj) (homes : List SpaceHome) → objs ≡ map object_of (realm_plans (map space_term spaces)) → homes ≡ homes_from 18 (map space_term spaces) → SoundHomes objs (record { ifaces = []; spaces = homes })
homes_are_sound spaces objs homes a b =
    subst (λ os. SoundHomes os (record { ifaces = []; spaces = homes })) (sym a)
    (subst (λ hs. SoundHomes (map object_of (realm_plans (map space_term spaces))) (record { ifaces = []; spaces = hs })) (sym b) (realm_homes_sound (map space_term spaces)))

from_space : (spaces : List SpaceTerm) (i : ℕ) (o : ObjRef) (q : Option SpaceHome) → slice_get (homes_from 18 spaces) i ≡ q → option_map (λ h. plain_object h.object) q ≡ Some o → IsLive (map object_of (realm_plans spaces)) o
from_space spaces i o None at h = absurd (let bad : None ≡ Some o = h in cc)
from_space spaces i o (Some k) at h =
    let same : plain_object k.object ≡ o = let f : Some (plain_object k.object) ≡ Some o = h in cc in
    subst (IsLive (map object_of (realm_plans spaces))) same ((realm_homes_sound spaces).namespaces i k at).live

pub homes_live : (spaces : List SpaceTerm) (home : Home) (o : ObjRef) → home_of (realm_over spaces).homes home ≡ Some o → IsLive (realm_over spaces).objects o
unfolding realm_over
homes_live spaces (places.Owner (Iface i)) o h = absurd (let bad : None ≡ Some o = h in cc)
homes_live spaces (places.Owner (Space i)) o h = from_space spaces i o (slice_get (homes_from 18 spaces) i) refl h
homes_live spaces (places.Prototype i) o h = absurd (let bad : None ≡ Some o = h in cc)
homes_live spaces (places.PairPrototype i) o h = absurd (let bad : None ≡ Some o = h in cc)

slots_counted : (id : ℕ) (spaces : List SpaceTerm) (i : ℕ) → option_map (λ (home : SpaceHome). home.slots) (slice_get (homes_from id spaces) i) ≡ option_map (λ (n : SpaceTerm). length n.members.attrs) (slice_get spaces i)
slots_counted id [] i = refl
slots_counted id (n ∷ spaces) zero = refl
slots_counted id (n ∷ spaces) (suc i) = slots_counted (after id n) spaces i

pub attributes_have_slots : (spaces : List SpaceTerm) (i : ℕ) → option_map (λ (home : SpaceHome). home.slots) (slice_get (realm_over spaces).homes.spaces i) ≡ option_map (λ (n : SpaceTerm). length n.members.attrs) (slice_get spaces i)
unfolding realm_over
attributes_have_slots spaces i = slots_counted 18 spaces i
