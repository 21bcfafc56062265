-- The objects of plans are those of a store.
use Rattle.std.proofs.Common.{lit<, ◌≡◌, ℕ, suc, ◌+◌, ◌<◌, Bool, true, false, List, [], ◌∷◌, ◌++◌, length, Option, None, Some, refl, sym, subst, true≢false, arith, append_assoc, append-nil, map, if◌then◌else◌, length-append}
use Rattle.std.specs.List.{IsDistinct}
use Rattle.std.specs.Map.{keys_of}
use Rattle.widl_idl.specs.DefinitionTerms.{SpaceTerm, OpNameTerm}
use Rattle.widl_store.specs.declared.property.Prop.{Prop}
use Rattle.widl_store.specs.Effects.{first_props}
use Rattle.widl_store.specs.Inners.{is_array, kind_of, has_shape}
use Rattle.widl_store.specs.Intrinsics.{intrinsics}
use Rattle.widl_store.specs.Objects.{Obj, same_key, length_key, length_prop, with_prop}
use Rattle.widl_store.specs.Plans.{Plan, object_of, with_entries}
use Rattle.widl_store.specs.Realm.{functions_from, namespaces_from, namespace_plans, realm_plans}
use Rattle.widl_store.specs.Sound.{Sound, SoundAt, StartsWithLength}
use Rattle.widl_store.proofs.Keeping.{sound_push}
use Rattle.widl_store.proofs.SoundObjects.{with_once, with_starts}
use Rattle.widl_text.specs.declared.key.Key.{Key}
use Rattle.widl_value.specs.declared.object.ObjRef.{ObjRef}

entries_once : (props entries : List (Key × Prop)) → IsDistinct same_key (keys_of props) → IsDistinct same_key (keys_of (with_entries props entries))
entries_once props [] d = d
entries_once props (e ∷ es) d = entries_once (with_prop props e.0 e.1) es (with_once e.0 e.1 props d)

abbrev are_no_lengths : List (Key × Prop) → Type 0
are_no_lengths [] = Unit {0}
are_no_lengths (e ∷ es) = (same_key e.0 length_key ≡ false) × are_no_lengths es

entries_start : (props entries : List (Key × Prop)) → are_no_lengths entries → StartsWithLength props → StartsWithLength (with_entries props entries)
entries_start props [] other s = s
entries_start props (e ∷ es) other s = entries_start (with_prop props e.0 e.1) es other.1 (with_starts e.0 e.1 props other.0 s)

first_once : (b : Bool) → IsDistinct same_key (keys_of (if b then (length_key, length_prop 0) ∷ [] else []))
unfolding IsDistinct
first_once true = (tt, tt)
first_once false = tt

first_starts : (b : Bool) → b ≡ true → StartsWithLength (if b then (length_key, length_prop 0) ∷ [] else [])
first_starts true array = (refl, refl)
first_starts false array = absurd (true≢false (sym array))

abbrev is_below : Option ObjRef → ℕ → Type 0
is_below None n = Unit {0}
is_below (Some p) n = p.id < n

pub record SoundPlan (n : ℕ) (p : Plan) : Type 0 where
  pub below : is_below p.proto n
  pub shape : has_shape (kind_of p.inner) p.shape ≡ true
  pub other : is_array p.inner ≡ true → are_no_lengths p.entries

plan_sound : (n : ℕ) (p : Plan) → SoundPlan n p → SoundAt n (object_of p)
plan_sound n p sound = record {
  below = λ q is. subst (λ o. is_below o n) is sound.below;
  shape = sound.shape;
  props = record {
    array = λ array. entries_start (first_props p.inner) p.entries (sound.other array) (first_starts (is_array p.inner) array);
    once = entries_once (first_props p.inner) p.entries (first_once (is_array p.inner));
  };
}

abbrev AllSound : ℕ → List Plan → Type 0
AllSound n [] = Unit {0}
AllSound n (p ∷ ps) = SoundPlan n p × AllSound (suc n) ps

sound_more : (objects : List Obj) (ps : List Plan) → Sound objects → AllSound (length objects) ps → Sound (objects ++ map object_of ps)
sound_more objects [] sound all = subst Sound (sym (append-nil objects)) sound
sound_more objects (p ∷ ps) sound all =
    let longer : length (objects ++ object_of p ∷ []) ≡ suc (length objects) = omega (arith, length-append objects (object_of p ∷ [])) in
    subst Sound (append_assoc objects (object_of p ∷ []) (map object_of ps))
    (sound_more (objects ++ object_of p ∷ []) ps (sound_push objects (object_of p) sound (plan_sound (length objects) p all.0)) (subst (λ n. AllSound n ps) (sym longer) all.1))

functions_sound : (n space place : ℕ) (ops : List OpNameTerm) → 1 < n → AllSound n (functions_from space place ops)
functions_sound n space place [] more = tt
functions_sound n space place (op ∷ ops) more = (record { below = more; shape = refl; other = λ array. absurd (true≢false (sym array)) }, functions_sound (suc n) space (place + 1) ops (omega arith))

all_more : (n : ℕ) (ps qs : List Plan) → AllSound n ps → AllSound (n + length ps) qs → AllSound n (ps ++ qs)
all_more n [] qs all more = subst (λ k. AllSound k qs) (let e : n + 0 ≡ n = omega arith in e) more
all_more n (p ∷ ps) qs all more = (all.0, all_more (suc n) ps qs all.1 (subst (λ k. AllSound k qs) (let e : n + suc (length ps) ≡ suc n + length ps = omega arith in e) more))

namespaces_sound : (n id space : ℕ) (spaces : List SpaceTerm) → 1 < n → AllSound n (namespaces_from id space spaces)
namespaces_sound n id space [] more = tt
namespaces_sound n id space (s ∷ spaces) more =
    all_more n (namespace_plans id space s) (namespaces_from (id + 1 + length s.members.ops) (space + 1) spaces)
    (record { below = omega arith; shape = refl; other = λ array. absurd (true≢false (sym array)) }, functions_sound (suc n) space 0 s.members.ops (omega arith))
    (namespaces_sound (n + length (namespace_plans id space s)) (id + 1 + length s.members.ops) (space + 1) spaces (omega arith))

no_objects : Sound []
no_objects = record { each = λ id o at. absurd (let bad : None ≡ Some o = at in cc) }

row : {n : ℕ} {p : Plan} → is_below p.proto n → has_shape (kind_of p.inner) p.shape ≡ true → (is_array p.inner ≡ true → are_no_lengths p.entries) → SoundPlan n p
row below shape other = record { below = below; shape = shape; other = other }

none_array : {A : Type 0} → false ≡ true → A
none_array bad = absurd (true≢false (sym bad))

intrinsics_sound : AllSound 0 intrinsics
unfolding intrinsics length_key
intrinsics_sound = (
  row tt refl none_array,
  (
    row (lit< tt) refl none_array,
    (
      row (lit< tt) refl (λ _. (refl, (refl, (refl, (refl, tt))))),
      (
        row (lit< tt) refl none_array,
        (
          row (lit< tt) refl none_array,
          (
            row (lit< tt) refl none_array,
            (
              row (lit< tt) refl none_array,
              (
                row (lit< tt) refl none_array,
                (
                  row (lit< tt) refl none_array,
                  (
                    row (lit< tt) refl none_array,
                    (
                      row (lit< tt) refl none_array,
                      (
                        row (lit< tt) refl none_array,
                        (
                          row (lit< tt) refl none_array,
                          (
                            row (lit< tt) refl none_array,
                            (
                              row (lit< tt) refl none_array,
                              (
                                row (lit< tt) refl none_array,
                                (
                                  row (lit< tt) refl none_array,
                                  (
                                    row (lit< tt) refl none_array,
                                    tt,
                                  ),
                                ),
                              ),
                            ),
                          ),
                        ),
                      ),
                    ),
                  ),
                ),
              ),
            ),
          ),
        ),
      ),
    ),
  ),
)

pub intrinsics_are_18 : length intrinsics ≡ 18
unfolding intrinsics
intrinsics_are_18 = refl

-- the objects of the first store
pub realm_sound : (spaces : List SpaceTerm) → Sound (map object_of (realm_plans spaces))
realm_sound spaces = sound_more [] (realm_plans spaces) no_objects (all_more 0 intrinsics (namespaces_from 18 0 spaces) intrinsics_sound (namespaces_sound (0 + length intrinsics) 18 0 spaces (omega (arith, intrinsics_are_18))))
