-- The search along the prototypes.
use Rattle.std.proofs.Common.{◌≡◌, ℕ, suc, zero, ◌<◌, List, slice_get, Option, None, Some, refl, ap, ◌∙◌, arith}
use Rattle.widl_text.specs.declared.key.Key.{Key}
use Rattle.widl_value.specs.declared.object.ObjRef.{ObjRef}
use Rattle.widl_store.specs.declared.property.Prop.{Prop}
use Rattle.std.specs.Option.{option_and_then}
use Rattle.widl_store.specs.Objects.{Obj, prop_at}
use Rattle.widl_store.specs.Found.{first_along, found_at, own_or}
use Rattle.widl_store.specs.Sound.{Sound}

further : (id : ℕ) (f g : ℕ → Option Prop) → ((i : ℕ) → i < id → f i ≡ g i) → (p : Option Prop) (proto : Option ObjRef) → ((q : ObjRef) → proto ≡ Some q → q.id < id) → own_or p proto f ≡ own_or p proto g
further id f g same (Some p) proto lower = refl
further id f g same None None lower = refl
further id f g same None (Some q) lower = same q.id (lower q refl)

module _ (objects : List Obj) (sound : Sound objects) (key : Key) where
  -- each bound above the number gives the same
  pub enough : (n m id : ℕ) → id < n → id < m → first_along n objects id key ≡ first_along m objects id key
  enough zero m id small less = absurd (omega arith)
  enough (suc n) zero id small less = absurd (omega arith)
  enough (suc n) (suc m) id small less = at (slice_get objects id) refl (λ i low. enough n m i (omega arith) (omega arith))
    where
      at : (o : Option Obj) → slice_get objects id ≡ o → ((i : ℕ) → i < id → first_along n objects i key ≡ first_along m objects i key)
          → option_and_then (λ o. own_or (prop_at o.props key) o.proto (λ i. first_along n objects i key)) o ≡ option_and_then (λ o. own_or (prop_at o.props key) o.proto (λ i. first_along m objects i key)) o
      at None e same = refl
      at (Some o) e same = further id _ _ same (prop_at o.props key) o.proto (sound.each id o e).below

module _ (objects : List Obj) (key : Key) (at : ℕ) (o : Obj) (is : slice_get objects at ≡ Some o) where
  opened : first_along (suc at) objects at key ≡ own_or (prop_at o.props key) o.proto (λ i. first_along at objects i key)
  opened = ap (option_and_then (λ o. own_or (prop_at o.props key) o.proto (λ i. first_along at objects i key))) is

  -- the object has the key
  pub found_here : (prop : Prop) → prop_at o.props key ≡ Some prop → found_at objects at key ≡ Some prop
  unfolding found_at
  found_here prop has = opened ∙ ap (λ p. own_or p o.proto (λ i. first_along at objects i key)) has

  -- it has neither the key nor a prototype
  pub ends_here : prop_at o.props key ≡ None → o.proto ≡ None → found_at objects at key ≡ None
  unfolding found_at
  ends_here lacks last = opened ∙ ap (λ p. own_or p o.proto (λ i. first_along at objects i key)) lacks ∙ ap (λ q. own_or None q (λ i. first_along at objects i key)) last

  -- it hasn't the key, and has a prototype
  pub goes_on : Sound objects → (q : ObjRef) → prop_at o.props key ≡ None → o.proto ≡ Some q → found_at objects at key ≡ found_at objects q.id key
  unfolding found_at
  goes_on sound q lacks next = opened ∙ ap (λ p. own_or p o.proto (λ i. first_along at objects i key)) lacks ∙ ap (λ q. own_or None q (λ i. first_along at objects i key)) next
      ∙ enough objects sound key at (suc q.id) q.id ((sound.each at o is).below q next) (omega arith)

pub lower_within : (a b n : ℕ) → a < b → b < n → a < n
lower_within a b n low high = omega (arith, low, high)
