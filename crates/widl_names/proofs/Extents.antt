-- What is made of types: the whole of them is they themselves, and outlines of parts are those of the whole.
use Rattle.std.proofs.Common.{◌≡◌, ℕ, Bool, true, false, cond, zero, suc, List, [], ◌∷◌, map, refl, sym, ap, ◌∙◌}
use Rattle.widl_idl.specs.Resolution.{is_nullable, is_nullable_twice, nullable_of}
use Rattle.widl_idl.specs.Terms.{TypeTerm, TypeTerms, SequenceType, RecordType, PromiseType, NullableType, UnionType, no_types, more_types, packed}
use Rattle.widl_names.specs.declared.extent.Extent.{Extent}
use Rattle.widl_names.specs.declared.extent.Extent.TheVariants.{Whole, Outline}
use Rattle.widl_names.specs.Extents.{made, made_members}
use Rattle.widl_names.specs.TypeUses.{questioned}

mutual
  pub made_whole : (t : TypeTerm) → made Whole t ≡ t
  made_whole (NullableType t) = ap NullableType (made_whole t)
  made_whole (UnionType ts) = ap UnionType (members_whole ts)
  made_whole t = refl

  members_whole : (ts : TypeTerms) → made_members Whole ts ≡ ts
  members_whole no_types = refl
  members_whole (more_types t ts) = λ j. more_types (made_whole t j) (members_whole ts j)

module _ (extent : Extent) where
  same_nullable : (t : TypeTerm) → is_nullable (made extent t) ≡ is_nullable t
  same_nullable (NullableType t) = refl
  same_nullable t = refl

  same_twice : (t : TypeTerm) → is_nullable_twice (made extent t) ≡ is_nullable_twice t
  same_twice (NullableType t) = same_nullable t
  same_twice t = refl

  made_nullable : (t : TypeTerm) → made extent (nullable_of t) ≡ nullable_of (made extent t)
  made_nullable t = go (is_nullable_twice t) ∙ ap (λ b. cond b (made extent t) (NullableType (made extent t))) (sym (same_twice t))
    where
      go : (b : Bool) → made extent (cond b t (NullableType t)) ≡ cond b (made extent t) (NullableType (made extent t))
      go true = refl
      go false = refl

  -- `?`s stand after what is made
  pub made_questioned : (n : ℕ) (t : TypeTerm) → questioned n (made extent t) ≡ made extent (questioned n t)
  made_questioned zero t = refl
  made_questioned (suc n) t = ap nullable_of (made_questioned n t) ∙ sym (made_nullable (questioned n t))

  -- of members each by itself
  pub made_packed : {X : Type 0} (f : X → TypeTerm) (xs : List X) → packed (map (λ x. made extent (f x)) xs) ≡ made_members extent (packed (map f xs))
  made_packed f [] = refl
  made_packed f (x ∷ xs) = ap (more_types (made extent (f x))) (made_packed f xs)
