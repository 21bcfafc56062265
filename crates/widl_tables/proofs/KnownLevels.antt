-- What is known of levels, with one more, and with one that was found.
use Rattle.std.proofs.Common.{◌≡◌, ◌⊎◌, inl, inr, ℕ, zero, suc, List, [], ◌∷◌, ◌++◌, length, Some, refl, ap, subst}
use Rattle.std.specs.Prelude.{slice_get}
use Rattle.widl_idl.specs.DefinitionTerms.{DictTerm}
use Rattle.widl_tables.specs.declared.level.Known.{Known}
use Rattle.widl_tables.specs.declared.level.Known.TheVariants as known
use Rattle.widl_tables.specs.Levels.{level_of}
use Rattle.widl_tables.specs.MemberTables.{AreKnown}

-- the item at a place of a list with one item more
pub pushed : {X : Type 0} (xs : List X) (x y : X) (n : ℕ) → slice_get (xs ++ x ∷ []) n ≡ Some y → (slice_get xs n ≡ Some y) ⊎ ((n ≡ length xs) × (x ≡ y))
pushed [] x y zero e = inr (refl, (cc))
pushed [] x y (suc n) e = absurd (cc)
pushed (z ∷ xs) x y zero e = inl e
pushed (z ∷ xs) x y (suc n) e = by (pushed xs x y n e)
  where
    by : (slice_get xs n ≡ Some y) ⊎ ((n ≡ length xs) × (x ≡ y)) → (slice_get xs n ≡ Some y) ⊎ ((suc n ≡ suc (length xs)) × (x ≡ y))
    by (inl there) = inl there
    by (inr here) = inr (ap suc here.0, here.1)

module _ (dicts : List DictTerm) where
  pub none_known : (entries : List Known) → entries ≡ [] → AreKnown dicts entries
  none_known entries e n l there = absurd (let t = subst (λ (es : List Known). slice_get es n ≡ Some (known.Level l)) e there in cc)

  pub unknown_more : (entries new : List Known) → new ≡ entries ++ known.Not ∷ [] → AreKnown dicts entries → AreKnown dicts new
  unknown_more entries new e so n l there = by (pushed entries known.Not (known.Level l) n (subst (λ (es : List Known). slice_get es n ≡ Some (known.Level l)) e there))
    where
      by : (slice_get entries n ≡ Some (known.Level l)) ⊎ ((n ≡ length entries) × (known.Not ≡ known.Level l)) → l ≡ level_of dicts n
      by (inl there) = so n l there
      by (inr here) = absurd (let h = here.1 in cc)
