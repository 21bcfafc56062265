-- When a source of one type fits another, in a list without interfaces.
use Rattle.std.proofs.Common.{◌≡◌, ◌⊎◌, inl, inr, ◌↔◌, ℕ, Bool, true, false, ◌||◌, IsTrue, [], refl, sym, subst, ◌∙◌, arith, map}
use Rattle.std.specs.Option.{option_to_list}
use Rattle.widl_graph.specs.Reaching.{Reaches, Step, one, more}
use Rattle.widl_idl.specs.DefinitionTerms.{DefsTerm, IfaceTerm}
use Rattle.widl_idl.specs.Terms.{TypeTerm, NullableType}
use Rattle.widl_idl.proofs.Same.{is_told_same, tells_same}
use Rattle.widl_script_rules.specs.FitTests.{fits_by, same_plain}
use Rattle.widl_script_rules.specs.Fits.{InheritsFrom, TypeFits, same, nullable, inherits, without_annotations}

no_step : (n m : ℕ) → Step [] n m → ⊥
no_step n m s = absurd (let l = s.1 in omega arith)

nothing_reached : (n m : ℕ) → Reaches [] n m → ⊥
nothing_reached n m (one s) = no_step n m s
nothing_reached n m (more {y = y} s r) = no_step n y s

inner_same : {v w : TypeTerm} → NullableType v ≡ NullableType w → v ≡ w
inner_same e = (cc)

either : (a b : Bool) → (a || b) ≡ true → (a ≡ true) ⊎ (b ≡ true)
either true b h = inl refl
either false b h = inr h

first_set : (a b : Bool) → a ≡ true → (a || b) ≡ true
first_set true b h = refl
first_set false b h = absurd (let f : false ≡ true = h in (cc))

second_set : (a b : Bool) → b ≡ true → (a || b) ≡ true
second_set true b h = refl
second_set false b h = h

tested_same : (t u : TypeTerm) → same_plain t u ≡ true → without_annotations t ≡ without_annotations u
tested_same t u h = tells_same (without_annotations t) (without_annotations u) (same_plain t u) refl h

same_tested : (t u : TypeTerm) → without_annotations t ≡ without_annotations u → same_plain t u ≡ true
same_tested t u e = is_told_same (without_annotations t) (without_annotations u) (same_plain t u) refl e

module _ (list : DefsTerm) (bare : list.ifaces ≡ []) where
  none_inherits : (n m : ℕ) → InheritsFrom list n m → ⊥
  none_inherits n m h = nothing_reached n m (subst (λ ifaces. Reaches (map (λ (i : IfaceTerm). option_to_list i.parent) ifaces) n m) bare h)

  -- the same without annotations, or nullable over one that it fits
  cases : {t u : TypeTerm} → TypeFits list t u → (without_annotations t ≡ without_annotations u) ⊎ ((v : TypeTerm) × (u ≡ NullableType v) × TypeFits list t v)
  cases (same e) = inl e
  cases (nullable {u = v} f) = inr (v, refl, f)
  cases (inherits {n = n} {m = m} h) = absurd (none_inherits n m h)

  nullable_told : (t v : TypeTerm) → (fits_by t v ≡ true) ↔ TypeFits list t v → ((same_plain t (NullableType v) || fits_by t v) ≡ true) ↔ TypeFits list t (NullableType v)
  nullable_told t v told = (
    λ h. elim (either (same_plain t (NullableType v)) (fits_by t v) h) [ inl e ↦ same (tested_same t (NullableType v) e) | inr e ↦ nullable (told.0 e) ],
    λ f.
        elim (cases f) [
          | inl e ↦ first_set (same_plain t (NullableType v)) (fits_by t v) (same_tested t (NullableType v) e)
          | inr w ↦ second_set (same_plain t (NullableType v)) (fits_by t v) (told.1 (subst (TypeFits list t) (sym (inner_same w.1)) w.2))
        ],
  )

  other_told : (t u : TypeTerm) → ((v : TypeTerm) → u ≡ NullableType v → ⊥) → (same_plain t u ≡ true) ↔ TypeFits list t u
  other_told t u other = (
    λ h. same (tested_same t u h),
    λ f. elim (cases f) [ inl e ↦ same_tested t u e | inr w ↦ absurd (other w.0 w.1) ],
  )

  fits_told : (t u : TypeTerm) → (fits_by t u ≡ true) ↔ TypeFits list t u
  fits_told t (NullableType v) = nullable_told t v (fits_told t v)
  fits_told t u = other_told t u (λ v e. (cc))

pub told_by_test : (t u : TypeTerm) (b : Bool) → b ≡ fits_by t u → (list : DefsTerm) → list.ifaces ≡ [] → IsTrue b ↔ TypeFits list t u
told_by_test t u b is list bare = let told = fits_told list bare t u in (λ h. told.0 (sym is ∙ h), λ f. is ∙ told.1 f)
