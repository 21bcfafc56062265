-- Which dictionaries have a required member: those with one of their own, and those that come from one of these.
use Rattle.std.proofs.Common.{◌≡◌, ◌⊎◌, ◌↔◌, inl, inr, ℕ, Bool, true, false, ◌||◌, zero, suc, List, [], ◌∷◌, map, get_or, slice_get, None, Some, refl, sym, ap, subst, ◌∙◌}
use Rattle.std.specs.List.{list_any}
use Rattle.std.proofs.lemmas.Bool.{or_left, or_right}
use Rattle.std.proofs.lemmas.Option.{same_Some}
use Rattle.widl_graph.specs.Flags.{TellsReached}
use Rattle.widl_idl.specs.declared.dictionary.Member.{Member}
use Rattle.widl_idl.specs.DefinitionTerms.{DictTerm, MemberTerm, member_term}
use Rattle.widl_overload.specs.rules.Dictionaries.{HasRequired, dictionary_parents}
use Rattle.widl_fits.specs.Required.{has_own}

-- the members of a dictionary and their terms are required alike
pub any_needed : (members : List Member) → list_any (λ (m : MemberTerm). m.needed) (map member_term members) ≡ list_any (λ (m : Member). m.required) members
any_needed [] = refl
any_needed (m ∷ members) = ap (λ b. m.required || b) (any_needed members)

own_at : (dicts : List DictTerm) (n : ℕ) → get_or (map has_own dicts) n false ≡ true → (d : DictTerm) × (slice_get dicts n ≡ Some d) × (has_own d ≡ true)
own_at [] n e = absurd (let f : false ≡ true = e in (cc))
own_at (d ∷ dicts) zero e = (d, refl, e)
own_at (d ∷ dicts) (suc n) e = own_at dicts n e

at_own : (dicts : List DictTerm) (n : ℕ) (d : DictTerm) → slice_get dicts n ≡ Some d → has_own d ≡ true → get_or (map has_own dicts) n false ≡ true
at_own [] n d is e = absurd (let f : None ≡ Some d = is in (cc))
at_own (x ∷ dicts) zero d is e = ap has_own (same_Some x d is) ∙ e
at_own (x ∷ dicts) (suc n) d is e = at_own dicts n d is e

either_true : (a b : Bool) → (a || b) ≡ true → (a ≡ true) ⊎ (b ≡ true)
either_true true b h = inl refl
either_true false b h = inr h

module _ (dicts : List DictTerm) (own inherited : List Bool) (own_is : own ≡ map has_own dicts) (told : TellsReached (dictionary_parents dicts) own inherited) (n : ℕ) where
  flagged : (m : ℕ) → get_or own m false ≡ true → (d : DictTerm) × (slice_get dicts m ≡ Some d) × (has_own d ≡ true)
  flagged m e = own_at dicts m (sym (ap (λ flags. get_or flags m false) own_is) ∙ e)

  requires : (get_or own n false || get_or inherited n false) ≡ true → HasRequired dicts n
  requires e = elim (either_true (get_or own n false) (get_or inherited n false) e) [
    | inl o ↦ let d = flagged n o in record { declaring = n; dictionary = d.0; of_line = inl refl; is = d.1; required = d.2 }
    | inr i ↦ let r = (told.tells n).0 i in let d = flagged r.node r.flagged in record { declaring = r.node; dictionary = d.0; of_line = inr r.reaches; is = d.1; required = d.2 }
  ]

  required : HasRequired dicts n → (get_or own n false || get_or inherited n false) ≡ true
  required h =
      let there : get_or own h.declaring false ≡ true = ap (λ flags. get_or flags h.declaring false) own_is ∙ at_own dicts h.declaring h.dictionary h.is h.required in
      elim h.of_line [
        | inl e ↦ or_left (get_or own n false) (get_or inherited n false) (ap (λ m. get_or own m false) e ∙ there)
        | inr r ↦ or_right (get_or own n false) (get_or inherited n false) ((told.tells n).1 (record { node = h.declaring; reaches = r; flagged = there }))
      ]

  pub tells_required : ((get_or own n false || get_or inherited n false) ≡ true) ↔ HasRequired dicts n
  tells_required = (requires, required)
