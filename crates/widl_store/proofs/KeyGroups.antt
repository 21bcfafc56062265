-- Keys by what they are: the three groups together are all of them.
use Rattle.std.proofs.Common.{◌≡◌, Bool, true, false, List, [], ◌∷◌, ◌++◌, filter, sym, ◌∙◌, ap, subst, append_assoc, if◌then◌else◌}
use Rattle.std.specs.Prelude.{not}
use Rattle.std.specs.List.{IsDistinct}
use Rattle.std.specs.List.Sorted.{IsPermutation, IsNonDecreasingBy}
use Rattle.std.proofs.lemmas.List.Sorted.{IsPermutation-refl, IsPermutation-cons, IsPermutation-trans, IsPermutation-sym, IsPermutation-middle, IsPermutation-append}
use Rattle.std.proofs.lemmas.Map.Keys.{IsDistinct-IsPermutation}
use Rattle.widl_store.specs.Objects.{same_key}
use Rattle.widl_store.specs.OwnKeys.{OwnKeys, is_index, is_name, is_symbol, number_of}
use Rattle.widl_store.proofs.KeyEquality.{same_key_equiv}
use Rattle.widl_text.specs.declared.key.Key.{Key}
use Rattle.widl_text.specs.declared.key.Key.TheVariants.{Name, Sym}

pub grouped_moved : (keys : List Key) → IsPermutation keys (filter is_index keys ++ (filter is_name keys ++ filter is_symbol keys))
grouped_moved [] = IsPermutation-refl []
grouped_moved (Sym id ∷ keys) =
    IsPermutation-trans _ _ _ (IsPermutation-cons (Sym id) _ _ (grouped_moved keys))
    (subst (λ (l : List Key). IsPermutation (Sym id ∷ l) (filter is_index keys ++ (filter is_name keys ++ Sym id ∷ filter is_symbol keys))) (append_assoc (filter is_index keys) (filter is_name keys) (filter is_symbol keys))
    (subst (λ (l : List Key). IsPermutation (Sym id ∷ ((filter is_index keys ++ filter is_name keys) ++ filter is_symbol keys)) l) (append_assoc (filter is_index keys) (filter is_name keys) (Sym id ∷ filter is_symbol keys))
    (IsPermutation-sym _ _ (IsPermutation-middle (filter is_index keys ++ filter is_name keys) (Sym id) (filter is_symbol keys)))))
grouped_moved (Name text ∷ keys) = go (is_index (Name text)) (grouped_moved keys)
  where
    go : (b : Bool) → IsPermutation keys (filter is_index keys ++ (filter is_name keys ++ filter is_symbol keys)) → IsPermutation (Name text ∷ keys) ((if b then Name text ∷ filter is_index keys else filter is_index keys) ++ ((if not b then Name text ∷ filter is_name keys else filter is_name keys) ++ filter is_symbol keys))
    go true rest = IsPermutation-cons (Name text) _ _ rest
    go false rest = IsPermutation-trans _ _ _ (IsPermutation-cons (Name text) _ _ rest) (IsPermutation-sym _ _ (IsPermutation-middle (filter is_index keys) (Name text) (filter is_name keys ++ filter is_symbol keys)))

pub own_keys_of : (keys indices all : List Key) → IsDistinct same_key keys → IsPermutation (filter is_index keys) indices → IsNonDecreasingBy number_of indices → all ≡ indices ++ (filter is_name keys ++ filter is_symbol keys) → OwnKeys keys all
own_keys_of keys indices all distinct moved ascending is = record {
  indices = indices;
  is = is;
  all = moved;
  ascending = ascending;
  once = IsDistinct-IsPermutation same_key same_key_equiv.symm keys all
      (subst (IsPermutation keys) (sym is) (IsPermutation-trans _ _ _ (grouped_moved keys) (IsPermutation-append (filter is_index keys) indices (filter is_name keys ++ filter is_symbol keys) (filter is_name keys ++ filter is_symbol keys) moved (IsPermutation-refl _))))
      distinct;
}

-- the same, in the steps of the code
pub own_keys_by : (keys named symbols found indices none first second all : List Key) → IsDistinct same_key keys → found ≡ filter is_index keys → named ≡ filter is_name keys → symbols ≡ filter is_symbol keys → IsPermutation found indices → IsNonDecreasingBy number_of indices → none ≡ [] → first ≡ none ++ indices → second ≡ first ++ named → all ≡ second ++ symbols → OwnKeys keys all
own_keys_by keys named symbols found indices none first second all distinct is_found is_named are_symbols moved ascending empty one two three =
    own_keys_of keys indices all distinct (subst (λ (l : List Key). IsPermutation l indices) is_found moved) ascending
    (three ∙ ap (λ l. l ++ symbols) (two ∙ ap (λ l. l ++ named) (one ∙ ap (λ l. l ++ indices) empty)) ∙ append_assoc indices named symbols ∙ ap (λ l. indices ++ l) (ap (λ l. l ++ symbols) is_named ∙ ap (λ l. filter is_name keys ++ l) are_symbols))
