-- The keys and the entries of a record, as they stand in a list and a map.
use Rattle.std.proofs.Common.{◌≡◌, ℕ, ◌+◌, ◌<◌, Bool, true, false, cond, nat_eq, List, [], ◌∷◌, length, drop, map, set, Some, slice_get, arith, refl, sym, ap, ◌∙◌}
use Rattle.std.proofs.lemmas.List.{length-set, take_all}
use Rattle.std.proofs.lemmas.Slice.Eq.{bytes_eq-Decides}
use Rattle.std.specs.Cmp.Lexicographic.{pointwise}
use Rattle.std.specs.Prelude.{bytes_eq}
use Rattle.indexmap.specs.IndexMap.{insert_entry}
use Rattle.widl_text.specs.declared.key.Key.{Key}
use Rattle.widl_value.specs.declared.idl_value.IdlValue.{IdlValue}
use Rattle.widl_value.specs.IdlTerms.{entry_term, idl_term}
use Rattle.widl_steps.specs.Records.{with_entry}
use Rattle.widl_convert.proofs.Resolving.{next_argument}

-- the next key is taken, and another stands in its place
pub next_key : (keys rest : List Key) (k : ℕ) (key x : Key) → k < length keys → slice_get keys k ≡ Some key → rest ≡ set keys k x → drop k keys ≡ key ∷ drop (k + 1) rest
next_key keys rest k key x below is taken =
    ap (drop k) (sym (take_all (length keys) keys (omega arith)))
    ∙ next_argument keys (length keys) k key x below is
    ∙ ap (λ l. key ∷ drop (k + 1) l) (take_all (length keys) (set keys k x) (omega (arith, length-set keys k x)) ∙ sym taken)

set_at : (key : List ℕ) (w : IdlValue) (e : List ℕ × IdlValue) (es : List (List ℕ × IdlValue)) (b : Bool) → b ≡ bytes_eq key e.0 → with_entry key (idl_term w) (map entry_term es) ≡ map entry_term (insert_entry (pointwise nat_eq) es key w)
    → cond b ((key, idl_term w) ∷ map entry_term es) (entry_term e ∷ with_entry key (idl_term w) (map entry_term es)) ≡ map entry_term (cond b ((e.0, w) ∷ es) (e ∷ insert_entry (pointwise nat_eq) es key w))
set_at key w e es true is later = ap (λ (k : List ℕ). (k, idl_term w) ∷ map entry_term es) ((bytes_eq-Decides key e.0).0 (sym is))
set_at key w e es false is later = ap (λ rest. entry_term e ∷ rest) later

-- a key gets a value
pub entry_set : (key : List ℕ) (w : IdlValue) (es : List (List ℕ × IdlValue)) → with_entry key (idl_term w) (map entry_term es) ≡ map entry_term (insert_entry (pointwise nat_eq) es key w)
entry_set key w [] = refl
entry_set key w (e ∷ es) = set_at key w e es (bytes_eq key e.0) refl (entry_set key w es)
