-- The distinguishing argument index as the first place that passes a test.
use Rattle.std.proofs.Common.{◌≡◌, ℕ, ◌⊎◌, inl, inr, true, false, cond, List, length, nat_le, arith, sym, ap, ◌∙◌}
use Rattle.std.specs.Prelude.{Option, None, Some}
use Rattle.std.proofs.lemmas.Bool.{cases_Bool, le-leb, leb-true}
use Rattle.widl_idl.specs.DefinitionTerms.{IfaceTerm}
use Rattle.widl_overload.specs.sets.Index.{IsDistinguishingIndex, of_one_length, distinguishes}
use Rattle.widl_overload.specs.sets.Sets.{TupleTerm}
use Rattle.widl_spell.specs.Ids.{first_from}
use Rattle.widl_spell.proofs.FirstFrom.{first_from_at, first_from_none}
use Rattle.widl_sets.specs.Lines.{index_of}

pub index_is : (ifaces : List IfaceTerm) (tuples : List TupleTerm) (len : ℕ) (index : Option ℕ) → IsDistinguishingIndex ifaces tuples len index → index ≡ index_of ifaces tuples len
unfolding index_of
index_is ifaces tuples len None h = by (cases_Bool (nat_le 2 (length (of_one_length len tuples))))
  where
    by : (nat_le 2 (length (of_one_length len tuples)) ≡ true) ⊎ (nat_le 2 (length (of_one_length len tuples)) ≡ false) → None ≡ index_of ifaces tuples len
    by (inl several) =
        sym (first_from_none (distinguishes ifaces tuples len) 0 len (λ q from below. h (leb-true 2 (length (of_one_length len tuples)) several) q (omega (arith, below))))
        ∙ sym (ap (λ b. cond b (first_from (distinguishes ifaces tuples len) 0 len) None) several)
    by (inr few) = sym (ap (λ b. cond b (first_from (distinguishes ifaces tuples len) 0 len) None) few)
index_is ifaces tuples len (Some place) h =
    sym (first_from_at (distinguishes ifaces tuples len) 0 len place (omega arith) (let within = h.within in omega (arith, within)) h.tells (λ q from below. h.lowest q below))
    ∙ sym (ap (λ b. cond b (first_from (distinguishes ifaces tuples len) 0 len) None) (le-leb 2 (length (of_one_length len tuples)) h.several))
