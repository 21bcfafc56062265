-- Copies of the first ones of a list: one more of them, and all of them.
use Rattle.std.proofs.Common.{◌≡◌, ℕ, ◌+◌, ◌++◌, zero, suc, List, [], ◌∷◌, length, map, take, arith, refl, sym, ap, subst, ◌∙◌, Bor}
use Rattle.std.specs.Prelude.{Option, None, Some, slice_get, option_map, OnOk, Ok, Err}
use Rattle.std.specs.declared.result.Result.{Result}
use Rattle.std.proofs.lemmas.List.{length-append}
use Rattle.std.proofs.lemmas.Option.{same_Some, slice_get-map}
use Rattle.widl_value.specs.Copies.{IsFront, copied, parts, source_term}
use Rattle.widl_value.specs.IdlTerms.{DictionaryValue, RecordValue, SequenceValue, entry_terms, idl_term, idl_terms, member_terms, packed_entries, packed_members, packed_values}
use Rattle.widl_value.specs.declared.copying.Copying.{Copying}
use Rattle.widl_value.specs.declared.copying.Copying.TheVariants as kinds
use Rattle.widl_value.specs.declared.idl_entries.IdlEntries.{IdlEntries}
use Rattle.widl_value.specs.declared.idl_members.IdlMembers.{IdlMembers}
use Rattle.widl_value.specs.declared.idl_value.IdlValue as variants
use Rattle.widl_value.specs.declared.idl_values.IdlValues.{IdlValues}
use Rattle.widl_value.proofs.Dictionaries.{dictionary_term, record_term, sequence_term}

take_more : {X : Type 0} (xs : List X) (n : ℕ) (x : X) → slice_get xs n ≡ Some x → take (n + 1) xs ≡ take n xs ++ x ∷ []
take_more [] n x is = absurd (cc)
take_more (y ∷ xs) zero x is = ap (λ z. z ∷ []) (same_Some y x is)
take_more (y ∷ xs) (suc n) x is =
    let m : suc n + 1 ≡ suc (n + 1) = omega arith in
    ap (λ k. take k (y ∷ xs)) m ∙ ap (λ l. y ∷ l) (take_more xs n x is)

-- one more
pub front_more : {X : Type 0} (source old new : List X) (x : X) → old ≡ take (length old) source → slice_get source (length old) ≡ Some x → new ≡ old ++ x ∷ [] → new ≡ take (length new) source
front_more source old new x front is pushed =
    let more : length new ≡ length old + 1 = ap length pushed ∙ length-append old (x ∷ []) in
    pushed ∙ ap (λ l. l ++ x ∷ []) front ∙ sym (take_more source (length old) x is) ∙ ap (λ n. take n source) (sym more)

pub length_more : {X : Type 0} (old new : List X) (x : X) → new ≡ old ++ x ∷ [] → length new ≡ length old + 1
length_more old new x pushed = ap length pushed ∙ length-append old (x ∷ [])

take_whole : {X : Type 0} (xs : List X) (n : ℕ) → slice_get xs n ≡ None → take n xs ≡ xs
take_whole [] zero is = refl
take_whole [] (suc n) is = refl
take_whole (x ∷ xs) zero is = absurd (cc)
take_whole (x ∷ xs) (suc n) is = ap (λ l. x ∷ l) (take_whole xs n is)

-- all of them
pub front_whole : {X : Type 0} (source copy : List X) → copy ≡ take (length copy) source → slice_get source (length copy) ≡ None → copy ≡ source
front_whole source copy front past = front ∙ take_whole source (length copy) past

none_in : {X Y : Type 0} (f : X → Y) (o : Option X) → option_map f o ≡ None → o ≡ None
none_in f None is = refl
none_in f (Some x) is = absurd (cc)

-- where what is read off the items ends, they end
pub none_of : {X Y : Type 0} (f : X → Y) (xs : List X) (n : ℕ) → slice_get (map f xs) n ≡ None → slice_get xs n ≡ None
none_of f xs n past = none_in f (slice_get xs n) (sym (slice_get-map f xs n) ∙ past)

-- a clause that follows from another one
pub map_ok : {T F : Type 0} (r : Result T F) {P Q : Type 0} → (P → Q) → OnOk r P → OnOk r Q
map_ok (Ok x) f p = f p
map_ok (Err e) f p = tt

-- a sequence, a record or a dictionary is copied where all in it is
pub finished_values : (x : Copying) (source : Bor IdlValues) (copy : IdlValues) → x ≡ kinds.Values source copy → IsFront x → slice_get (parts x) (copied x) ≡ None → idl_term (variants.List copy) ≡ source_term x
finished_values x source copy is front past =
    let past_all : slice_get (idl_terms source.now) (length (idl_terms copy)) ≡ None = subst (λ x. slice_get (parts x) (copied x) ≡ None) is past in
    sequence_term copy
    ∙ ap (λ values. SequenceValue (packed_values values)) (front_whole (idl_terms source.now) (idl_terms copy) (subst IsFront is front) past_all)
    ∙ sym (ap source_term is)

pub finished_entries : (x : Copying) (source : Bor IdlEntries) (copy : IdlEntries) → x ≡ kinds.Entries source copy → IsFront x → slice_get (parts x) (copied x) ≡ None → idl_term (variants.Entries copy) ≡ source_term x
finished_entries x source copy is front past =
    let past_all : slice_get (map (λ entry. entry.1) (entry_terms source.now)) (length (entry_terms copy)) ≡ None = subst (λ x. slice_get (parts x) (copied x) ≡ None) is past in
    record_term copy
    ∙ ap (λ entries. RecordValue (packed_entries entries)) (front_whole (entry_terms source.now) (entry_terms copy) (subst IsFront is front) (none_of (λ entry. entry.1) (entry_terms source.now) (length (entry_terms copy)) past_all))
    ∙ sym (ap source_term is)

pub finished_members : (x : Copying) (dictionary : ℕ) (source : Bor IdlMembers) (copy : IdlMembers) → x ≡ kinds.Members dictionary source copy → IsFront x → slice_get (parts x) (copied x) ≡ None
    → idl_term (variants.Dict dictionary copy) ≡ source_term x
finished_members x dictionary source copy is front past =
    let past_all : slice_get (map (λ member. member.2) (member_terms source.now)) (length (member_terms copy)) ≡ None = subst (λ x. slice_get (parts x) (copied x) ≡ None) is past in
    dictionary_term dictionary copy
    ∙ ap (λ members. DictionaryValue dictionary (packed_members members)) (front_whole (member_terms source.now) (member_terms copy) (subst IsFront is front) (none_of (λ member. member.2) (member_terms source.now) (length (member_terms copy)) past_all))
    ∙ sym (ap source_term is)
