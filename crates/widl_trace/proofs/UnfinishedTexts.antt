-- The text of a value as its head and the items that are left, and what writing one of these leaves.
use Rattle.std.proofs.Common.{◌≡◌, ℕ, false, ◌+◌, ◌<◌, ◌++◌, zero, suc, List, [], ◌∷◌, codes, map, drop, length, get_or, arith, refl, sym, ap, ◌∙◌, append-nil, append_assoc, subst, Bor}
use Rattle.std.specs.Prelude.{Option, None, Some, slice_get, option_map}
use Rattle.std.specs.List.{flat_map}
use Rattle.std.specs.Option.{is_some}
use Rattle.std.proofs.lemmas.List.{length-append}
use Rattle.std.proofs.lemmas.Option.{same_Some, slice_get-get_or, slice_get-map, slice_get_within}
use Rattle.widl_idl.specs.DefinitionTerms.{DefsTerm}
use Rattle.widl_value.specs.IdlTerms.{IdlTerm, UndefinedValue, idl_term, idl_terms, entry_terms, member_terms}
use Rattle.widl_value.specs.declared.idl_entries.IdlEntries.{IdlEntries}
use Rattle.widl_value.specs.declared.idl_members.IdlMembers.{IdlMembers}
use Rattle.widl_value.specs.declared.idl_value.IdlValue.{IdlValue}
use Rattle.widl_value.specs.declared.idl_value.IdlValue as variants
use Rattle.widl_value.specs.declared.idl_values.IdlValues.{IdlValues}
use Rattle.widl_value.proofs.Dictionaries.{dictionary_term, record_term, sequence_term}
use Rattle.widl_value.proofs.Places.{drop_at}
use Rattle.widl_spell.specs.Names.{separated, sign_before}
use Rattle.widl_trace.specs.CalleeTexts.{name_or_nothing}
use Rattle.widl_trace.specs.IdlValueTexts.{dictionary_name, entry_text, idl_value_text, member_name, member_text}
use Rattle.widl_trace.specs.Unfinished.{all_left, end_text, first_front, front_text, head_text, in_a_row, item_text, label_text, labelled, left_items, left_or_nothing, left_text}
use Rattle.widl_trace.specs.ValueTexts.{quoted}
use Rattle.widl_trace.specs.declared.unfinished.Contents.{Contents}
use Rattle.widl_trace.specs.declared.unfinished.Contents.TheVariants as kinds
use Rattle.widl_trace.specs.declared.unfinished.Unfinished.{Unfinished}
use Rattle.widl_trace.proofs.ItemTexts.{dictionary_text, record_text, sequence_text}
use Rattle.widl_trace.proofs.Pieces.{sign_later}

-- the item at a place of a row has the sign before it
pub row_at : (xs : List (List ℕ × IdlTerm)) (i : ℕ) → slice_get (in_a_row xs) i ≡ option_map (λ x. (sign_before (codes ", ") i ++ x.0, x.1)) (slice_get xs i)
row_at [] i = refl
row_at (x ∷ xs) zero = refl
row_at (x ∷ xs) (suc i) =
    slice_get-map (λ x. (codes ", " ++ x.0, x.1)) xs i
    ∙ ap (λ s. option_map (λ x. (s ++ x.0, x.1)) (slice_get xs i)) (sym (sign_later (codes ", ") i))

later_text : (defs : DefsTerm) (xs : List (List ℕ × IdlTerm)) → flat_map (λ t. codes ", " ++ t) (map (item_text defs) xs) ≡ flat_map (item_text defs) (map (λ x. (codes ", " ++ x.0, x.1)) xs)
later_text defs [] = refl
later_text defs (x ∷ xs) = ap (λ t. (codes ", " ++ item_text defs x) ++ t) (later_text defs xs)

-- the texts of items with the sign between each two are those of the row
pub row_text : (defs : DefsTerm) (xs : List (List ℕ × IdlTerm)) → separated (codes ", ") (map (item_text defs) xs) ≡ flat_map (item_text defs) (in_a_row xs)
row_text defs [] = refl
row_text defs (x ∷ xs) = ap (λ t. item_text defs x ++ t) (later_text defs xs)

values_row : (defs : DefsTerm) (values : List IdlTerm) → map (idl_value_text defs) values ≡ map (item_text defs) (map (λ value. ([], value)) values)
values_row defs [] = refl
values_row defs (v ∷ values) = ap (λ ts. idl_value_text defs v ∷ ts) (values_row defs values)

entries_row : (defs : DefsTerm) (entries : List (List ℕ × IdlTerm)) → map (entry_text defs) entries ≡ map (item_text defs) (map (λ entry. (quoted entry.0 ++ codes ": ", entry.1)) entries)
entries_row defs [] = refl
entries_row defs (e ∷ entries) = ap (λ ts. entry_text defs e ∷ ts) (entries_row defs entries)

members_row : (defs : DefsTerm) (members : List (ℕ × ℕ × IdlTerm)) → map (member_text defs) members ≡ map (item_text defs) (map (λ member. (name_or_nothing (member_name defs member.0 member.1) ++ codes ": ", member.2)) members)
members_row defs [] = refl
members_row defs (m ∷ members) = ap (λ ts. member_text defs m ∷ ts) (members_row defs members)

-- the text of a value with others in it: its head, and all of these
pub sequence_left : (defs : DefsTerm) (values : Bor IdlValues) → idl_value_text defs (idl_term (variants.List values.now)) ≡ head_text defs (idl_term (variants.List values.now)) ++ left_text defs (record { contents = kinds.Values values; place = 0 })
sequence_left defs values =
    sequence_text defs values.now
    ∙ ap (λ t. codes "[" ++ t ++ codes "]") (ap (separated (codes ", ")) (values_row defs (idl_terms values.now)) ∙ row_text defs (labelled defs (kinds.Values values)))
    ∙ ap (λ h. h ++ left_text defs (record { contents = kinds.Values values; place = 0 })) (sym (ap (head_text defs) (sequence_term values.now)))

pub record_left : (defs : DefsTerm) (entries : Bor IdlEntries) → idl_value_text defs (idl_term (variants.Entries entries.now)) ≡ head_text defs (idl_term (variants.Entries entries.now)) ++ left_text defs (record { contents = kinds.Entries entries; place = 0 })
record_left defs entries =
    record_text defs entries.now
    ∙ ap (λ t. codes "{" ++ t ++ codes "}") (ap (separated (codes ", ")) (entries_row defs (entry_terms entries.now)) ∙ row_text defs (labelled defs (kinds.Entries entries)))
    ∙ ap (λ h. h ++ left_text defs (record { contents = kinds.Entries entries; place = 0 })) (sym (ap (head_text defs) (record_term entries.now)))

pub dictionary_left : (defs : DefsTerm) (dictionary : ℕ) (members : Bor IdlMembers) → idl_value_text defs (idl_term (variants.Dict dictionary members.now)) ≡ head_text defs (idl_term (variants.Dict dictionary members.now)) ++ left_text defs (record { contents = kinds.Members members; place = 0 })
dictionary_left defs dictionary members =
    let head = name_or_nothing (dictionary_name defs dictionary) ++ codes "{" in
    let items = flat_map (item_text defs) (in_a_row (labelled defs (kinds.Members members))) in
    dictionary_text defs dictionary members.now
    ∙ ap (λ t. (head ++ t) ++ codes "}") (ap (separated (codes ", ")) (members_row defs (member_terms members.now)) ∙ row_text defs (labelled defs (kinds.Members members)))
    ∙ append_assoc head items (codes "}")
    ∙ ap (λ h. h ++ (items ++ codes "}")) (sym (ap (head_text defs) (dictionary_term dictionary members.now)))

-- the same of a value that is known to be one
pub list_whole : (defs : DefsTerm) (value : IdlValue) (values : Bor IdlValues) → value ≡ variants.List values.now
    → idl_value_text defs (idl_term value) ≡ head_text defs (idl_term value) ++ left_text defs (record { contents = kinds.Values values; place = 0 })
list_whole defs value values is =
    subst (λ v. idl_value_text defs (idl_term v) ≡ head_text defs (idl_term v) ++ left_text defs (record { contents = kinds.Values values; place = 0 })) (sym is) (sequence_left defs values)

pub entries_whole : (defs : DefsTerm) (value : IdlValue) (entries : Bor IdlEntries) → value ≡ variants.Entries entries.now
    → idl_value_text defs (idl_term value) ≡ head_text defs (idl_term value) ++ left_text defs (record { contents = kinds.Entries entries; place = 0 })
entries_whole defs value entries is =
    subst (λ v. idl_value_text defs (idl_term v) ≡ head_text defs (idl_term v) ++ left_text defs (record { contents = kinds.Entries entries; place = 0 })) (sym is) (record_left defs entries)

pub members_whole : (defs : DefsTerm) (value : IdlValue) (dictionary : ℕ) (members : Bor IdlMembers) → value ≡ variants.Dict dictionary members.now
    → idl_value_text defs (idl_term value) ≡ head_text defs (idl_term value) ++ left_text defs (record { contents = kinds.Members members; place = 0 })
members_whole defs value dictionary members is =
    subst (λ v. idl_value_text defs (idl_term v) ≡ head_text defs (idl_term v) ++ left_text defs (record { contents = kinds.Members members; place = 0 })) (sym is) (dictionary_left defs dictionary members)

-- a dictionary's head has its brace
pub dictionary_headed : (defs : DefsTerm) (value : IdlValue) (dictionary : ℕ) (members : IdlMembers) → value ≡ variants.Dict dictionary members → 0 < length (head_text defs (idl_term value))
dictionary_headed defs value dictionary members is =
    let name = name_or_nothing (dictionary_name defs dictionary) in
    let head : head_text defs (idl_term value) ≡ name ++ codes "{" = ap (λ v. head_text defs (idl_term v)) is ∙ ap (head_text defs) (dictionary_term dictionary members) in
    let size : length (head_text defs (idl_term value)) ≡ length name + 1 = ap length head ∙ length-append name (codes "{") in
    omega (arith, size)

-- one value more is begun
pub all_left_push : (defs : DefsTerm) (outer : List Unfinished) (next : Unfinished) → all_left defs (outer ++ next ∷ []) ≡ left_text defs next ++ all_left defs outer
all_left_push defs [] next = sym (append-nil (left_text defs next))
all_left_push defs (first ∷ outer) next =
    ap (λ t. t ++ left_text defs first) (all_left_push defs outer next)
    ∙ append_assoc (left_text defs next) (all_left defs outer) (left_text defs first)

abbrev pub first_label : Option (List ℕ × IdlTerm) → List ℕ
first_label None = []
first_label (Some item) = item.0

-- what stands before the value at a place: the sign, and what the value is called
pub front_parts : (defs : DefsTerm) (begun : Unfinished) → begun.place < length (labelled defs begun.contents)
    → front_text defs begun ≡ sign_before (codes ", ") begun.place ++ first_label (slice_get (labelled defs begun.contents) begun.place)
front_parts defs begun below =
    let items = labelled defs begun.contents in
    let sign = sign_before (codes ", ") begun.place in
    let item = get_or items begun.place ([], UndefinedValue) in
    let is = slice_get-get_or items begun.place ([], UndefinedValue) below in
    let at = row_at items begun.place ∙ ap (option_map (λ x. (sign ++ x.0, x.1))) is in
    ap first_front (drop_at (in_a_row items) begun.place (sign ++ item.0, item.1) at) ∙ ap (λ o. sign ++ first_label o) (sym is)

value_label : (o : Option IdlTerm) → first_label (option_map (λ value. ([], value)) o) ≡ []
value_label None = refl
value_label (Some value) = refl

entry_label : (o : Option (List ℕ × IdlTerm)) → first_label (option_map (λ entry. (quoted entry.0 ++ codes ": ", entry.1)) o) ≡ label_text (option_map (λ entry. quoted entry.0) o)
entry_label None = refl
entry_label (Some entry) = refl

member_label : (defs : DefsTerm) (o : Option (ℕ × ℕ × IdlTerm))
    → first_label (option_map (λ member. (name_or_nothing (member_name defs member.0 member.1) ++ codes ": ", member.2)) o) ≡ label_text (option_map (λ member. name_or_nothing (member_name defs member.0 member.1)) o)
member_label defs None = refl
member_label defs (Some member) = refl

pub values_front : (defs : DefsTerm) (begun : Unfinished) (values : Bor IdlValues) → begun.contents ≡ kinds.Values values → begun.place < length (labelled defs begun.contents)
    → front_text defs begun ≡ sign_before (codes ", ") begun.place
values_front defs begun values is below =
    let sign = sign_before (codes ", ") begun.place in
    front_parts defs begun below
    ∙ ap (λ contents. sign ++ first_label (slice_get (labelled defs contents) begun.place)) is
    ∙ ap (λ o. sign ++ first_label o) (slice_get-map (λ value. ([], value)) (idl_terms values.now) begun.place)
    ∙ ap (λ l. sign ++ l) (value_label (slice_get (idl_terms values.now) begun.place))
    ∙ append-nil sign

pub entries_front : (defs : DefsTerm) (begun : Unfinished) (entries : Bor IdlEntries) → begun.contents ≡ kinds.Entries entries → begun.place < length (labelled defs begun.contents)
    → front_text defs begun ≡ sign_before (codes ", ") begun.place ++ label_text (option_map (λ entry. quoted entry.0) (slice_get (entry_terms entries.now) begun.place))
entries_front defs begun entries is below =
    let sign = sign_before (codes ", ") begun.place in
    front_parts defs begun below
    ∙ ap (λ contents. sign ++ first_label (slice_get (labelled defs contents) begun.place)) is
    ∙ ap (λ o. sign ++ first_label o) (slice_get-map (λ entry. (quoted entry.0 ++ codes ": ", entry.1)) (entry_terms entries.now) begun.place)
    ∙ ap (λ l. sign ++ l) (entry_label (slice_get (entry_terms entries.now) begun.place))

pub members_front : (defs : DefsTerm) (begun : Unfinished) (members : Bor IdlMembers) → begun.contents ≡ kinds.Members members → begun.place < length (labelled defs begun.contents)
    → front_text defs begun ≡ sign_before (codes ", ") begun.place ++ label_text (option_map (λ member. name_or_nothing (member_name defs member.0 member.1)) (slice_get (member_terms members.now) begun.place))
members_front defs begun members is below =
    let sign = sign_before (codes ", ") begun.place in
    front_parts defs begun below
    ∙ ap (λ contents. sign ++ first_label (slice_get (labelled defs contents) begun.place)) is
    ∙ ap (λ o. sign ++ first_label o) (slice_get-map (λ member. (name_or_nothing (member_name defs member.0 member.1) ++ codes ": ", member.2)) (member_terms members.now) begun.place)
    ∙ ap (λ l. sign ++ l) (member_label defs (slice_get (member_terms members.now) begun.place))

item_with : (o : Option (List ℕ × IdlTerm)) (value : IdlTerm) → option_map (λ item. item.1) o ≡ Some value → (item : List ℕ × IdlTerm) × (o ≡ Some item) × (item.1 ≡ value)
item_with None value is = absurd (cc)
item_with (Some item) value is = (item, refl, same_Some item.1 value is)

pub place_within : (xs : List (List ℕ × IdlTerm)) (i : ℕ) (value : IdlTerm) → option_map (λ item. item.1) (slice_get xs i) ≡ Some value → i < length xs
place_within xs i value is =
    let found = item_with (slice_get xs i) value is in
    slice_get_within xs i found.0 found.1

pub nothing_left : (defs : DefsTerm) (o : Option Unfinished) → is_some o ≡ false → left_or_nothing defs o ≡ []
nothing_left defs None is = refl
nothing_left defs (Some begun) is = absurd (cc)

no_item : (o : Option (List ℕ × IdlTerm)) → option_map (λ item. item.1) o ≡ None → o ≡ None
no_item None is = refl
no_item (Some item) is = absurd (cc)

drop_past : {X : Type 0} (xs : List X) (i : ℕ) → slice_get xs i ≡ None → drop i xs ≡ []
drop_past [] zero is = refl
drop_past [] (suc i) is = refl
drop_past (x ∷ xs) zero is = absurd (cc)
drop_past (x ∷ xs) (suc i) is = drop_past xs i is

-- what is left is the next value, with what stands before it, and what is left then
pub next_left : (defs : DefsTerm) (begun : Unfinished) (value : IdlTerm) → option_map (λ item. item.1) (slice_get (labelled defs begun.contents) begun.place) ≡ Some value
    → left_text defs begun ≡ front_text defs begun ++ (idl_value_text defs value ++ left_text defs (record { contents = begun.contents; place = begun.place + 1 }))
next_left defs begun value is =
    let items = labelled defs begun.contents in
    let sign = sign_before (codes ", ") begun.place in
    let found = item_with (slice_get items begun.place) value is in
    let front = sign ++ found.0.0 in
    let later = flat_map (item_text defs) (drop (begun.place + 1) (in_a_row items)) in
    let at = row_at items begun.place ∙ ap (option_map (λ x. (sign ++ x.0, x.1))) found.1 in
    let step = drop_at (in_a_row items) begun.place (front, found.0.1) at in
    ap (λ left. flat_map (item_text defs) left ++ end_text begun.contents) step
    ∙ append_assoc (front ++ idl_value_text defs found.0.1) later (end_text begun.contents)
    ∙ append_assoc front (idl_value_text defs found.0.1) (later ++ end_text begun.contents)
    ∙ ap (λ f. f ++ (idl_value_text defs found.0.1 ++ (later ++ end_text begun.contents))) (sym (ap first_front step))
    ∙ ap (λ v. front_text defs begun ++ (idl_value_text defs v ++ (later ++ end_text begun.contents))) found.2

-- nothing but the end is left
pub end_left : (defs : DefsTerm) (begun : Unfinished) → option_map (λ item. item.1) (slice_get (labelled defs begun.contents) begun.place) ≡ None → left_text defs begun ≡ end_text begun.contents
end_left defs begun is =
    let items = labelled defs begun.contents in
    let none = no_item (slice_get items begun.place) is in
    let at = row_at items begun.place ∙ ap (option_map (λ x. (sign_before (codes ", ") begun.place ++ x.0, x.1))) none in
    ap (λ left. flat_map (item_text defs) left ++ end_text begun.contents) (drop_past (in_a_row items) begun.place at)

end_one : (contents : Contents) → length (end_text contents) ≡ 1
end_one (kinds.Values values) = refl
end_one (kinds.Entries entries) = refl
end_one (kinds.Members members) = refl

popped : (defs : DefsTerm) (outer rest : List Unfinished) (next : Unfinished) → outer ≡ rest ++ next ∷ [] → all_left defs outer ≡ left_text defs next ++ all_left defs rest
popped defs outer rest next is = ap (all_left defs) is ∙ all_left_push defs rest next

-- a value was written to its end: the next one to go on with is the last that was begun before it
pub closed : (defs : DefsTerm) (inmost next : Unfinished) (outer rest : List Unfinished) (old new : List ℕ) → new ≡ old ++ left_text defs inmost → outer ≡ rest ++ next ∷ []
    → new ++ (left_text defs next ++ all_left defs rest) ≡ old ++ (left_text defs inmost ++ all_left defs outer)
closed defs inmost next outer rest old new written is =
    ap (λ t. new ++ t) (sym (popped defs outer rest next is))
    ∙ ap (λ b. b ++ all_left defs outer) written
    ∙ append_assoc old (left_text defs inmost) (all_left defs outer)

pub closed_less : (defs : DefsTerm) (inmost next : Unfinished) (outer rest : List Unfinished) → outer ≡ rest ++ next ∷ []
    → length (left_text defs next ++ all_left defs rest) < length (left_text defs inmost ++ all_left defs outer)
closed_less defs inmost next outer rest is =
    let one = end_one inmost.contents in
    let left = length-append (flat_map (item_text defs) (left_items defs inmost)) (end_text inmost.contents) in
    let all = length-append (left_text defs inmost) (all_left defs outer) in
    let same = ap length (popped defs outer rest next is) in
    omega (arith, one, left, all, same)

-- the end of a value was written behind its last item
pub ends : (defs : DefsTerm) (inner : Option Unfinished) (inmost after : Unfinished) (old new : List ℕ) → inner ≡ None → new ++ (left_or_nothing defs inner ++ left_text defs after) ≡ old ++ left_text defs inmost
    → left_text defs after ≡ end_text after.contents → new ++ end_text after.contents ≡ old ++ left_text defs inmost
ends defs inner inmost after old new none moved end =
    ap (λ t. new ++ t) (sym end)
    ∙ ap (λ o. new ++ (left_or_nothing defs o ++ left_text defs after)) (sym none)
    ∙ moved

-- a value in another one was begun, and the outer one waits
pub opened : (defs : DefsTerm) (inner : Option Unfinished) (first inmost after : Unfinished) (outer items : List Unfinished) (old new : List ℕ) → inner ≡ Some first
    → new ++ (left_or_nothing defs inner ++ left_text defs after) ≡ old ++ left_text defs inmost → items ≡ outer ++ after ∷ []
    → new ++ (left_text defs first ++ all_left defs items) ≡ old ++ (left_text defs inmost ++ all_left defs outer)
opened defs inner first inmost after outer items old new some moved is =
    ap (λ t. new ++ (left_text defs first ++ t)) (popped defs items outer after is)
    ∙ ap (λ t. new ++ t) (sym (append_assoc (left_text defs first) (left_text defs after) (all_left defs outer)))
    ∙ sym (append_assoc new (left_text defs first ++ left_text defs after) (all_left defs outer))
    ∙ ap (λ o. (new ++ (left_or_nothing defs o ++ left_text defs after)) ++ all_left defs outer) (sym some)
    ∙ ap (λ t. t ++ all_left defs outer) moved
    ∙ append_assoc old (left_text defs inmost) (all_left defs outer)

-- what was written is longer, so less is left
pub less_left : (old new a b : List ℕ) → new ++ a ≡ old ++ b → length old < length new → length a < length b
less_left old new a b same longer =
    let sizes = sym (length-append new a) ∙ ap length same ∙ length-append old b in
    omega (arith, sizes, longer)
