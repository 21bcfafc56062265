-- What is left to write of values that were begun (this program's own). The contracts of functions inside this crate
-- speak of it; what the text of a value is stands in `IdlValueTexts`.
use Rattle.std.specs.Prelude.{◌≡◌, ℕ, ◌+◌, ◌≤◌, ◌<◌, ◌^◌, ◌++◌, List, [], ◌∷◌, codes, map, drop, length, Option, None, Some, Result, IfOk, OnOk, IfErr}
use Rattle.std.specs.List.{flat_map}
use Rattle.widl_idl.specs.DefinitionTerms.{DefsTerm}
use Rattle.widl_value.specs.IdlTerms.{IdlTerm, SequenceValue, RecordValue, DictionaryValue, idl_terms, entry_terms, member_terms}
use Rattle.widl_trace.specs.CalleeTexts.{name_or_nothing}
use Rattle.widl_trace.specs.Drafts.{least}
use Rattle.widl_trace.specs.IdlValueTexts.{dictionary_name, idl_value_text, member_name}
use Rattle.widl_trace.specs.ValueTexts.{quoted}
use Rattle.widl_trace.specs.declared.cut.Cut.{Cut}
use Rattle.widl_trace.specs.declared.draft.Draft.{Draft}
use Rattle.widl_trace.specs.declared.unfinished.Contents.{Contents}
use Rattle.widl_trace.specs.declared.unfinished.Contents.TheVariants as kinds
use Rattle.widl_trace.specs.declared.unfinished.Unfinished.{Unfinished}

-- what stands before the items of a value, or is all of a value that has none
abbrev pub head_text : DefsTerm → IdlTerm → List ℕ
head_text defs (SequenceValue _) = codes "["
head_text defs (RecordValue _) = codes "{"
head_text defs (DictionaryValue dictionary _) = name_or_nothing (dictionary_name defs dictionary) ++ codes "{"
head_text defs value = idl_value_text defs value

-- the values in another one, each with what stands before it: nothing, the key of its entry or the name of its member
abbrev pub labelled : DefsTerm → Contents → List (List ℕ × IdlTerm)
labelled defs (kinds.Values values) = map (λ value. ([], value)) (idl_terms values.now)
labelled defs (kinds.Entries entries) = map (λ entry. (quoted entry.0 ++ codes ": ", entry.1)) (entry_terms entries.now)
labelled defs (kinds.Members members) = map (λ member. (name_or_nothing (member_name defs member.0 member.1) ++ codes ": ", member.2)) (member_terms members.now)

-- what stands behind them
abbrev pub end_text : Contents → List ℕ
end_text (kinds.Values values) = codes "]"
end_text (kinds.Entries entries) = codes "}"
end_text (kinds.Members members) = codes "}"

-- with a comma and a space between each two
abbrev pub in_a_row : List (List ℕ × IdlTerm) → List (List ℕ × IdlTerm)
in_a_row [] = []
in_a_row (first ∷ items) = first ∷ map (λ item. (codes ", " ++ item.0, item.1)) items

abbrev pub first_front : List (List ℕ × IdlTerm) → List ℕ
first_front [] = []
first_front (item ∷ items) = item.0

abbrev pub item_text : DefsTerm → List ℕ × IdlTerm → List ℕ
item_text defs item = item.0 ++ idl_value_text defs item.1

-- what stands before the value at a place
abbrev pub label_text : Option (List ℕ) → List ℕ
label_text None = []
label_text (Some label) = label ++ codes ": "

-- what stands before the next value
abbrev pub front_text : DefsTerm → Unfinished → List ℕ
front_text defs begun = first_front (drop begun.place (in_a_row (labelled defs begun.contents)))

-- the items that are left, and their text with the end
abbrev pub left_items : DefsTerm → Unfinished → List (List ℕ × IdlTerm)
left_items defs begun = drop begun.place (in_a_row (labelled defs begun.contents))

abbrev pub left_text : DefsTerm → Unfinished → List ℕ
left_text defs begun = flat_map (item_text defs) (left_items defs begun) ++ end_text begun.contents

abbrev pub left_or_nothing : DefsTerm → Option Unfinished → List ℕ
left_or_nothing defs None = []
left_or_nothing defs (Some begun) = left_text defs begun

-- of values in each other, the outermost first
abbrev pub all_left : DefsTerm → List Unfinished → List ℕ
all_left defs [] = []
all_left defs (outer ∷ inner) = all_left defs inner ++ left_text defs outer

-- a call that writes the front of a text: the bytes are there, and what is left, which its answer tells, is the rest
abbrev pub AddsFront : {T : Type 0} → Draft → Draft → List ℕ → (T → List ℕ) → Result T Cut → Type 0
AddsFront old new all left result =
    IfOk result (λ answer. new.bytes.items ++ left answer ≡ old.bytes.items ++ all) × OnOk result (new.most ≡ old.most)
    × IfErr result (λ cut. least old.most cut ≤ length old.bytes.items + length all) × IfErr result (λ cut. least old.most cut < 2 ^ 64)
