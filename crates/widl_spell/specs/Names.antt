-- Names as lines have them, and texts with a sign between them.
use Rattle.std.specs.Prelude.{ℕ, ◌%◌, ◌++◌, Bool, List, [], ◌∷◌, map, codes, bytes_eq, nat_eq, if◌then◌else◌}
use Rattle.std.specs.List.{flat_map, list_any}
use Rattle.widl_lex.specs.Quoted.{quoted_terminals}

-- a unit as a byte: names are ASCII
abbrev pub byte_of_unit : ℕ → ℕ
byte_of_unit unit = unit % 256

-- a name as it stands in a list of definitions
abbrev pub bare_name : List ℕ → List ℕ
bare_name name = map byte_of_unit name

-- whether the text is a word or a sign that the grammar writes out
unfoldable pub is_terminal : List ℕ → Bool
is_terminal text = list_any (bytes_eq text) quoted_terminals

-- what a file puts before a name: a `_`, if the name is spelled like a word of the grammar (Web IDL, "Names")
abbrev pub mark_before : List ℕ → List ℕ
mark_before text = if is_terminal text then codes "_" else []

-- a name as a file has it
abbrev pub written_name : List ℕ → List ℕ
written_name name = mark_before (bare_name name) ++ bare_name name

-- the texts in a row, with a sign between each two
abbrev pub separated : List ℕ → List (List ℕ) → List ℕ
separated sign [] = []
separated sign (first ∷ texts) = first ++ flat_map (λ text. sign ++ text) texts

-- what stands before the text at a place
abbrev pub sign_before : List ℕ → ℕ → List ℕ
sign_before sign place = if nat_eq place 0 then [] else sign
