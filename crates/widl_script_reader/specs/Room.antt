-- For proofs alone. That no table is ever full: a text is short, and each word of it puts a few entries at most.
use Rattle.std.specs.Prelude.{ℕ, ◌+◌, ◌*◌, ◌≤◌, List, length, sum_by}
use Rattle.widl_lines.specs.Words.{Lexeme}
use Rattle.widl_script_tree.specs.Rows.{most_nodes}
use Rattle.widl_script_tree.specs.Tables.{Tables}
use Rattle.widl_script_reader.specs.declared.frames.Builder.{Builder}
use Rattle.widl_script_reader.specs.declared.frames.Frame.{Frame}

-- how many entries the tables have
unfoldable pub entries : Tables → ℕ
entries t = length t.expressions + length t.statements + length t.functions + length t.blocks + length t.names

-- there is room for four entries for each word, and for so many more
abbrev pub HasRoom : ℕ → Tables → List Lexeme → Type 0
HasRoom more t words = entries t + 4 * length words + more ≤ most_nodes

-- no more than four entries were put for each word that was taken, and so many more
abbrev pub Pays : ℕ → Tables → List Lexeme → Tables → List Lexeme → Type 0
Pays more old from new to = entries new + 4 * length to ≤ entries old + 4 * length from + more

-- the same, where so many of the entries that were paid for are still to come
abbrev pub Saves : ℕ → ℕ → Tables → List Lexeme → Tables → List Lexeme → Type 0
Saves saved more old from new to = entries new + 4 * length to + saved ≤ entries old + 4 * length from + more

-- how many places of statements the open blocks keep for the lists that they stand in
unfoldable pub waiting : List Frame → ℕ
waiting frames = sum_by (λ frame. length frame.before.items) frames

-- the entries of the tables, and an item for each statement that is still to be put in a row
abbrev pub weight : Builder → ℕ
weight b = entries b.nodes + length b.places.items + waiting b.frames.items

-- there is room for four entries for each word of a line, and four more
abbrev pub HasLineRoom : Builder → List Lexeme → Type 0
HasLineRoom b words = weight b + 4 * length words + 4 ≤ most_nodes

-- no more were put
abbrev pub PaysLine : Builder → Builder → List Lexeme → Type 0
PaysLine old new words = weight new ≤ weight old + 4 * length words + 4
