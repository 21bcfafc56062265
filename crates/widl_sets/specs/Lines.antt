-- The lines of an effective overload set.
use Rattle.std.specs.Prelude.{◌≡◌, ℕ, ◌<◌, ◌++◌, Bool, true, List, [], ◌∷◌, length, map, codes, decimal, nat_eq, nat_le, not, slice_get, zip, Option, None, Some, if◌then◌else◌}
use Rattle.widl_idl.specs.declared.argument.Optionality.{Optionality}
use Rattle.widl_idl.specs.declared.argument.Optionality.TheVariants.{Required, Optional, Variadic}
use Rattle.widl_idl.specs.DefinitionTerms.{DefsTerm, IfaceTerm}
use Rattle.widl_idl.specs.Terms.{TypeTerm}
use Rattle.widl_overload.specs.sets.Index.{of_one_length, distinguishes}
use Rattle.widl_overload.specs.sets.Sets.{TupleTerm}
use Rattle.widl_spell.specs.Ids.{first_from}
use Rattle.widl_spell.specs.Names.{separated}
use Rattle.widl_spell.specs.TypeTexts.{type_text}

abbrev pub optionality_text : Optionality → List ℕ
optionality_text Required = codes "required"
optionality_text Optional = codes "optional"
optionality_text Variadic = codes "variadic"

-- an argument: its type and its optionality value
abbrev pub argument_text : DefsTerm → TypeTerm → Optionality → List ℕ
argument_text defs t opt = type_text defs t ++ codes " " ++ optionality_text opt

abbrev pub argument_texts : DefsTerm → List TypeTerm → List Optionality → List (List ℕ)
argument_texts defs types opts = map (λ a. argument_text defs a.0 a.1) (zip types opts)

-- what a line begins with: the callee, and how many arguments a call has
abbrev pub front : List ℕ → ℕ → List ℕ
front callee len = callee ++ codes " " ++ decimal len

-- the line of a tuple
unfoldable pub tuple_line : DefsTerm → List ℕ → TupleTerm → List ℕ
tuple_line defs callee t = front callee (length t.types) ++ codes " #" ++ decimal t.overload ++ codes " (" ++ separated (codes ", ") (argument_texts defs t.types t.opts) ++ codes ")\n"

-- the distinguishing argument index of the tuples of a length (Web IDL, "distinguishing argument index"): the lowest place that tells each two of several apart
unfoldable pub index_of : List IfaceTerm → List TupleTerm → ℕ → Option ℕ
index_of ifaces tuples len = if nat_le 2 (length (of_one_length len tuples)) then first_from (distinguishes ifaces tuples len) 0 len else None

-- the line of an index, if there is one
abbrev pub line_of_index : List ℕ → ℕ → Option ℕ → List ℕ
line_of_index callee len None = []
line_of_index callee len (Some place) = front callee len ++ codes " index " ++ decimal place ++ codes "\n"

abbrev pub index_line : List IfaceTerm → List ℕ → List TupleTerm → ℕ → List ℕ
index_line ifaces callee tuples len = line_of_index callee len (index_of ifaces tuples len)

-- whether a tuple is the last of its length, in a list by length, by the tuple after it
abbrev pub is_last_of_length : TupleTerm → Option TupleTerm → Bool
is_last_of_length t None = true
is_last_of_length t (Some next) = not (nat_eq (length next.types) (length t.types))

-- what stands after the line of a tuple: after the last of its length the line of the index
abbrev pub after : List IfaceTerm → List ℕ → List TupleTerm → TupleTerm → Option TupleTerm → List ℕ
after ifaces callee tuples t next = if is_last_of_length t next then index_line ifaces callee tuples (length t.types) else []

-- the lines from a tuple of a set on
abbrev pub lines_from : DefsTerm → List ℕ → List TupleTerm → List TupleTerm → List ℕ
lines_from defs callee tuples [] = []
lines_from defs callee tuples (t ∷ rest) = tuple_line defs callee t ++ after defs.ifaces callee tuples t (slice_get rest 0) ++ lines_from defs callee tuples rest

-- the lines of a set: one for each tuple, and for each length of several tuples one for its index
unfoldable pub lines_of_set : DefsTerm → List ℕ → List TupleTerm → List ℕ
lines_of_set defs callee tuples = lines_from defs callee tuples tuples

-- a tuple of a set: each of its types has its optionality value, and there are few enough of them
pub record IsTuple (t : TupleTerm) : Type 0 where
  pub few : length t.types < 4294967296
  pub paired : length t.opts ≡ length t.types
