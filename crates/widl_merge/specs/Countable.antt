-- Sets of files of which 32 bits can count what is written.
use Rattle.std.specs.Prelude.{ℕ, ◌+◌, ◌<◌, ◌^◌, List, [], length, sum_by}
use Rattle.widl_idl.specs.PlainTrees.{PlainDefinition, PlainEnumerationValue, PlainKind, EnumerationDefinition}
use Rattle.widl_idl.specs.Nodes.{nodes_of}

-- the values that a definition lists, if it is an enumeration
abbrev pub values_in : PlainKind → List PlainEnumerationValue
values_in (EnumerationDefinition e) = e.values
values_in kind = []

-- how much is written in these definitions: their types, extended attributes, literals, names and members, and the values of enumerations
abbrev pub written_count : List PlainDefinition → ℕ
written_count definitions = length (nodes_of definitions) + sum_by (λ (d : PlainDefinition). length (values_in d.kind)) definitions

abbrev pub IsCountable : List PlainDefinition → Type 0
IsCountable definitions = written_count definitions < 2 ^ 32
