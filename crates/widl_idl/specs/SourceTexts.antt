-- For contracts' models alone: the bytes that the storage of a text holds.
use Rattle.std.specs.Prelude.{ℕ, List, ◌≤◌, take, string_bytes}
use Rattle.widl_idl.specs.declared.tree.source_text.Storage.{Storage}
use Rattle.widl_idl.specs.declared.tree.source_text.Storage.TheVariants.{Inline, Boxed}

abbrev pub bytes_in : Storage → List ℕ
bytes_in (Inline count bytes) = take count bytes
bytes_in (Boxed text) = string_bytes text.value

-- the bytes that are counted are there
abbrev pub HasRoom : Storage → Type 0
HasRoom (Inline count bytes) = count ≤ 22
HasRoom (Boxed text) = Unit {0}
