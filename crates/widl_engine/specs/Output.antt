-- What is emitted: the bytes that went to a sink, but for those that a writer keeps.
use Rattle.std.specs.Prelude.{ℕ, List, ◌++◌, flat_map}
use Rattle.std.specs.declared.option.Option.{Option}
use Rattle.widl_sink.specs.Growth.{GrewByPrefix, Sends}
use Rattle.widl_sink.specs.Lines.{ended}

-- what the sink holds, if it tells it, and what the writer keeps
pub record Output : Type 0 where
  pub held : Option (List ℕ)
  pub kept : List ℕ

abbrev pub output : Option (List ℕ) → List ℕ → Output
output held kept = record { held = held; kept = kept }

-- just these bytes were emitted
abbrev pub Emits : Output → Output → List ℕ → Type 0
Emits before after bytes = Sends before.held after.held before.kept bytes after.kept

-- the sink failed before it held these bytes: what it holds grew by a prefix of what was kept and these
abbrev pub Tears : Output → Output → List ℕ → Type 0
Tears before after bytes = GrewByPrefix before.held after.held (before.kept ++ bytes)

-- the bytes of lines, each with its line feed
abbrev pub bytes_of_lines : List (List ℕ) → List ℕ
bytes_of_lines lines = flat_map ended lines
