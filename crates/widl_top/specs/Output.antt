-- What is written, and how it ends.
use Rattle.std.specs.Prelude.{ℕ, List}
use Rattle.widl_sink.specs.Lines.{ended}
use Rattle.widl_top.specs.declared.status.Status.{Status}

-- the bytes and the status
pub record Output : Type 0 where
  pub bytes : List ℕ
  pub status : Status

-- one last line
abbrev pub last : List ℕ → Status → Output
last line status = record { bytes = ended line; status = status }
