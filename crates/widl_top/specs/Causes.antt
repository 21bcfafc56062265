-- How a call ends, by what the folder and the sink counted.
use Rattle.std.specs.Prelude.{◌≡◌, ◌≢◌, ℕ, ◌+◌, ◌-◌, ◌<◌, ◌⊎◌, List, Option, Some}
use Rattle.std.specs.Io.KnownBytes.{append_known}
use Rattle.widl_sink.specs.Causes.{Rose}
use Rattle.widl_sink.specs.Growth.{GrewByPrefix}
use Rattle.widl_sink.specs.Lines.{ended}
use Rattle.widl_top.specs.Output.{Output}
use Rattle.widl_top.specs.Outputs.{Writes, WritesPart, fault_line}
use Rattle.widl_text.specs.Limits.{most_file_bytes}
use Rattle.widl_front.specs.Texts.{named}
use Rattle.widl_top.specs.declared.status.Status.{Status}
use Rattle.widl_top.specs.declared.status.Status.TheVariants as ends

-- what can be seen of the sink and of the folder at one moment
pub record Outside : Type 0 where
  pub held : Option (List ℕ)
  pub sink_faults : ℕ
  pub faults : ℕ
  pub misses : ℕ
  pub given : ℕ
  pub starts : ℕ

-- the line that names the last of the files that were started, by how many were
abbrev pub fault_of : List (List ℕ) → ℕ → List ℕ
fault_of names started = ended (fault_line (named names (started - 1)))

abbrev pub last_fault : List (List ℕ) → Outside → Outside → List ℕ
last_fault names old new = fault_of names (new.starts - old.starts)

-- the number of starts is far from the end of its type
abbrev pub CountsStarts : Outside → Type 0
CountsStarts old = old.starts < 18446744073709551000

-- how a call ended that read the named files and then wrote an output that they determine, where this is so at once or bit by bit
pub record Ends (AtOnce : Type 0) (files : Option (List (List ℕ × List ℕ))) (IsIt : List (List ℕ × List ℕ) → Output → Type 0) (names : List (List ℕ)) (old new : Outside) (result : Status) : Type 0 where
  pub written : (told : List (List ℕ × List ℕ)) → files ≡ Some told → result ≢ ends.Memory → result ≢ ends.ReadFault → result ≢ ends.WriteFault
      → Writes (IsIt told) old.held new.held result
  pub short : AtOnce → result ≡ ends.Memory → new.held ≡ old.held
  pub short_part : (told : List (List ℕ × List ℕ)) → files ≡ Some told → result ≡ ends.Memory → (new.held ≡ old.held) ⊎ WritesPart (IsIt told) old.held new.held
  pub short_fault : old.faults < new.faults → result ≡ ends.Memory → new.held ≡ old.held
  pub torn : (told : List (List ℕ × List ℕ)) → files ≡ Some told → (Rose old.faults new.faults → ⊥) → result ≡ ends.WriteFault
      → WritesPart (IsIt told) old.held new.held
  pub torn_fault : (told : List (List ℕ × List ℕ)) → files ≡ Some told → CountsStarts old → result ≡ ends.WriteFault
      → WritesPart (IsIt told) old.held new.held ⊎ GrewByPrefix old.held new.held (last_fault names old new)
  pub fault_written : CountsStarts old → result ≡ ends.ReadFault → new.held ≡ append_known old.held (last_fault names old new)
  pub read_fault : result ≡ ends.ReadFault → Rose old.faults new.faults
  pub missing : result ≡ ends.Missing → Rose old.misses new.misses
  pub too_long : result ≡ ends.TooLong → new.given ≡ most_file_bytes + 1
  pub write_fault : result ≡ ends.WriteFault → Rose old.sink_faults new.sink_faults
  pub write_always : old.sink_faults < new.sink_faults → result ≡ ends.WriteFault
  pub fault_always : old.faults < new.faults → (result ≡ ends.WriteFault) ⊎ ((result ≡ ends.ReadFault) ⊎ (result ≡ ends.Memory))
  pub miss_always : old.misses < new.misses → (result ≡ ends.WriteFault) ⊎ ((result ≡ ends.Missing) ⊎ (result ≡ ends.Memory))
  pub long_always : new.given ≡ most_file_bytes + 1 → (result ≡ ends.WriteFault) ⊎ ((result ≡ ends.TooLong) ⊎ (result ≡ ends.Memory))
