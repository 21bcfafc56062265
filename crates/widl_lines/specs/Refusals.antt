-- Why a script is not read.
use Rattle.std.specs.Prelude.{◌≡◌, ◌⊎◌, ℕ, List, Some, Result, Ok, Err}
use Rattle.widl_lines.specs.declared.script_place.ScriptFault.{ScriptFault}
use Rattle.widl_lines.specs.declared.script_place.ScriptFault.TheVariants.{Refused, Memory}
use Rattle.widl_lines.specs.TextBreaks.{ScriptBreak}

-- the first rule that the script breaks; out of memory says nothing of it
abbrev pub IsRefusal : List ℕ → ScriptFault → Type 0
IsRefusal text (Refused place) = ScriptBreak text (Some place)
IsRefusal text Memory = Unit {0}

-- one of two errors
abbrev pub IsErrWith : {X : Type 0} → Result X ScriptFault → ScriptFault → ScriptFault → Type 0
IsErrWith (Ok x) one other = ⊥
IsErrWith (Err fault) one other = (fault ≡ one) ⊎ (fault ≡ other)
