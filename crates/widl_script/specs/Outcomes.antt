-- Why bytes are no script over a list of definitions.
-- Source: this program's own.
use Rattle.std.specs.Prelude.{List, ℕ}
use Rattle.widl_idl.specs.DefinitionTerms.{DefsTerm}
use Rattle.widl_lines.specs.declared.script_place.ScriptFault.{ScriptFault}
use Rattle.widl_lines.specs.declared.script_place.ScriptFault.TheVariants.{Refused, Memory}
use Rattle.widl_script.specs.Scripts.{IsFirstBreak}

-- the first rule that is broken; out of memory says nothing of it
abbrev pub IsRefusal : List ℕ → DefsTerm → ScriptFault → Type 0
IsRefusal bytes list (Refused place) = IsFirstBreak bytes list place
IsRefusal bytes list Memory = Unit {0}
