-- For proofs alone. The places of words of step lines, and what code has listed of the sources that a line uses.
use Rattle.std.specs.Prelude.{◌≡◌, ◌-◌, ◌^◌, ℕ, min, List, map, Contains, Option}
use Rattle.widl_first.specs.Keys.{IsFirst}
use Rattle.widl_lines.specs.declared.script_place.ScriptPlace.{ScriptPlace}
use Rattle.widl_lines.specs.TextBreaks.{Line}
use Rattle.widl_script_tree.specs.declared.steps.StepLine.{StepLine}
use Rattle.widl_script_rules.specs.declared.step_uses.Used.{Used as Listed}
use Rattle.widl_script_rules.specs.LeastBreak.{place_key}
use Rattle.widl_script_rules.specs.Standings.{IsAtWord}
use Rattle.widl_script_rules.specs.StepUses.{Used, used_in}

-- one of these words of the line breaks the rule
pub record AtWords (rule : ℕ) (line : Line) (W : ℕ → Type 0) (place : ScriptPlace) : Type 0 where
  pub word : ℕ
  pub breaks : W word
  pub at : IsAtWord rule line word place

-- the first place of the line's words of these numbers
abbrev pub FirstAt : ℕ → Line → List ℕ → Option ScriptPlace → Type 0
FirstAt rule line words place = IsFirst place_key (AtWords rule line (Contains words)) place

-- a number of a word, or the greatest one of 64 bits, which no line has
abbrev pub capped : ℕ → ℕ
capped word = min word (2 ^ 64 - 1)

abbrev pub listed_term : Listed → Used
listed_term u = record { word = u.word; source = u.source.now; number = u.number }

abbrev pub capped_use : Used → Used
capped_use u = record u { word = capped u.word }

-- the sources of a step line were listed
abbrev pub AreListed : List Listed → StepLine → Type 0
AreListed listed step = map listed_term listed ≡ map capped_use (used_in step)
