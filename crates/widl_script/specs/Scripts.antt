-- What bytes are, over a list of definitions: a script's tree, or the first rule that is broken.
-- Source: this program's own.
use Rattle.std.specs.Prelude.{◌≡◌, ℕ, bytes_eq, Bool, List, [], map, position, slice_get, Option, Some, None, IsSome, unwrap_or, if◌then◌else◌}
use Rattle.widl_idl.specs.declared.callee.Callee.{Callee}
use Rattle.widl_idl.specs.declared.callee.Owner.{Owner}
use Rattle.widl_idl.specs.declared.callee.Owner.TheVariants as owners
use Rattle.widl_idl.specs.declared.callee.Part.TheVariants as parts
use Rattle.widl_idl.specs.DefinitionTerms.{DefsTerm, IfaceTerm, OpNameTerm, SpaceTerm}
use Rattle.widl_lines.specs.declared.script_place.ScriptPlace.{ScriptPlace}
use Rattle.widl_lines.specs.TextBreaks.{ScriptBreak, Line, script_lines}
use Rattle.widl_script_tree.specs.declared.steps.StepLine.{StepLine}
use Rattle.widl_script_tree.specs.declared.steps.Target.{Target}
use Rattle.widl_script_tree.specs.declared.steps.Target.TheVariants as target
use Rattle.widl_script_tree.specs.Tables.{Tables, name_at, owner_at, script_tree, steps_at}
use Rattle.widl_script_tree.specs.Trees.{Text, StatementTrees, no_statements, then_more, StepsT, ScriptTree}
use Rattle.widl_script_words.specs.SpelledStatements.{Lines, IsTreeOf}
use Rattle.widl_script_rules.specs.LeastBreak.{IsLeastBreak}
use Rattle.widl_script_rules.specs.Targets.{is_target_of}

-- 1. The tree, or the first break

abbrev pub words_of_lines : List Line → Lines
words_of_lines lines = map (λ (line : Line). line.words) lines

-- no rule is broken, and the lines are those of the tree
pub record IsScriptOf (bytes : List ℕ) (list : DefsTerm) (tree : ScriptTree) : Type 0 where
  pub formed : ScriptBreak bytes None
  pub unbroken : IsLeastBreak list (script_lines bytes) None
  pub spelled : IsTreeOf tree (words_of_lines (script_lines bytes))

-- the first rule that is broken: one of form before all others
pub data IsFirstBreak (bytes : List ℕ) (list : DefsTerm) (place : ScriptPlace) : Type 0 where
  of_form : ScriptBreak bytes (Some place) → IsFirstBreak bytes list place
  of_rules : ScriptBreak bytes None → IsLeastBreak list (script_lines bytes) (Some place) → IsFirstBreak bytes list place

-- 2. What the tables answer by numbers

abbrev pub owner_or : Option ℕ → Option ℕ → Option Owner
owner_or (Some i) space = Some (owners.Iface i)
owner_or None (Some n) = Some (owners.Space n)
owner_or None None = None

-- the interface or the namespace that has the name
abbrev pub owner_named : DefsTerm → Text → Option Owner
owner_named list text = owner_or (position (λ (i : IfaceTerm). bytes_eq text i.name) list.ifaces) (position (λ (n : SpaceTerm). bytes_eq text n.name) list.spaces)

-- the lines of the first block for such a target; without a block there are none
abbrev pub lines_of_first : (Target → Bool) → StatementTrees → List StepLine
lines_of_first is_asked no_statements = []
lines_of_first is_asked (then_more (StepsT t lines) more) = if is_asked t then lines else lines_of_first is_asked more
lines_of_first is_asked (then_more s more) = lines_of_first is_asked more

abbrev pub callee_of : ℕ → ℕ → Callee
callee_of n m = record { owner = owners.Space n; part = parts.Op m }

-- the tables find owners and blocks as the names of the script do
pub record Answers (list : DefsTerm) (s : Tables) : Type 0 where
  pub owners : (number : ℕ) → owner_at s number ≡ owner_named list (name_at s number)
  pub steps : (n m k : ℕ) (space : SpaceTerm) (o : OpNameTerm) → slice_get list.spaces n ≡ Some space → slice_get space.members.ops m ≡ Some o → IsSome (slice_get o.sigs k) →
      unwrap_or (steps_at s (callee_of n m) (Some k)) [] ≡ lines_of_first (is_target_of space o k) (script_tree s).top

-- the tables are those of a script
pub record IsReadAs (bytes : List ℕ) (list : DefsTerm) (s : Tables) : Type 0 where
  pub script : IsScriptOf bytes list (script_tree s)
  pub answers : Answers list s
