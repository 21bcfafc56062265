-- What steps blocks are for.
-- Source: this program's own; the names of operations are those of Web IDL.
use Rattle.std.specs.Prelude.{◌≡◌, ◌<◌, ◌&&◌, ℕ, Bool, false, not, nat_eq, List, Contains, find, bytes_eq, Option, Some, None, IsSome, option_map, slice_get}
use Rattle.std.specs.Option.{option_and_then}
use Rattle.widl_idl.specs.DefinitionTerms.{DefsTerm, OpNameTerm, SigTerm, SpaceTerm}
use Rattle.widl_lines.specs.declared.script_place.ScriptPlace.{ScriptPlace}
use Rattle.widl_lines.specs.TextBreaks.{Line}
use Rattle.widl_script_tree.specs.declared.steps.Target.{Target}
use Rattle.widl_script_tree.specs.declared.steps.Target.TheVariants as target
use Rattle.widl_script_tree.specs.Trees.{Text}
use Rattle.widl_script_words.specs.Signs.{SpellsLine}
use Rattle.widl_script_words.specs.SpelledStatements.{steps_signs}
use Rattle.widl_script_rules.specs.Standings.{Standing, IsAtWord}

-- an overload of a namespace's operation
pub record Overload : Type 0 where
  pub space : SpaceTerm
  pub signature : SigTerm

abbrev pub space_named : DefsTerm → Text → Option SpaceTerm
space_named list text = find (λ (n : SpaceTerm). bytes_eq text n.name) list.spaces

-- the operation of a namespace that has the name
abbrev pub operation_named : SpaceTerm → Text → Option OpNameTerm
operation_named space text = find (λ (o : OpNameTerm). bytes_eq text o.name) space.members.ops

abbrev pub overload_in : Text → ℕ → SpaceTerm → Option Overload
overload_in text k space =
    option_and_then (λ (o : OpNameTerm). option_map (λ (signature : SigTerm). record { space = space; signature = signature }) (slice_get o.sigs k)) (operation_named space text)

-- the overload that a target names. Only operations of namespaces have targets so far
abbrev pub overload_of : DefsTerm → Target → Option Overload
overload_of list (target.Operation owner text false k) = option_and_then (overload_in text k) (space_named list owner)
overload_of list t = None

-- the target of an overload of an operation
abbrev pub is_target_of : SpaceTerm → OpNameTerm → ℕ → Target → Bool
is_target_of space o k (target.Operation owner text fixed overload) = bytes_eq owner space.name && bytes_eq text o.name && not fixed && nat_eq overload k
is_target_of space o k t = false

-- the line opens a steps block for the target
abbrev pub Opens : Line → Target → Type 0
Opens line t = SpellsLine (steps_signs t) line.words

module _ (list : DefsTerm) (script : List Standing) where
  -- rule 9: what a target names isn't there: at the target's first word
  pub record LacksTarget (place : ScriptPlace) : Type 0 where
    pub standing : Standing
    pub listed : Contains script standing
    pub target : Target
    pub opens : Opens standing.line target
    pub lacks : overload_of list target ≡ None
    pub at : IsAtWord 9 standing.line 1 place

  -- rule 10: a block on an earlier line is for the same target: at the first word of the later one's target
  pub record RepeatsTarget (place : ScriptPlace) : Type 0 where
    pub first : ℕ
    pub second : ℕ
    pub before : first < second
    pub earlier : Standing
    pub earlier_is : slice_get script first ≡ Some earlier
    pub later : Standing
    pub later_is : slice_get script second ≡ Some later
    pub target : Target
    pub earlier_opens : Opens earlier.line target
    pub later_opens : Opens later.line target
    pub there : IsSome (overload_of list target)
    pub at : IsAtWord 10 later.line 1 place
