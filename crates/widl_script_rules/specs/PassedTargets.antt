-- For proofs alone. The targets of the blocks that a walk over lines has passed.
use Rattle.std.specs.Prelude.{◌≡◌, ◌&&◌, Bool, true, false, nat_eq, bytes_eq, List, Option, IsSome, MatchOption}
use Rattle.std.specs.List.{list_any}
use Rattle.widl_first.specs.Keys.{Either}
use Rattle.widl_idl.specs.DefinitionTerms.{DefsTerm}
use Rattle.widl_lines.specs.declared.script_place.ScriptPlace.{ScriptPlace}
use Rattle.widl_lines.specs.TextBreaks.{Line}
use Rattle.widl_script_tree.specs.declared.steps.Target.{Target}
use Rattle.widl_script_tree.specs.declared.steps.Target.TheVariants as target
use Rattle.widl_script_rules.specs.declared.operation_target.OperationTarget.{OperationTarget}
use Rattle.widl_script_rules.specs.Standings.{IsAtWord}
use Rattle.widl_script_rules.specs.Targets.{Opens, overload_of}

abbrev pub key_target : OperationTarget → Target
key_target key = target.Operation key.owner.now key.name.now false key.overload

-- the target is this one
abbrev pub is_target : Target → OperationTarget → Bool
is_target (target.Operation owner name false number) key = bytes_eq owner key.owner.now && (bytes_eq name key.name.now && nat_eq number key.overload)
is_target t key = false

-- one of these is the target
abbrev pub IsPassed : List OperationTarget → Target → Type 0
IsPassed keys t = list_any (is_target t) keys ≡ true

-- the line opens a block for the target, which is there
pub record OpensThere (list : DefsTerm) (line : Line) (t : Target) : Type 0 where
  pub opens : Opens line t
  pub there : IsSome (overload_of list t)

-- the target that is there for which the line opens a block, if it opens one
abbrev pub IsThere : DefsTerm → Line → Option OperationTarget → Type 0
IsThere list line o = MatchOption o ((t : Target) → OpensThere list line t → ⊥) (λ key. OpensThere list line (key_target key))

-- the line opens a block for a target that is there and for which there was one
pub record RepeatsIn (list : DefsTerm) (Before : Target → Type 0) (line : Line) (place : ScriptPlace) : Type 0 where
  pub target : Target
  pub there : OpensThere list line target
  pub before : Before target
  pub at : IsAtWord 10 line 1 place

-- what was before the line, and what it opens a block for, is what was after it
pub record Passes (list : DefsTerm) (line : Line) (Before After : Target → Type 0) : Type 0 where
  pub each : (t : Target) → Either Before (OpensThere list line) t → After t
  pub only : (t : Target) → After t → Either Before (OpensThere list line) t
