-- For proofs alone. Tables by which the overload of a target is looked up, and the lines that open steps blocks with their overloads.
use Rattle.std.specs.Prelude.{◌≡◌, ℕ, bytes_eq, List, find, slice_get, Option, Some, None, MatchOption, option_map}
use Rattle.std.specs.Borrow.{Bor}
use Rattle.indexmap.specs.IndexMap.{IndexMap, get_by}
use Rattle.widl_idl.specs.declared.operation.OpName.{OpName}
use Rattle.widl_idl.specs.DefinitionTerms.{DefsTerm, OpNameTerm, SpaceTerm, op_name_term, sig_term, space_term}
use Rattle.widl_lines.specs.declared.script_place.ScriptPlace.{ScriptPlace}
use Rattle.widl_lines.specs.TextBreaks.{Line}
use Rattle.widl_script_tree.specs.declared.steps.Target.{Target}
use Rattle.widl_script_rules.specs.declared.overloads.Namespace.{Namespace}
use Rattle.widl_script_rules.specs.declared.overloads.Namespaces.{Namespaces}
use Rattle.widl_script_rules.specs.declared.overloads.Overload.{Overload as Found}
use Rattle.widl_script_rules.specs.declared.targets.Opening.{Opening}
use Rattle.widl_script_rules.specs.Standings.{IsAtWord}
use Rattle.widl_script_rules.specs.Targets.{Overload, Opens, overload_of}

-- 1. Tables

abbrev pub operation_in : {S : Type 0} → IndexMap (Bor (List ℕ)) (Bor OpName) S → List ℕ → Option OpNameTerm
operation_in table text = option_map (λ (o : Bor OpName). op_name_term o.now) (get_by (λ k. bytes_eq text k.now) table)

-- the first one of each name
abbrev pub operation_there : List OpNameTerm → List ℕ → Option OpNameTerm
operation_there ops text = find (λ (o : OpNameTerm). bytes_eq text o.name) ops

abbrev pub HaveOperations : {S : Type 0} → IndexMap (Bor (List ℕ)) (Bor OpName) S → List OpNameTerm → Type 0
HaveOperations table ops = (text : List ℕ) → operation_in table text ≡ operation_there ops text

pub record IsSpace (n : Namespace) (space : SpaceTerm) : Type 0 where
  pub same : space_term n.space.now ≡ space
  pub operations : HaveOperations n.operations space.members.ops

abbrev pub IsSpaceOf : Option Namespace → Option SpaceTerm → Type 0
IsSpaceOf None space = space ≡ None
IsSpaceOf (Some n) space = (s : SpaceTerm) × (space ≡ Some s) × IsSpace n s

abbrev pub space_there : List SpaceTerm → List ℕ → Option SpaceTerm
space_there spaces text = find (λ (n : SpaceTerm). bytes_eq text n.name) spaces

abbrev pub HaveSpaces : {S : Type 0} → IndexMap (Bor (List ℕ)) Namespace S → List SpaceTerm → Type 0
HaveSpaces table spaces = (text : List ℕ) → IsSpaceOf (get_by (λ k. bytes_eq text k.now) table) (space_there spaces text)

-- the namespaces are those of the list
abbrev pub AreNamespaces : DefsTerm → Namespaces → Type 0
AreNamespaces list n = HaveSpaces n.by_name list.spaces

-- 2. Overloads

abbrev pub overload_term : Found → Overload
overload_term o = record { space = space_term o.space.now; signature = sig_term o.signature.now }

-- the line opens a block for the target, whose overload is this one if there is one
pub record IsOpened (list : DefsTerm) (line : Line) (b : Opening) : Type 0 where
  pub opens : Opens line b.target.value
  pub overload_is : option_map overload_term b.overload ≡ overload_of list b.target.value

abbrev pub IsOpening : DefsTerm → Line → Option Opening → Type 0
IsOpening list line o = MatchOption o ((t : Target) → Opens line t → ⊥) (IsOpened list line)

abbrev pub AreOpenings : DefsTerm → List Line → List (Option Opening) → Type 0
AreOpenings list lines all = (place : ℕ) (line : Line) (o : Option Opening) → slice_get lines place ≡ Some line → slice_get all place ≡ Some o → IsOpening list line o

-- 3. Rules 9 and 10, line by line

pub record LacksIn (list : DefsTerm) (line : Line) (place : ScriptPlace) : Type 0 where
  pub target : Target
  pub opens : Opens line target
  pub lacks : overload_of list target ≡ None
  pub at : IsAtWord 9 line 1 place
