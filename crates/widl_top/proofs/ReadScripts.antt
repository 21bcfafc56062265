-- For proofs alone. The tables of a script that is read over a list agree with it on all that a run asks.
use Rattle.std.proofs.Common.{◌≡◌, ℕ, Bool, List, [], ◌∷◌, Option, Some, None, ◌&&◌, refl, sym, ap, ◌∙◌, if◌then◌else◌, true≢false}
use Rattle.std.specs.Prelude.{true, false, is_some, option_map, slice_get}
use Rattle.std.specs.List.{list_all}
use Rattle.std.specs.Option.{option_and_then}
use Rattle.widl_idl.specs.declared.callee.Callee.{Callee}
use Rattle.widl_idl.specs.declared.callee.Owner.{Owner}
use Rattle.widl_idl.specs.declared.callee.Owner.TheVariants as owners
use Rattle.widl_idl.specs.declared.callee.Part.{Part}
use Rattle.widl_idl.specs.declared.callee.Part.TheVariants as parts
use Rattle.widl_idl.specs.DefinitionTerms.{DefsTerm, IfaceTerm, SpaceTerm, OpNameTerm, SigTerm}
use Rattle.widl_overload.specs.OperationsAlone.{HasOperationsAlone, has_operations_alone, is_none}
use Rattle.widl_script_tree.specs.declared.steps.StepLine.{StepLine}
use Rattle.widl_script_tree.specs.declared.steps.Target.{Target}
use Rattle.widl_script_tree.specs.declared.steps.Target.TheVariants as targets
use Rattle.widl_script_tree.specs.Tables.{Tables, script_tree}
use Rattle.widl_script_tree.specs.Trees.{StatementTrees, no_statements, then_more, LetT, DoT, ReturnT, ThrowT, ShowT, SetT, DefineT, DefineAccessorT, DeleteT, TryT, IfT, FunctionT, StepsT}
use Rattle.widl_script.specs.Scripts as scripts
use Rattle.widl_script.specs.Scripts.{Answers, callee_of, lines_of_first}
use Rattle.widl_script_rules.specs.Targets.{is_target_of}
use Rattle.widl_steps.specs.FoundSteps.{lines_found}
use Rattle.widl_steps.specs.Operations.{named_operation, operation_in, overload_of}
use Rattle.widl_steps.specs.StepLines.{Operation, is_target, lines_for}
use Rattle.widl_runs.specs.Worlds.{owner_or}
use Rattle.widl_engine.specs.ReadOver.{IsReadOver}

same_owner : (iface space : Option ℕ) → scripts.owner_or iface space ≡ owner_or iface space
same_owner (Some i) space = refl
same_owner None (Some n) = refl
same_owner None None = refl

-- an overload of an operation, by the name of its namespace and its own
abbrev of_name : SpaceTerm → OpNameTerm → ℕ → Operation
of_name space o k = record { owner = space.name; name = o.name; fixed = false; overload = k }

same_target : (space : SpaceTerm) (o : OpNameTerm) (k : ℕ) (t : Target) → is_target_of space o k t ≡ is_target (of_name space o k) t
same_target space o k (targets.Operation owner text true overload) = refl
same_target space o k (targets.Operation owner text false overload) = refl
same_target space o k (targets.Constructor owner overload) = refl
same_target space o k (targets.Getter owner text) = refl
same_target space o k (targets.Setter owner text) = refl
same_target space o k (targets.Stringifier owner) = refl

module _ (space : SpaceTerm) (o : OpNameTerm) (k : ℕ) where
  abbrev Same : StatementTrees → Type 0
  Same ss = lines_of_first (is_target_of space o k) ss ≡ lines_for (of_name space o k) ss

  same_first : (ss : StatementTrees) → Same ss
  same_first no_statements = refl
  same_first (then_more (StepsT target lines) ss) =
      ap (λ (b : Bool). if b then lines else lines_of_first (is_target_of space o k) ss) (same_target space o k target)
      ∙ ap (λ (l : List StepLine). if is_target (of_name space o k) target then lines else l) (same_first ss)
  same_first (then_more (LetT name e) ss) = same_first ss
  same_first (then_more (DoT e) ss) = same_first ss
  same_first (then_more (ReturnT e) ss) = same_first ss
  same_first (then_more (ThrowT e) ss) = same_first ss
  same_first (then_more (ShowT e) ss) = same_first ss
  same_first (then_more (SetT m e) ss) = same_first ss
  same_first (then_more (DefineT m e hidden) ss) = same_first ss
  same_first (then_more (DefineAccessorT m getter setter) ss) = same_first ss
  same_first (then_more (DeleteT m) ss) = same_first ss
  same_first (then_more (TryT body name handler) ss) = same_first ss
  same_first (then_more (IfT left right met unmet) ss) = same_first ss
  same_first (then_more (FunctionT number name params body) ss) = same_first ss

no_ifaces : (list : DefsTerm) → HasOperationsAlone list → is_none list.ifaces ≡ true
no_ifaces list alone = first (is_none list.ifaces) alone
  where
    first : (none : Bool) → none && list_all has_operations_alone list.spaces ≡ true → none ≡ true
    first true h = refl
    first false h = absurd (true≢false (sym h))

module _ (list : DefsTerm) (s : Tables) (answers : Answers list s) (alone : HasOperationsAlone list) where
  abbrev IsAnswered : Callee → ℕ → Operation → Type 0
  IsAnswered callee k x = lines_found s callee k ≡ lines_for x (script_tree s).top

  answered_sig : (n m k : ℕ) (space : SpaceTerm) (o : OpNameTerm) (sig : Option SigTerm) (x : Operation) → slice_get o.sigs k ≡ sig → slice_get list.spaces n ≡ Some space → slice_get space.members.ops m ≡ Some o → option_map (λ (y : SigTerm). of_name space o k) sig ≡ Some x → IsAnswered (callee_of n m) k x
  answered_sig n m k space o None x is at place found = absurd (let bad : None ≡ Some x = found in cc)
  answered_sig n m k space o (Some sig) x is at place found =
      let same : of_name space o k ≡ x = (let e : Some (of_name space o k) ≡ Some x = found in cc) in
      answers.steps n m k space o at place (ap (λ (y : Option SigTerm). is_some y) is)
      ∙ same_first space o k (script_tree s).top
      ∙ ap (λ (y : Operation). lines_for y (script_tree s).top) same

  answered_name : (n m k : ℕ) (space : SpaceTerm) (o : Option OpNameTerm) (x : Operation) → slice_get list.spaces n ≡ Some space → slice_get space.members.ops m ≡ o → option_and_then (λ (y : OpNameTerm). overload_of space.name false k y) o ≡ Some x → IsAnswered (callee_of n m) k x
  answered_name n m k space None x at place found = absurd (let bad : None ≡ Some x = found in cc)
  answered_name n m k space (Some o) x at place found = answered_sig n m k space o (slice_get o.sigs k) x refl at place found

  answered_part : (n k : ℕ) (part : Part) (space : SpaceTerm) (x : Operation) → slice_get list.spaces n ≡ Some space → named_operation space.name (λ o. false) part k space.members ≡ Some x → IsAnswered (record { owner = owners.Space n; part = part }) k x
  answered_part n k (parts.Op m) space x at found = answered_name n m k space (slice_get space.members.ops m) x at refl found
  answered_part n k parts.Constructor space x at found = absurd (let bad : None ≡ Some x = found in cc)
  answered_part n k (parts.Get m) space x at found = absurd (let bad : None ≡ Some x = found in cc)
  answered_part n k (parts.Set m) space x at found = absurd (let bad : None ≡ Some x = found in cc)
  answered_part n k parts.Text space x at found = absurd (let bad : None ≡ Some x = found in cc)

  answered_space : (n k : ℕ) (part : Part) (space : Option SpaceTerm) (x : Operation) → slice_get list.spaces n ≡ space → option_and_then (λ (y : SpaceTerm). named_operation y.name (λ o. false) part k y.members) space ≡ Some x → IsAnswered (record { owner = owners.Space n; part = part }) k x
  answered_space n k part None x at found = absurd (let bad : None ≡ Some x = found in cc)
  answered_space n k part (Some space) x at found = answered_part n k part space x at found

  answered_iface : (ifaces : List IfaceTerm) (i k : ℕ) (part : Part) (x : Operation) → is_none ifaces ≡ true → option_and_then (λ (y : IfaceTerm). named_operation y.name (λ o. o.fixed) part k y.members) (slice_get ifaces i) ≡ Some x → ⊥
  answered_iface [] i k part x none found = absurd (let bad : None ≡ Some x = found in cc)
  answered_iface (y ∷ more) i k part x none found = absurd (true≢false (sym none))

  answered_owner : (owner : Owner) (k : ℕ) (part : Part) (x : Operation) → operation_in list part k owner ≡ Some x → IsAnswered (record { owner = owner; part = part }) k x
  answered_owner (owners.Space n) k part x found = answered_space n k part (slice_get list.spaces n) x refl found
  answered_owner (owners.Iface i) k part x found = absurd (answered_iface list.ifaces i k part x (no_ifaces list alone) found)

  pub read_over : IsReadOver list s
  read_over = record {
    owners = λ name. answers.owners name ∙ same_owner _ _;
    lines = record { lines = λ callee k x found. answered_owner callee.owner k callee.part x found };
  }
