-- The laws of operations, and of the tables of scripts. The functions of `laws` have them as contracts.
-- Source: this program's own.
use Rattle.std.specs.Prelude.{◌≡◌, ℕ, Bool, true, false, List, Some}
use Rattle.widl_dialog.specs.Conversation.{Asks}
use Rattle.widl_idl.specs.declared.callee.Callee.{Callee}
use Rattle.widl_idl.specs.declared.callee.Owner.TheVariants as owners
use Rattle.widl_idl.specs.DefinitionTerms.{DefsTerm}
use Rattle.widl_value.specs.declared.object.ObjRef.{ObjRef}
use Rattle.widl_value.specs.declared.value.Value.{Value}
use Rattle.widl_value.specs.IdlTerms.{IdlTerm}
use Rattle.widl_store.specs.declared.inner.Builtin.TheVariants as builtins
use Rattle.widl_script_tree.specs.Tables.{Tables, script_tree}
use Rattle.widl_trace.specs.EventTerms.{OperationEvent}
use Rattle.widl_steps.specs.AskTerms.{AskTerm, NoteAsk}
use Rattle.widl_steps.specs.Laws.{Said, IsNext, IsTalk}
use Rattle.widl_steps.specs.Tasks.{Resolve, Picks}
use Rattle.widl_steps.specs.BuiltCalls.{BuiltCalls}
use Rattle.widl_steps.specs.CallRules.{call_rule}
use Rattle.widl_steps.specs.CallTasks.{Of, Function}
use Rattle.widl_steps.specs.FoundSteps.{FindsSteps, steps_found}
use Rattle.widl_steps.specs.Operations.{StepsOf, lines_of, returns_promise}

-- an operation of a namespace that has steps
pub record IsOperation (built : BuiltCalls) (list : DefsTerm) (callee : Callee) : Type 0 where
  pub space : ℕ
  pub owner : callee.owner ≡ owners.Space space
  pub has_steps : built.functions (builtins.Callee callee) ≡ true
  pub plain : returns_promise list callee ≡ false

module _ (built : BuiltCalls) (list : DefsTerm) (steps : StepsOf) where
  -- what the choice of an overload asks, the operation asks
  abbrev pub OperationsResolve : Type 0
  OperationsResolve =
      (f : ObjRef) (callee : Callee) (this : Value) (args : List Value) (construct : Bool) (said : Said) (ask : AskTerm) → IsOperation built list callee → IsNext (call_rule built list steps) (Of (Resolve callee args)) said (Asks ask) → IsNext (call_rule built list steps) (Function f (builtins.Callee callee) this args construct) said (Asks ask)

  -- and where it has chosen one, that one's event is told next
  abbrev pub OperationsNote : Type 0
  OperationsNote =
      (f : ObjRef) (callee : Callee) (this : Value) (args : List Value) (construct : Bool) (said : Said) (overload : ℕ) (ws : List IdlTerm) → IsOperation built list callee → IsTalk (call_rule built list steps) (Of (Resolve callee args)) said (Picks overload ws) → IsNext (call_rule built list steps) (Function f (builtins.Callee callee) this args construct) said (Asks (NoteAsk (OperationEvent callee (Some overload) ws)))

-- tables that find the blocks of the tree find the lines that the tree has
abbrev pub TablesFindSteps : Type 0
TablesFindSteps = (list : DefsTerm) (s : Tables) → FindsSteps list s → steps_found list s ≡ lines_of list (script_tree s)
