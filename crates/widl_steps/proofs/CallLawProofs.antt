-- What an operation says begins with the choice of its overload; and whose lines the tables of a script find.
use Rattle.std.proofs.Common.{◌≡◌, ℕ, suc, Bool, List, [], ◌++◌, Option, Some, None, refl, ap, subst, ◌∙◌, append-nil}
use Rattle.std.specs.Prelude.{if◌then◌else◌}
use Rattle.std.specs.Option.{option_map_or}
use Rattle.widl_dialog.specs.Conversation.{Next, Asks, Ends, Comes}
use Rattle.widl_dialog.specs.Dialog.{Steps, bind}
use Rattle.widl_dialog.proofs.Nexts.{joins, waits}
use Rattle.widl_idl.specs.declared.callee.Callee.{Callee}
use Rattle.widl_idl.specs.declared.callee.Owner.{Owner}
use Rattle.widl_idl.specs.DefinitionTerms.{DefsTerm}
use Rattle.widl_value.specs.declared.object.ObjRef.{ObjRef}
use Rattle.widl_value.specs.declared.value.Value.{Value}
use Rattle.widl_store.specs.declared.inner.Builtin.TheVariants as builtins
use Rattle.widl_script_tree.specs.declared.steps.StepLine.{StepLine}
use Rattle.widl_script_tree.specs.Tables.{Tables, script_tree}
use Rattle.widl_trace.specs.EventTerms.{OperationEvent}
use Rattle.widl_steps.specs.AskTerms.{AskTerm, Fits, NoteAsk}
use Rattle.widl_steps.specs.Laws.{Said}
use Rattle.widl_steps.specs.Tasks.{TaskEnd, Resolve, Picks}
use Rattle.widl_steps.specs.Words.{not_built}
use Rattle.widl_steps.specs.BuiltCalls.{BuiltCalls}
use Rattle.widl_steps.specs.CallLaws.{IsOperation, OperationsNote, OperationsResolve, TablesFindSteps}
use Rattle.widl_steps.specs.CallRules.{call_rule, function}
use Rattle.widl_steps.specs.CallTasks.{CallTalk, Of, Function}
use Rattle.widl_steps.specs.FoundSteps.{FindsSteps, lines_found, steps_found}
use Rattle.widl_steps.specs.Operations.{StepsOf, chosen, lines_of, operation_in, owned_operation}
use Rattle.widl_steps.specs.StepLines.{Operation, lines_for}

module _ (built : BuiltCalls) (list : DefsTerm) (steps : StepsOf) where
  -- the operation goes through the choice of an overload
  goes_through : (f : ObjRef) (callee : Callee) (this : Value) (args : List Value) (construct : Bool) → IsOperation built list callee → call_rule built list steps (Function f (builtins.Callee callee) this args construct) ≡ Steps (Of (Resolve callee args)) (chosen list steps callee)
  goes_through f callee this args construct is =
      ap (λ (b : Bool). let d : CallTalk = if b then function list steps (builtins.Callee callee) this args else not_built in d) is.has_steps
      ∙ ap (λ (o : Owner). owned_operation list steps callee args o) is.owner
      ∙ ap (λ (b : Bool). let d : CallTalk = if b then not_built else Steps (Of (Resolve callee args)) (chosen list steps callee) in d) is.plain

  -- what comes next in its steps comes next in it
  comes_through_it : (f : ObjRef) (callee : Callee) (this : Value) (args : List Value) (construct : Bool) (said : Said) (n : Next AskTerm TaskEnd) → IsOperation built list callee → Comes (call_rule built list steps) Fits (bind (call_rule built list steps (Of (Resolve callee args))) (chosen list steps callee)) said n → Comes (call_rule built list steps) Fits (call_rule built list steps (Function f (builtins.Callee callee) this args construct)) said n
  comes_through_it f callee this args construct said n is x =
      let there : Comes (call_rule built list steps) Fits (Steps (Of (Resolve callee args)) (chosen list steps callee)) said n = (suc x.0, x.1) in
      rw (goes_through f callee this args construct is) there

  pub operations_resolve : OperationsResolve built list steps
  operations_resolve f callee this args construct said ask is x =
      comes_through_it f callee this args construct said (Asks ask) is
      (waits (call_rule built list steps) Fits (call_rule built list steps (Of (Resolve callee args))) (chosen list steps callee) said ask x)

  pub operations_note : OperationsNote built list steps
  operations_note f callee this args construct said overload ws is x =
      let next : Next AskTerm TaskEnd = Asks (NoteAsk (OperationEvent callee (Some overload) ws)) in
      let whole = joins (call_rule built list steps) Fits (call_rule built list steps (Of (Resolve callee args))) (chosen list steps callee) said [] (Picks overload ws) next x (1, refl) in
      comes_through_it f callee this args construct said next is
      (subst (λ (l : Said). Comes (call_rule built list steps) Fits (bind (call_rule built list steps (Of (Resolve callee args))) (chosen list steps callee)) l next) (append-nil said) whole)

module _ (list : DefsTerm) (s : Tables) (finds : FindsSteps list s) where
  same_of : (callee : Callee) (overload : ℕ) (o : Option Operation) → operation_in list callee.part overload callee.owner ≡ o → option_map_or (λ (p : Operation). lines_found s callee overload) o [] ≡ option_map_or (λ (p : Operation). lines_for p (script_tree s).top) o []
  same_of callee overload None is = refl
  same_of callee overload (Some o) is = finds.lines callee overload o is

  same_lines : (callee : Callee) (overload : ℕ) → steps_found list s callee overload ≡ lines_of list (script_tree s) callee overload
  same_lines callee overload = same_of callee overload (operation_in list callee.part overload callee.owner) refl

pub tables_find : TablesFindSteps
tables_find list s finds = λ i callee overload. same_lines list s finds callee overload i
