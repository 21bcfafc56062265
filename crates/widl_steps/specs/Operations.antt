-- Operations: what the function of an operation does.
-- Source: Web IDL, "create an operation function".
use Rattle.std.specs.Prelude.{ℕ, Bool, true, false, if◌then◌else◌, List, [], slice_get, Option, None, Some, option_map}
use Rattle.std.specs.List.{list_any}
use Rattle.std.specs.Option.{option_and_then, option_map_or}
use Rattle.widl_dialog.specs.Dialog.{End, Say, Steps, bind}
use Rattle.widl_idl.specs.declared.callee.Callee.{Callee}
use Rattle.widl_idl.specs.declared.callee.Owner.{Owner}
use Rattle.widl_idl.specs.declared.callee.Owner.TheVariants as owners
use Rattle.widl_idl.specs.declared.callee.Part.{Part}
use Rattle.widl_idl.specs.declared.callee.Part.TheVariants as parts
use Rattle.widl_idl.specs.DefinitionTerms.{DefsTerm, SigTerm, OpNameTerm, MembersTerm, IfaceTerm, SpaceTerm}
use Rattle.widl_idl.specs.Terms.{TypeTerm, UndefinedType, PromiseType}
use Rattle.widl_overload.specs.sets.Entries.{overloads_of}
use Rattle.widl_value.specs.declared.value.Value.{Value}
use Rattle.widl_value.specs.IdlTerms.{IdlTerm}
use Rattle.widl_script_tree.specs.declared.steps.StepLine.{StepLine}
use Rattle.widl_script_tree.specs.Trees.{Text, ScriptTree}
use Rattle.widl_trace.specs.EventTerms.{OperationEvent}
use Rattle.widl_steps.specs.AskTerms.{NoteAsk}
use Rattle.widl_steps.specs.Tasks.{Resolve, Out, Picks, TaskEnd}
use Rattle.widl_steps.specs.Words.{done, given, not_built}
use Rattle.widl_steps.specs.CallTasks.{Of, CallTalk}
use Rattle.widl_steps.specs.StepLines.{Operation, lines, lines_for}

-- 1. What an operation is

-- an overload of the operations of one name, where there is one
abbrev pub overload_of : Text → Bool → ℕ → OpNameTerm → Option Operation
overload_of owner fixed overload o = option_map (λ (s : SigTerm). record { owner = owner; name = o.name; fixed = fixed; overload = overload }) (slice_get o.sigs overload)

-- other parts are no operations
abbrev pub named_operation : Text → (OpNameTerm → Bool) → Part → ℕ → MembersTerm → Option Operation
named_operation owner is_static (parts.Op n) overload members = option_and_then (λ (o : OpNameTerm). overload_of owner (is_static o) overload o) (slice_get members.ops n)
named_operation owner is_static _ overload members = None

-- those of a namespace aren't static
abbrev pub operation_in : DefsTerm → Part → ℕ → Owner → Option Operation
operation_in list part overload (owners.Space n) = option_and_then (λ (s : SpaceTerm). named_operation s.name (λ o. false) part overload s.members) (slice_get list.spaces n)
operation_in list part overload (owners.Iface n) = option_and_then (λ (i : IfaceTerm). named_operation i.name (λ o. o.fixed) part overload i.members) (slice_get list.ifaces n)

-- the lines of the steps block of each overload, in a script; what is no operation of the list has none
abbrev pub StepsOf : Type 0
StepsOf = Callee → ℕ → List StepLine

abbrev pub lines_of : DefsTerm → ScriptTree → StepsOf
lines_of list script callee overload = option_map_or (λ (o : Operation). lines_for o script.top) (operation_in list callee.part overload callee.owner) []

-- the type of its result
abbrev pub result_type : DefsTerm → Callee → ℕ → TypeTerm
result_type list callee overload = option_map_or (λ (s : SigTerm). s.returned) (slice_get (overloads_of list callee) overload) UndefinedType

abbrev pub is_promise : TypeTerm → Bool
is_promise (PromiseType t) = true
is_promise _ = false

abbrev pub returns_promise : DefsTerm → Callee → Bool
returns_promise list callee = list_any (λ (s : SigTerm). is_promise s.returned) (overloads_of list callee)

-- 2. What it does

-- the result to script
abbrev pub result : TypeTerm → TaskEnd → CallTalk
result t = given (λ w. Steps (Of (Out t w)) End)

-- the lines of its steps block are done, and what they give goes to script
abbrev pub steps_of : DefsTerm → StepsOf → Callee → ℕ → List IdlTerm → CallTalk
steps_of list steps callee overload ws =
    bind (lines list (result_type list callee overload) ws (steps callee overload)) (result (result_type list callee overload))

-- an overload is chosen and its arguments have their values: its line is written, and its steps are done
abbrev pub chosen : DefsTerm → StepsOf → Callee → TaskEnd → CallTalk
chosen list steps callee (Picks overload ws) = Say (NoteAsk (OperationEvent callee (Some overload) ws)) (done (steps_of list steps callee overload ws))
chosen list steps callee e = End e

-- An operation of a namespace, or a static one, doesn't look at `this`. Those of interfaces, and those that give a promise, have no steps yet.
abbrev pub owned_operation : DefsTerm → StepsOf → Callee → List Value → Owner → CallTalk
owned_operation list steps callee args (owners.Space n) =
    if returns_promise list callee then not_built else Steps (Of (Resolve callee args)) (chosen list steps callee)
owned_operation list steps callee args (owners.Iface n) = not_built

abbrev pub operation : DefsTerm → StepsOf → Callee → List Value → CallTalk
operation list steps callee args = owned_operation list steps callee args callee.owner
