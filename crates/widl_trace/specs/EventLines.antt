-- The line of an event, without the line feed that ends it (this program's own).
use Rattle.std.specs.Prelude.{ℕ, ◌++◌, List, map, codes, decimal}
use Rattle.widl_idl.specs.DefinitionTerms.{DefsTerm}
use Rattle.widl_value.specs.declared.value.Value.{Value}
use Rattle.widl_spell.specs.Names.{separated}
use Rattle.widl_value.specs.IdlTerms.{IdlTerm}
use Rattle.widl_trace.specs.CalleeTexts.{callee_text}
use Rattle.widl_trace.specs.Codes.{code_text}
use Rattle.widl_trace.specs.EventTerms.{EventTerm, GetEvent, KeysEvent, OwnEvent, CallEvent, NewEvent, ReturnEvent, ThrowEvent, OperationEvent, ErrorEvent, FulfilledEvent, RejectedEvent, WaitsEvent, ShowEvent, JobEvent, DoneEvent, UncaughtEvent, BudgetStop, DepthStop, ProfileStop}
use Rattle.widl_trace.specs.IdlValueTexts.{idl_value_text}
use Rattle.widl_trace.specs.ValueTexts.{key_text, object_text, value_text}

-- the arguments of a call
abbrev pub arguments_text : List Value → List ℕ
arguments_text args = codes " (" ++ separated (codes ", ") (map value_text args) ++ codes ")"

-- the IDL values that a callee begins with
abbrev pub idl_arguments_text : DefsTerm → List IdlTerm → List ℕ
idl_arguments_text defs args = codes " (" ++ separated (codes ", ") (map (idl_value_text defs) args) ++ codes ")"

unfoldable pub line_of : DefsTerm → EventTerm → List ℕ
line_of defs (GetEvent obj key) = codes "get " ++ object_text obj ++ codes " " ++ key_text key
line_of defs (KeysEvent obj) = codes "keys " ++ object_text obj
line_of defs (OwnEvent obj key) = codes "own " ++ object_text obj ++ codes " " ++ key_text key
line_of defs (CallEvent f this args) = codes "call " ++ object_text f ++ codes " this " ++ value_text this ++ arguments_text args
line_of defs (NewEvent f args) = codes "new " ++ object_text f ++ arguments_text args
line_of defs (ReturnEvent value) = codes "ret " ++ value_text value
line_of defs (ThrowEvent value) = codes "thr " ++ value_text value
line_of defs (OperationEvent callee overload args) = codes "op " ++ callee_text defs callee overload ++ idl_arguments_text defs args
line_of defs (ErrorEvent obj code) = codes "error " ++ object_text obj ++ codes " " ++ code_text code
line_of defs (FulfilledEvent promise value) = codes "promise " ++ object_text promise ++ codes " fulfilled " ++ value_text value
line_of defs (RejectedEvent promise value) = codes "promise " ++ object_text promise ++ codes " rejected " ++ value_text value
line_of defs (WaitsEvent promise on method) = codes "promise " ++ object_text promise ++ codes " waits " ++ object_text on ++ codes " " ++ object_text method
line_of defs (ShowEvent value) = codes "show " ++ value_text value
line_of defs (JobEvent promise on method) = codes "job " ++ object_text promise ++ codes " " ++ object_text on ++ codes " " ++ object_text method
line_of defs DoneEvent = codes "done"
line_of defs (UncaughtEvent value) = codes "uncaught " ++ value_text value
line_of defs BudgetStop = codes "stop budget"
line_of defs DepthStop = codes "stop depth"
line_of defs (ProfileStop end) = codes "stop profile " ++ decimal end
