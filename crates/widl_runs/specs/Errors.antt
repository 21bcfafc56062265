-- Errors: how a TypeError is thrown. Its line tells why; what a script sees of it is an object without properties.
-- Source: ECMA-262, "Throw an Exception"; the units and the line are this program's own.
use Rattle.widl_dialog.specs.Dialog.{End, Say}
use Rattle.widl_value.specs.declared.object.ObjRef.{ObjRef}
use Rattle.widl_value.specs.declared.value.Value.TheVariants as values
use Rattle.widl_trace.specs.declared.code.Code.{Code}
use Rattle.widl_trace.specs.EventTerms.{ErrorEvent}
use Rattle.widl_runs.specs.Ends.{Thrown}
use Rattle.widl_runs.specs.Actions.{Pay, Write, AddObject, type_error, Reply, object_in}
use Rattle.widl_runs.specs.Jobs.{Doing}

-- the object is thrown
abbrev pub throws_error : ObjRef → Reply → Doing
throws_error object r = End (Thrown (values.Obj object))

-- its line is written
abbrev pub error_line : Code → ObjRef → Doing
error_line code object = Say (Write (ErrorEvent object code)) (throws_error object)

abbrev pub made_error : Code → Reply → Doing
made_error code r = error_line code (object_in r)

abbrev pub new_error : Code → Doing
new_error code = Say (AddObject type_error) (made_error code)

-- One unit, a new object whose prototype is TypeError.prototype, its line; then the object is thrown.
abbrev pub fail : Code → Doing
fail code = Say Pay (λ r. new_error code)
