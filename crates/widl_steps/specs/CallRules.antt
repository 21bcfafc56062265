-- The steps of each task of a call, together.
-- Source: the sections named at the head of each file that is cited here.
use Rattle.std.specs.Prelude.{ℕ, nat_eq, if◌then◌else◌, List}
use Rattle.widl_dialog.specs.Rename.{rename}
use Rattle.widl_idl.specs.DefinitionTerms.{DefsTerm}
use Rattle.widl_value.specs.declared.value.Value.{Value}
use Rattle.widl_store.specs.declared.inner.Builtin.{Builtin}
use Rattle.widl_store.specs.declared.inner.Builtin.TheVariants as builtins
use Rattle.widl_steps.specs.Rules.{rule}
use Rattle.widl_steps.specs.Words.{never_run, not_built}
use Rattle.widl_steps.specs.ArrayFunctions.{array_values, array_iterator_next, iterator_itself}
use Rattle.widl_steps.specs.BuiltCalls.{BuiltCalls}
use Rattle.widl_steps.specs.CallTasks.{CallTask, Of, Function, CallTalk}
use Rattle.widl_steps.specs.ObjectFunctions.{object_to_string, object_value_of}
use Rattle.widl_steps.specs.Operations.{StepsOf, operation}

-- #8 `toString` and #9 `valueOf` of objects; #15 `toString` of functions, #16 `toString` of errors and #17 `then` of promises, which no run
-- does; #12 `values` of arrays, #13 `next` of array iterators and #14, by which an iterator is iterated over itself. #10 and #11 of arrays have no
-- steps yet.
abbrev pub intrinsic : ℕ → Value → CallTalk
intrinsic number this =
    if nat_eq number 8 then object_to_string this else
    if nat_eq number 9 then object_value_of this else
    if nat_eq number 12 then array_values this else
    if nat_eq number 13 then array_iterator_next this else
    if nat_eq number 14 then iterator_itself this else
    if nat_eq number 15 then never_run else
    if nat_eq number 16 then never_run else
    if nat_eq number 17 then never_run else not_built

-- interface objects and the functions of pair iterables have no steps yet
abbrev pub function : DefsTerm → StepsOf → Builtin → Value → List Value → CallTalk
function list steps (builtins.Intrinsic number) this args = intrinsic number this
function list steps (builtins.Callee callee) this args = operation list steps callee args
function list steps (builtins.InterfaceObject iface) this args = not_built
function list steps (builtins.Pairs iface what) this args = not_built

-- over a list of definitions and the steps blocks of a script, of what is built
abbrev pub call_rule : BuiltCalls → DefsTerm → StepsOf → CallTask → CallTalk
call_rule built list steps (Of t) = rename Of (rule built.conversions list t)
call_rule built list steps (Function f what this args construct) = if built.functions what then function list steps what this args else not_built
