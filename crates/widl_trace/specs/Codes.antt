-- The codes of errors in a trace: each is the code's own name (this program's own).
use Rattle.std.specs.Prelude.{ℕ, List, codes}
use Rattle.widl_trace.specs.declared.code.Code.{Code}
use Rattle.widl_trace.specs.declared.code.Code.TheVariants as causes

abbrev pub code_text : Code → List ℕ
code_text causes.NoOverload = codes "no-overload"
code_text causes.NoMatch = codes "no-match"
code_text causes.NotObject = codes "not-object"
code_text causes.NotCallable = codes "not-callable"
code_text causes.NotIterable = codes "not-iterable"
code_text causes.Iterator = codes "iterator"
code_text causes.Result = codes "result"
code_text causes.Symbol = codes "symbol"
code_text causes.Range = codes "range"
code_text causes.Byte = codes "byte"
code_text causes.Enum = codes "enum"
code_text causes.Required = codes "required"
code_text causes.Dictionary = codes "dictionary"
code_text causes.Interface = codes "interface"
code_text causes.Primitive = codes "primitive"
code_text causes.Union = codes "union"
code_text causes.This = codes "this"
code_text causes.Running = codes "running"
code_text causes.NoConstructor = codes "no-constructor"
code_text causes.NeedsNew = codes "needs-new"
code_text causes.NoValue = codes "no-value"
code_text causes.NoDefault = codes "no-default"
code_text causes.ReadOnly = codes "read-only"
code_text causes.NotConfigurable = codes "not-configurable"
code_text causes.Member = codes "member"
code_text causes.Key = codes "key"
