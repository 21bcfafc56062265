-- Objects to primitive values.
-- Source: ECMA-262, ToPrimitive and OrdinaryToPrimitive.
use Rattle.std.specs.Prelude.{List, [], ◌∷◌, ℕ, codes}
use Rattle.widl_dialog.specs.Dialog.{Say}
use Rattle.widl_text.specs.declared.key.Key.TheVariants as keys
use Rattle.widl_value.specs.declared.object.ObjRef.{ObjRef}
use Rattle.widl_value.specs.declared.value.Value.{Value}
use Rattle.widl_value.specs.declared.value.Value.TheVariants as values
use Rattle.widl_trace.specs.declared.code.Code.TheVariants as code
use Rattle.widl_steps.specs.declared.hint.Hint.{Hint}
use Rattle.widl_steps.specs.declared.hint.Hint.TheVariants.{PrefersNumber, PrefersString}
use Rattle.widl_steps.specs.AskTerms.{GetAsk, CallAsk}
use Rattle.widl_steps.specs.Tasks.{Talk}
use Rattle.widl_steps.specs.Words.{returns, fails, normal, object_or, callable_or, method_or}

-- the symbol `@toPrimitive`
abbrev pub to_primitive_symbol : ℕ
to_primitive_symbol = 1

abbrev pub hint_text : Hint → List ℕ
hint_text PrefersNumber = codes "number"
hint_text PrefersString = codes "string"

-- 1. OrdinaryToPrimitive

-- a result that is no object is the primitive value; after an object the next method is tried
abbrev pub tried : Talk → Value → Talk
tried otherwise = object_or returns (λ o. otherwise)

abbrev pub found_ordinary : ObjRef → Talk → Value → Talk
found_ordinary o otherwise = callable_or otherwise (λ f. Say (CallAsk f (values.Obj o) []) (normal (tried otherwise)))

-- the property of this name is read, and called if it can be
abbrev pub try_method : ObjRef → List ℕ → Talk → Talk
try_method o name otherwise = Say (GetAsk o (keys.Name name)) (normal (found_ordinary o otherwise))

-- where neither method gives a primitive value, a TypeError is thrown
abbrev pub ordinary : Hint → ObjRef → Talk
ordinary PrefersNumber o = try_method o (codes "valueOf") (try_method o (codes "toString") (fails code.Primitive))
ordinary PrefersString o = try_method o (codes "toString") (try_method o (codes "valueOf") (fails code.Primitive))

-- 2. ToPrimitive

-- the method `@toPrimitive` may not give an object
abbrev pub primitive_result : Value → Talk
primitive_result = object_or returns (λ o. fails code.Primitive)

abbrev pub call_method : Hint → ObjRef → ObjRef → Talk
call_method hint o f = Say (CallAsk f (values.Obj o) (values.Str (hint_text hint) ∷ [])) (normal primitive_result)

abbrev pub found_method : Hint → ObjRef → Value → Talk
found_method hint o = method_or (ordinary hint o) (call_method hint o)

abbrev pub object_to_primitive : Hint → ObjRef → Talk
object_to_primitive hint o = Say (GetAsk o (keys.Sym to_primitive_symbol)) (normal (found_method hint o))

-- a value that is no object is itself
abbrev pub to_primitive : Hint → Value → Talk
to_primitive hint v = object_or returns (object_to_primitive hint) v
