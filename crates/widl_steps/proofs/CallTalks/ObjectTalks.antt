-- Worked conversations: the functions of Object.prototype, and those that no run does or that aren't built.
use Rattle.std.specs.Prelude.{◌≡◌, ℕ, [], ◌∷◌, false, codes, refl}
use Rattle.widl_dialog.specs.Conversation.{Asks, Ends, Next}
use Rattle.widl_dialog.proofs.Nexts.{one_next}
use Rattle.widl_text.specs.declared.key.Key.TheVariants as keys
use Rattle.widl_idl.specs.declared.callee.Owner.TheVariants as owners
use Rattle.widl_idl.specs.declared.callee.Part.TheVariants as parts
use Rattle.widl_value.specs.declared.value.Value.{Value}
use Rattle.widl_value.specs.declared.value.Value.TheVariants as values
use Rattle.widl_store.specs.declared.inner.Builtin.TheVariants as builtins
use Rattle.widl_trace.specs.declared.code.Code.TheVariants as code
use Rattle.widl_steps.specs.declared.answer.KindName.TheVariants as kinds
use Rattle.widl_steps.specs.declared.ask.Look.TheVariants as looks
use Rattle.widl_steps.specs.AskTerms.{AskTerm, GetAsk, LookAsk, ThrownAnswer, KindSight, SightAnswer, Fits}
use Rattle.widl_steps.specs.Laws.{Said, IsNext}
use Rattle.widl_steps.specs.Tasks.{TaskEnd, Plain, Throw, Rethrow, Profile}
use Rattle.widl_steps.proofs.Worked.{number, plain, function, gets, nothing_defined}
use Rattle.widl_steps.specs.BuiltCalls.{calls_built_today}
use Rattle.widl_steps.specs.CallRules.{call_rule}
use Rattle.widl_steps.specs.CallTasks.{Function}
use Rattle.widl_steps.specs.Operations.{StepsOf}

abbrev no_blocks : StepsOf
no_blocks callee overload = []

-- the call of the function of a number
abbrev Does : ℕ → Value → Said → Next AskTerm TaskEnd → Type 0
Does n this said next = IsNext (call_rule calls_built_today nothing_defined no_blocks) (Function (function n) (builtins.Intrinsic n) this [] false) said next

abbrev it : Value
it = values.Obj (plain 20)

-- `toString`
text_of_undefined : Does 8 values.Undefined [] (Ends (Plain (values.Str (codes "[object Undefined]"))))
text_of_undefined = (10, refl)

text_of_null : Does 8 values.Null [] (Ends (Plain (values.Str (codes "[object Null]"))))
text_of_null = (10, refl)

text_with_tag : Does 8 it (gets (plain 20) (keys.Sym 2) (values.Str (codes "it")) ∷ []) (Ends (Plain (values.Str (codes "[object it]"))))
text_with_tag = (10, (refl, tt, refl))

text_with_empty_tag : Does 8 it (gets (plain 20) (keys.Sym 2) (values.Str []) ∷ []) (Ends (Plain (values.Str (codes "[object ]"))))
text_with_empty_tag = (10, (refl, tt, refl))

asks_kind : Does 8 it (gets (plain 20) (keys.Sym 2) (number 1) ∷ []) (Asks (LookAsk (plain 20) looks.Kind))
asks_kind = (10, (refl, tt, refl))

text_without_tag : Does 8 it (gets (plain 20) (keys.Sym 2) values.Undefined ∷ (LookAsk (plain 20) looks.Kind, SightAnswer (KindSight kinds.Array)) ∷ []) (Ends (Plain (values.Str (codes "[object Array]"))))
text_without_tag = (10, (refl, tt, (refl, tt, refl)))

text_of_callable : Does 8 it (gets (plain 20) (keys.Sym 2) values.Undefined ∷ (LookAsk (plain 20) looks.Kind, SightAnswer (KindSight kinds.Function)) ∷ []) (Ends (Plain (values.Str (codes "[object Function]"))))
text_of_callable = (10, (refl, tt, (refl, tt, refl)))

text_of_thrown : Does 8 it (gets (plain 20) (keys.Sym 2) values.Undefined ∷ (LookAsk (plain 20) looks.Kind, SightAnswer (KindSight kinds.Error)) ∷ []) (Ends (Plain (values.Str (codes "[object Error]"))))
text_of_thrown = (10, (refl, tt, (refl, tt, refl)))

text_of_other : Does 8 it (gets (plain 20) (keys.Sym 2) values.Undefined ∷ (LookAsk (plain 20) looks.Kind, SightAnswer (KindSight kinds.Other)) ∷ []) (Ends (Plain (values.Str (codes "[object Object]"))))
text_of_other = (10, (refl, tt, (refl, tt, refl)))

text_of_promise : Does 8 it (gets (plain 20) (keys.Sym 2) values.Undefined ∷ (LookAsk (plain 20) looks.Kind, SightAnswer (KindSight kinds.Promise)) ∷ []) (Ends (Plain (values.Str (codes "[object Object]"))))
text_of_promise = (10, (refl, tt, (refl, tt, refl)))

tag_throws : Does 8 it ((GetAsk (plain 20) (keys.Sym 2), ThrownAnswer (number 7)) ∷ []) (Ends (Rethrow (number 7)))
tag_throws = (10, (refl, tt, refl))

text_of_number : Does 8 (number 1) [] (Ends (Profile 4))
text_of_number = (10, refl)

-- `valueOf`
value_is_itself : Does 9 it [] (Ends (Plain it))
value_is_itself = (10, refl)

value_of_undefined : Does 9 values.Undefined [] (Ends (Throw code.This))
value_of_undefined = (10, refl)

value_of_null : Does 9 values.Null [] (Ends (Throw code.This))
value_of_null = (10, refl)

value_of_text : Does 9 (values.Str []) [] (Ends (Profile 4))
value_of_text = (10, refl)

-- functions that no run does, and one that isn't built
text_of_function : Does 15 it [] (Ends (Profile 3))
text_of_function = (10, refl)

text_of_error : Does 16 it [] (Ends (Profile 3))
text_of_error = (10, refl)

then_of_promise : Does 17 it [] (Ends (Profile 3))
then_of_promise = (10, refl)

text_of_array : Does 10 it [] (Ends (Profile 99))
text_of_array = (10, refl)

-- the getter of a namespace's attribute isn't built
no_getter : IsNext (call_rule calls_built_today nothing_defined no_blocks) (Function (function 19) (builtins.Callee (record { owner = owners.Space 0; part = parts.Get 0 })) it [] false) [] (Ends (Profile 99))
no_getter = (10, refl)

-- The kind isn't asked for before the tag, nor after a fault: these begin no conversation.
asks_tag : Does 8 it [] (Asks (GetAsk (plain 20) (keys.Sym 2)))
asks_tag = (10, refl)

kind_not_first : Does 8 it [] (Asks (LookAsk (plain 20) looks.Kind)) → ⊥
kind_not_first x =
    let e : ◌≡◌ {A = Next AskTerm TaskEnd} (Asks (GetAsk (plain 20) (keys.Sym 2))) (Asks (LookAsk (plain 20) looks.Kind)) =
    one_next (call_rule calls_built_today nothing_defined no_blocks) Fits _ _ _ _ asks_tag x in
    absurd (cc)

no_kind_after_fault : Does 8 it ((GetAsk (plain 20) (keys.Sym 2), ThrownAnswer (number 7)) ∷ []) (Asks (LookAsk (plain 20) looks.Kind)) → ⊥
no_kind_after_fault x =
    let e : ◌≡◌ {A = Next AskTerm TaskEnd} (Ends (Rethrow (number 7))) (Asks (LookAsk (plain 20) looks.Kind)) =
    one_next (call_rule calls_built_today nothing_defined no_blocks) Fits _ _ _ _ tag_throws x in
    absurd (cc)
