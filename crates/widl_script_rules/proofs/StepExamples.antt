-- For proofs alone. What targets and step lines break over `callback C = any (any a, optional any b);` and
-- `namespace N { any f(any a); undefined g(any a); any h(C c, C? d, C... e); };`.
use Rattle.std.proofs.Common.{◌≡◌, ℕ, List, [], ◌∷◌, ◌++◌, codes, true, false, Option, Some, None, option_map, is_some, refl, Bool, map}
use Rattle.widl_idl.specs.declared.argument.Optionality.{Optionality}
use Rattle.widl_idl.specs.declared.argument.Optionality.TheVariants as optionality
use Rattle.widl_idl.specs.declared.literal.Literal.TheVariants as literal
use Rattle.widl_idl.specs.DefinitionTerms.{ArgTerm, CallbackTerm, DefsTerm, OpNameTerm, SigTerm, SpaceTerm}
use Rattle.widl_idl.specs.Terms.{TypeTerm, AnyType, UndefinedType, CallbackFunctionType, NullableType}
use Rattle.widl_script_tree.specs.declared.steps.Invoke.{Invoke}
use Rattle.widl_script_tree.specs.declared.steps.Source.{Source}
use Rattle.widl_script_tree.specs.declared.steps.Source.TheVariants as source
use Rattle.widl_script_tree.specs.declared.steps.StepLine.{StepLine}
use Rattle.widl_script_tree.specs.declared.steps.StepLine.TheVariants as step
use Rattle.widl_script_tree.specs.declared.steps.Target.{Target}
use Rattle.widl_script_tree.specs.declared.steps.Target.TheVariants as target
use Rattle.widl_script_rules.specs.Targets.{Overload, overload_of}
use Rattle.widl_script_rules.specs.StepUses.{Used, used_in}
use Rattle.widl_script_rules.specs.Arguments.{lost_words}
use Rattle.widl_script_rules.specs.Slots.{lost_slots}
use Rattle.widl_script_rules.specs.CallbacksAndPairs.{refused_words}
use Rattle.widl_script_rules.specs.Fits.{wanted}

abbrev arg : TypeTerm → Optionality → ArgTerm
arg ty opt = record { name = codes "a"; ty = ty; opt = opt; value = None }

abbrev sig : List ArgTerm → TypeTerm → SigTerm
sig args returned = record { at = record { file = 0; at = 0 }; args = args; returned = returned }

abbrev op : List ℕ → SigTerm → OpNameTerm
op text s = record { name = text; fixed = false; sigs = s ∷ [] }

abbrev callbacks : List ArgTerm
callbacks = arg (CallbackFunctionType 0) optionality.Required ∷ arg (NullableType (CallbackFunctionType 0)) optionality.Required ∷ arg (CallbackFunctionType 0) optionality.Variadic ∷ []

abbrev f : SigTerm
f = sig (arg AnyType optionality.Required ∷ []) AnyType

abbrev g : SigTerm
g = sig (arg AnyType optionality.Required ∷ []) UndefinedType

abbrev h : SigTerm
h = sig callbacks AnyType

abbrev space : SpaceTerm
space = record { at = record { file = 0; at = 0 }; name = codes "N"; members = record { ops = op (codes "f") f ∷ op (codes "g") g ∷ op (codes "h") h ∷ []; attrs = []; consts = []; order = [] } }

abbrev callback : CallbackTerm
callback = record { at = record { file = 0; at = 0 }; name = codes "C"; op = []; sig = sig (arg AnyType optionality.Required ∷ arg AnyType optionality.Optional ∷ []) AnyType }

abbrev list : DefsTerm
list = record { ifaces = []; spaces = space ∷ []; dicts = []; choices = []; callback_fns = callback ∷ []; callback_ifaces = [] }

abbrev on : SigTerm → Overload
on s = record { space = space; signature = s }

abbrev call : ℕ → List Source → Invoke
call k sources = record { arg = k; sources = sources }

abbrev null : Source
null = source.Literal literal.Null

there : overload_of list (target.Operation (codes "N") (codes "g") false 0) ≡ Some (on g)
there = refl

no_operation : overload_of list (target.Operation (codes "N") (codes "x") false 0) ≡ None
no_operation = refl

no_overload : overload_of list (target.Operation (codes "N") (codes "f") false 1) ≡ None
no_overload = refl

no_namespace : overload_of list (target.Operation (codes "M") (codes "f") false 0) ≡ None
no_namespace = refl

no_getter : overload_of list (target.Getter (codes "N") (codes "f")) ≡ None
no_getter = refl

no_static : overload_of list (target.Operation (codes "N") (codes "f") true 0) ≡ None
no_static = refl

-- the words that break rules 11, 12 and 14 in a line
abbrev broken : SigTerm → StepLine → List (List ℕ)
broken s line = lost_words (on s) line ∷ lost_slots (on s) line ∷ refused_words list (on s) line ∷ []

no_argument : broken f (step.Return (source.Arg 1)) ≡ (1 ∷ []) ∷ [] ∷ [] ∷ []
no_argument = refl

no_this : broken f (step.Return source.This) ≡ (1 ∷ []) ∷ [] ∷ [] ∷ []
no_this = refl

no_slot : broken f (step.Return (source.Slot (codes "a"))) ≡ [] ∷ (2 ∷ []) ∷ [] ∷ []
no_slot = refl

no_set_slot : broken f (step.SetSlot (codes "a") (source.Arg 5)) ≡ (3 ∷ []) ∷ (1 ∷ []) ∷ [] ∷ []
no_set_slot = refl

returned : broken f (step.Return (source.Arg 0)) ≡ [] ∷ [] ∷ [] ∷ []
returned = refl

no_pairs : broken f (step.Append (source.Arg 0) source.This) ≡ (3 ∷ []) ∷ [] ∷ (0 ∷ []) ∷ []
no_pairs = refl

nothing_to_clear : broken f step.Clear ≡ [] ∷ [] ∷ (0 ∷ []) ∷ []
nothing_to_clear = refl

no_callback : broken f (step.Invoke (call 0 [])) ≡ [] ∷ [] ∷ (0 ∷ []) ∷ []
no_callback = refl

too_few : broken h (step.Invoke (call 0 [])) ≡ [] ∷ [] ∷ (0 ∷ []) ∷ []
too_few = refl

enough : broken h (step.Invoke (call 0 (null ∷ null ∷ []))) ≡ [] ∷ [] ∷ [] ∷ []
enough = refl

too_many : broken h (step.ReturnInvoke (call 0 (null ∷ null ∷ null ∷ []))) ≡ [] ∷ [] ∷ (1 ∷ []) ∷ []
too_many = refl

nullable_callback : broken h (step.Invoke (call 1 (null ∷ []))) ≡ [] ∷ [] ∷ (0 ∷ []) ∷ []
nullable_callback = refl

variadic_callback : broken h (step.Invoke (call 2 (null ∷ []))) ≡ (1 ∷ []) ∷ [] ∷ [] ∷ []
variadic_callback = refl

variadic_without_sources : broken h (step.ReturnInvoke (call 2 [])) ≡ (2 ∷ []) ∷ [] ∷ (1 ∷ []) ∷ []
variadic_without_sources = refl

undeclared_callback : broken h (step.Invoke (call 3 (source.This ∷ []))) ≡ (1 ∷ 4 ∷ []) ∷ [] ∷ [] ∷ []
undeclared_callback = refl

-- the first words of the sources of a call, and the types that are wanted of them
sources_of_call : map (λ (u : Used). u.word) (used_in (step.ReturnInvoke (call 0 (source.This ∷ source.Literal literal.EmptyDict ∷ source.Arg 0 ∷ [])))) ≡ 5 ∷ 7 ∷ 11 ∷ []
sources_of_call = refl

wanted_of_call : map (wanted list (on h) (step.Invoke (call 0 (null ∷ null ∷ null ∷ [])))) (used_in (step.Invoke (call 0 (null ∷ null ∷ null ∷ [])))) ≡ Some AnyType ∷ Some AnyType ∷ None ∷ []
wanted_of_call = refl
