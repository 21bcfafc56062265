-- Short lists of asks and answers that begin no conversation: what is asked after a fault, a method that is read twice, an argument that is looked
-- at too early.
use Rattle.std.proofs.Common.{◌≡◌, [], ◌∷◌, refl}
use Rattle.std.specs.Prelude.{codes}
use Rattle.widl_dialog.specs.Conversation.{Next, Asks, Ends}
use Rattle.widl_dialog.proofs.Nexts.{one_next}
use Rattle.widl_text.specs.declared.key.Key.TheVariants as keys
use Rattle.widl_value.specs.declared.value.Value.TheVariants as values
use Rattle.widl_steps.specs.declared.hint.Hint.TheVariants.{PrefersNumber}
use Rattle.widl_steps.specs.AskTerms.{AskTerm, GetAsk, CallAsk, ThrownAnswer, Fits}
use Rattle.widl_steps.specs.Built.{built_today}
use Rattle.widl_steps.specs.Laws.{Said}
use Rattle.widl_steps.specs.Rules.{rule}
use Rattle.widl_steps.specs.Tasks.{TaskEnd, Primitive, Resolve, Rethrow}
use Rattle.widl_steps.proofs.Worked.{number, plain, function, gets, f, nothing_defined, Says}
use Rattle.widl_steps.proofs.Talks.ResolutionTalks.{second_tells, both, first_is_asked, sequence_tells, first_is_converted, with_sequence, without_method}

-- after a fault nothing is asked: the Get of `@toPrimitive` threw
abbrev thrown : Said
thrown = (GetAsk (plain 1) (keys.Sym 1), ThrownAnswer (number 7)) ∷ []

is_thrown : Says nothing_defined (Primitive PrefersNumber (values.Obj (plain 1))) thrown (Ends (Rethrow (number 7)))
is_thrown = (10, (refl, tt, refl))

nothing_after_fault : Says nothing_defined (Primitive PrefersNumber (values.Obj (plain 1))) thrown (Asks (GetAsk (plain 1) (keys.Name (codes "valueOf")))) → ⊥
nothing_after_fault x =
    let e : ◌≡◌ {A = Next AskTerm TaskEnd} (Ends (Rethrow (number 7))) (Asks (GetAsk (plain 1) (keys.Name (codes "valueOf")))) =
    one_next (rule built_today nothing_defined) Fits _ _ _ _ is_thrown x in
    absurd (cc)

-- a method that was found is called, and not read again
abbrev found : Said
found = gets (plain 1) (keys.Sym 1) (values.Obj (function 2)) ∷ []

is_called : Says nothing_defined (Primitive PrefersNumber (values.Obj (plain 1))) found (Asks (CallAsk (function 2) (values.Obj (plain 1)) (values.Str (codes "number") ∷ [])))
is_called = (10, (refl, tt, refl))

not_read_again : Says nothing_defined (Primitive PrefersNumber (values.Obj (plain 1))) found (Asks (GetAsk (plain 1) (keys.Sym 1))) → ⊥
not_read_again x =
    let e : ◌≡◌ {A = Next AskTerm TaskEnd} (Asks (CallAsk (function 2) (values.Obj (plain 1)) (values.Str (codes "number") ∷ []))) (Asks (GetAsk (plain 1) (keys.Sym 1))) =
    one_next (rule built_today nothing_defined) Fits _ _ _ _ is_called x in
    absurd (cc)

-- the argument that tells the overloads apart isn't looked at before those below it are converted
not_second_first : Says second_tells (Resolve f both) [] (Asks (GetAsk (plain 2) (keys.Sym 0))) → ⊥
not_second_first x =
    let e : ◌≡◌ {A = Next AskTerm TaskEnd} (Asks (GetAsk (plain 1) (keys.Sym 1))) (Asks (GetAsk (plain 2) (keys.Sym 0))) =
    one_next (rule built_today second_tells) Fits _ _ _ _ first_is_asked x in
    absurd (cc)

not_asked_first : Says sequence_tells (Resolve f both) [] (Asks (GetAsk (plain 2) (keys.Sym 0))) → ⊥
not_asked_first x =
    let e : ◌≡◌ {A = Next AskTerm TaskEnd} (Asks (GetAsk (plain 1) (keys.Sym 1))) (Asks (GetAsk (plain 2) (keys.Sym 0))) =
    one_next (rule built_today sequence_tells) Fits _ _ _ _ first_is_converted x in
    absurd (cc)

-- a method `@iterator` that wasn't found isn't looked for again by the choice
not_probed_again : Says with_sequence (Resolve f (values.Obj (plain 1) ∷ [])) (gets (plain 1) (keys.Sym 0) values.Undefined ∷ []) (Asks (GetAsk (plain 1) (keys.Sym 0))) → ⊥
not_probed_again x =
    let e : ◌≡◌ {A = Next AskTerm TaskEnd} (Asks (GetAsk (plain 1) (keys.Sym 1))) (Asks (GetAsk (plain 1) (keys.Sym 0))) =
    one_next (rule built_today with_sequence) Fits _ _ _ _ without_method x in
    absurd (cc)
