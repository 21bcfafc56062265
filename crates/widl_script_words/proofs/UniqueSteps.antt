-- For proofs alone. The machine undoes the spelling of step lines.
use Rattle.std.proofs.Common.{◌≡◌, ℕ, Bool, true, false, Option, Some, None, List, [], ◌∷◌, ◌++◌, refl, sym, ◌∙◌, ap, if◌then◌else◌, ℤ, append_assoc}
use Rattle.widl_idl.specs.declared.literal.Literal.{Literal}
use Rattle.widl_idl.specs.declared.literal.Literal.TheVariants as literal
use Rattle.widl_value.specs.declared.number.Number.{Number}
use Rattle.widl_value.specs.declared.number.Number.TheVariants.{NaN, PosInf, NegInf, Whole}
use Rattle.widl_value.specs.declared.value.Value.{Value}
use Rattle.widl_value.specs.declared.value.Value.TheVariants as value
use Rattle.widl_lines.specs.declared.grammar.Terminal.{Terminal}
use Rattle.widl_lines.specs.declared.grammar.Terminal.TheVariants as terminal
use Rattle.widl_lines.specs.Words.{Lexeme}
use Rattle.widl_script_tree.specs.declared.steps.Source.{Source}
use Rattle.widl_script_tree.specs.declared.steps.Source.TheVariants as source
use Rattle.widl_script_tree.specs.declared.steps.Invoke.{Invoke}
use Rattle.widl_script_tree.specs.declared.steps.StepLine.{StepLine}
use Rattle.widl_script_tree.specs.declared.steps.StepLine.TheVariants as step
use Rattle.widl_script_tree.specs.Trees.{Text}
use Rattle.widl_script_words.specs.Words.{is_whole, is_integer, number_of, integer_in, units_in}
use Rattle.widl_script_words.specs.Signs.{Sign, Is, OfTargetName, OfNumber, OfUnits, OfInteger, OfIndex, Nowhere, Spells, SpellsLine, ◌⧺◌, word}
use Rattle.widl_script_words.specs.SpelledTargets.{target_name}
use Rattle.widl_script_words.specs.SpelledExpressions.{number_signs}
use Rattle.widl_script_words.specs.SpelledSteps.{literal_signs, value_signs, source_signs, slot_source_signs, more_sources, source_list, invoke_signs, step_signs}
use Rattle.widl_script_words.specs.OneTree.{EachStepIsOne}
use Rattle.widl_script_words.proofs.Undoing.{Wanted, ForReturn, ForKey, ForSlot, ForValue, ForItems, State, StepStart, SourceOf, ArgOf, SlotOf, LiteralOf, Bracketed, SourceEnded, InvokeArg, InvokeNumber, InvokeOpen, SlotName, SlotTo, Thrown, WholeStep, list_onto, invoked, literal_of, thrown_of, step_by, run, step_of}
use Rattle.widl_script_words.proofs.Unique.{Goes, onward, one, by, again, item}

integer_literal : (n : ℤ) (wanted : Wanted) → Goes (LiteralOf wanted) (SourceEnded (source.Literal (literal.Int n)) wanted) (OfInteger n ∷ [])
integer_literal n wanted = one (OfInteger n) (λ w e. ap (λ b. if b then SourceEnded (source.Literal (literal.Int (integer_in w))) wanted else literal_of w.terminal w wanted) e.0 ∙ ap (λ x. SourceEnded (source.Literal (literal.Int x)) wanted) e.1)

text_literal : (units : List ℕ) (wanted : Wanted) → Goes (LiteralOf wanted) (SourceEnded (source.Literal (literal.Text units)) wanted) (OfUnits units ∷ [])
text_literal units wanted = one (OfUnits units) (λ w e. ap (λ t. if is_integer t then SourceEnded (source.Literal (literal.Int (integer_in w))) wanted else literal_of t w wanted) e.0 ∙ ap (λ x. SourceEnded (source.Literal (literal.Text x)) wanted) e.1)

reads_literal : (l : Literal) (wanted : Wanted) → Goes (LiteralOf wanted) (SourceEnded (source.Literal l) wanted) (literal_signs l)
reads_literal literal.Null wanted = by terminal.Null (λ w. refl)
reads_literal literal.Undefined wanted = by terminal.Undefined (λ w. refl)
reads_literal (literal.Bool true) wanted = by terminal.True (λ w. refl)
reads_literal (literal.Bool false) wanted = by terminal.False (λ w. refl)
reads_literal (literal.Int n) wanted = integer_literal n wanted
reads_literal (literal.Text units) wanted = text_literal units wanted
reads_literal literal.EmptyList wanted = onward (by terminal.OpenBracket (λ w. refl)) (by terminal.CloseBracket (λ w. refl))
reads_literal literal.EmptyDict wanted = onward (by terminal.OpenBrace (λ w. refl)) (by terminal.CloseBrace (λ w. refl))

reads_source : (s : Source) (wanted : Wanted) → Goes (SourceOf wanted) (SourceEnded s wanted) (source_signs s)
reads_source (source.Arg k) wanted = onward (by terminal.Arg (λ w. refl)) (one (OfIndex k) (λ w e. ap (λ x. SourceEnded (source.Arg x) wanted) e.1))
reads_source source.This wanted = by terminal.This (λ w. refl)
reads_source (source.Slot text) wanted = onward (by terminal.Slot (λ w. refl)) (one (OfTargetName text) (λ w e. ap (λ x. SourceEnded (source.Slot x) wanted) e.1))
reads_source (source.Literal l) wanted = onward (by terminal.Literal (λ w. refl)) (reads_literal l wanted)

-- behind the first source of `append` another one begins
begins_again : (key : Source) (a : Sign) (x : List Sign) (from to : List Lexeme) → Spells (a ∷ x) from to → run (SourceEnded key ForKey) from ≡ run (SourceOf (ForValue key)) from
begins_again key a x from to h = ap (run (SourceEnded key ForKey)) h.2 ∙ sym (ap (run (SourceOf (ForValue key))) h.2)

begins_second : (key s : Source) (from to : List Lexeme) → Spells (source_signs s) from to → run (SourceEnded key ForKey) from ≡ run (SourceOf (ForValue key)) from
begins_second key (source.Arg k) from to h = begins_again key (Is terminal.Arg) (OfIndex k ∷ []) from to h
begins_second key source.This from to h = begins_again key (Is terminal.This) [] from to h
begins_second key (source.Slot text) from to h = begins_again key (Is terminal.Slot) (target_name text) from to h
begins_second key (source.Literal l) from to h = begins_again key (Is terminal.Literal) (literal_signs l) from to h

second : (key s : Source) → Goes (SourceEnded key ForKey) (SourceEnded s (ForValue key)) (source_signs s)
second key s = record { goes = λ from to h. begins_second key s from to h ∙ (reads_source s (ForValue key)).goes from to h }

-- what a slot is set to
reads_slot_source : (s : Source) (wanted : Wanted) → Goes (SourceOf wanted) (SourceEnded s wanted) (slot_source_signs s)
reads_slot_source (source.Arg k) wanted = reads_source (source.Arg k) wanted
reads_slot_source source.This wanted = one Nowhere (λ w e. absurd e)
reads_slot_source (source.Slot text) wanted = one Nowhere (λ w e. absurd e)
reads_slot_source (source.Literal l) wanted = reads_source (source.Literal l) wanted

reads_more_sources : (more : List Source) (s : Source) (returned : Bool) (k : ℕ) (rev : List Source) → Goes (SourceEnded s (ForItems returned k rev)) (WholeStep (invoked returned k (list_onto rev (s ∷ more)))) (more_sources more ⧺ word terminal.CloseParen)
reads_more_sources [] s returned k rev = by terminal.CloseParen (λ w. refl)
reads_more_sources (t ∷ more) s returned k rev = onward (by terminal.Comma (λ w. refl)) (item (more_sources more) (word terminal.CloseParen) (reads_source t _) (reads_more_sources more t returned k (s ∷ rev)))

reads_sources : (sources : List Source) (returned : Bool) (k : ℕ) → Goes (SourceOf (ForItems returned k [])) (WholeStep (invoked returned k sources)) (source_list sources ⧺ word terminal.CloseParen)
reads_sources [] returned k = by terminal.CloseParen (λ w. refl)
reads_sources (s ∷ more) returned k = item (more_sources more) (word terminal.CloseParen) (reads_source s _) (reads_more_sources more s returned k [])

-- behind the word `invoke`
reads_invoke : (i : Invoke) (returned : Bool) → Goes (InvokeArg returned) (WholeStep (invoked returned i.arg i.sources)) (word terminal.Arg ⧺ OfIndex i.arg ∷ word terminal.OpenParen ⧺ source_list i.sources ⧺ word terminal.CloseParen)
reads_invoke i returned = onward (by terminal.Arg (λ w. refl)) (onward (one (OfIndex i.arg) (λ w e. ap (InvokeOpen returned) e.1)) (onward (by terminal.OpenParen (λ w. refl)) (reads_sources i.sources returned i.arg)))

thrown_number : (n : Number) → Goes Thrown (WholeStep (step.Throw (value.Num n))) (number_signs n)
thrown_number NaN = by terminal.Nan (λ w. refl)
thrown_number PosInf = by terminal.Infinity (λ w. refl)
thrown_number NegInf = by terminal.MinusInfinity (λ w. refl)
thrown_number (Whole n) = one (OfNumber (Whole n)) (λ w e. ap (λ b. if b then WholeStep (step.Throw (value.Num (number_of w))) else thrown_of w.terminal w) e.0 ∙ ap (λ x. WholeStep (step.Throw (value.Num x))) e.1)

thrown_text : (units : List ℕ) → Goes Thrown (WholeStep (step.Throw (value.Str units))) (OfUnits units ∷ [])
thrown_text units = one (OfUnits units) (λ w e. ap (λ t. if is_whole t then WholeStep (step.Throw (value.Num (number_of w))) else thrown_of t w) e.0 ∙ ap (λ x. WholeStep (step.Throw (value.Str x))) e.1)

reads_thrown : (v : Value) → Goes Thrown (WholeStep (step.Throw v)) (value_signs v)
reads_thrown value.Undefined = by terminal.Undefined (λ w. refl)
reads_thrown value.Null = by terminal.Null (λ w. refl)
reads_thrown (value.Bool true) = by terminal.True (λ w. refl)
reads_thrown (value.Bool false) = by terminal.False (λ w. refl)
reads_thrown (value.Num n) = thrown_number n
reads_thrown (value.Str units) = thrown_text units
reads_thrown (value.Sym k) = one Nowhere (λ w e. absurd e)
reads_thrown (value.Obj object) = one Nowhere (λ w e. absurd e)

-- the words of the signs lead to the end of this step line
pub step_tells : (l : StepLine) (words : List Lexeme) → SpellsLine (step_signs l) words → step_of (run StepStart words) ≡ Some l
step_tells (step.Return s) words h = ap step_of ((onward (by {s = StepStart} {t = SourceOf ForReturn} terminal.Return (λ w. refl)) (reads_source s ForReturn)).goes words [] h)
step_tells (step.ReturnInvoke i) words h = ap step_of ((onward (by {s = StepStart} {t = SourceOf ForReturn} terminal.Return (λ w. refl)) (onward (by {s = SourceOf ForReturn} {t = InvokeArg true} terminal.Invoke (λ w. refl)) (reads_invoke i true))).goes words [] h)
step_tells (step.SetSlot slot s) words h = ap step_of ((onward (by {s = StepStart} {t = SlotName} terminal.Slot (λ w. refl)) (onward (one {s = SlotName} {t = SlotTo slot} (OfTargetName slot) (λ w e. ap SlotTo e.1)) (onward (by terminal.Equals (λ w. refl)) (reads_slot_source s (ForSlot slot))))).goes words [] h)
step_tells (step.Append key s) words h = ap step_of ((onward (by {s = StepStart} {t = SourceOf ForKey} terminal.Append (λ w. refl)) (onward (reads_source key ForKey) (second key s))).goes words [] h)
step_tells step.Clear words h = ap step_of ((by {s = StepStart} {t = WholeStep step.Clear} terminal.Clear (λ w. refl)).goes words [] h)
step_tells (step.Throw v) words h = ap step_of ((onward (by {s = StepStart} {t = Thrown} terminal.Throw (λ w. refl)) (reads_thrown v)).goes words [] h)
step_tells (step.Invoke i) words h = ap step_of ((onward (by {s = StepStart} {t = InvokeArg false} terminal.Invoke (λ w. refl)) (reads_invoke i false)).goes words [] h)

pub each_step : EachStepIsOne
each_step a b words h k = let e : Some a ≡ Some b = sym (step_tells a words h) ∙ step_tells b words k in cc
