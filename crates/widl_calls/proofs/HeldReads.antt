-- For proofs alone. The one value that lines read stands for all.
use Rattle.std.proofs.Common.{◌≡◌, ◌<◌, ◌≤◌, ℕ, zero, suc, List, [], ◌∷◌, Option, Some, None, refl, ap, arith, get_or, length, slice_get, subst, sym}
use Rattle.std.specs.Prelude.{Result, Ok, Err, IfOk}
use Rattle.std.specs.declared.alloc.AllocError.{AllocError}
use Rattle.widl_dialog.specs.Dialog.{Say}
use Rattle.widl_idl.specs.DefinitionTerms.{DefsTerm}
use Rattle.widl_idl.specs.Terms.{TypeTerm}
use Rattle.widl_value.specs.IdlTerms.{IdlTerm}
use Rattle.widl_script_tree.specs.declared.steps.Source.TheVariants as sources
use Rattle.widl_script_tree.specs.declared.steps.StepLine.{StepLine}
use Rattle.widl_trace.specs.declared.code.Code.TheVariants as code
use Rattle.widl_steps.specs.AskTerms.{UnitAsk}
use Rattle.widl_steps.specs.CallTasks.{CallTalk}
use Rattle.widl_steps.specs.Operations.{StepsOf}
use Rattle.widl_steps.specs.StepLines.{argument_value, line}
use Rattle.widl_steps.specs.Words.{done, fails}
use Rattle.widl_convert.specs.declared.moves.Ending.{Ending}
use Rattle.widl_calls.specs.Frames.{CallLeads, ended_or_dictionary, first_line}
use Rattle.widl_calls.specs.HeldValues.{ReadByLine, ReadByLines, ReadBySource, at_place}

-- 1. A value at its place, and none elsewhere

pub at_own : (number : ℕ) (w : IdlTerm) → slice_get (at_place number w) number ≡ Some w
at_own zero w = refl
at_own (suc number) w = at_own number w

pub at_same : (own number : ℕ) (w : IdlTerm) → number ≡ own → slice_get (at_place own w) number ≡ Some w
at_same own number w same = subst (λ (n : ℕ). slice_get (at_place own w) n ≡ Some w) (sym same) (at_own own w)

pub at_other : (own number : ℕ) (w : IdlTerm) → (number ≡ own → ⊥) → argument_value (slice_get (at_place own w) number) ≡ fails code.NoValue
at_other zero zero w other = absurd (other refl)
at_other zero (suc number) w other = refl
at_other (suc own) zero w other = refl
at_other (suc own) (suc number) w other = at_other own number w (λ same. other (ap suc same))

-- 2. What is read

pub by_argument : (number : ℕ) → ReadBySource (sources.Arg number) (Some number)
by_argument number t ws us alike = ap argument_value alike

pub by_first : (l : StepLine) (more : List StepLine) (number : Option ℕ) → ReadByLine l number → ReadByLines (l ∷ more) number
by_first l more number reads list t ws us alike = ap (λ (d : CallTalk). let all : CallTalk = Say UnitAsk (done d) in all) (reads t ws us alike)

-- 3. The lines of a block: none, or a first one

pub no_line : (ls : List StepLine) → length ls < 1 → ls ≡ []
no_line [] few = refl
no_line (l ∷ more) few = absurd (omega (arith, few))

pub by_first_line : (list : DefsTerm) (t : TypeTerm) (ws : List IdlTerm) (ls : List StepLine) (l : StepLine) → 1 ≤ length ls → l ≡ get_or ls 0 l → first_line list t ws ls ≡ line t ws l
by_first_line list t ws [] l some is = absurd (omega (arith, some))
by_first_line list t ws (first ∷ more) l some is = ap (λ (x : StepLine). line t ws x) (sym is)

-- 4. What holds for the steps of each script holds for those of one

pub of_these : (list : DefsTerm) (these : StepsOf) (d : CallTalk) (t : TypeTerm) (r : Result (Option Ending) AllocError) → IfOk r (λ ended. (steps : StepsOf) → CallLeads list steps d (ended_or_dictionary t ended)) → IfOk r (λ ended. CallLeads list these d (ended_or_dictionary t ended))
of_these list these d t (Ok ended) x = x these
of_these list these d t (Err error) x = tt
