-- Whatever words a form of lines has are a sentence of the grammar of lines.
use Rattle.std.proofs.Common.{◌≡◌, ℕ, Bool, true, false, Option, Some, None, List, [], ◌∷◌, refl, inl, inr}
use Rattle.std.specs.Prelude.{◌||◌}
use Rattle.widl_idl.specs.declared.literal.Literal.{Literal}
use Rattle.widl_idl.specs.declared.literal.Literal.TheVariants as literal
use Rattle.widl_value.specs.declared.number.Number.{Number}
use Rattle.widl_value.specs.declared.number.Number.TheVariants.{NaN, PosInf, NegInf, Whole}
use Rattle.widl_value.specs.declared.value.Value.{Value}
use Rattle.widl_value.specs.declared.value.Value.TheVariants as value
use Rattle.widl_predictive.specs.Grammar.{Sentence}
use Rattle.widl_predictive.proofs.Booleans.{or_cases}
use Rattle.widl_predictive.proofs.Check.{each, each_coded, imp, imp_holds}
use Rattle.widl_lines.specs.declared.grammar.Rule.TheVariants as rule
use Rattle.widl_lines.specs.declared.grammar.Terminal.{Terminal}
use Rattle.widl_lines.specs.declared.grammar.Terminal.TheVariants as terminal
use Rattle.widl_lines.specs.Breaks.{terminals_of}
use Rattle.widl_lines.specs.Grammar.{grammar}
use Rattle.widl_lines.specs.TerminalNumbers.{terminals, all_terminals}
use Rattle.widl_lines.specs.Words.{Lexeme}
use Rattle.widl_script_tree.specs.declared.steps.Source.{Source}
use Rattle.widl_script_tree.specs.declared.steps.Source.TheVariants as source
use Rattle.widl_script_tree.specs.declared.steps.Invoke.{Invoke}
use Rattle.widl_script_tree.specs.declared.steps.StepLine.{StepLine}
use Rattle.widl_script_tree.specs.declared.steps.StepLine.TheVariants as step
use Rattle.widl_script_tree.specs.declared.steps.Target.{Target}
use Rattle.widl_script_tree.specs.declared.steps.Target.TheVariants.{Operation, Constructor, Getter, Setter, Stringifier}
use Rattle.widl_script_tree.specs.Trees.{Text, ExpressionTree, StatementTree, LetT, DoT, ReturnT, ThrowT, ShowT, SetT, DefineT, DefineAccessorT, DeleteT, TryT, IfT, FunctionT, StepsT}
use Rattle.widl_script_words.specs.Words.{is_operation_name}
use Rattle.widl_script_words.specs.Signs.{Sign, OfOperationName, OfIndex, SpellsLine, ◌⧺◌, word}
use Rattle.widl_script_words.specs.SpelledExpressions.{number_signs}
use Rattle.widl_script_words.specs.SpelledTargets.{overload_signs, owner_of, part_signs, target_signs}
use Rattle.widl_script_words.specs.SpelledSteps.{literal_signs, value_signs, source_signs, slot_source_signs, more_sources, source_list, called_signs, step_signs}
use Rattle.widl_script_words.specs.SpelledStatements.{setter_signs, statement_signs, more_names, name_list}
use Rattle.widl_script_laws.specs.Forms.{BlockForm, catches, turns, begins, says, ends, LineForm, states, tries, tests, bounds as line_bounds, StepForm, steps, bounds as step_bounds}
use Rattle.widl_script_laws.proofs.Giving.{Gives, part_at, inside, nothing, nowhere, took, took_as, part, in_row, sentence}
use Rattle.widl_script_laws.proofs.Words.{leads, word_at, name_at, target_name_at, whole_at, text_at, integer_at}
use Rattle.widl_script_laws.proofs.Expressions.{expression, member}

-- 1. Targets

overload : (v k : ℕ) → Gives (part_at rule.OverloadNumber v) (overload_signs k)
overload v k = in_row rule.OverloadNumber v 0 refl (took (took_as (OfIndex k) (λ w h. h.0) nothing))

-- these words begin other parts of a target too
abbrev begins_part : Terminal → Bool
begins_part terminal.Static = true
begins_part terminal.Get = true
begins_part terminal.Set = true
begins_part terminal.ToString = true
begins_part t = false

operation_names : each (λ t. imp (is_operation_name t) (begins_part t || leads 2 rule.PlainTargetName t)) all_terminals ≡ true
unfolding each
operation_names = refl

part_begun : (v k : ℕ) (t : Terminal) → begins_part t ≡ true → Gives (part_at rule.TargetRest v) (word t ⧺ overload_signs k)
part_begun v k terminal.Static h = in_row rule.TargetRest v 0 refl (took (in_row rule.StaticRest v 1 refl (overload v k)))
part_begun v k terminal.Get h = in_row rule.TargetRest v 1 refl (took (in_row rule.AccessorRest v 1 refl (overload v k)))
part_begun v k terminal.Set h = in_row rule.TargetRest v 2 refl (took (in_row rule.AccessorRest v 1 refl (overload v k)))
part_begun v k terminal.ToString h = in_row rule.TargetRest v 3 refl (took (in_row rule.StringRest v 0 refl (overload v k)))
part_begun v k t h = cc

operation_word : (v k : ℕ) (t : Terminal) → is_operation_name t ≡ true → Gives (part_at rule.TargetRest v) (word t ⧺ overload_signs k)
operation_word v k t h =
    elim (or_cases (begins_part t) (leads 2 rule.PlainTargetName t) (imp_holds (is_operation_name t) _ (each_coded terminals (λ x. imp (is_operation_name x) (begins_part x || leads 2 rule.PlainTargetName x)) operation_names t) h)) [
      | inl a ↦ part_begun v k t a
      | inr b ↦ in_row rule.TargetRest v 4 refl (part (word_at rule.PlainTargetName v t b) (overload v k))
    ]

operation : (v : ℕ) (text : Text) (k : ℕ) → Gives (part_at rule.TargetRest v) (OfOperationName text ∷ overload_signs k)
operation v text k = record {
  gives = λ others from to h d. (operation_word v k h.0.terminal h.3.0).gives others from to (h.0, h.1, h.2, refl, h.4) d;
}

target_part : (v : ℕ) (target : Target) → Gives (part_at rule.TargetRest v) (part_signs target)
target_part v (Operation owner text false k) = operation v text k
target_part v (Operation owner text true k) = in_row rule.TargetRest v 0 refl (took (in_row rule.StaticRest v 0 refl (part (target_name_at v text) (overload v k))))
target_part v (Constructor owner k) = in_row rule.TargetRest v 4 refl (part (word_at rule.PlainTargetName v terminal.Constructor refl) (overload v k))
target_part v (Getter owner text) = in_row rule.TargetRest v 1 refl (took (in_row rule.AccessorRest v 0 refl (target_name_at v text)))
target_part v (Setter owner text) = in_row rule.TargetRest v 2 refl (took (in_row rule.AccessorRest v 0 refl (target_name_at v text)))
target_part v (Stringifier owner) = in_row rule.TargetRest v 3 refl (took (in_row rule.StringRest v 1 refl nothing))

target_at : (v : ℕ) (target : Target) → Gives (part_at rule.Target v) (target_signs target)
target_at v target = in_row rule.Target v 0 refl (part (target_name_at v (owner_of target)) (took (target_part v target)))

-- 2. Functions

names_further : (v : ℕ) (texts : List Text) → Gives (part_at rule.MoreParameters v) (more_names texts)
names_further v [] = in_row rule.MoreParameters v 1 refl nothing
names_further v (text ∷ texts) = in_row rule.MoreParameters v 0 refl (took (part (name_at v text) (names_further v texts)))

names_listed : (v : ℕ) (texts : List Text) → Gives (part_at rule.ParameterList v) (name_list texts)
names_listed v [] = in_row rule.ParameterList v 1 refl nothing
names_listed v (text ∷ texts) = in_row rule.ParameterList v 0 refl (part (name_at v text) (names_further v texts))

parameters : (v : ℕ) (texts : List Text) → Gives (part_at rule.Parameters v) (word terminal.OpenParen ⧺ name_list texts ⧺ word terminal.CloseParen)
parameters v texts = in_row rule.Parameters v 0 refl (took (part (names_listed (inside v) texts) (took nothing)))

-- 3. Lines outside of steps blocks

setter : (v : ℕ) (t : Option ExpressionTree) → Gives (part_at rule.DefineSet v) (setter_signs t)
setter v None = in_row rule.DefineSet v 1 refl nothing
setter v (Some t) = in_row rule.DefineSet v 0 refl (took (expression v t))

statement : (v : ℕ) (s : StatementTree) → Gives (part_at rule.Line v) (statement_signs s)
statement v (LetT text t) = in_row rule.Line v 0 refl (took (part (name_at v text) (took (expression v t))))
statement v (DoT t) = in_row rule.Line v 1 refl (took (expression v t))
statement v (SetT m t) = in_row rule.Line v 2 refl (took (part (member v m) (took (expression v t))))
statement v (DefineT m t true) = in_row rule.Line v 3 refl (took (in_row rule.Define v 0 refl (took (part (member v m) (took (expression v t))))))
statement v (DefineT m t false) = in_row rule.Line v 3 refl (took (in_row rule.Define v 1 refl (part (member v m) (in_row rule.DefineRest v 0 refl (took (expression v t))))))
statement v (DefineAccessorT m getter set) =
    in_row rule.Line v 3 refl (took (in_row rule.Define v 1 refl (part (member v m) (in_row rule.DefineRest v 1 refl (took (part (expression v getter) (setter v set)))))))
statement v (DeleteT m) = in_row rule.Line v 4 refl (took (member v m))
statement v (ReturnT t) = in_row rule.Line v 5 refl (took (expression v t))
statement v (ThrowT t) = in_row rule.Line v 6 refl (took (expression v t))
statement v (ShowT t) = in_row rule.Line v 12 refl (took (expression v t))
statement v (TryT body text handler) = nowhere
statement v (IfT left right met unmet) = nowhere
statement v (FunctionT number text params body) = nowhere
statement v (StepsT target lines) = nowhere

block_in_line : (v : ℕ) {x : List Sign} → BlockForm x → Gives (part_at rule.Line v) x
block_in_line v (catches text) = in_row rule.Line v 8 refl (took (name_at v text))
block_in_line v turns = in_row rule.Line v 11 refl (took nothing)
block_in_line v (begins text params) = in_row rule.Line v 13 refl (took (part (name_at v text) (parameters v params)))
block_in_line v (says target) = in_row rule.Line v 14 refl (took (target_at v target))
block_in_line v ends = in_row rule.Line v 9 refl (took nothing)

line : (v : ℕ) {x : List Sign} → LineForm x → Gives (part_at rule.Line v) x
line v (states s) = statement v s
line v tries = in_row rule.Line v 7 refl (took nothing)
line v (tests left right) = in_row rule.Line v 10 refl (took (part (expression v left) (took (expression v right))))
line v (line_bounds form) = block_in_line v form

pub line_sentence : (x : List Sign) (words : List Lexeme) → LineForm x → SpellsLine x words → Sentence grammar rule.Line (terminals_of words)
line_sentence x words form h = sentence (line 1 form) words h

-- 4. Lines of steps blocks

literal_at : (v : ℕ) (l : Literal) → Gives (part_at rule.Literal v) (literal_signs l)
literal_at v literal.Null = word_at rule.Literal v terminal.Null refl
literal_at v literal.Undefined = word_at rule.Literal v terminal.Undefined refl
literal_at v (literal.Bool true) = word_at rule.Literal v terminal.True refl
literal_at v (literal.Bool false) = word_at rule.Literal v terminal.False refl
literal_at v (literal.Int n) = integer_at v n
literal_at v (literal.Text units) = in_row rule.Literal v 0 refl (text_at v units)
literal_at v literal.EmptyList = in_row rule.Literal v 2 refl (in_row rule.EmptyList v 0 refl (took (took nothing)))
literal_at v literal.EmptyDict = in_row rule.Literal v 3 refl (took (took nothing))

number_thrown : (v : ℕ) (n : Number) → Gives (part_at rule.StepThrown v) (number_signs n)
number_thrown v NaN = word_at rule.StepThrown v terminal.Nan refl
number_thrown v PosInf = word_at rule.StepThrown v terminal.Infinity refl
number_thrown v NegInf = word_at rule.StepThrown v terminal.MinusInfinity refl
number_thrown v (Whole n) = in_row rule.StepThrown v 0 refl (whole_at v n)

thrown : (v : ℕ) (said : Value) → Gives (part_at rule.StepThrown v) (value_signs said)
thrown v value.Undefined = word_at rule.StepThrown v terminal.Undefined refl
thrown v value.Null = word_at rule.StepThrown v terminal.Null refl
thrown v (value.Bool true) = word_at rule.StepThrown v terminal.True refl
thrown v (value.Bool false) = word_at rule.StepThrown v terminal.False refl
thrown v (value.Num n) = number_thrown v n
thrown v (value.Str units) = in_row rule.StepThrown v 0 refl (text_at v units)
thrown v (value.Sym k) = nowhere
thrown v (value.Obj object) = nowhere

slot_source : (v : ℕ) (s : Source) → Gives (part_at rule.SlotSource v) (slot_source_signs s)
slot_source v (source.Arg k) = in_row rule.SlotSource v 0 refl (took (took_as (OfIndex k) (λ w h. h.0) nothing))
slot_source v source.This = nowhere
slot_source v (source.Slot text) = nowhere
slot_source v (source.Literal l) = in_row rule.SlotSource v 1 refl (took (literal_at v l))

source_at : (v : ℕ) (s : Source) → Gives (part_at rule.Source v) (source_signs s)
source_at v (source.Arg k) = in_row rule.Source v 0 refl (slot_source v (source.Arg k))
source_at v source.This = in_row rule.Source v 1 refl (took nothing)
source_at v (source.Slot text) = in_row rule.Source v 2 refl (took (target_name_at v text))
source_at v (source.Literal l) = in_row rule.Source v 0 refl (slot_source v (source.Literal l))

sources_further : (v : ℕ) (more : List Source) → Gives (part_at rule.MoreSources v) (more_sources more)
sources_further v [] = in_row rule.MoreSources v 1 refl nothing
sources_further v (s ∷ more) = in_row rule.MoreSources v 0 refl (took (part (source_at v s) (sources_further v more)))

sources_listed : (v : ℕ) (more : List Source) → Gives (part_at rule.SourceList v) (source_list more)
sources_listed v [] = in_row rule.SourceList v 1 refl nothing
sources_listed v (s ∷ more) = in_row rule.SourceList v 0 refl (part (source_at v s) (sources_further v more))

called : (v : ℕ) (i : Invoke) → Gives (part_at rule.Invoke v) (called_signs i)
called v i = in_row rule.Invoke v 0 refl (took (took_as (OfIndex i.arg) (λ w h. h.0) (in_row rule.Sources v 0 refl (took (part (sources_listed (inside v) i.sources) (took nothing))))))

step_at : (v : ℕ) (said : StepLine) → Gives (part_at rule.StepLine v) (step_signs said)
step_at v (step.Return s) = in_row rule.StepLine v 0 refl (took (in_row rule.StepReturn v 0 refl (source_at v s)))
step_at v (step.ReturnInvoke i) = in_row rule.StepLine v 0 refl (took (in_row rule.StepReturn v 1 refl (took (called v i))))
step_at v (step.SetSlot slot s) = in_row rule.StepLine v 1 refl (took (part (target_name_at v slot) (took (slot_source v s))))
step_at v (step.Append key s) = in_row rule.StepLine v 2 refl (took (part (source_at v key) (source_at v s)))
step_at v step.Clear = in_row rule.StepLine v 3 refl (took nothing)
step_at v (step.Throw said) = in_row rule.StepLine v 4 refl (took (thrown v said))
step_at v (step.Invoke i) = in_row rule.StepLine v 5 refl (took (called v i))

block_in_steps : (v : ℕ) {x : List Sign} → BlockForm x → Gives (part_at rule.StepLine v) x
block_in_steps v (catches text) = in_row rule.StepLine v 7 refl (took (name_at v text))
block_in_steps v turns = in_row rule.StepLine v 8 refl (took nothing)
block_in_steps v (begins text params) = in_row rule.StepLine v 9 refl (took (part (name_at v text) (parameters v params)))
block_in_steps v (says target) = in_row rule.StepLine v 10 refl (took (target_at v target))
block_in_steps v ends = in_row rule.StepLine v 6 refl (took nothing)

step_line : (v : ℕ) {x : List Sign} → StepForm x → Gives (part_at rule.StepLine v) x
step_line v (steps said) = step_at v said
step_line v (step_bounds form) = block_in_steps v form

pub step_sentence : (x : List Sign) (words : List Lexeme) → StepForm x → SpellsLine x words → Sentence grammar rule.StepLine (terminals_of words)
step_sentence x words form h = sentence (step_line 1 form) words h
