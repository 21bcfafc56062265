-- For proofs alone. The machine undoes the spelling of lines outside steps blocks.
use Rattle.std.proofs.Common.{◌≡◌, ℕ, Bool, true, false, Option, Some, None, List, [], ◌∷◌, ◌++◌, refl, sym, ◌∙◌, ap, subst, if◌then◌else◌}
use Rattle.widl_lines.specs.declared.grammar.Terminal.{Terminal}
use Rattle.widl_lines.specs.declared.grammar.Terminal.TheVariants as terminal
use Rattle.widl_lines.specs.Words.{Lexeme}
use Rattle.widl_script_tree.specs.declared.steps.Target.{Target}
use Rattle.widl_script_tree.specs.declared.steps.Target.TheVariants.{Operation, Constructor, Getter, Setter, Stringifier}
use Rattle.widl_script_tree.specs.Trees.{Text, ExpressionTree, MemberTree, NamedT, ComputedT, whole_member, StatementTree, LetT, DoT, ReturnT, ThrowT, ShowT, SetT, DefineT, DefineAccessorT, DeleteT, TryT, IfT, FunctionT, StepsT}
use Rattle.widl_script_words.specs.Words.{is_name, is_target_name, is_operation_name, index_of}
use Rattle.widl_script_words.specs.Signs.{Sign, Is, OfName, OfTargetName, OfOperationName, OfIndex, Stands, Spells, SpellsLine, ◌⧺◌, word, name}
use Rattle.widl_script_words.specs.SpelledExpressions.{signs}
use Rattle.widl_script_words.specs.SpelledTargets.{target_name, overload_signs, target_signs}
use Rattle.widl_script_words.specs.SpelledStatements.{statement_signs, more_names, name_list, try_signs, catch_signs, if_signs, else_signs, function_signs, steps_signs, end_signs}
use Rattle.widl_script_words.proofs.Undoing.{InLet, InDo, InReturn, InThrow, InShow, InDelete, InSet, InIf, InDefine, InSetTo, InDefineTo, InGetter, InSetter, InIs, Frame, Head, Alone, Tries, Elses, Ends, Catches, Ifs, Functions, StepsFor, State, Start, Operand, After, LetName, CatchName, FunctionName, LetTo, Params, Param, Parameter, TargetOwner, TargetDot, TargetPart, TargetWord, StaticName, Overload, WholeLine, list_onto, is_number_sign, numbered, part_named, with_overload, step_by, run, line_of}
use Rattle.widl_script_words.proofs.Unique.{Goes, stay, spells_split, onward, one, by, again, reads}

-- the words of the signs lead to the end of this line
pub record Tells (s : State) (x : List Sign) (l : Head) : Type 0 where
  pub tells : (words : List Lexeme) → SpellsLine x words → line_of (run s words) ≡ Some l

there : {s t : State} {x : List Sign} {l : Head} → Goes s t x → line_of t ≡ Some l → Tells s x l
there {s} {t} {x} {l} f e = record { tells = λ words h. ap line_of (f.goes words [] h) ∙ e }

on : {s t : State} {x y : List Sign} {l : Head} → Goes s t x → Tells t y l → Tells s (x ++ y) l
on {s} {t} {x} {y} {l} f g = record { tells = λ words h. let r = spells_split x y words [] h in ap line_of (f.goes words r.0 r.1) ∙ g.tells r.0 r.2 }

-- a name, by its text
named : {s : State} (f : Text → State) (text : Text) → ((w : Lexeme) → is_name w.terminal ≡ true → step_by s w ≡ f w.text) → Goes s (f text) (name text)
named f text h = one (OfName text) (λ w e. h w e.0 ∙ ap f e.1)

named_param : (text : Text) (rev : List Text) (other : Text) → Goes (Param text rev) (Parameter text (other ∷ rev)) (name other)
named_param text rev other = named (λ x. Parameter text (x ∷ rev)) other (λ w e. ap (λ b. if b then Parameter text (w.text ∷ rev) else WholeLine (Functions text [])) e)

params : (texts : List Text) (text : Text) (rev : List Text) → Goes (Parameter text rev) (WholeLine (Functions text (list_onto rev texts))) (more_names texts ⧺ word terminal.CloseParen)
params [] text rev = by terminal.CloseParen (λ w. refl)
params (other ∷ texts) text rev = onward (by terminal.Comma (λ w. refl)) (onward (named_param text rev other) (params texts text (other ∷ rev)))

param_list : (texts : List Text) (text : Text) → Goes (Param text []) (WholeLine (Functions text texts)) (name_list texts ⧺ word terminal.CloseParen)
param_list [] text = by terminal.CloseParen (λ w. refl)
param_list (other ∷ texts) text = onward (named_param text [] other) (params texts text (other ∷ []))

set_to : (m : MemberTree) → Goes (After (whole_member m) (InSet ∷ [])) (Operand (InSetTo m ∷ [])) (word terminal.Equals)
set_to (NamedT of text) = by terminal.Equals (λ w. refl)
set_to (ComputedT of key) = by terminal.Equals (λ w. refl)

define_to : (m : MemberTree) (hidden : Bool) → Goes (After (whole_member m) (InDefine hidden ∷ [])) (Operand (InDefineTo hidden m ∷ [])) (word terminal.Equals)
define_to (NamedT of text) hidden = by terminal.Equals (λ w. refl)
define_to (ComputedT of key) hidden = by terminal.Equals (λ w. refl)

getter_to : (m : MemberTree) → Goes (After (whole_member m) (InDefine false ∷ [])) (Operand (InGetter m ∷ [])) (word terminal.Get)
getter_to (NamedT of text) = by terminal.Get (λ w. refl)
getter_to (ComputedT of key) = by terminal.Get (λ w. refl)

deleted : (m : MemberTree) → line_of (After (whole_member m) (InDelete ∷ [])) ≡ Some (Alone (DeleteT m))
deleted (NamedT of text) = refl
deleted (ComputedT of key) = refl

-- targets

owner_dot : (owner : Text) → Goes TargetOwner (TargetPart owner) (target_name owner ⧺ word terminal.Dot)
owner_dot owner = onward (one (OfTargetName owner) (λ w e. ap TargetDot e.1)) (by terminal.Dot (λ w. refl))

-- the word of a part, whatever its text, and the word behind it
part_then : (owner : Text) (t : Terminal) (a : Sign) (u : State) → ((text : Text) (w : Lexeme) → Stands a w → step_by (TargetWord owner t text) w ≡ u) → Goes (TargetPart owner) u (word t ⧺ a ∷ [])
part_then owner t a u f = record {
  goes = λ from to h.
      ap (run (TargetPart owner)) h.2
      ∙ ap (λ x. run (TargetWord owner x h.0.text) h.1) h.3
      ∙ ap (run (TargetWord owner t h.0.text)) h.4.2
      ∙ ap (λ x. run x h.4.1) (f h.0.text h.4.0 h.4.3)
      ∙ ap (run u) h.4.4;
}

no_number_sign : (t : Terminal) → is_target_name t ≡ true → is_number_sign t ≡ false
no_number_sign terminal.NumberSign e = cc
no_number_sign _ e = refl

-- the word of a part, and a name
part_name : (owner : Text) (t : Terminal) (text : Text) (f : Text → State) → ((other : Text) → part_named t owner other ≡ f other) → Goes (TargetPart owner) (f text) (word t ⧺ target_name text)
part_name owner t text f g = part_then owner t (OfTargetName text) (f text) (λ old w e. ap (λ b. if b then Overload (numbered (is_operation_name t) owner old) else part_named t owner w.text) (no_number_sign w.terminal e.0) ∙ g w.text ∙ ap f e.1)

-- the name of an operation, and `#`
operation : (owner text : Text) → Goes (TargetPart owner) (Overload (Operation owner text false 0)) (OfOperationName text ∷ word terminal.NumberSign)
operation owner text = record {
  goes = λ from to h.
      ap (run (TargetPart owner)) h.2
      ∙ ap (run (TargetWord owner h.0.terminal h.0.text)) h.4.2
      ∙ ap (λ x. run (if is_number_sign x then Overload (numbered (is_operation_name h.0.terminal) owner h.0.text) else part_named h.0.terminal owner h.4.0.text) h.4.1) h.4.3
      ∙ ap (λ b. run (Overload (numbered b owner h.0.text)) h.4.1) h.3.0
      ∙ ap (λ x. run (Overload (Operation owner x false 0)) h.4.1) h.3.1
      ∙ ap (run (Overload (Operation owner text false 0))) h.4.4;
}

overload : (t : Target) (k : ℕ) → Goes (Overload t) (WholeLine (StepsFor (with_overload t k))) (OfIndex k ∷ [])
overload t k = one (OfIndex k) (λ w e. ap (λ x. WholeLine (StepsFor (with_overload t x))) e.1)

target_tells : (t : Target) → Tells TargetOwner (target_signs t) (StepsFor t)
target_tells (Operation owner text false k) = on (owner_dot owner) (on (operation owner text) (there (overload (Operation owner text false 0) k) refl))
target_tells (Operation owner text true k) = on (owner_dot owner) (on (part_name owner terminal.Static text (StaticName owner) (λ other. refl)) (on (by terminal.NumberSign (λ w. refl)) (there (overload (Operation owner text true 0) k) refl)))
target_tells (Constructor owner k) = on (owner_dot owner) (on (part_then owner terminal.Constructor (Is terminal.NumberSign) (Overload (Constructor owner 0)) (λ old w e. ap (λ x. if is_number_sign x then Overload (Constructor owner 0) else part_named terminal.Constructor owner w.text) e)) (there (overload (Constructor owner 0) k) refl))
target_tells (Getter owner text) = on (owner_dot owner) (there (part_name owner terminal.Get text (λ x. WholeLine (StepsFor (Getter owner x))) (λ other. refl)) refl)
target_tells (Setter owner text) = on (owner_dot owner) (there (part_name owner terminal.Set text (λ x. WholeLine (StepsFor (Setter owner x))) (λ other. refl)) refl)
target_tells (Stringifier owner) = on (owner_dot owner) (record { tells = λ words h. ap (λ x. line_of (run (TargetPart owner) x)) h.2 ∙ ap (λ x. line_of (run (TargetWord owner x h.0.text) h.1)) h.3 ∙ ap (λ x. line_of (run (TargetWord owner terminal.ToString h.0.text) x)) h.4 })

-- lines

expression_line : {x : List Sign} {l : Head} (k : Terminal) (frame : Frame) (t : ExpressionTree) → x ≡ word k ⧺ signs t → ((w : Lexeme) → step_by Start (record w { terminal = k }) ≡ Operand (frame ∷ [])) → line_of (After t (frame ∷ [])) ≡ Some l → Tells Start x l
expression_line {x} {l} k frame t e f g = there (again e (onward (by k f) (reads t (frame ∷ [])))) g

pub statement_tells : (s : StatementTree) → Tells Start (statement_signs s) (Alone s)
statement_tells (LetT text t) = there (onward (by terminal.Let (λ w. refl)) (onward (named LetTo text (λ w e. refl)) (onward (by terminal.Equals (λ w. refl)) (reads t (InLet text ∷ []))))) refl
statement_tells (DoT t) = expression_line terminal.Do InDo t refl (λ w. refl) refl
statement_tells (ReturnT t) = expression_line terminal.Return InReturn t refl (λ w. refl) refl
statement_tells (ThrowT t) = expression_line terminal.Throw InThrow t refl (λ w. refl) refl
statement_tells (ShowT t) = expression_line terminal.Show InShow t refl (λ w. refl) refl
statement_tells (SetT m t) = there (onward (by terminal.Set (λ w. refl)) (onward (reads (whole_member m) _) (onward (set_to m) (reads t (InSetTo m ∷ []))))) refl
statement_tells (DefineT m t true) = there (onward (by terminal.Define (λ w. refl)) (onward (by terminal.Hidden (λ w. refl)) (onward (reads (whole_member m) _) (onward (define_to m true) (reads t (InDefineTo true m ∷ [])))))) refl
statement_tells (DefineT m t false) = there (onward (by terminal.Define (λ w. refl)) (onward (reads (whole_member m) _) (onward (define_to m false) (reads t (InDefineTo false m ∷ []))))) refl
statement_tells (DefineAccessorT m g None) = there (onward (by terminal.Define (λ w. refl)) (onward (reads (whole_member m) _) (onward (getter_to m) (onward (reads g (InGetter m ∷ [])) stay)))) refl
statement_tells (DefineAccessorT m g (Some t)) = there (onward (by terminal.Define (λ w. refl)) (onward (reads (whole_member m) _) (onward (getter_to m) (onward (reads g _) (onward (by terminal.Set (λ w. refl)) (reads t (InSetter m g ∷ []))))))) refl
statement_tells (DeleteT m) = expression_line terminal.Delete InDelete (whole_member m) refl (λ w. refl) (deleted m)
statement_tells (TryT body text handler) = record { tells = λ words h. absurd h.3 }
statement_tells (IfT left right met unmet) = record { tells = λ words h. absurd h.3 }
statement_tells (FunctionT number text texts body) = record { tells = λ words h. absurd h.3 }
statement_tells (StepsT t lines) = record { tells = λ words h. absurd h.3 }

pub try_tells : Tells Start try_signs Tries
try_tells = there (by {s = Start} {t = WholeLine Tries} terminal.Try (λ w. refl)) refl

pub else_tells : Tells Start else_signs Elses
else_tells = there (by {s = Start} {t = WholeLine Elses} terminal.Else (λ w. refl)) refl

pub end_tells : Tells Start end_signs Ends
end_tells = there (by {s = Start} {t = WholeLine Ends} terminal.End (λ w. refl)) refl

pub catch_tells : (text : Text) → Tells Start (catch_signs text) (Catches text)
catch_tells text = there (onward (by terminal.Catch (λ w. refl)) (named {s = CatchName} (λ x. WholeLine (Catches x)) text (λ w e. refl))) refl

pub if_tells : (left right : ExpressionTree) → Tells Start (if_signs left right) (Ifs left right)
if_tells left right = there (onward (by terminal.If (λ w. refl)) (onward (reads left _) (onward (by terminal.Is (λ w. refl)) (reads right (InIs left ∷ []))))) refl

pub function_tells : (text : Text) (texts : List Text) → Tells Start (function_signs text texts) (Functions text texts)
function_tells text texts = there (onward (by terminal.Function (λ w. refl)) (onward (named Params text (λ w e. refl)) (onward (by terminal.OpenParen (λ w. refl)) (param_list texts text)))) refl

pub steps_tells : (t : Target) → Tells Start (steps_signs t) (StepsFor t)
steps_tells t = on (by terminal.Steps (λ w. refl)) (target_tells t)
