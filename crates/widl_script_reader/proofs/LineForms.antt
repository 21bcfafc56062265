-- Lines are read.
use Rattle.std.proofs.Common.{◌≡◌, ℕ, ◌<◌, ◌≤◌, Bool, true, false, Option, Some, None, List, [], ◌∷◌, ◌++◌, length, drop, refl, sym, ◌∙◌, ap, subst, arith, append_assoc, append-nil}
use Rattle.std.specs.Prelude.{MatchOption, ◌||◌, not, All, map}
use Rattle.std.proofs.lemmas.List.Elements.{All-nil, All-cons, All-push, All-weaker}
use Rattle.widl_lines.specs.declared.grammar.Rule.TheVariants as rule
use Rattle.widl_lines.specs.declared.grammar.Terminal.{Terminal}
use Rattle.widl_lines.specs.declared.grammar.Terminal.TheVariants as t
use Rattle.widl_lines.specs.Words.{Lexeme}
use Rattle.widl_script_tree.specs.declared.expression.MemberOf.{MemberOf}
use Rattle.widl_script_tree.specs.declared.statement.Statement.TheVariants as statement
use Rattle.widl_script_tree.specs.Trees.{Text}
use Rattle.widl_script_tree.specs.Tables.{Tables, name_at}
use Rattle.widl_script_tree.specs.Parts.{IsName, IsMember, IsLowerOption}
use Rattle.widl_script_tree.specs.Growth.{Grown}
use Rattle.widl_script_tree.proofs.Growing.{extends_length}
use Rattle.widl_script_tree.proofs.Wholes.{statement_up}
use Rattle.widl_script_words.specs.Signs.{Sign, OfName, word, name, ◌⧺◌}
use Rattle.widl_script_words.specs.SpelledStatements.{more_names, name_list}
use Rattle.widl_script_words.specs.Reading.{Symbols, token, part, Reads, Never, terminal_ahead}
use Rattle.widl_script_reader.specs.ReadExpressions.{Widens, Holds, HoldsMember, IsNameAhead}
use Rattle.widl_script_words.specs.StepReading.{is_block_word}
use Rattle.widl_script_reader.specs.ReadLines.{is_head, any_member, HoldsLine, HoldsAssigned, HoldsAccessor, HoldsIf, HoldsFunction, NameLists}
use Rattle.widl_script_reader.proofs.Growing.{grown_then, longer}
use Rattle.widl_script_words.proofs.Parts.{follow, before, nothing, of_signs, took, by_row, by_only, by_test, by_none, never_reads}
use Rattle.widl_script_reader.proofs.BuiltExpressions.{took_name, is_close, not_close, is_comma, not_comma}

name_up : {a b : Tables} → Grown a b → (number : ℕ) → IsName a number → IsName b number
name_up {a} {b} g number lt = omega (arith, lt, extends_length g.names)

member_up : (a b : Tables) → Grown a b → (m : MemberOf) → IsMember a m → IsMember b m
member_up a b g m is = statement_up a b g 0 0 (statement.Delete m) (omega arith) is

pub let_holds : (old mid new : Tables) (number value : ℕ) (from one two three to : List Lexeme) → terminal_ahead from ≡ t.Let → one ≡ drop 1 from → IsNameAhead old mid number one two → three ≡ drop 1 two → Widens mid new → Holds (part rule.Expression) [] new value three to → HoldsLine new (statement.Let number value) from to
let_holds old mid new number value from one two three to begins e n f w h = record {
  alone = refl;
  lower = λ place. (name_up w.grown number n.within, h.within);
  reads = λ u g. by_row rule.Line t.Let begins refl refl (follow (took t.Let _ e) (follow (took_name old mid u number _ one two n (grown_then w.grown g)) (follow (took t.Equals _ f) (h.reads u g))));
}

pub do_holds : (new : Tables) (value : ℕ) (from one to : List Lexeme) → terminal_ahead from ≡ t.Do → one ≡ drop 1 from → Holds (part rule.Expression) [] new value one to → HoldsLine new (statement.Do value) from to
do_holds new value from one to begins e h = record { alone = refl; lower = λ place. h.within; reads = λ u g. by_row rule.Line t.Do begins refl refl (follow (took t.Do _ e) (h.reads u g)) }

pub return_holds : (new : Tables) (value : ℕ) (from one to : List Lexeme) → terminal_ahead from ≡ t.Return → one ≡ drop 1 from → Holds (part rule.Expression) [] new value one to → HoldsLine new (statement.Return value) from to
return_holds new value from one to begins e h = record { alone = refl; lower = λ place. h.within; reads = λ u g. by_row rule.Line t.Return begins refl refl (follow (took t.Return _ e) (h.reads u g)) }

pub throw_holds : (new : Tables) (value : ℕ) (from one to : List Lexeme) → terminal_ahead from ≡ t.Throw → one ≡ drop 1 from → Holds (part rule.Expression) [] new value one to → HoldsLine new (statement.Throw value) from to
throw_holds new value from one to begins e h = record { alone = refl; lower = λ place. h.within; reads = λ u g. by_row rule.Line t.Throw begins refl refl (follow (took t.Throw _ e) (h.reads u g)) }

pub show_holds : (new : Tables) (value : ℕ) (from one to : List Lexeme) → terminal_ahead from ≡ t.Show → one ≡ drop 1 from → Holds (part rule.Expression) [] new value one to → HoldsLine new (statement.Show value) from to
show_holds new value from one to begins e h = record { alone = refl; lower = λ place. h.within; reads = λ u g. by_row rule.Line t.Show begins refl refl (follow (took t.Show _ e) (h.reads u g)) }

-- the member that was read, or any where none was
chosen : (mid : Tables) (r : Option MemberOf) (member : MemberOf) (from to : List Lexeme) → 0 < length mid.expressions → MatchOption r (Never (part rule.Member) from) (λ m. HoldsMember mid m from to) → MatchOption r (member ≡ any_member) (λ m. member ≡ m) → HoldsMember mid member from to
chosen mid None member from to some n e = record { is_member = subst (IsMember mid) (sym e) (some, some); reads = λ u g. never_reads n }
chosen mid (Some m) member from to some h e = subst (λ (x : MemberOf). HoldsMember mid x from to) (sym e) h

pub assigned_holds : (new : Tables) (value : ℕ) (from one to : List Lexeme) → one ≡ drop 1 from → Holds (part rule.Expression) [] new value one to → HoldsAssigned new value from to
assigned_holds new value from one to e h = record { is_expression = h.within; reads = λ u g. follow (took t.Equals _ e) (h.reads u g) }

pub set_holds : (mid new : Tables) (r : Option MemberOf) (member : MemberOf) (value : ℕ) (from one two to : List Lexeme) → terminal_ahead from ≡ t.Set → one ≡ drop 1 from → 0 < length mid.expressions → MatchOption r (Never (part rule.Member) one) (λ m. HoldsMember mid m one two) → MatchOption r (member ≡ any_member) (λ m. member ≡ m) → Widens mid new → HoldsAssigned new value two to → HoldsLine new (statement.Set member value) from to
set_holds mid new r member value from one two to begins e some h same w a =
    let m : HoldsMember mid member one two = chosen mid r member one two some h same in
    record {
      alone = refl;
      lower = λ place. (member_up mid new w.grown member m.is_member, a.is_expression);
      reads = λ u g. by_row rule.Line t.Set begins refl refl (follow (took t.Set _ e) (follow (before _ (m.reads u (grown_then w.grown g))) (a.reads u g)));
    }

pub delete_holds : (mid : Tables) (r : Option MemberOf) (member : MemberOf) (from one to : List Lexeme) → terminal_ahead from ≡ t.Delete → one ≡ drop 1 from → 0 < length mid.expressions → MatchOption r (Never (part rule.Member) one) (λ m. HoldsMember mid m one to) → MatchOption r (member ≡ any_member) (λ m. member ≡ m) → HoldsLine mid (statement.Delete member) from to
delete_holds mid r member from one to begins e some h same =
    let m : HoldsMember mid member one to = chosen mid r member one to some h same in
    record { alone = refl; lower = λ place. m.is_member; reads = λ u g. by_row rule.Line t.Delete begins refl refl (follow (took t.Delete _ e) (m.reads u g)) }

abbrev pub is_hidden : Terminal → Bool
is_hidden t.Hidden = true
is_hidden _ = false

not_hidden : (a : Terminal) → (a ≡ t.Hidden → ⊥) → not (is_hidden a) ≡ true
not_hidden t.Hidden f = absurd (f refl)
not_hidden _ f = refl

abbrev pub is_get : Terminal → Bool
is_get t.Get = true
is_get _ = false

not_get : (a : Terminal) → (a ≡ t.Get → ⊥) → not (is_get a) ≡ true
not_get t.Get f = absurd (f refl)
not_get _ f = refl

abbrev pub is_set : Terminal → Bool
is_set t.Set = true
is_set _ = false

not_set : (a : Terminal) → (a ≡ t.Set → ⊥) → not (is_set a) ≡ true
not_set t.Set f = absurd (f refl)
not_set _ f = refl

pub hidden_holds : (mid new : Tables) (r : Option MemberOf) (member : MemberOf) (value : ℕ) (from one two three to : List Lexeme) → terminal_ahead from ≡ t.Define → one ≡ drop 1 from → terminal_ahead one ≡ t.Hidden → two ≡ drop 1 one → 0 < length mid.expressions → MatchOption r (Never (part rule.Member) two) (λ m. HoldsMember mid m two three) → MatchOption r (member ≡ any_member) (λ m. member ≡ m) → Widens mid new → HoldsAssigned new value three to → HoldsLine new (statement.Define member value true) from to
hidden_holds mid new r member value from one two three to begins e hidden f some h same w a =
    let m : HoldsMember mid member two three = chosen mid r member two three some h same in
    record {
      alone = refl;
      lower = λ place. (member_up mid new w.grown member m.is_member, a.is_expression);
      reads = λ u g. by_row rule.Line t.Define begins refl refl (follow (took t.Define _ e) (by_row rule.Define t.Hidden hidden refl refl (follow (took t.Hidden _ f) (follow (before _ (m.reads u (grown_then w.grown g))) (a.reads u g)))));
    }

pub define_holds : (mid new : Tables) (r : Option MemberOf) (member : MemberOf) (value : ℕ) (from one two to : List Lexeme) → terminal_ahead from ≡ t.Define → one ≡ drop 1 from → (terminal_ahead one ≡ t.Hidden → ⊥) → 0 < length mid.expressions → MatchOption r (Never (part rule.Member) one) (λ m. HoldsMember mid m one two) → MatchOption r (member ≡ any_member) (λ m. member ≡ m) → (terminal_ahead two ≡ t.Get → ⊥) → Widens mid new → HoldsAssigned new value two to → HoldsLine new (statement.Define member value false) from to
define_holds mid new r member value from one two to begins e open_ some h same other w a =
    let m : HoldsMember mid member one two = chosen mid r member one two some h same in
    record {
      alone = refl;
      lower = λ place. (member_up mid new w.grown member m.is_member, a.is_expression);
      reads = λ u g. by_row rule.Line t.Define begins refl refl (follow (took t.Define _ e) (by_test rule.Define (λ a. not (is_hidden a)) 1 refl refl (not_hidden (terminal_ahead one) open_) (follow (before _ (m.reads u (grown_then w.grown g))) (by_test rule.DefineRest (λ a. not (is_get a)) 0 refl refl (not_get (terminal_ahead two) other) (a.reads u g)))));
    }

pub accessor_holds : (mid new : Tables) (r : Option MemberOf) (member : MemberOf) (getter : ℕ) (setter : Option ℕ) (from one two to : List Lexeme) → terminal_ahead from ≡ t.Define → one ≡ drop 1 from → (terminal_ahead one ≡ t.Hidden → ⊥) → 0 < length mid.expressions → MatchOption r (Never (part rule.Member) one) (λ m. HoldsMember mid m one two) → MatchOption r (member ≡ any_member) (λ m. member ≡ m) → Widens mid new → HoldsAccessor new getter setter two to → HoldsLine new (statement.DefineAccessor member getter setter) from to
accessor_holds mid new r member getter setter from one two to begins e open_ some h same w a =
    let m : HoldsMember mid member one two = chosen mid r member one two some h same in
    record {
      alone = refl;
      lower = λ place. (member_up mid new w.grown member m.is_member, a.is_expression, a.is_option);
      reads = λ u g. by_row rule.Line t.Define begins refl refl (follow (took t.Define _ e) (by_test rule.Define (λ a. not (is_hidden a)) 1 refl refl (not_hidden (terminal_ahead one) open_) (follow (before _ (m.reads u (grown_then w.grown g))) (a.reads u g))));
    }

pub getter_alone : (new : Tables) (getter : ℕ) (from one to : List Lexeme) → terminal_ahead from ≡ t.Get → one ≡ drop 1 from → Holds (part rule.Expression) [] new getter one to → (terminal_ahead to ≡ t.Set → ⊥) → HoldsAccessor new getter None from to
getter_alone new getter from one to begins e h other = record {
  is_expression = h.within;
  is_option = tt;
  reads = λ u g. by_row rule.DefineRest t.Get begins refl refl (follow (took t.Get _ e) (follow (before _ (h.reads u g)) (by_test rule.DefineSet (λ a. not (is_set a)) 1 refl refl (not_set (terminal_ahead to) other) nothing)));
}

pub getter_and_setter : (mid new : Tables) (getter setter : ℕ) (from one two three to : List Lexeme) → terminal_ahead from ≡ t.Get → one ≡ drop 1 from → Holds (part rule.Expression) [] mid getter one two → terminal_ahead two ≡ t.Set → three ≡ drop 1 two → Widens mid new → Holds (part rule.Expression) [] new setter three to → HoldsAccessor new getter (Some setter) from to
getter_and_setter mid new getter setter from one two three to begins e h is f w k = record {
  is_expression = omega (arith, h.within, longer w.grown);
  is_option = k.within;
  reads = λ u g. by_row rule.DefineRest t.Get begins refl refl (follow (took t.Get _ e) (follow (before _ (h.reads u (grown_then w.grown g))) (by_row rule.DefineSet t.Set is refl refl (follow (took t.Set _ f) (k.reads u g)))));
}

other_is : (a : Terminal) → is_head a ≡ false → is_block_word a ≡ false → not (is_head a || is_block_word a) ≡ true
other_is a e f = ap (λ b. not (b || is_block_word a)) e ∙ ap not f

pub no_line_holds : (new : Tables) (value : ℕ) (from to : List Lexeme) → is_head (terminal_ahead from) ≡ false → is_block_word (terminal_ahead from) ≡ false → Holds (part rule.Expression) [] new value from to → HoldsLine new (statement.Do value) from to
no_line_holds new value from to e f h = record { alone = refl; lower = λ place. h.within; reads = λ u g. by_none rule.Line (λ a. not (is_head a || is_block_word a)) refl (other_is (terminal_ahead from) e f) }

pub if_holds : (mid new : Tables) (left right : ℕ) (from one two to : List Lexeme) → Holds (part rule.Expression) [] mid left from one → two ≡ drop 1 one → Widens mid new → Holds (part rule.Expression) [] new right two to → HoldsIf new left right from to
if_holds mid new left right from one two to h e w k = record {
  is_left = omega (arith, h.within, longer w.grown);
  is_right = k.within;
  reads = λ u g. follow (before _ (h.reads u (grown_then w.grown g))) (follow (took t.Is _ e) (k.reads u g));
}

-- parameters
names_up : (a b : Tables) (numbers : List ℕ) → Grown a b → All (IsName a) numbers → All (IsName b) numbers
names_up a b numbers g h = All-weaker (IsName a) (IsName b) (λ number lt. name_up g number lt) numbers h

more_snoc : (f : ℕ → Text) (numbers : List ℕ) (number : ℕ) → more_names (map f (numbers ++ number ∷ [])) ≡ more_names (map f numbers) ⧺ word t.Comma ⧺ name (f number)
more_snoc f [] number = refl
more_snoc f (other ∷ numbers) number = ap (λ x. word t.Comma ⧺ name (f other) ⧺ x) (more_snoc f numbers number)

pub names_nothing : (m : Tables) (old : List ℕ) (from : List Lexeme) → NameLists (part rule.MoreParameters) (part rule.MoreParameters) more_names m old old from from
names_nothing m old from = record { numbers = []; is = sym (append-nil old); within = All-nil (IsName m); reads = λ u g. nothing }

pub names_more : (mid new : Tables) (old so_far now : List ℕ) (number : ℕ) (from at one to : List Lexeme) → NameLists (part rule.MoreParameters) (part rule.MoreParameters) more_names mid old so_far from at → terminal_ahead at ≡ t.Comma → one ≡ drop 1 at → Widens mid new → IsNameAhead mid new number one to → now ≡ so_far ++ number ∷ [] → NameLists (part rule.MoreParameters) (part rule.MoreParameters) more_names new old now from to
names_more mid new old so_far now number from at one to l comma e w n pushed = record {
  numbers = l.numbers ++ number ∷ [];
  is = pushed ∙ ap (λ x. x ++ number ∷ []) l.is ∙ append_assoc old l.numbers (number ∷ []);
  within = All-push (IsName new) l.numbers number (names_up mid new l.numbers w.grown l.within) n.within;
  reads = λ u g. of_signs (more_snoc (name_at u) l.numbers number) (follow (l.reads u (grown_then w.grown g)) (by_row rule.MoreParameters t.Comma comma refl refl (follow (took t.Comma _ e) (took_name mid new u number (part rule.MoreParameters) one to n g))));
}

pub names_over : (m : Tables) (old now : List ℕ) (from to : List Lexeme) → (terminal_ahead to ≡ t.Comma → ⊥) → NameLists (part rule.MoreParameters) (part rule.MoreParameters) more_names m old now from to → NameLists (part rule.MoreParameters) [] more_names m old now from to
names_over m old now from to other l = record {
  numbers = l.numbers;
  is = l.is;
  within = l.within;
  reads = λ u g. of_signs (sym (append-nil (more_names (map (name_at u) l.numbers)))) (follow (l.reads u g) (by_test rule.MoreParameters (λ a. not (is_comma a)) 1 refl refl (not_comma (terminal_ahead to) other) nothing));
}

pub names_none : (m : Tables) (now : List ℕ) (from : List Lexeme) → now ≡ [] → terminal_ahead from ≡ t.CloseParen → NameLists (part rule.ParameterList) [] name_list m [] now from from
names_none m now from e close = record { numbers = []; is = e; within = All-nil (IsName m); reads = λ u g. by_row rule.ParameterList t.CloseParen close refl refl nothing }

pub names_some : (old mid new : Tables) (number : ℕ) (empty one now : List ℕ) (from at to : List Lexeme) → (terminal_ahead from ≡ t.CloseParen → ⊥) → IsNameAhead old mid number from at → Widens mid new → empty ≡ [] → one ≡ empty ++ number ∷ [] → NameLists (part rule.MoreParameters) [] more_names new one now at to → NameLists (part rule.ParameterList) [] name_list new [] now from to
names_some old mid new number empty one now from at to some n w none_ first l = record {
  numbers = number ∷ l.numbers;
  is = l.is ∙ ap (λ x. x ++ l.numbers) (first ∙ ap (λ x. x ++ number ∷ []) none_);
  within = All-cons (IsName new) number l.numbers (name_up w.grown number n.within) l.within;
  reads = λ u g. by_test rule.ParameterList (λ a. not (is_close a)) 0 refl refl (not_close (terminal_ahead from) some) (follow (took_name old mid u number (part rule.MoreParameters) from at n (grown_then w.grown g)) (l.reads u g));
}

pub function_holds : (old mid new : Tables) (number : ℕ) (params : List ℕ) (from one two three to : List Lexeme) → IsNameAhead old mid number from one → two ≡ drop 1 one → Widens mid new → NameLists (part rule.ParameterList) [] name_list new [] params two three → to ≡ drop 1 three → HoldsFunction new number params from to
function_holds old mid new number params from one two three to n e w l f = record {
  is_name = name_up w.grown number n.within;
  are_names = subst (All (IsName new)) (sym l.is) l.within;
  reads = λ u g.
      of_signs (ap (λ (x : List ℕ). name (name_at u number) ⧺ word t.OpenParen ⧺ name_list (map (name_at u) x) ⧺ word t.CloseParen) l.is)
      (follow (took_name old mid u number (part rule.Parameters) from one n (grown_then w.grown g)) (by_only rule.Parameters refl (follow (took t.OpenParen _ e) (follow (before (token t.CloseParen) (l.reads u g)) (took t.CloseParen [] f)))));
}
