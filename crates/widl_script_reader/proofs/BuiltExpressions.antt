-- Expressions are built.
use Rattle.std.proofs.Common.{◌≡◌, ℕ, zero, suc, ◌+◌, ◌-◌, ◌<◌, ◌≤◌, Bool, true, false, Option, Some, None, List, [], ◌∷◌, ◌++◌, length, drop, refl, sym, ◌∙◌, ap, subst, arith, inl, inr, append_assoc, append-nil}
use Rattle.std.specs.Prelude.{MatchOption, ◌||◌, not, ◌⊎◌, All, unwrap_or, ℤ, pos, negsuc}
use Rattle.std.proofs.lemmas.List.Elements.{All-nil, All-cons, All-push, All-weaker, All-append}
use Rattle.widl_text.specs.IntegerTokens.{integer_of}
use Rattle.widl_value.specs.declared.number.Number.{Number}
use Rattle.widl_value.specs.declared.number.Number.TheVariants.{Whole}
use Rattle.widl_value.specs.Rounding.{nearest_of}
use Rattle.widl_lines.specs.declared.grammar.Rule.{Rule}
use Rattle.widl_lines.specs.declared.grammar.Rule.TheVariants as rule
use Rattle.widl_lines.specs.declared.grammar.Terminal.{Terminal}
use Rattle.widl_lines.specs.declared.grammar.Terminal.TheVariants as t
use Rattle.widl_lines.specs.declared.word_form.WordForm.{WordForm}
use Rattle.widl_lines.specs.Texts.{units_of}
use Rattle.widl_lines.specs.Words.{Lexeme}
use Rattle.widl_script_tree.specs.declared.expression.Expression.{Expression}
use Rattle.widl_script_tree.specs.declared.expression.Expression.TheVariants as node
use Rattle.widl_script_tree.specs.declared.expression.MemberKey.TheVariants as key
use Rattle.widl_script_tree.specs.declared.expression.MemberOf.{MemberOf}
use Rattle.widl_script_tree.specs.declared.row.Row.{Row}
use Rattle.widl_script_tree.specs.Trees.{ExpressionTree, ExpressionTrees, none, more}
use Rattle.widl_script_tree.specs.Tables.{Tables, name_at, key_at, expression_at, expression_tree, expressions_tree, expressions_in, member_at, opened}
use Rattle.widl_script_tree.specs.Parts.{IsLower, IsLowerMember, IsMember}
use Rattle.widl_script_tree.specs.Growth.{Grown}
use Rattle.widl_script_tree.proofs.Wholes.{lower_up}
use Rattle.widl_script_reader.specs.declared.forms.Form.TheVariants as form
use Rattle.widl_script_reader.specs.declared.forms.Link.{Link}
use Rattle.widl_script_reader.specs.declared.forms.Link.TheVariants as link
use Rattle.widl_script_words.specs.Words.{is_name, is_any_name, is_whole, number_of, within_bound, units_in}
use Rattle.widl_script_words.specs.Signs.{Sign, OfName, OfAnyName, OfUnits, OfNumber, Nowhere, Stands, word, ◌⧺◌}
use Rattle.widl_script_words.specs.SpelledExpressions.{signs, list_signs, more_signs, number_signs}
use Rattle.widl_script_words.specs.Reading.{Symbols, token, part, Reads, terminal_ahead, IfAhead, Never}
use Rattle.widl_script_reader.specs.ReadExpressions.{IsPut, IsNamed, Holds, Continues, trees_at, AllWithin, Lists, IsRow, HoldsRow, IsNameAhead, is_leaf, IsLeaf, is_formed, Begins, is_link, link_terminal, link_part, member_tail, ends_member, is_member, HoldsMember}
use Rattle.widl_script_reader.proofs.Growing.{grown_then, grown_same, longer, node_kept, name_kept, key_kept, put_tree, put_within, tree_is}
use Rattle.widl_script_words.proofs.Parts.{follow, before, nothing, of_signs, took, took_as, took_word, took_nested, by_row, by_only, by_test, by_none, if_ahead}

-- what a node that was put holds
pub held_by : {e : Expression} {place : ℕ} {old new : Tables} {b a : Symbols} {from to : List Lexeme} → IsPut e place old new → IsLower old (length old.expressions) e → ((u : Tables) → Grown new u → Reads b a (signs (opened u (expression_tree u) e)) from to) → Holds b a new place from to
held_by p lower f = record { within = put_within p; reads = λ u g. of_signs (ap signs (put_tree p lower u g)) (f u g) }

other_is : (a : Terminal) → is_leaf a ≡ false → is_formed a ≡ false → not (is_leaf a || is_formed a) ≡ true
other_is a e f = ap (λ b. not (b || is_formed a)) e ∙ ap not f

-- a name that was taken, in whatever the tables grow to
name_is : (mid u : Tables) (number : ℕ) (old : Tables) (from to : List Lexeme) → IsNameAhead old mid number from to → Grown mid u → (test : Terminal → Bool) → IfAhead from (λ w. test w.terminal ≡ true → (test w.terminal ≡ true) × (w.text ≡ name_at u number))
name_is mid u number old from to n g test = if_ahead from (λ w. name_at mid number ≡ w.text) (λ w. test w.terminal ≡ true → (test w.terminal ≡ true) × (w.text ≡ name_at u number)) n.name (λ w e h. (h, sym e ∙ sym (name_kept g number n.within)))

key_is : (mid u : Tables) (number : ℕ) (old : Tables) (from to : List Lexeme) → IsNameAhead old mid number from to → Grown mid u → (test : Terminal → Bool) → IfAhead from (λ w. test w.terminal ≡ true → (test w.terminal ≡ true) × (w.text ≡ key_at u number))
key_is mid u number old from to n g test = if_ahead from (λ w. key_at mid number ≡ w.text) (λ w. test w.terminal ≡ true → (test w.terminal ≡ true) × (w.text ≡ key_at u number)) n.key (λ w e h. (h, sym e ∙ sym (key_kept g number n.within)))

-- a name by its text, in whatever the tables grow to
pub took_name : (old mid u : Tables) (number : ℕ) (b : Symbols) (from to : List Lexeme) → IsNameAhead old mid number from to → Grown mid u → Reads (part rule.Name ++ b) b (OfName (name_at u number) ∷ []) from to
took_name old mid u number b from to n g = took_word rule.Name is_name b (OfName (name_at u number)) refl n.rest (name_is mid u number old from to n g is_name)

pub named_holds : (old mid new : Tables) (number place : ℕ) (from to : List Lexeme) → is_leaf (terminal_ahead from) ≡ false → is_formed (terminal_ahead from) ≡ false → IsNameAhead old mid number from to → IsPut (node.Name number) place mid new → Holds (part rule.Primary) [] new place from to
named_holds old mid new number place from to leaf formed n p = held_by p n.within (λ u g.
    by_test rule.Primary (λ a. not (is_leaf a || is_formed a)) 5 refl refl (other_is (terminal_ahead from) leaf formed)
    (took_name old mid u number [] from to n (grown_then p.widens.grown g)))

number_word : (v : ℤ) → number_signs (nearest_of v) ≡ OfNumber (nearest_of v) ∷ []
number_word (pos n) = refl
number_word (negsuc n) = refl

integer_read : (a : Terminal) (n : Number) (text : List ℕ) (from to : List Lexeme) → is_whole a ≡ true → n ≡ nearest_of (within_bound (integer_of text)) → IfAhead from (λ w. text ≡ w.text) → to ≡ drop 1 from → Reads (token a) [] (OfNumber n ∷ []) from to
integer_read a n text from to whole same held rest = took_as a [] (OfNumber n) rest (if_ahead from (λ w. text ≡ w.text) (λ w. w.terminal ≡ a → Stands (OfNumber n) w) held (λ w s h. (ap is_whole h ∙ whole, ap (λ (x : List ℕ). nearest_of (within_bound (integer_of x))) (sym s) ∙ sym same)))

pub integer_holds : (old new : Tables) (n : Number) (place : ℕ) (text : List ℕ) (from to : List Lexeme) → Begins form.Integer (terminal_ahead from) → n ≡ nearest_of (within_bound (integer_of text)) → IfAhead from (λ w. text ≡ w.text) → to ≡ drop 1 from → IsPut (node.Number n) place old new → Holds (part rule.Primary) [] new place from to
integer_holds old new n place text from to begins same held rest p = held_by p tt (λ u g. of_signs spelled (read begins))
  where
    spelled : number_signs n ≡ OfNumber n ∷ []
    spelled = subst (λ (m : Number). number_signs m ≡ OfNumber m ∷ []) (sym same) (number_word (within_bound (integer_of text)))

    read : Begins form.Integer (terminal_ahead from) → Reads (part rule.Primary) [] (OfNumber n ∷ []) from to
    read (inl e) = by_row rule.Primary t.Natural e refl refl (by_row rule.Constant t.Natural e refl refl (integer_read t.Natural n text from to refl same held rest))
    read (inr e) = by_row rule.Primary t.Negative e refl refl (by_row rule.Constant t.Negative e refl refl (integer_read t.Negative n text from to refl same held rest))

both_ahead : (from : List Lexeme) (P Q R : Lexeme → Type 0) → IfAhead from P → IfAhead from Q → ((w : Lexeme) → P w → Q w → R w) → IfAhead from R
both_ahead [] P Q R h k f = tt
both_ahead (w ∷ words) P Q R h k f = f w h k

pub text_holds : (old new : Tables) (units text : List ℕ) (form_ : WordForm) (place : ℕ) (from to : List Lexeme) → terminal_ahead from ≡ t.Text → units ≡ unwrap_or (units_of form_ text) [] → IfAhead from (λ w. form_ ≡ w.form) → IfAhead from (λ w. text ≡ w.text) → to ≡ drop 1 from → IsPut (node.Text units) place old new → Holds (part rule.Primary) [] new place from to
text_holds old new units text form_ place from to begins same formed held rest p = held_by p tt (λ u g.
    by_row rule.Primary t.Text begins refl refl (by_row rule.Constant t.Text begins refl refl (took_as t.Text [] (OfUnits units) rest
    (both_ahead from (λ w. form_ ≡ w.form) (λ w. text ≡ w.text) (λ w. w.terminal ≡ t.Text → Stands (OfUnits units) w) formed held
    (λ w f s h. (h, (let e : unwrap_or (units_of w.form w.text) [] ≡ unwrap_or (units_of form_ text) [] = cc in e) ∙ sym same))))))

pub leaf_holds : (a : Terminal) (e : Expression) (old new : Tables) (place : ℕ) (from to : List Lexeme) → a ≡ terminal_ahead from → IsLeaf a e → to ≡ drop 1 from → IsPut e place old new → Holds (part rule.Primary) [] new place from to
leaf_holds a e old new place from to at leaf rest p = held_by p (leaf.lower old (length old.expressions)) (λ u g. of_signs (leaf.spelled u (expression_tree u)) (go a (sym at) leaf.known))
  where
    go : (b : Terminal) → terminal_ahead from ≡ b → is_leaf b ≡ true → Reads (part rule.Primary) [] (word b) from to
    go t.Undefined h k = by_row rule.Primary t.Undefined h refl refl (by_row rule.Constant t.Undefined h refl refl (took t.Undefined [] rest))
    go t.Null h k = by_row rule.Primary t.Null h refl refl (by_row rule.Constant t.Null h refl refl (took t.Null [] rest))
    go t.True h k = by_row rule.Primary t.True h refl refl (by_row rule.Constant t.True h refl refl (took t.True [] rest))
    go t.False h k = by_row rule.Primary t.False h refl refl (by_row rule.Constant t.False h refl refl (took t.False [] rest))
    go t.This h k = by_row rule.Primary t.This h refl refl (took t.This [] rest)
    go t.Nan h k = by_row rule.Primary t.Nan h refl refl (took t.Nan [] rest)
    go t.Infinity h k = by_row rule.Primary t.Infinity h refl refl (took t.Infinity [] rest)
    go t.MinusInfinity h k = by_row rule.Primary t.MinusInfinity h refl refl (took t.MinusInfinity [] rest)
    go t.IteratorSymbol h k = by_row rule.Primary t.IteratorSymbol h refl refl (took t.IteratorSymbol [] rest)
    go t.ToPrimitiveSymbol h k = by_row rule.Primary t.ToPrimitiveSymbol h refl refl (took t.ToPrimitiveSymbol [] rest)
    go t.ToStringTagSymbol h k = by_row rule.Primary t.ToStringTagSymbol h refl refl (took t.ToStringTagSymbol [] rest)
    go _ h k = absurd (let bad : false ≡ true = k in cc)

pub symbol_holds : (old new : Tables) (place : ℕ) (from one two to : List Lexeme) → terminal_ahead from ≡ t.Symbol → one ≡ drop 1 from → two ≡ drop 1 one → to ≡ drop 1 two → IsPut node.NewSymbol place old new → Holds (part rule.Primary) [] new place from to
symbol_holds old new place from one two to begins e f h p = held_by p tt (λ u g.
    by_row rule.Primary t.Symbol begins refl refl (follow (took t.Symbol _ e) (by_only rule.NoArguments refl (follow (took t.OpenParen _ f) (took t.CloseParen [] h)))))

-- a member of a place that is held
pub dot_continues : (old mid new : Tables) (of number place : ℕ) (from one to : List Lexeme) → terminal_ahead from ≡ t.Dot → of < length old.expressions → one ≡ drop 1 from → IsNameAhead old mid number one to → IsPut (node.Member (record { of = of; key = key.Named number })) place mid new → Continues (link_part link.Dot) new of place from to
dot_continues old mid new of number place from one to begins lt e n p = record {
  within = put_within p;
  more = λ u g. (
    (word t.Dot ⧺ OfAnyName (key_at u number) ∷ []),
    ap signs (put_tree p (omega (arith, lt, n.same), n.within) u g),
    follow (took t.Dot _ e) (took_nested rule.AnyName is_any_name _ (OfAnyName (key_at u number)) refl n.rest (key_is mid u number old one to n (grown_then p.widens.grown g) is_any_name)),
  );
}

abbrev pub is_close : Terminal → Bool
is_close t.CloseParen = true
is_close _ = false

pub not_close : (a : Terminal) → (a ≡ t.CloseParen → ⊥) → not (is_close a) ≡ true
not_close t.CloseParen f = absurd (f refl)
not_close _ f = refl

abbrev pub is_comma : Terminal → Bool
is_comma t.Comma = true
is_comma _ = false

pub not_comma : (a : Terminal) → (a ≡ t.Comma → ⊥) → not (is_comma a) ≡ true
not_comma t.Comma f = absurd (f refl)
not_comma _ f = refl

-- an expression with what goes on behind it
pub begun : (m : Tables) (place : ℕ) (from to : List Lexeme) → Holds (part rule.Primary) [] m place from to → Holds (part rule.Expression) (part rule.Postfix) m place from to
begun m place from to h = record { within = h.within; reads = λ u g. by_only rule.Expression refl (before (part rule.Postfix) (h.reads u g)) }

postfix_link : (k : Link) (x : List Sign) (from to : List Lexeme) → terminal_ahead from ≡ link_terminal k → Reads (link_part k) [] x from to → Reads (part rule.Postfix) (part rule.Postfix) x from to
postfix_link link.Dot x from to e f = by_row rule.Postfix t.Dot e refl refl (before (part rule.Postfix) f)
postfix_link link.Bracket x from to e f = by_row rule.Postfix t.OpenBracket e refl refl (before (part rule.Postfix) f)
postfix_link link.Paren x from to e f = by_row rule.Postfix t.OpenParen e refl refl (before (part rule.Postfix) f)

pub goes_on : (k : Link) (mid new : Tables) (place next : ℕ) (from at to : List Lexeme) → terminal_ahead at ≡ link_terminal k → Holds (part rule.Expression) (part rule.Postfix) mid place from at → Grown mid new → Continues (link_part k) new place next at to → Holds (part rule.Expression) (part rule.Postfix) new next from to
goes_on k mid new place next from at to e h grown c = record {
  within = c.within;
  reads = λ u g. let m = c.more u g in of_signs m.1 (follow (h.reads u (grown_then grown g)) (postfix_link k m.0 at to e m.2));
}

member_link : (b : Bool) (k : Link) (x : List Sign) (from to : List Lexeme) → terminal_ahead from ≡ link_terminal k → Reads (link_part k) [] x from to → Reads (part (member_tail b)) (part (member_tail (ends_member k))) x from to
member_link true link.Dot x from to e f = by_row rule.MemberRest t.Dot e refl refl (before (part rule.MemberRest) f)
member_link true link.Bracket x from to e f = by_row rule.MemberRest t.OpenBracket e refl refl (before (part rule.MemberRest) f)
member_link true link.Paren x from to e f = by_row rule.MemberRest t.OpenParen e refl refl (before (part rule.MemberTail) f)
member_link false link.Dot x from to e f = by_row rule.MemberTail t.Dot e refl refl (before (part rule.MemberRest) f)
member_link false link.Bracket x from to e f = by_row rule.MemberTail t.OpenBracket e refl refl (before (part rule.MemberRest) f)
member_link false link.Paren x from to e f = by_row rule.MemberTail t.OpenParen e refl refl (before (part rule.MemberTail) f)

pub member_begun : (m : Tables) (place : ℕ) (from to : List Lexeme) → Holds (part rule.Primary) [] m place from to → Holds (part rule.Member) (part rule.MemberTail) m place from to
member_begun m place from to h = record { within = h.within; reads = λ u g. by_only rule.Member refl (before (part rule.MemberTail) (h.reads u g)) }

pub member_goes_on : (b c : Bool) (k : Link) (mid new : Tables) (place next : ℕ) (from at to : List Lexeme) → c ≡ ends_member k → terminal_ahead at ≡ link_terminal k → Holds (part rule.Member) (part (member_tail b)) mid place from at → Grown mid new → Continues (link_part k) new place next at to → Holds (part rule.Member) (part (member_tail c)) new next from to
member_goes_on b c k mid new place next from at to same e h grown i = record {
  within = i.within;
  reads = λ u g. let m = i.more u g in of_signs m.1 (follow (h.reads u (grown_then grown g)) (subst (λ d. Reads (part (member_tail b)) (part (member_tail d)) m.0 at to) (sym same) (member_link b k m.0 at to e m.2)));
}

member_end : (b : Bool) (to : List Lexeme) → is_link (terminal_ahead to) ≡ false → Reads (part (member_tail b)) [] [] to to
member_end true to other = by_test rule.MemberRest (λ a. not (is_link a)) 3 refl refl (ap not other) nothing
member_end false to other = by_none rule.MemberTail (λ a. not (is_link a)) refl (ap not other)

pub never_ended : (m : Tables) (place : ℕ) (from to : List Lexeme) → is_link (terminal_ahead to) ≡ false → Holds (part rule.Member) (part rule.MemberTail) m place from to → Never (part rule.Member) from
never_ended m place from to other h = λ z d.
    let r = (h.reads m (grown_same m)).reads z d in
    let bad : Reads (part rule.MemberTail) [] (Nowhere ∷ []) to to = by_none rule.MemberTail (λ a. not (is_link a)) refl (ap not other) in
    (bad.reads z r.1).0.3

pub member_found : (r : Option MemberOf) (t : Tables) (place : ℕ) (from to : List Lexeme) → MatchOption r (is_member (expression_at t place) ≡ false) (λ m. (expression_at t place ≡ node.Member m) × IsLower t place (node.Member m)) → is_member (expression_at t place) ≡ true → Holds (part rule.Member) [] t place from to → MatchOption r (Never (part rule.Member) from) (λ m. HoldsMember t m from to)
member_found None t place from to no_member is h = absurd (let bad : false ≡ true = sym no_member ∙ is in cc)
member_found (Some m) t place from to found is h = record {
  is_member = lower_up t t (grown_same t) place (length t.expressions) (node.Member m) (omega (arith, h.within)) found.1;
  reads = λ u g.
      let same : expression_at u place ≡ node.Member m = node_kept g place h.within ∙ found.0 in
      let low : IsLower u place (node.Member m) = lower_up t u g place place (node.Member m) (omega arith) found.1 in
      let opens : expression_tree u place ≡ opened u (expression_tree u) (node.Member m) = tree_is u place (omega (arith, h.within, longer g)) (subst (IsLower u place) (sym same) low) ∙ ap (opened u (expression_tree u)) same in
      of_signs (ap signs (sym opens)) (h.reads u g);
}

pub member_over : (b : Bool) (m : Tables) (place : ℕ) (from to : List Lexeme) → is_link (terminal_ahead to) ≡ false → Holds (part rule.Member) (part (member_tail b)) m place from to → Holds (part rule.Member) [] m place from to
member_over b m place from to other h = record {
  within = h.within;
  reads = λ u g. of_signs (sym (append-nil (signs (expression_tree u place)))) (follow (h.reads u g) (member_end b to other));
}

pub over : (m : Tables) (place : ℕ) (from to : List Lexeme) → is_link (terminal_ahead to) ≡ false → Holds (part rule.Expression) (part rule.Postfix) m place from to → Holds (part rule.Expression) [] m place from to
over m place from to other h = record {
  within = h.within;
  reads = λ u g. of_signs (sym (append-nil (signs (expression_tree u place)))) (follow (h.reads u g) (by_test rule.Postfix (λ a. not (is_link a)) 3 refl refl (ap not other) nothing));
}

pub index_continues : (old mid new : Tables) (of key_place place : ℕ) (from one two to : List Lexeme) → terminal_ahead from ≡ t.OpenBracket → of < length old.expressions → one ≡ drop 1 from → Grown old mid → Holds (part rule.Expression) [] mid key_place one two → to ≡ drop 1 two → IsPut (node.Member (record { of = of; key = key.Computed key_place })) place mid new → Continues (link_part link.Bracket) new of place from to
index_continues old mid new of key_place place from one two to begins lt e grown h f p = record {
  within = put_within p;
  more = λ u g. (
    (word t.OpenBracket ⧺ signs (expression_tree u key_place) ⧺ word t.CloseBracket),
    ap signs (put_tree p (omega (arith, lt, longer grown), h.within) u g),
    by_only rule.Index refl (follow (took t.OpenBracket _ e) (follow (before _ (h.reads u (grown_then p.widens.grown g))) (took t.CloseBracket _ f))),
  );
}

pub call_continues : (old mid new : Tables) (callee place : ℕ) (row : Row) (from one to : List Lexeme) → terminal_ahead from ≡ t.OpenParen → callee < length old.expressions → one ≡ drop 1 from → Grown old mid → HoldsRow (part rule.ExpressionList ++ token t.CloseParen) list_signs mid row one to → IsPut (node.Call callee row) place mid new → Continues (link_part link.Paren) new callee place from to
call_continues old mid new callee place row from one to begins lt e grown h p = record {
  within = put_within p;
  more = λ u g. (
    (word t.OpenParen ⧺ list_signs (expressions_tree u row) ⧺ word t.CloseParen),
    ap signs (put_tree p (omega (arith, lt, longer grown), h.lower) u g),
    by_only rule.Arguments refl (follow (took t.OpenParen _ e) (h.reads u (grown_then p.widens.grown g))),
  );
}

pub array_holds : (mid new : Tables) (place : ℕ) (row : Row) (from one two to : List Lexeme) → terminal_ahead from ≡ t.Array → one ≡ drop 1 from → two ≡ drop 1 one → HoldsRow (part rule.ExpressionList ++ token t.CloseParen) list_signs mid row two to → IsPut (node.NewArray row) place mid new → Holds (part rule.Primary) [] new place from to
array_holds mid new place row from one two to begins e f h p = held_by p h.lower (λ u g.
    by_row rule.Primary t.Array begins refl refl (follow (took t.Array _ e) (by_only rule.Arguments refl (follow (took t.OpenParen _ f) (h.reads u (grown_then p.widens.grown g))))))

pub object_holds : (old new : Tables) (place : ℕ) (from one two to : List Lexeme) → terminal_ahead from ≡ t.Object → one ≡ drop 1 from → two ≡ drop 1 one → terminal_ahead two ≡ t.CloseParen → to ≡ drop 1 two → IsPut (node.NewObject None) place old new → Holds (part rule.Primary) [] new place from to
object_holds old new place from one two to begins e f close h p = held_by p tt (λ u g.
    by_row rule.Primary t.Object begins refl refl (follow (took t.Object _ e) (by_only rule.ObjectArguments refl (follow (took t.OpenParen _ f) (by_row rule.MaybeExpression t.CloseParen close refl refl (took t.CloseParen [] h))))))

pub object_of_holds : (mid new : Tables) (proto place : ℕ) (from one two three to : List Lexeme) → terminal_ahead from ≡ t.Object → one ≡ drop 1 from → two ≡ drop 1 one → (terminal_ahead two ≡ t.CloseParen → ⊥) → Holds (part rule.Expression) [] mid proto two three → to ≡ drop 1 three → IsPut (node.NewObject (Some proto)) place mid new → Holds (part rule.Primary) [] new place from to
object_of_holds mid new proto place from one two three to begins e f open_ h k p = held_by p h.within (λ u g.
    by_row rule.Primary t.Object begins refl refl (follow (took t.Object _ e) (by_only rule.ObjectArguments refl (follow (took t.OpenParen _ f) (by_test rule.MaybeExpression (λ a. not (is_close a)) 0 refl refl (not_close (terminal_ahead two) open_) (follow (before _ (h.reads u (grown_then p.widens.grown g))) (took t.CloseParen [] k)))))))

pub new_holds : (one_ mid new : Tables) (callee place : ℕ) (row : Row) (from one two three to : List Lexeme) → terminal_ahead from ≡ t.New → one ≡ drop 1 from → two ≡ drop 1 one → Holds (part rule.Expression) [] one_ callee two three → Grown one_ mid → HoldsRow (part rule.MoreExpressions ++ token t.CloseParen) more_signs mid row three to → IsPut (node.New callee row) place mid new → Holds (part rule.Primary) [] new place from to
new_holds one_ mid new callee place row from one two three to begins e f h grown k p = held_by p (omega (arith, h.within, longer grown), k.lower) (λ u g.
    let all = expressions_tree u row in
    by_row rule.Primary t.New begins refl refl (follow (took t.New _ e) (by_only rule.NewArguments refl (follow (took t.OpenParen _ f)
    (of_signs (append_assoc (signs (expression_tree u callee)) (more_signs all) (word t.CloseParen)) (follow (before _ (h.reads u (grown_then grown (grown_then p.widens.grown g)))) (k.reads u (grown_then p.widens.grown g))))))))

pub call_with_holds : (one_ two_ mid new : Tables) (callee this place : ℕ) (row : Row) (from one two three four five to : List Lexeme) → terminal_ahead from ≡ t.Call → one ≡ drop 1 from → two ≡ drop 1 one → Holds (part rule.Expression) [] one_ callee two three → four ≡ drop 1 three → Grown one_ two_ → Holds (part rule.Expression) [] two_ this four five → Grown two_ mid → HoldsRow (part rule.MoreExpressions ++ token t.CloseParen) more_signs mid row five to → IsPut (node.CallWith callee this row) place mid new → Holds (part rule.Primary) [] new place from to
call_with_holds one_ two_ mid new callee this place row from one two three four five to begins e f h comma grown i further k p = held_by p (omega (arith, h.within, longer grown, longer further), omega (arith, i.within, longer further), k.lower) (λ u g.
    let all = expressions_tree u row in
    let last = grown_then p.widens.grown g in
    by_row rule.Primary t.Call begins refl refl (follow (took t.Call _ e) (by_only rule.CallArguments refl (follow (took t.OpenParen _ f)
    (of_signs (append_assoc (signs (expression_tree u callee)) (word t.Comma ⧺ signs (expression_tree u this) ⧺ more_signs all) (word t.CloseParen))
    (follow (before _ (h.reads u (grown_then grown (grown_then further last))))
    (follow (took t.Comma _ comma)
    (of_signs (append_assoc (signs (expression_tree u this)) (more_signs all) (word t.CloseParen)) (follow (before _ (i.reads u (grown_then further last))) (k.reads u last))))))))))

-- lists
within_longer : (t u : Tables) (places : List ℕ) → Grown t u → AllWithin t places → AllWithin u places
within_longer t u places g h = All-weaker (λ place. place < length t.expressions) (λ place. place < length u.expressions) (λ place lt. omega (arith, lt, longer g)) places h

more_snoc : (u : Tables) (places : List ℕ) (place : ℕ) → more_signs (trees_at u (places ++ place ∷ [])) ≡ more_signs (trees_at u places) ⧺ word t.Comma ⧺ signs (expression_tree u place)
more_snoc u [] place = ap (λ x. word t.Comma ⧺ x) (append-nil (signs (expression_tree u place)))
more_snoc u (other ∷ places) place = ap (λ x. word t.Comma ⧺ signs (expression_tree u other) ⧺ x) (more_snoc u places place) ∙ ap (λ x. word t.Comma ⧺ x) (sym (append_assoc (signs (expression_tree u other)) (more_signs (trees_at u places)) (word t.Comma ⧺ signs (expression_tree u place))))

pub lists_nothing : (m : Tables) (old : List ℕ) (from : List Lexeme) → Lists (part rule.MoreExpressions) (part rule.MoreExpressions) more_signs m old old from from
lists_nothing m old from = record { places = []; is = sym (append-nil old); within = All-nil (λ at. at < length m.expressions); reads = λ u g. nothing }

pub lists_more : (mid new : Tables) (old so_far now : List ℕ) (place : ℕ) (from at one to : List Lexeme) → Lists (part rule.MoreExpressions) (part rule.MoreExpressions) more_signs mid old so_far from at → terminal_ahead at ≡ t.Comma → one ≡ drop 1 at → Grown mid new → Holds (part rule.Expression) [] new place one to → now ≡ so_far ++ place ∷ [] → Lists (part rule.MoreExpressions) (part rule.MoreExpressions) more_signs new old now from to
lists_more mid new old so_far now place from at one to l comma e grown h pushed = record {
  places = l.places ++ place ∷ [];
  is = pushed ∙ ap (λ x. x ++ place ∷ []) l.is ∙ append_assoc old l.places (place ∷ []);
  within = All-push (λ at. at < length new.expressions) l.places place (within_longer mid new l.places grown l.within) h.within;
  reads = λ u g. of_signs (more_snoc u l.places place) (follow (l.reads u (grown_then grown g)) (by_row rule.MoreExpressions t.Comma comma refl refl (follow (took t.Comma _ e) (before (part rule.MoreExpressions) (h.reads u g)))));
}

pub lists_over : (m : Tables) (old now : List ℕ) (from to : List Lexeme) → (terminal_ahead to ≡ t.Comma → ⊥) → Lists (part rule.MoreExpressions) (part rule.MoreExpressions) more_signs m old now from to → Lists (part rule.MoreExpressions) [] more_signs m old now from to
lists_over m old now from to other l = record {
  places = l.places;
  is = l.is;
  within = l.within;
  reads = λ u g. of_signs (sym (append-nil (more_signs (trees_at u l.places)))) (follow (l.reads u g) (by_test rule.MoreExpressions (λ a. not (is_comma a)) 1 refl refl (not_comma (terminal_ahead to) other) nothing));
}

pub lists_none : (m : Tables) (now : List ℕ) (from : List Lexeme) → now ≡ [] → terminal_ahead from ≡ t.CloseParen → Lists (part rule.ExpressionList) [] list_signs m [] now from from
lists_none m now from e close = record { places = []; is = e; within = All-nil (λ at. at < length m.expressions); reads = λ u g. by_row rule.ExpressionList t.CloseParen close refl refl nothing }

pub lists_some : (mid new : Tables) (place : ℕ) (empty one now : List ℕ) (from at to : List Lexeme) → (terminal_ahead from ≡ t.CloseParen → ⊥) → Holds (part rule.Expression) [] mid place from at → Grown mid new → empty ≡ [] → one ≡ empty ++ place ∷ [] → Lists (part rule.MoreExpressions) [] more_signs new one now at to → Lists (part rule.ExpressionList) [] list_signs new [] now from to
lists_some mid new place empty one now from at to some h grown none_ first l = record {
  places = place ∷ l.places;
  is = l.is ∙ ap (λ x. x ++ l.places) (first ∙ ap (λ x. x ++ place ∷ []) none_);
  within = All-cons (λ at. at < length new.expressions) place l.places (omega (arith, h.within, longer grown)) l.within;
  reads = λ u g. by_test rule.ExpressionList (λ a. not (is_close a)) 0 refl refl (not_close (terminal_ahead from) some) (follow (before (part rule.MoreExpressions) (h.reads u (grown_then grown g))) (l.reads u g));
}

pub lists_within : (b a : Symbols) (spelled : ExpressionTrees → List Sign) (m : Tables) (now seen : List ℕ) (from to : List Lexeme) → seen ≡ now → Lists b a spelled m [] now from to → AllWithin m seen
lists_within b a spelled m now seen from to e l = subst (AllWithin m) (sym (e ∙ l.is)) l.within

pub row_holds : (b : Symbols) (spelled : ExpressionTrees → List Sign) (mid new : Tables) (row : Row) (now seen : List ℕ) (from at to : List Lexeme) → seen ≡ now → Lists b [] spelled mid [] now from at → to ≡ drop 1 at → Grown mid new → IsRow new row seen → HoldsRow (b ++ token t.CloseParen) spelled new row from to
row_holds b spelled mid new row now seen from at to same l e grown r = record {
  lower = r.lower;
  reads = λ u g. of_signs (ap (λ ts. spelled ts ⧺ word t.CloseParen) (r.trees u g ∙ ap (trees_at u) (same ∙ l.is))) (follow (before (token t.CloseParen) (l.reads u (grown_then grown g))) (took t.CloseParen [] e));
}

pub lists_from : (b a : Symbols) (spelled : ExpressionTrees → List Sign) (m : Tables) (old now : List ℕ) (from to : List Lexeme) → old ≡ [] → Lists b a spelled m old now from to → Lists b a spelled m [] now from to
lists_from b a spelled m old now from to e l = subst (λ x. Lists b a spelled m x now from to) e l
