-- Whatever words spell an expression are those of the grammar: an expression, a member, or a list of expressions.
use Rattle.std.proofs.Common.{ℕ, zero, suc, true, false, List, [], ◌∷◌, refl}
use Rattle.widl_value.specs.declared.number.Number.{Number}
use Rattle.widl_value.specs.declared.number.Number.TheVariants.{NaN, PosInf, NegInf, Whole}
use Rattle.widl_lines.specs.declared.grammar.Rule.{Rule}
use Rattle.widl_lines.specs.declared.grammar.Rule.TheVariants as rule
use Rattle.widl_lines.specs.declared.grammar.Terminal.TheVariants as terminal
use Rattle.widl_script_tree.specs.Trees.{Text, ExpressionTree, UndefinedT, NullT, ThisT, NewSymbolT, NewObjectT, BoolT, NumberT, TextT, NameT, SymbolT, ObjectOfT, NewArrayT, MemberT, IndexT, CallT, NewT, CallWithT, ExpressionTrees, none, more, MemberTree, NamedT, ComputedT}
use Rattle.widl_script_words.specs.Signs.{Sign, OfAnyName, ◌⧺◌, word}
use Rattle.widl_script_words.specs.SpelledExpressions.{symbol_signs, number_signs, signs, list_signs, more_signs, member_signs}
use Rattle.widl_script_laws.proofs.Giving.{Gives, part_at, inside, nothing, nowhere, took, part, in_row, last, regroup}
use Rattle.widl_script_laws.proofs.Words.{word_at, name_at, any_name_at, whole_at, text_at}

-- 1. What stands behind a primary

-- what an expression is read as: one of any form, or one that ends in a member
data Kind : Type 0 where
  Any Member : Kind

abbrev rule_of : Kind → Rule
rule_of Any = rule.Expression
rule_of Member = rule.Member

-- the signs may end it, behind its primary or further on
abbrev Ends : Kind → ℕ → List Sign → Type 0
Ends Any v y = Gives (part_at rule.Postfix v) y
Ends Member v y = Gives (part_at rule.MemberTail v) y × Gives (part_at rule.MemberRest v) y

begun : (kind : Kind) (v : ℕ) {x : List Sign} (y : List Sign) → Gives (part_at rule.Primary v) x → Ends kind v y → Gives (part_at (rule_of kind) v) (x ⧺ y)
begun Any v y f g = in_row rule.Expression v 0 refl (part f g)
begun Member v y f g = in_row rule.Member v 0 refl (part f g.0)

tail_named : (v : ℕ) (text : Text) {y : List Sign} → Gives (part_at rule.MemberRest v) y → Ends Member v (word terminal.Dot ⧺ OfAnyName text ∷ y)
tail_named v text g = (in_row rule.MemberTail v 0 refl (took (part (any_name_at v text) g)), in_row rule.MemberRest v 0 refl (took (part (any_name_at v text) g)))

tail_keyed : (v : ℕ) {x y : List Sign} → Gives (part_at rule.Index v) x → Gives (part_at rule.MemberRest v) y → Ends Member v (x ⧺ y)
tail_keyed v f g = (in_row rule.MemberTail v 1 refl (part f g), in_row rule.MemberRest v 1 refl (part f g))

named : (kind : Kind) (v : ℕ) (text : Text) (y : List Sign) → Ends kind v y → Ends kind v (word terminal.Dot ⧺ OfAnyName text ∷ y)
named Any v text y g = in_row rule.Postfix v 0 refl (took (part (any_name_at v text) g))
named Member v text y g = tail_named v text g.1

keyed : (kind : Kind) (v : ℕ) {x : List Sign} (y : List Sign) → Gives (part_at rule.Index v) x → Ends kind v y → Ends kind v (x ⧺ y)
keyed Any v y f g = in_row rule.Postfix v 1 refl (part f g)
keyed Member v y f g = tail_keyed v f g.1

called : (kind : Kind) (v : ℕ) {x : List Sign} (y : List Sign) → Gives (part_at rule.Arguments v) x → Ends kind v y → Ends kind v (x ⧺ y)
called Any v y f g = in_row rule.Postfix v 2 refl (part f g)
called Member v y f g = (in_row rule.MemberTail v 2 refl (part f g.0), in_row rule.MemberRest v 2 refl (part f g.0))

-- 2. Brackets

index : (v : ℕ) {x : List Sign} → Gives (part_at rule.Expression (inside v)) x → Gives (part_at rule.Index v) (word terminal.OpenBracket ⧺ x ⧺ word terminal.CloseBracket)
index v f = in_row rule.Index v 0 refl (took (part f (took nothing)))

arguments : (v : ℕ) {x : List Sign} → Gives (part_at rule.ExpressionList (inside v)) x → Gives (part_at rule.Arguments v) (word terminal.OpenParen ⧺ x ⧺ word terminal.CloseParen)
arguments v f = in_row rule.Arguments v 0 refl (took (part f (took nothing)))

object : (v : ℕ) {x : List Sign} → Gives (part_at rule.MaybeExpression (inside v)) x → Gives (part_at rule.Primary v) (word terminal.Object ⧺ word terminal.OpenParen ⧺ x ⧺ word terminal.CloseParen)
object v f = in_row rule.Primary v 10 refl (took (in_row rule.ObjectArguments v 0 refl (took (part f (took nothing)))))

made : (v : ℕ) (x y : List Sign) → Gives (part_at rule.Expression (inside v)) x → Gives (part_at rule.MoreExpressions (inside v)) y →
    Gives (part_at rule.Primary v) (word terminal.New ⧺ word terminal.OpenParen ⧺ (x ⧺ y) ⧺ word terminal.CloseParen)
made v x y f g = in_row rule.Primary v 13 refl (took (in_row rule.NewArguments v 0 refl (took (regroup x y (word terminal.CloseParen) (part f (part g (took nothing)))))))

called_with : (v : ℕ) (x y z : List Sign) → Gives (part_at rule.Expression (inside v)) x → Gives (part_at rule.Expression (inside v)) y → Gives (part_at rule.MoreExpressions (inside v)) z →
    Gives (part_at rule.Primary v) (word terminal.Call ⧺ word terminal.OpenParen ⧺ (x ⧺ word terminal.Comma ⧺ y ⧺ z) ⧺ word terminal.CloseParen)
called_with v x y z f g h =
    let close = word terminal.CloseParen in
    let behind = regroup y z close (part g (part h (took nothing))) in
    in_row rule.Primary v 12 refl (took (in_row rule.CallArguments v 0 refl (took (regroup x (word terminal.Comma ⧺ y ⧺ z) close (part f (took behind))))))

-- 3. Expressions

number : (v : ℕ) (n : Number) → Gives (part_at rule.Primary v) (number_signs n)
number v NaN = word_at rule.Primary v terminal.Nan refl
number v PosInf = word_at rule.Primary v terminal.Infinity refl
number v NegInf = word_at rule.Primary v terminal.MinusInfinity refl
number v (Whole n) = in_row rule.Primary v 0 refl (whole_at v n)

symbol : (v k : ℕ) → Gives (part_at rule.Primary v) (symbol_signs k)
symbol v zero = word_at rule.Primary v terminal.IteratorSymbol refl
symbol v (suc zero) = word_at rule.Primary v terminal.ToPrimitiveSymbol refl
symbol v (suc (suc zero)) = word_at rule.Primary v terminal.ToStringTagSymbol refl
symbol v (suc (suc (suc k))) = nowhere

listed : (v : ℕ) {x y : List Sign} → Gives (part_at rule.Expression v) x → Gives (part_at rule.MoreExpressions v) y → Gives (part_at rule.ExpressionList v) (x ⧺ y)
listed v f g = in_row rule.ExpressionList v 0 refl (part f g)

further : (v : ℕ) {x y : List Sign} → Gives (part_at rule.Expression v) x → Gives (part_at rule.MoreExpressions v) y → Gives (part_at rule.MoreExpressions v) (word terminal.Comma ⧺ x ⧺ y)
further v f g = in_row rule.MoreExpressions v 0 refl (took (part f g))

ended : (v : ℕ) → Gives (part_at rule.Postfix v) []
ended v = in_row rule.Postfix v 3 refl nothing

mutual
  -- the words of the expression and those of an end behind it
  spelled : (kind : Kind) (v : ℕ) (t : ExpressionTree) (y : List Sign) → Ends kind v y → Gives (part_at (rule_of kind) v) (signs t ⧺ y)
  spelled kind v UndefinedT y g = begun kind v y (word_at rule.Primary v terminal.Undefined refl) g
  spelled kind v NullT y g = begun kind v y (word_at rule.Primary v terminal.Null refl) g
  spelled kind v ThisT y g = begun kind v y (word_at rule.Primary v terminal.This refl) g
  spelled kind v NewSymbolT y g = begun kind v y (in_row rule.Primary v 9 refl (took (in_row rule.NoArguments v 0 refl (took (took nothing))))) g
  spelled kind v NewObjectT y g = begun kind v y (object v (in_row rule.MaybeExpression (inside v) 1 refl nothing)) g
  spelled kind v (BoolT true) y g = begun kind v y (word_at rule.Primary v terminal.True refl) g
  spelled kind v (BoolT false) y g = begun kind v y (word_at rule.Primary v terminal.False refl) g
  spelled kind v (NumberT n) y g = begun kind v y (number v n) g
  spelled kind v (TextT units) y g = begun kind v y (in_row rule.Primary v 0 refl (text_at v units)) g
  spelled kind v (NameT text) y g = begun kind v y (in_row rule.Primary v 5 refl (name_at v text)) g
  spelled kind v (SymbolT k) y g = begun kind v y (symbol v k) g
  spelled kind v (ObjectOfT t) y g = begun kind v y (object v (in_row rule.MaybeExpression (inside v) 0 refl (last (signs t) (spelled Any (inside v) t [] (ended (inside v)))))) g
  spelled kind v (NewArrayT ts) y g = begun kind v y (in_row rule.Primary v 11 refl (took (arguments v (list (inside v) ts)))) g
  spelled kind v (MemberT t text) y g = regroup (signs t) (word terminal.Dot ⧺ OfAnyName text ∷ []) y (spelled kind v t _ (named kind v text y g))
  spelled kind v (IndexT t key) y g = regroup (signs t) (word terminal.OpenBracket ⧺ signs key ⧺ word terminal.CloseBracket) y (spelled kind v t _ (keyed kind v y (index v (last (signs key) (spelled Any (inside v) key [] (ended (inside v))))) g))
  spelled kind v (CallT t ts) y g = regroup (signs t) (word terminal.OpenParen ⧺ list_signs ts ⧺ word terminal.CloseParen) y (spelled kind v t _ (called kind v y (arguments v (list (inside v) ts)) g))
  spelled kind v (NewT t ts) y g = begun kind v y (made v (signs t) (more_signs ts) (last (signs t) (spelled Any (inside v) t [] (ended (inside v)))) (rest (inside v) ts)) g
  spelled kind v (CallWithT f t ts) y g = begun kind v y (called_with v (signs f) (signs t) (more_signs ts) (last (signs f) (spelled Any (inside v) f [] (ended (inside v)))) (last (signs t) (spelled Any (inside v) t [] (ended (inside v)))) (rest (inside v) ts)) g

  list : (v : ℕ) (ts : ExpressionTrees) → Gives (part_at rule.ExpressionList v) (list_signs ts)
  list v none = in_row rule.ExpressionList v 1 refl nothing
  list v (more t ts) = listed v (last (signs t) (spelled Any v t [] (ended v))) (rest v ts)

  rest : (v : ℕ) (ts : ExpressionTrees) → Gives (part_at rule.MoreExpressions v) (more_signs ts)
  rest v none = in_row rule.MoreExpressions v 1 refl nothing
  rest v (more t ts) = further v (last (signs t) (spelled Any v t [] (ended v))) (rest v ts)

pub expression : (v : ℕ) (t : ExpressionTree) → Gives (part_at rule.Expression v) (signs t)
expression v t = last (signs t) (spelled Any v t [] (ended v))

-- 4. Members

rest_ends : (v : ℕ) → Gives (part_at rule.MemberRest v) []
rest_ends v = in_row rule.MemberRest v 3 refl nothing

-- a member that ends in a key
key_ends : (v : ℕ) (x : List Sign) → Gives (part_at rule.Index v) x → Ends Member v x
key_ends v x f = let g = tail_keyed v f (rest_ends v) in (last x g.0, last x g.1)

pub member : (v : ℕ) (m : MemberTree) → Gives (part_at rule.Member v) (member_signs m)
member v (NamedT t text) = spelled Member v t _ (tail_named v text (rest_ends v))
member v (ComputedT t key) = spelled Member v t _ (key_ends v _ (index v (expression (inside v) key)))
