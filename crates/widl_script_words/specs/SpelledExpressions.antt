-- How expressions are spelled.
-- Source: this program's own.
use Rattle.std.specs.Prelude.{ℕ, zero, suc, List, [], ◌∷◌, true, false}
use Rattle.widl_value.specs.declared.number.Number.{Number}
use Rattle.widl_value.specs.declared.number.Number.TheVariants.{NaN, PosInf, NegInf, Whole}
use Rattle.widl_lines.specs.declared.grammar.Terminal.TheVariants as terminal
use Rattle.widl_script_tree.specs.Trees.{ExpressionTree, UndefinedT, NullT, ThisT, NewSymbolT, NewObjectT, BoolT, NumberT, TextT, NameT, SymbolT, ObjectOfT, NewArrayT, MemberT, IndexT, CallT, NewT, CallWithT, ExpressionTrees, none, more, MemberTree, whole_member}
use Rattle.widl_script_words.specs.Signs.{Sign, OfAnyName, OfNumber, OfUnits, Nowhere, ◌⧺◌, word, name}

-- `@iterator`, `@toPrimitive`, `@toStringTag`; no other symbol has a word
abbrev pub symbol_signs : ℕ → List Sign
symbol_signs zero = word terminal.IteratorSymbol
symbol_signs (suc zero) = word terminal.ToPrimitiveSymbol
symbol_signs (suc (suc zero)) = word terminal.ToStringTagSymbol
symbol_signs (suc (suc (suc k))) = Nowhere ∷ []

abbrev pub number_signs : Number → List Sign
number_signs NaN = word terminal.Nan
number_signs PosInf = word terminal.Infinity
number_signs NegInf = word terminal.MinusInfinity
number_signs (Whole n) = OfNumber (Whole n) ∷ []

abbrev mutual
  -- a primary, or an expression with a member or a call behind it
  pub signs : ExpressionTree → List Sign
  signs UndefinedT = word terminal.Undefined
  signs NullT = word terminal.Null
  signs ThisT = word terminal.This
  signs NewSymbolT = word terminal.Symbol ⧺ word terminal.OpenParen ⧺ word terminal.CloseParen
  signs NewObjectT = word terminal.Object ⧺ word terminal.OpenParen ⧺ word terminal.CloseParen
  signs (BoolT true) = word terminal.True
  signs (BoolT false) = word terminal.False
  signs (NumberT n) = number_signs n
  signs (TextT units) = OfUnits units ∷ []
  signs (NameT text) = name text
  signs (SymbolT k) = symbol_signs k
  signs (ObjectOfT t) = word terminal.Object ⧺ word terminal.OpenParen ⧺ signs t ⧺ word terminal.CloseParen
  signs (NewArrayT ts) = word terminal.Array ⧺ word terminal.OpenParen ⧺ list_signs ts ⧺ word terminal.CloseParen
  signs (MemberT t text) = signs t ⧺ word terminal.Dot ⧺ OfAnyName text ∷ []
  signs (IndexT t key) = signs t ⧺ word terminal.OpenBracket ⧺ signs key ⧺ word terminal.CloseBracket
  signs (CallT t ts) = signs t ⧺ word terminal.OpenParen ⧺ list_signs ts ⧺ word terminal.CloseParen
  signs (NewT t ts) = word terminal.New ⧺ word terminal.OpenParen ⧺ (signs t ⧺ more_signs ts) ⧺ word terminal.CloseParen
  signs (CallWithT f t ts) = word terminal.Call ⧺ word terminal.OpenParen ⧺ (signs f ⧺ word terminal.Comma ⧺ signs t ⧺ more_signs ts) ⧺ word terminal.CloseParen

  -- a list with commas between
  pub list_signs : ExpressionTrees → List Sign
  list_signs none = []
  list_signs (more t ts) = signs t ⧺ more_signs ts

  -- a list with a comma before each
  pub more_signs : ExpressionTrees → List Sign
  more_signs none = []
  more_signs (more t ts) = word terminal.Comma ⧺ signs t ⧺ more_signs ts

abbrev pub member_signs : MemberTree → List Sign
member_signs m = signs (whole_member m)
