-- For proofs alone. The machine undoes the spelling of expressions.
use Rattle.std.proofs.Common.{◌≡◌, ℕ, zero, suc, Bool, true, false, Option, Some, None, List, [], ◌∷◌, ◌++◌, refl, sym, ◌∙◌, ap, subst, append_assoc, if◌then◌else◌}
use Rattle.widl_value.specs.declared.number.Number.{Number}
use Rattle.widl_value.specs.declared.number.Number.TheVariants.{NaN, PosInf, NegInf, Whole}
use Rattle.widl_lines.specs.declared.grammar.Terminal.{Terminal}
use Rattle.widl_lines.specs.declared.grammar.Terminal.TheVariants as terminal
use Rattle.widl_lines.specs.Words.{Lexeme}
use Rattle.widl_script_tree.specs.Trees.{Text, ExpressionTree, ExpressionTrees, none, more, UndefinedT, NullT, ThisT, NewSymbolT, NewObjectT, BoolT, NumberT, TextT, NameT, SymbolT, ObjectOfT, NewArrayT, MemberT, IndexT, CallT, NewT, CallWithT}
use Rattle.widl_script_words.specs.Words.{is_name, is_whole, number_of, units_in}
use Rattle.widl_script_words.specs.Signs.{Sign, Is, OfName, OfAnyName, OfNumber, OfUnits, Nowhere, Stands, Spells, SpellsLine, ◌⧺◌, word, name}
use Rattle.widl_script_words.specs.SpelledExpressions.{signs, list_signs, more_signs, symbol_signs, number_signs}
use Rattle.widl_script_words.specs.OneTree.{EachExpressionIsOne}
use Rattle.widl_script_words.proofs.Undoing.{Group, Call, NewArray, NewSymbol, NewObject, CallWith, New, closed, Frame, InIndex, InItems, State, Operand, After, Dotted, Opening, onto, operand_of, operand, step_by, run}

-- words of these signs lead from one state to another
pub record Goes (s t : State) (x : List Sign) : Type 0 where
  pub goes : (from to : List Lexeme) → Spells x from to → run s from ≡ run t to

pub stay : {s : State} → Goes s s []
stay {s} = record { goes = λ from to e. ap (run s) e }

pub spells_split : (x y : List Sign) (from to : List Lexeme) → Spells (x ++ y) from to → (mid : List Lexeme) × Spells x from mid × Spells y mid to
spells_split [] y from to h = (from, refl, h)
spells_split (a ∷ x) y from to h = let r = spells_split x y h.1 to h.4 in (r.0, (h.0, h.1, h.2, h.3, r.1), r.2)

pub onward : {s t u : State} {x y : List Sign} → Goes s t x → Goes t u y → Goes s u (x ++ y)
onward {s} {t} {u} {x} {y} f g = record { goes = λ from to h. let r = spells_split x y from to h in f.goes from r.0 r.1 ∙ g.goes r.0 to r.2 }

pub one : {s t : State} (a : Sign) → ((w : Lexeme) → Stands a w → step_by s w ≡ t) → Goes s t (a ∷ [])
one {s} {t} a f = record { goes = λ from to h. ap (run s) h.2 ∙ ap (λ x. run x h.1) (f h.0 h.3) ∙ ap (run t) h.4 }

-- a word by its terminal
pub by : {s t : State} (a : Terminal) → ((w : Lexeme) → step_by s (record w { terminal = a }) ≡ t) → Goes s t (word a)
by {s} {t} a f = one (Is a) (λ w e. subst (λ x. step_by s (record w { terminal = x }) ≡ t) (sym e) (f w))

name_operand : (text : Text) (stack : List Frame) → Goes (Operand stack) (After (NameT text) stack) (name text)
name_operand text stack = one (OfName text) (λ w e. ap (λ b. if b then After (NameT w.text) stack else (if is_whole w.terminal then After (NumberT (number_of w)) stack else operand_of w.terminal w stack)) e.0 ∙ ap (λ x. After (NameT x) stack) e.1)

no_name : (t : Terminal) → is_whole t ≡ true → is_name t ≡ false
no_name terminal.Natural e = refl
no_name terminal.Negative e = refl
no_name _ e = cc

whole_operand : (n : Number) (stack : List Frame) → Goes (Operand stack) (After (NumberT n) stack) (OfNumber n ∷ [])
whole_operand n stack = one (OfNumber n) (λ w e. ap (λ b. if b then After (NameT w.text) stack else (if is_whole w.terminal then After (NumberT (number_of w)) stack else operand_of w.terminal w stack)) (no_name w.terminal e.0) ∙ ap (λ b. if b then After (NumberT (number_of w)) stack else operand_of w.terminal w stack) e.0 ∙ ap (λ x. After (NumberT x) stack) e.1)

text_operand : (units : List ℕ) (stack : List Frame) → Goes (Operand stack) (After (TextT units) stack) (OfUnits units ∷ [])
text_operand units stack = one (OfUnits units) (λ w e. ap (λ t. if is_name t then After (NameT w.text) stack else (if is_whole t then After (NumberT (number_of w)) stack else operand_of t w stack)) e.0 ∙ ap (λ x. After (TextT x) stack) e.1)

dotted : (text : Text) (t : ExpressionTree) (stack : List Frame) → Goes (Dotted t stack) (After (MemberT t text) stack) (OfAnyName text ∷ [])
dotted text t stack = one (OfAnyName text) (λ w e. ap (λ x. After (MemberT t x) stack) e.1)

symbol : (k : ℕ) (stack : List Frame) → Goes (Operand stack) (After (SymbolT k) stack) (symbol_signs k)
symbol zero stack = by terminal.IteratorSymbol (λ w. refl)
symbol (suc zero) stack = by terminal.ToPrimitiveSymbol (λ w. refl)
symbol (suc (suc zero)) stack = by terminal.ToStringTagSymbol (λ w. refl)
symbol (suc (suc (suc k))) stack = one Nowhere (λ w e. absurd e)

number : (n : Number) (stack : List Frame) → Goes (Operand stack) (After (NumberT n) stack) (number_signs n)
number (Whole n) stack = whole_operand (Whole n) stack
number NaN stack = by terminal.Nan (λ w. refl)
number PosInf stack = by terminal.Infinity (λ w. refl)
number NegInf stack = by terminal.MinusInfinity (λ w. refl)

pub again : {s t : State} {x y : List Sign} → y ≡ x → Goes s t x → Goes s t y
again {s} {t} e f = subst (Goes s t) (sym e) f

-- an item, and the others with what closes them
pub item : {s t u : State} {x : List Sign} (y z : List Sign) → Goes s t x → Goes t u (y ⧺ z) → Goes s u ((x ⧺ y) ⧺ z)
item {x} y z f g = again (append_assoc x y z) (onward f g)

opening : (g : Group) (stack : List Frame) → Goes (Opening g stack) (Operand (InItems g none ∷ stack)) (word terminal.OpenParen)
opening g stack = by terminal.OpenParen (λ w. refl)

mutual
  pub reads : (t : ExpressionTree) (stack : List Frame) → Goes (Operand stack) (After t stack) (signs t)
  reads UndefinedT stack = by terminal.Undefined (λ w. refl)
  reads NullT stack = by terminal.Null (λ w. refl)
  reads ThisT stack = by terminal.This (λ w. refl)
  reads NewSymbolT stack = onward (by terminal.Symbol (λ w. refl)) (onward (opening NewSymbol stack) (by terminal.CloseParen (λ w. refl)))
  reads NewObjectT stack = onward (by terminal.Object (λ w. refl)) (onward (opening NewObject stack) (by terminal.CloseParen (λ w. refl)))
  reads (BoolT true) stack = by terminal.True (λ w. refl)
  reads (BoolT false) stack = by terminal.False (λ w. refl)
  reads (NumberT n) stack = number n stack
  reads (TextT units) stack = text_operand units stack
  reads (NameT text) stack = name_operand text stack
  reads (SymbolT k) stack = symbol k stack
  reads (ObjectOfT t) stack = onward (by terminal.Object (λ w. refl)) (onward (opening NewObject stack) (onward (reads t _) (by terminal.CloseParen (λ w. refl))))
  reads (NewArrayT ts) stack = onward (by terminal.Array (λ w. refl)) (onward (opening NewArray stack) (reads_list ts NewArray stack))
  reads (MemberT t text) stack = onward (reads t stack) (onward (by terminal.Dot (λ w. refl)) (dotted text t stack))
  reads (IndexT t key) stack = onward (reads t stack) (onward (by terminal.OpenBracket (λ w. refl)) (onward (reads key _) (by terminal.CloseBracket (λ w. refl))))
  reads (CallT t ts) stack = onward (reads t stack) (onward (by terminal.OpenParen (λ w. refl)) (reads_list ts (Call t) stack))
  reads (NewT t ts) stack = onward (by terminal.New (λ w. refl)) (onward (opening New stack) (item (more_signs ts) (word terminal.CloseParen) (reads t _) (reads_more ts t none New stack)))
  reads (CallWithT f t ts) stack = onward (by terminal.Call (λ w. refl)) (onward (opening CallWith stack) (item (word terminal.Comma ⧺ signs t ⧺ more_signs ts) (word terminal.CloseParen) (reads f _) (onward (by terminal.Comma (λ w. refl)) (item (more_signs ts) (word terminal.CloseParen) (reads t _) (reads_more ts t (more f none) CallWith stack)))))

  reads_list : (ts : ExpressionTrees) (g : Group) (stack : List Frame) → Goes (Operand (InItems g none ∷ stack)) (After (closed g ts) stack) (list_signs ts ⧺ word terminal.CloseParen)
  reads_list none g stack = by terminal.CloseParen (λ w. refl)
  reads_list (more t ts) g stack = item (more_signs ts) (word terminal.CloseParen) (reads t _) (reads_more ts t none g stack)

  reads_more : (ts : ExpressionTrees) (t : ExpressionTree) (rev : ExpressionTrees) (g : Group) (stack : List Frame) → Goes (After t (InItems g rev ∷ stack)) (After (closed g (onto rev (more t ts))) stack) (more_signs ts ⧺ word terminal.CloseParen)
  reads_more none t rev g stack = by terminal.CloseParen (λ w. refl)
  reads_more (more u ts) t rev g stack = onward (by terminal.Comma (λ w. refl)) (item (more_signs ts) (word terminal.CloseParen) (reads u _) (reads_more ts u (more t rev) g stack))

same_tree : (a b : ExpressionTree) (stack : List Frame) → After a stack ≡ After b stack → a ≡ b
same_tree a b stack e = cc

pub each_expression : EachExpressionIsOne
each_expression a b words h k = same_tree a b [] (sym ((reads a []).goes words [] h) ∙ (reads b []).goes words [] k)
