-- Lists that are read item by item.
use Rattle.std.proofs.Common.{length, arith, ◌+◌, ◌<◌, ◌≤◌, ◌≡◌, ℕ, Bool, true, false, Some, None, List, [], ◌∷◌, ◌++◌, refl, sym, ◌∙◌, ap, subst, append_assoc}
use Rattle.std.specs.Prelude.{map}
use Rattle.widl_lex.specs.Tokens.{Lexeme}
use Rattle.widl_predictive.specs.declared.grammar.Symbol.{Symbol as RowSymbol}
use Rattle.widl_predictive.specs.Derivation.{Nonterminal}
use Rattle.widl_predictive.specs.Lookahead.{choice, nth}
use Rattle.widl_predictive.specs.Predictive.{ahead}
use Rattle.widl_predictive.specs.Runs.{plain}
use Rattle.widl_grammar.specs.declared.rule.Rule.{Rule}
use Rattle.widl_grammar.specs.declared.terminal.Terminal.{Terminal}
use Rattle.widl_grammar.specs.Rows.{grammar, rows_of}
use Rattle.widl_grammar.specs.Tables.{sets, picked}
use Rattle.widl_grammar.specs.Terminals.{all_terminals}
use Rattle.widl_grammar.specs.Source.{terminal_of}
use Rattle.widl_syntax.specs.Signs.{Sign, UnparsesTo, Text, AreTexts, AtPlace, OfTerminal, OfBytes, OfText, OfPart, Nowhere, all_signs, after, separated}
use Rattle.widl_syntax.specs.Reading.{Symbols, Runs, RunsOf, Reads, Appends, part, terminal_ahead}
use Rattle.widl_syntax.proofs.Reading.{part_first, ahead_is, that_row, rest_picks, spells_append, and_then, is_rest, is_among, is_other, is_row_or_none, pass_all, passes}

-- signs that stand for a token at least
abbrev pub has_token : List Sign → Bool
has_token [] = false
has_token (AtPlace place ∷ more) = has_token more
has_token (OfTerminal t ∷ more) = true
has_token (OfBytes t bytes ∷ more) = true
has_token (OfText test bytes ∷ more) = true
has_token (OfPart rule texts ∷ more) = has_token more
has_token (Nowhere ∷ more) = true

pub token_in_first : (x y : List Sign) → has_token x ≡ true → has_token (x ++ y) ≡ true
token_in_first [] y h = cc
token_in_first (AtPlace place ∷ x) y h = token_in_first x y h
token_in_first (OfTerminal t ∷ x) y h = refl
token_in_first (OfBytes t bytes ∷ x) y h = refl
token_in_first (OfText test bytes ∷ x) y h = refl
token_in_first (OfPart rule texts ∷ x) y h = token_in_first x y h
token_in_first (Nowhere ∷ x) y h = refl

pub token_in_rest : (x y : List Sign) → has_token y ≡ true → has_token (x ++ y) ≡ true
token_in_rest [] y h = h
token_in_rest (AtPlace place ∷ x) y h = token_in_rest x y h
token_in_rest (OfTerminal t ∷ x) y h = refl
token_in_rest (OfBytes t bytes ∷ x) y h = refl
token_in_rest (OfText test bytes ∷ x) y h = refl
token_in_rest (OfPart rule texts ∷ x) y h = token_in_rest x y h
token_in_rest (Nowhere ∷ x) y h = refl

pub texts_left : (ts : List Text) (w v : List Lexeme) → AreTexts ts w v → length v ≤ length w
texts_left [] w v s = let e : length w ≡ length v = ap length s in omega arith
texts_left (t ∷ ts) w v s = let e : length w ≡ length (s.0 ∷ s.1) = ap length s.2 in let le = texts_left ts s.1 v s.5 in omega arith

-- no more tokens are left after signs than before them
pub no_more_left : (x : List Sign) (w v : List Lexeme) → UnparsesTo x w v → length v ≤ length w
no_more_left [] w v s = let e : length w ≡ length v = ap length s in omega arith
no_more_left (AtPlace place ∷ x) w v s = let e : length s.0 ≡ length w = ap length s.1.4 in let le = no_more_left x s.0 v s.2 in omega arith
no_more_left (OfTerminal t ∷ x) w v s = let e : length w ≡ length (s.1.0 ∷ s.0) = ap length s.1.1 in let le = no_more_left x s.0 v s.2 in omega arith
no_more_left (OfBytes t bytes ∷ x) w v s = let e : length w ≡ length (s.1.0 ∷ s.0) = ap length s.1.1 in let le = no_more_left x s.0 v s.2 in omega arith
no_more_left (OfText test bytes ∷ x) w v s = let e : length w ≡ length (s.1.0 ∷ s.0) = ap length s.1.1 in let le = no_more_left x s.0 v s.2 in omega arith
no_more_left (OfPart rule texts ∷ x) w v s = let part_le = texts_left texts w s.0 s.1.0 in let le = no_more_left x s.0 v s.2 in omega arith
no_more_left (Nowhere ∷ x) w v s = absurd s.1

pub fewer_left : (x : List Sign) (w v : List Lexeme) → has_token x ≡ true → UnparsesTo x w v → length v < length w
fewer_left [] w v h s = cc
fewer_left (AtPlace place ∷ x) w v h s = let e : length s.0 ≡ length w = ap length s.1.4 in let le = fewer_left x s.0 v h s.2 in omega arith
fewer_left (OfTerminal t ∷ x) w v h s = let e : length w ≡ length (s.1.0 ∷ s.0) = ap length s.1.1 in let le = no_more_left x s.0 v s.2 in omega arith
fewer_left (OfBytes t bytes ∷ x) w v h s = let e : length w ≡ length (s.1.0 ∷ s.0) = ap length s.1.1 in let le = no_more_left x s.0 v s.2 in omega arith
fewer_left (OfText test bytes ∷ x) w v h s = let e : length w ≡ length (s.1.0 ∷ s.0) = ap length s.1.1 in let le = no_more_left x s.0 v s.2 in omega arith
fewer_left (OfPart rule texts ∷ x) w v h s = let part_le = texts_left texts w s.0 s.1.0 in let le = fewer_left x s.0 v h s.2 in omega arith
fewer_left (Nowhere ∷ x) w v h s = absurd s.1

-- the signs of lists one after the other, and of one item more
pub all_signs_append : {X : Type 0} (one : X → List Sign) (xs ys : List X) → all_signs one (xs ++ ys) ≡ all_signs one xs ++ all_signs one ys
all_signs_append one [] ys = refl
all_signs_append one (x ∷ xs) ys = ap (λ signs. one x ++ signs) (all_signs_append one xs ys) ∙ sym (append_assoc (one x) (all_signs one xs) (all_signs one ys))

pub append_none : {X : Type 0} (xs : List X) → xs ++ [] ≡ xs
append_none [] = refl
append_none (x ∷ xs) = ap (λ more. x ∷ more) (append_none xs)

pub all_signs_more : {X : Type 0} (one : X → List Sign) (xs : List X) (x : X) → all_signs one (xs ++ x ∷ []) ≡ all_signs one xs ++ one x
all_signs_more one xs x = all_signs_append one xs (x ∷ []) ∙ ap (λ signs. all_signs one xs ++ signs) (append_none (one x))

-- the rule's row is these symbols and then the rule again
pub record Repeats (rule : Rule) (symbols : Symbols) (now : List Lexeme) : Type 0 where
  pub repeats : (others : Symbols) → Runs (Nonterminal rule ∷ others) now → Runs (symbols ++ (Nonterminal rule ∷ others)) now

again : (rule : Rule) (α : List (RowSymbol Terminal Rule)) {symbols : Symbols} {now : List Lexeme} → plain α ≡ symbols ++ part rule → ((others : Symbols) → Runs (Nonterminal rule ∷ others) now → Runs (plain α ++ others) now) → Repeats rule symbols now
again rule α {symbols} {now} e f = record {
  repeats = λ others r. subst (λ s. Runs s now) (ap (λ s. s ++ others) e ∙ append_assoc symbols (part rule) others) (f others r);
}

-- what is to be read after the row that the terminal ahead tells
pub runs_at : (rule : Rule) (t : Terminal) {α : List (RowSymbol Terminal Rule)} (others : Symbols) (now : List Lexeme) → terminal_ahead now ≡ t → is_other t ≡ false → choice grammar sets rule (Some t) ≡ Some α → Runs (Nonterminal rule ∷ others) now → Runs (plain α ++ others) now
runs_at rule t {α} others now e other c r =
    let p = part_first r in
    let row : choice grammar sets rule (ahead (map terminal_of now)) ≡ Some α = ap (choice grammar sets rule) (ahead_is t now other e) ∙ c in
    let is : p.0 ≡ α = cc in
    subst (λ s. Runs (plain s ++ others) now) is p.2

pub repeats_at : (rule : Rule) (t : Terminal) {α : List (RowSymbol Terminal Rule)} {symbols : Symbols} {now : List Lexeme} → terminal_ahead now ≡ t → is_other t ≡ false → choice grammar sets rule (Some t) ≡ Some α → plain α ≡ symbols ++ part rule → Repeats rule symbols now
repeats_at rule t {α} {symbols} {now} e other c same = again rule α same (λ others r. runs_at rule t others now e other c r)

pub repeats_after : (rule : Rule) (ends : List Terminal) (k : ℕ) {α : List (RowSymbol Terminal Rule)} {symbols : Symbols} {now : List Lexeme} → is_rest rule ends k ≡ true → nth (rows_of rule) k ≡ Some α → plain α ≡ symbols ++ part rule → is_among ends (terminal_ahead now) ≡ false → Repeats rule symbols now
repeats_after rule ends k {α} {symbols} {now} test e same differ = again rule α same (λ others r.
    let p = part_first r in
    subst (λ s. Runs (plain s ++ others) now) (that_row (rows_of rule) k (picked rule (ahead (map terminal_of now))) α p.0 (rest_picks rule ends k now test differ) e p.1) p.2)

-- each terminal picks this row or none
abbrev pub is_before_end : Rule → ℕ → Bool
is_before_end rule k = pass_all (λ t. is_row_or_none (length (rows_of rule)) k (picked rule (Some t))) all_terminals

pub repeats_before_end : (rule : Rule) (k : ℕ) {α : List (RowSymbol Terminal Rule)} {symbols : Symbols} (now : List Lexeme) → is_before_end rule k ≡ true → nth (rows_of rule) k ≡ Some α → plain α ≡ symbols ++ part rule → 0 < length now → Repeats rule symbols now
repeats_before_end rule k {α} {symbols} [] test e same some = absurd (omega arith)
repeats_before_end rule k {α} {symbols} (l ∷ now) test e same some = again rule α same (λ others r.
    let p = part_first r in
    let row = passes (λ t. is_row_or_none (length (rows_of rule)) k (picked rule (Some t))) test (terminal_of l) in
    subst (λ s. Runs (plain s ++ others) (l ∷ now)) (that_row (rows_of rule) k (picked rule (Some (terminal_of l))) α p.0 row e p.1) p.2)

-- the rule's row is empty at the end of the tokens
pub ends_here : (rule : Rule) (now : List Lexeme) → choice grammar sets rule None ≡ Some [] → length now ≡ 0 → Reads (part rule) [] now now
ends_here rule [] e none = record {
  reads = λ others r.
      let p = part_first r in
      let is : p.0 ≡ [] = cc in
      (refl, subst (λ s. RunsOf (plain s ++ others) []) is p.2);
}
ends_here rule (l ∷ now) e none = absurd (omega arith)

-- the rule's items so far stand for the tokens between two of a file, from the second on the rule is still to be read, and each turn took a token
pub record Goes {X : Type 0} (rule : Rule) (one : X → List Sign) (start now : List Lexeme) (items : List X) (turns : ℕ) : Type 0 where
  pub goes : (others : Symbols) → Runs (Nonterminal rule ∷ others) start → UnparsesTo (all_signs one items) start now × Runs (Nonterminal rule ∷ others) now × (turns + length now ≤ length start)

pub goes_none : {X : Type 0} {rule : Rule} {one : X → List Sign} {start : List Lexeme} → Goes rule one start start [] 0
goes_none = record { goes = λ others r. (refl, r, omega arith) }

-- one item more
pub goes_on : {X : Type 0} {rule : Rule} {one : X → List Sign} {start now next : List Lexeme} {items all : List X} {x : X} {turns : ℕ} {symbols : Symbols} → Goes rule one start now items turns → all ≡ items ++ x ∷ [] → Repeats rule symbols now → Reads symbols (one x) now next → has_token (one x) ≡ true → Goes rule one start next all (turns + 1)
goes_on {X} {rule} {one} {start} {now} {next} {items} {all} {x} {turns} {symbols} before is row item some = record {
  goes = λ others r.
      let g = before.goes others r in
      let i = item.reads (Nonterminal rule ∷ others) (row.repeats others g.1) in
      let fewer = fewer_left (one x) now next some i.0 in
      let le = g.2 in
      let signs : all_signs one items ++ one x ≡ all_signs one all = sym (all_signs_more one items x) ∙ ap (all_signs one) (sym is) in
      (subst (λ signs. UnparsesTo signs start next) signs (spells_append (all_signs one items) (one x) start now next g.0 i.0), i.1, omega arith);
}

-- the items, and then what the rule's last row reads
pub goes_and : {X : Type 0} {rule : Rule} {one : X → List Sign} {start now : List Lexeme} {items : List X} {turns : ℕ} {x : List Sign} {v : List Lexeme} → Goes rule one start now items turns → Reads (part rule) x now v → Reads (part rule) (all_signs one items ++ x) start v
goes_and {X} {rule} {one} {start} {now} {items} {turns} {x} {v} before rest = record {
  reads = λ others r.
      let g = before.goes others r in
      let last = rest.reads others g.1 in
      (spells_append (all_signs one items) x start now v g.0 last.0, last.1);
}

-- the items, where the rule's last row is empty
pub goes_over : {X : Type 0} {rule : Rule} {one : X → List Sign} {start now next : List Lexeme} {items : List X} {turns : ℕ} → Goes rule one start now items turns → Reads (part rule) [] now next → Reads (part rule) (all_signs one items) start next
goes_over {X} {rule} {one} {start} {now} {next} {items} {turns} before rest = record {
  reads = λ others r.
      let g = before.goes others r in
      let last = rest.reads others g.1 in
      (subst (λ v. UnparsesTo (all_signs one items) start v) last.0 g.0, last.1);
}

-- the turns are used up, so no token is left, and either the rule does not end there or its row is empty
none_left : (now : List Lexeme) (turns all : ℕ) → turns + length now ≤ all → all ≤ turns → now ≡ []
none_left [] turns all le used = refl
none_left (l ∷ now) turns all le used = absurd (omega arith)

pub goes_used_up : {X : Type 0} {rule : Rule} {one : X → List Sign} {start now : List Lexeme} {items : List X} {turns : ℕ} {x : List Sign} {v : List Lexeme} → choice grammar sets rule None ≡ None → length start ≤ turns → Goes rule one start now items turns → Reads (part rule) x start v
goes_used_up {X} {rule} {one} {start} {now} {items} {turns} none used before = record {
  reads = λ others r.
      let g = before.goes others r in
      let p = part_first (subst (Runs (Nonterminal rule ∷ others)) (none_left now turns (length start) g.2 used) g.1) in
      absurd (let bad : None ≡ Some p.0 = sym none ∙ p.1 in cc);
}

pub goes_to_end : {X : Type 0} {rule : Rule} {one : X → List Sign} {start now : List Lexeme} {items : List X} {turns : ℕ} → choice grammar sets rule None ≡ Some [] → length start ≤ turns → Goes rule one start now items turns → Reads (part rule) (all_signs one items) start now
goes_to_end {X} {rule} {one} {start} {now} {items} {turns} empty used before = record {
  reads = λ others r.
      let g = before.goes others r in
      let none = none_left now turns (length start) g.2 used in
      ((goes_over before (ends_here rule now empty (ap length none))).reads others r);
}

-- the same where the items are put after others
pub record Adds {X : Type 0} (rule : Rule) (one : X → List Sign) (start now : List Lexeme) (old items : List X) (turns : ℕ) : Type 0 where
  pub more : List X
  pub is : items ≡ old ++ more
  pub so_far : Goes rule one start now more turns

pub adds_none : {X : Type 0} {rule : Rule} {one : X → List Sign} {start : List Lexeme} {old : List X} → Adds rule one start start old old 0
adds_none {X} {rule} {one} {start} {old} = record { more = []; is = sym (append_none old); so_far = goes_none }

-- one item more, where all the items are known by an equation
pub adds_further : {X : Type 0} {rule : Rule} {one : X → List Sign} {start now next : List Lexeme} {old items all : List X} {x : X} {turns : ℕ} {symbols : Symbols} → Adds rule one start now old items turns → all ≡ items ++ x ∷ [] → Repeats rule symbols now → Reads symbols (one x) now next → has_token (one x) ≡ true → Adds rule one start next old all (turns + 1)
adds_further {old} {x} before is row item some = record {
  more = before.more ++ x ∷ [];
  is = is ∙ ap (λ items. items ++ x ∷ []) before.is ∙ append_assoc old before.more (x ∷ []);
  so_far = goes_on before.so_far refl row item some;
}

-- one item more, after the items so far
pub adds_on : {X : Type 0} {rule : Rule} {one : X → List Sign} {start now next : List Lexeme} {old items : List X} {turns : ℕ} {symbols : Symbols} (x : X) → Adds rule one start now old items turns → Repeats rule symbols now → Reads symbols (one x) now next → has_token (one x) ≡ true → Adds rule one start next old (items ++ x ∷ []) (turns + 1)
adds_on x before row item some = adds_further before refl row item some

pub adds_over : {X : Type 0} {rule : Rule} {one : X → List Sign} {start now next : List Lexeme} {old items : List X} {turns : ℕ} → Adds rule one start now old items turns → Reads (part rule) [] now next → Appends rule one old items start next
adds_over before rest = record { more = before.more; is = before.is; reads = goes_over before.so_far rest }

pub adds_used_up : {X : Type 0} {rule : Rule} {one : X → List Sign} {start now : List Lexeme} {old items : List X} {turns : ℕ} → choice grammar sets rule None ≡ None → length start ≤ turns → Adds rule one start now old items turns → Appends rule one old items start now
adds_used_up none used before = record { more = before.more; is = before.is; reads = goes_used_up none used before.so_far }

-- a first item, those after a separator, and what the last row reads more
pub separated_and : {X : Type 0} (separator : Terminal) (one : X → List Sign) {all more : List X} {first : X} {α β : Symbols} (x : List Sign) {w m v : List Lexeme} → all ≡ first ∷ more → Reads α (one first) w m → Reads β (all_signs (after separator one) more ++ x) m v → Reads (α ++ β) (separated separator one all ++ x) w v
separated_and separator one {all} {more} {first} {α} {β} x {w} {m} {v} is f g =
    let signs : one first ++ (all_signs (after separator one) more ++ x) ≡ separated separator one all ++ x = sym (append_assoc (one first) (all_signs (after separator one) more) x) ∙ ap (λ items. separated separator one items ++ x) (sym is) in
    subst (λ s. Reads (α ++ β) s w v) signs (and_then f g)
