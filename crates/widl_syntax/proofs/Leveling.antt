-- Symbols with their levels: what is read first of them, and what is read after others.
use Rattle.std.proofs.Common.{◌≡◌, ℕ, zero, suc, ◌+◌, ◌<◌, ◌≤◌, Bool, true, false, Option, Some, None, List, [], ◌∷◌, ◌++◌, length, take, drop, refl, sym, ◌∙◌, ap, subst, append_assoc, arith, inl, inr}
use Rattle.std.specs.Prelude.{map}
use Rattle.widl_lex.specs.Tokens.{Lexeme}
use Rattle.widl_predictive.specs.declared.grammar.Symbol.{Symbol as RowSymbol}
use Rattle.widl_predictive.specs.Derivation.{Symbol, Terminal as Token, Nonterminal}
use Rattle.widl_predictive.specs.Grammar as gr
use Rattle.widl_predictive.specs.Lookahead.{choice}
use Rattle.widl_predictive.specs.Predictive.{ahead}
use Rattle.widl_predictive.specs.Runs as runs
use Rattle.widl_predictive.specs.Runs.{plain, stripped}
use Rattle.widl_predictive.proofs.Inversion as inversion
use Rattle.widl_predictive.proofs.Running.{stripped-append, row_stripped}
use Rattle.widl_grammar.specs.declared.rule.Rule.{Rule}
use Rattle.widl_grammar.specs.declared.terminal.Terminal.{Terminal}
use Rattle.widl_grammar.specs.Rows.{grammar}
use Rattle.widl_grammar.specs.Tables.{sets}
use Rattle.widl_grammar.specs.Source.{terminal_of}
use Rattle.widl_syntax.specs.Deriving.{Symbols, Stack, Levels, RunsOf, Runs, AnyRuns}
use Rattle.widl_syntax.specs.Leveled.{over, taken, chosen}
use Rattle.widl_syntax.specs.Signs.{Sign, UnparsesTo}
use Rattle.widl_syntax.specs.Reading.{Reads}

-- a run by the symbol that it begins with
levels_over : {s : Stack} {w : List Terminal} → Levels s w → stripped s ≡ [] → w ≡ []
levels_over over e = refl
levels_over (taken l) e = cc
levels_over (chosen α c i l) e = cc

pub runs_over : {w : List Terminal} → RunsOf [] w → w ≡ []
runs_over r = levels_over r.2 r.1

levels_terminal : {a : Terminal} {z : Symbols} {s : Stack} {w : List Terminal} → Levels s w → stripped s ≡ Token a ∷ z → (v : List Terminal) × (w ≡ a ∷ v) × RunsOf z v
levels_terminal over e = cc
levels_terminal {a} {z} (taken {a = b} {z = rest} {w} l) e =
    let same : b ≡ a = cc in
    let tail : stripped rest ≡ z = cc in
    (w, ap (λ t. t ∷ w) same, (rest, tail, l))
levels_terminal (chosen α c i l) e = cc

pub runs_terminal : {a : Terminal} {z : Symbols} {w : List Terminal} → RunsOf (Token a ∷ z) w → (v : List Terminal) × (w ≡ a ∷ v) × RunsOf z v
runs_terminal r = levels_terminal r.2 r.1

levels_part : {rule : Rule} {z : Symbols} {s : Stack} {w : List Terminal} → Levels s w → stripped s ≡ Nonterminal rule ∷ z → (α : List (RowSymbol Terminal Rule)) × (choice grammar sets rule (ahead w) ≡ Some α) × RunsOf (plain α ++ z) w
levels_part over e = cc
levels_part (taken l) e = cc
levels_part {rule} {z} (chosen {n} {z = rest} {w} α c i l) e =
    let same : n.0 ≡ rule = cc in
    let tail : stripped rest ≡ z = cc in
    (α, subst (λ r. choice grammar sets r (ahead w) ≡ Some α) same c, (gr.row_at grammar n.1 α ++ rest, stripped-append (gr.row_at grammar n.1 α) rest ∙ ap (λ x. x ++ stripped rest) (row_stripped grammar n.1 α) ∙ ap (λ x. plain α ++ x) tail, l))

pub runs_nonterminal : {rule : Rule} {z : Symbols} {w : List Terminal} → RunsOf (Nonterminal rule ∷ z) w → (α : List (RowSymbol Terminal Rule)) × (choice grammar sets rule (ahead w) ≡ Some α) × RunsOf (plain α ++ z) w
runs_nonterminal r = levels_part r.2 r.1

pub runs_taken : {a : Terminal} {z : Symbols} {w : List Terminal} → RunsOf z w → RunsOf (Token a ∷ z) (a ∷ w)
runs_taken {a} r = (Token a ∷ r.0, ap (λ s. Token a ∷ s) r.1, taken r.2)

-- a stack of two parts
pub record Parts (s : Stack) (x z : Symbols) : Type 0 where
  pub first : Stack
  pub rest : Stack
  pub is : s ≡ first ++ rest
  pub first_is : stripped first ≡ x
  pub rest_is : stripped rest ≡ z

pub parts_of : (s : Stack) (x z : Symbols) → stripped s ≡ x ++ z → Parts s x z
parts_of s [] z e = record { first = []; rest = s; is = refl; first_is = refl; rest_is = e }
parts_of [] (y ∷ x) z e = cc
parts_of (Token t ∷ s) (y ∷ x) z e =
    let head : Token t ≡ y = cc in
    let r = parts_of s x z (let tail : stripped s ≡ x ++ z = cc in tail) in
    record { first = Token t ∷ r.first; rest = r.rest; is = ap (λ u. Token t ∷ u) r.is; first_is = let f = r.first_is in cc; rest_is = r.rest_is }
parts_of (Nonterminal n ∷ s) (y ∷ x) z e =
    let head : Nonterminal n.0 ≡ y = cc in
    let r = parts_of s x z (let tail : stripped s ≡ x ++ z = cc in tail) in
    record { first = Nonterminal n ∷ r.first; rest = r.rest; is = ap (λ u. Nonterminal n ∷ u) r.is; first_is = let f = r.first_is in cc; rest_is = r.rest_is }

-- what is read of the first part of a stack, whatever stands after it
pub levels_split : {s : Stack} {w : List Terminal} → Levels s w → (a b : Stack) → s ≡ a ++ b → (v : List Terminal) × Levels b v × ((others : Stack) → Levels others v → Levels (a ++ others) w)
levels_split {s} {w} l [] b e = (w, subst (λ u. Levels u w) e l, λ others run. run)
levels_split over (x ∷ a) b e = cc
levels_split (taken {a = t} {z = rest} {w} l) (x ∷ a) b e =
    let tail : rest ≡ a ++ b = cc in
    let head : Token t ≡ x = cc in
    let k = levels_split l a b tail in
    (k.0, k.1, λ others run. subst (λ u. Levels (u ∷ (a ++ others)) (t ∷ w)) head (taken (k.2 others run)))
levels_split (chosen {n} {z = rest} {w} α c i l) (x ∷ a) b e =
    let tail : rest ≡ a ++ b = cc in
    let head : Nonterminal n ≡ x = cc in
    let row = gr.row_at grammar n.1 α in
    let k = levels_split l (row ++ a) b (ap (λ u. row ++ u) tail ∙ sym (append_assoc row a b)) in
    (k.0, k.1, λ others run. subst (λ u. Levels (u ∷ (a ++ others)) w) head (chosen α c i (subst (λ u. Levels u w) (append_assoc row a others) (k.2 others run))))

-- the rows are those that the token ahead picks
pub any_levels : {s : Stack} {w : List Terminal} → Levels s w → runs.Runs grammar sets (stripped s) w
any_levels over = runs.over
any_levels (taken l) = runs.taken (any_levels l)
any_levels (chosen {n} {z} {w} α c i l) =
    runs.chosen α c (subst (λ u. runs.Runs grammar sets u w) (stripped-append (gr.row_at grammar n.1 α) z ∙ ap (λ u. u ++ stripped z) (row_stripped grammar n.1 α)) (any_levels l))

-- tokens as what they are read as
unfoldable pub as_stack : List Terminal → Stack
as_stack [] = []
as_stack (a ∷ w) = Token a ∷ as_stack w

pub reads_itself : (w : List Terminal) → Levels (as_stack w) w
unfolding as_stack
reads_itself [] = over
reads_itself (a ∷ w) = taken (reads_itself w)

pub reads_only : (u w : List Terminal) → runs.Runs grammar sets (stripped (as_stack u)) w → w ≡ u
unfolding as_stack
reads_only [] w r = inversion.runs_over grammar sets r
reads_only (a ∷ u) w r = let k = inversion.runs_terminal grammar sets r in k.1 ∙ ap (λ v. a ∷ v) (reads_only u k.0 k.2)

-- what is read at whatever levels is read at these
pub record AnyReads (symbols : Symbols) (signs : List Sign) (from to : List Lexeme) : Type 0 where
  pub reads : (others : Symbols) → AnyRuns (symbols ++ others) from → UnparsesTo signs from to × AnyRuns others to

pub leveled : {α : Symbols} {x : List Sign} {w v : List Lexeme} → AnyReads α x w v → Reads α x w v
leveled {α} {x} {w} {v} f = record {
  reads = λ others r.
      let p = parts_of r.0 α others r.1 in
      let k = levels_split r.2 p.first p.rest p.is in
      let after = as_stack k.0 in
      let run = any_levels (k.2 after (reads_itself k.0)) in
      let g = f.reads (stripped after) (subst (λ s. AnyRuns s w) (stripped-append p.first after ∙ ap (λ s. s ++ stripped after) p.first_is) run) in
      let end : map terminal_of v ≡ k.0 = reads_only k.0 (map terminal_of v) g.1 in
      (g.0, (p.rest, p.rest_is, subst (Levels p.rest) (sym end) k.1));
}

-- what stands after a part that was read
pub after_read : {α : Symbols} {x : List Sign} {w v : List Lexeme} → Reads α x w v → (a b : Stack) → stripped a ≡ α → Levels (a ++ b) (map terminal_of w) → Levels b (map terminal_of v)
after_read {α} {x} {w} {v} f a b is l =
    let k = levels_split l a b refl in
    let after = as_stack k.0 in
    let g = f.reads (stripped after) (a ++ after, stripped-append a after ∙ ap (λ s. s ++ stripped after) is, k.2 after (reads_itself k.0)) in
    let run = subst (λ s. runs.Runs grammar sets s (map terminal_of v)) g.1.1 (any_levels g.1.2) in
    let end : map terminal_of v ≡ k.0 = reads_only k.0 (map terminal_of v) run in
    subst (Levels b) (sym end) k.1
