-- Parts of the grammar are read one after the other.
use Rattle.widl_predictive.proofs.Check.{each, each_coded}
use Rattle.widl_predictive.proofs.Booleans.{or_cases, and_cases, and_both}
use Rattle.widl_grammar.specs.Terminals.{terminal_code, all_terminals, terminal_at, terminals}
use Rattle.std.specs.Prelude.{◌||◌, ◌&&◌, nat_le}
use Rattle.std.proofs.Common.{if◌then◌else◌, nat_eq, length, get_or, eqb-true, leb-true, arith, ◌≤◌, ◌≡◌, ℕ, zero, suc, Bool, true, false, Option, Some, None, List, [], ◌∷◌, ◌++◌, refl, sym, ◌∙◌, ap, subst, inl, inr, drop, append_assoc}
use Rattle.std.specs.Prelude.{map, is_some, not, MatchOption, Result, Ok, Err, IfOk}
use Rattle.widl_text.specs.declared.place.Place.{Place}
use Rattle.widl_idl.specs.declared.tree.names.Name.{Name}
use Rattle.widl_lex.specs.Tokens.{Lexeme}
use Rattle.widl_predictive.specs.declared.grammar.Symbol.{Symbol as RowSymbol}
use Rattle.widl_predictive.specs.Derivation.{Terminal as Token, Nonterminal}
use Rattle.widl_predictive.specs.Lookahead.{choice, nth}
use Rattle.widl_predictive.specs.Predictive.{ahead}
use Rattle.widl_predictive.specs.Runs.{plain}
use Rattle.widl_grammar.specs.declared.rule.Rule.{Rule}
use Rattle.widl_grammar.specs.declared.terminal.Terminal.{Terminal}
use Rattle.widl_grammar.specs.declared.terminal.Terminal.TheVariants.{Other, Identifier}
use Rattle.widl_grammar.specs.Rows.{grammar, rows_of}
use Rattle.widl_grammar.specs.Tables.{sets, picked}
use Rattle.widl_grammar.specs.Source.{terminal_of}
use Rattle.widl_syntax.proofs.Leveling.{runs_over, runs_terminal, runs_nonterminal}
use Rattle.widl_syntax.specs.Signs.{Sign, UnparsesTo, OfBytes, OfText, Nowhere, at, word, ◌⧺◌}
use Rattle.widl_syntax.specs.UnparsedNames.{name_bytes, is_escape_apart, escape_apart, identifier, is_word_of, any_name}
use Rattle.widl_syntax.specs.Reading.{Symbols, Runs, RunsOf, Reads, token, part, terminal_ahead, IfAhead, IsTaken, IsTakenAs, IsPassedBy, IsName}

abbrev pub Row : Type 0
Row = List (RowSymbol Terminal Rule)

-- what is read where a rule comes first
pub part_first : {rule : Rule} {z : Symbols} {w : List Terminal} → RunsOf (Nonterminal rule ∷ z) w → (α : Row) × (choice grammar sets rule (ahead w) ≡ Some α) × RunsOf (plain α ++ z) w
part_first r = runs_nonterminal r

-- a token of the terminal comes first
pub record First (a : Terminal) (z : Symbols) (w : List Lexeme) : Type 0 where
  pub lexeme : Lexeme
  pub rest : List Lexeme
  pub is : w ≡ lexeme ∷ rest
  pub terminal : terminal_of lexeme ≡ a
  pub runs : Runs z rest

pub first_of_token : (a : Terminal) (z : Symbols) (w : List Lexeme) → Runs (Token a ∷ z) w → First a z w
first_of_token a z [] r = let i = runs_terminal r in absurd (let e : [] ≡ a ∷ i.0 = i.1 in cc)
first_of_token a z (l ∷ v) r =
    let i = runs_terminal r in
    let same : map terminal_of v ≡ i.0 = cc in
    record { lexeme = l; rest = v; is = refl; terminal = cc; runs = subst (RunsOf z) (sym same) i.2 }

pub end_of_nothing : (w : List Lexeme) → Runs [] w → w ≡ []
end_of_nothing [] r = refl
end_of_nothing (l ∷ v) r = let e = runs_over r in cc

pub spells_append : (x y : List Sign) (w m v : List Lexeme) → UnparsesTo x w m → UnparsesTo y m v → UnparsesTo (x ++ y) w v
spells_append [] y w m v e h = subst (λ u. UnparsesTo y u v) (sym e) h
spells_append (s ∷ x) y w m v e h = (e.0, e.1, spells_append x y e.0 m v e.2 h)

-- one part after another
pub and_then : {α β : Symbols} {x y : List Sign} {w m v : List Lexeme} → Reads α x w m → Reads β y m v → Reads (α ++ β) (x ++ y) w v
and_then {α} {β} {x} {y} {w} {m} {v} f g = record {
  reads = λ z r.
      let one = f.reads (β ++ z) (subst (λ s. Runs s w) (append_assoc α β z) r) in
      let two = g.reads z one.1 in
      (spells_append x y w m v one.0 two.0, two.1);
}

-- nothing is read
pub nothing : {w : List Lexeme} → Reads [] [] w w
nothing = record { reads = λ z r. (refl, r) }

pub nothing_if : {w m : List Lexeme} → m ≡ w → Reads [] [] w m
nothing_if {w} e = subst (Reads [] [] w) (sym e) nothing

-- a token
pub took : (a : Terminal) {w m : List Lexeme} {place : Place} → IsTaken place w m → Reads (token a) (word a) w m
took a {w} {m} t = record {
  reads = λ z r.
      let f = first_of_token a z w r in
      let after : m ≡ f.rest = t.rest ∙ ap (drop 1) f.is in
      ((m, (f.lexeme, f.is ∙ ap (λ u. f.lexeme ∷ u) (sym after), f.terminal), refl), subst (Runs z) (sym after) f.runs);
}

-- a token at a place, with its bytes or without
ahead_first : (P : Lexeme → Type 0) (w : List Lexeme) (l : Lexeme) (rest : List Lexeme) → w ≡ l ∷ rest → IfAhead w P → P l
ahead_first P w l rest e h = subst (λ u. IfAhead u P) e h

pub took_at : (a : Terminal) {w m : List Lexeme} {place : Place} → IsTaken place w m → Reads (token a) (at place ⧺ word a) w m
took_at a {w} {m} {place} t = record {
  reads = λ z r.
      let f = first_of_token a z w r in
      let rest = (took a t).reads z r in
      ((w, (f.lexeme, f.rest, f.is, sym (ahead_first (λ l. place ≡ l.at) w f.lexeme f.rest f.is t.place_is), refl), rest.0), rest.1);
}

pub took_bytes : (a : Terminal) (bytes : List ℕ) {w m : List Lexeme} {place : Place} → IsTaken place w m → IfAhead w (λ l. terminal_of l ≡ a → bytes ≡ l.text) → Reads (token a) (at place ⧺ OfBytes a bytes ∷ []) w m
took_bytes a bytes {w} {m} {place} t b = record {
  reads = λ z r.
      let f = first_of_token a z w r in
      let after : m ≡ f.rest = t.rest ∙ ap (drop 1) f.is in
      let text : f.lexeme.text ≡ bytes = sym (ahead_first (λ l. terminal_of l ≡ a → bytes ≡ l.text) w f.lexeme f.rest f.is b f.terminal) in
      ((w, (f.lexeme, f.rest, f.is, sym (ahead_first (λ l. place ≡ l.at) w f.lexeme f.rest f.is t.place_is), refl), (m, (f.lexeme, f.is ∙ ap (λ u. f.lexeme ∷ u) (sym after), f.terminal, text), refl)), subst (Runs z) (sym after) f.runs);
}

-- a token that passes a test, by its bytes
pub took_text : (a : Terminal) (test : Terminal → Bool) (bytes : List ℕ) {w m : List Lexeme} {place : Place} → test a ≡ true → IsTaken place w m → IfAhead w (λ l. bytes ≡ l.text) → Reads (token a) (at place ⧺ OfText test bytes ∷ []) w m
took_text a test bytes {w} {m} {place} known t b = record {
  reads = λ z r.
      let f = first_of_token a z w r in
      let after : m ≡ f.rest = t.rest ∙ ap (drop 1) f.is in
      let text : f.lexeme.text ≡ bytes = sym (ahead_first (λ l. bytes ≡ l.text) w f.lexeme f.rest f.is b) in
      let passed : test (terminal_of f.lexeme) ≡ true = ap test f.terminal ∙ known in
      ((w, (f.lexeme, f.rest, f.is, sym (ahead_first (λ l. place ≡ l.at) w f.lexeme f.rest f.is t.place_is), refl), (m, (f.lexeme, f.is ∙ ap (λ u. f.lexeme ∷ u) (sym after), passed, text), refl)), subst (Runs z) (sym after) f.runs);
}

pub always : (w : List Lexeme) (P Q : Lexeme → Type 0) → IfAhead w P → IfAhead w (λ l. Q l → P l)
always [] P Q h = tt
always (l ∷ w) P Q h = λ q. h

-- the `_` before a name is no part of its text
escape_known : (a : Terminal) (x : Sign) {w m : List Lexeme} {name : Name} → IsName name w m → Reads (token a) (at name.at ⧺ x ∷ []) w m → Reads (token a) (at name.at ⧺ x ∷ escape_apart name) w m
escape_known a x {w} {m} {name} n f = record {
  reads = λ z r.
      let first = first_of_token a z w r in
      let known : is_escape_apart name.escaped name.text ≡ true = ahead_first (λ l. is_escape_apart name.escaped name.text ≡ true) w first.lexeme first.rest first.is n.escape in
      let h = f.reads z r in
      let none : [] ≡ escape_apart name = ap (λ b. if b then [] else Nowhere ∷ []) (sym known) in
      (subst (λ more. UnparsesTo (at name.at ⧺ x ∷ more) w m) none h.0, h.1);
}

-- an identifier
pub took_identifier : {w m : List Lexeme} {name : Name} → IsName name w m → Reads (token Identifier) (identifier name) w m
took_identifier {w} {m} {name} n = escape_known Identifier (OfBytes Identifier (name_bytes name)) n (took_bytes Identifier (name_bytes name) n.taken (always w (λ l. name_bytes name ≡ l.text) (λ l. terminal_of l ≡ Identifier) n.bytes))

-- a word of a rule, as a name
pub took_name : (a : Terminal) (rule : Rule) {w m : List Lexeme} {name : Name} → is_word_of rule a ≡ true → IsName name w m → Reads (token a) (any_name rule name) w m
took_name a rule {w} {m} {name} known n = escape_known a (OfText (is_word_of rule) (name_bytes name)) n (took_text a (is_word_of rule) (name_bytes name) known n.taken n.bytes)

-- what a test of an option tells of a token that may be taken
pub passed_by : (t : Terminal) (w m : List Lexeme) (o : Option Place) (b : Bool) → is_some o ≡ not b → b ≡ true → MatchOption o (IsPassedBy t w m) (λ place. IsTakenAs t place w m) → IsPassedBy t w m
passed_by t w m None b e h k = k
passed_by t w m (Some x) b e h k = let f : not true ≡ true = ap not (sym h) ∙ sym e in cc

pub taken_as : (t : Terminal) (w m : List Lexeme) (o : Option Place) (b : Bool) → is_some o ≡ not b → b ≡ false → MatchOption o (IsPassedBy t w m) (λ place. IsTakenAs t place w m) → (place : Place) × IsTakenAs t place w m
taken_as t w m None b e h k = let f : not false ≡ false = ap not (sym h) ∙ sym e in cc
taken_as t w m (Some x) b e h k = (x, k)

-- a part that can't stand at the end, at a place
pub at_part : (rule : Rule) {β : Symbols} {x : List Sign} {w m : List Lexeme} {place : Place} → choice grammar sets rule None ≡ None → IfAhead w (λ l. place ≡ l.at) → Reads (part rule ++ β) x w m → Reads (part rule ++ β) (at place ⧺ x) w m
at_part rule {β} {x} {w} {m} {place} none p f = record { reads = λ z r. go w p z r (f.reads z r) }
  where
    go : (v : List Lexeme) → IfAhead v (λ l. place ≡ l.at) → (z : Symbols) → Runs (Nonterminal rule ∷ (β ++ z)) v → UnparsesTo x v m × Runs z m → UnparsesTo (at place ⧺ x) v m × Runs z m
    go [] q z r h = let c = part_first r in let bad : None ≡ Some c.0 = sym none ∙ c.1 in cc
    go (l ∷ v) q z r h = ((l ∷ v, (l, v, refl, sym q, refl), h.0), h.1)

-- a token at a place, and what follows it
pub at_token : (a : Terminal) {β : Symbols} {x : List Sign} {w m : List Lexeme} {place : Place} → IfAhead w (λ l. place ≡ l.at) → Reads (token a ++ β) x w m → Reads (token a ++ β) (at place ⧺ x) w m
at_token a {β} {x} {w} {m} {place} p f = record {
  reads = λ z r.
      let first = first_of_token a (β ++ z) w r in
      let h = f.reads z r in
      ((w, (first.lexeme, first.rest, first.is, sym (ahead_first (λ l. place ≡ l.at) w first.lexeme first.rest first.is p), refl), h.0), h.1);
}

abbrev pub is_other : Terminal → Bool
is_other Other = true
is_other _ = false

-- the terminal ahead of tokens that do not end here
pub ahead_is : (t : Terminal) (w : List Lexeme) → is_other t ≡ false → terminal_ahead w ≡ t → ahead (map terminal_of w) ≡ Some t
ahead_is t [] other e = let h : is_other Other ≡ false = subst (λ u. is_other u ≡ false) (sym e) other in cc
ahead_is t (l ∷ v) other e = ap Some e

row_read : (rule : Rule) (α : Row) {x : List Sign} {w v : List Lexeme} → choice grammar sets rule (ahead (map terminal_of w)) ≡ Some α → Reads (plain α) x w v → Reads (part rule) x w v
row_read rule α {x} {w} {v} e f = record {
  reads = λ z r.
      let p = part_first r in
      let same : p.0 ≡ α = cc in
      f.reads z (subst (λ row. Runs (plain row ++ z) w) same p.2);
}

-- a rule whose row is known by the terminal ahead
pub by_row : (rule : Rule) (t : Terminal) {α : Row} {x : List Sign} {w v : List Lexeme} → terminal_ahead w ≡ t → is_other t ≡ false → choice grammar sets rule (Some t) ≡ Some α → Reads (plain α) x w v → Reads (part rule) x w v
by_row rule t {α} {x} {w} {v} e other c f = row_read rule α (ap (choice grammar sets rule) (ahead_is t w other e) ∙ c) f

pub only_row : {α β : Row} (k : ℕ) → nth (α ∷ []) k ≡ Some β → β ≡ α
only_row zero e = cc
only_row (suc k) e = cc

-- a rule of one row
pub by_only : (rule : Rule) {α : Row} {x : List Sign} {w v : List Lexeme} → rows_of rule ≡ α ∷ [] → Reads (plain α) x w v → Reads (part rule) x w v
by_only rule {α} {x} {w} {v} one f = record {
  reads = λ z r.
      let p = part_first r in
      let row : nth (α ∷ []) (picked rule (ahead (map terminal_of w))) ≡ Some p.0 = ap (λ rows. nth rows (picked rule (ahead (map terminal_of w)))) (sym one) ∙ p.1 in
      f.reads z (subst (λ row. Runs (plain row ++ z) w) (only_row (picked rule (ahead (map terminal_of w))) row) p.2);
}

-- the terminal is one of these
abbrev pub is_among : List Terminal → Terminal → Bool
is_among [] t = false
is_among (a ∷ more) t = nat_eq (terminal_code a) (terminal_code t) || is_among more t

-- the number is that of this row, or of none
abbrev pub is_row_or_none : ℕ → ℕ → ℕ → Bool
is_row_or_none count k n = nat_eq n k || nat_le count n

-- the test holds of each terminal
abbrev pub pass_all : (Terminal → Bool) → List Terminal → Bool
pass_all test [] = true
pass_all test (t ∷ more) = test t && pass_all test more

pass_each : (test : Terminal → Bool) (ts : List Terminal) → pass_all test ts ≡ true → each test ts ≡ true
unfolding each
pass_each test [] h = refl
pass_each test (t ∷ ts) h = let both = and_cases (test t) _ h in and_both (test t) (each test ts) both.0 (pass_each test ts both.1)

pub passes : (test : Terminal → Bool) → pass_all test all_terminals ≡ true → (t : Terminal) → test t ≡ true
passes test h t = each_coded terminals test (pass_each test all_terminals h) t

-- each other terminal, and the end, picks this row or none
abbrev pub is_rest : Rule → List Terminal → ℕ → Bool
is_rest rule others k = pass_all (λ t. is_among others t || is_row_or_none (length (rows_of rule)) k (picked rule (Some t))) all_terminals && is_row_or_none (length (rows_of rule)) k (picked rule None)

code_is : (a t : Terminal) → (t ≡ a → ⊥) → nat_eq (terminal_code a) (terminal_code t) ≡ false
code_is a t differ = go (nat_eq (terminal_code a) (terminal_code t)) refl
  where
    go : (b : Bool) → nat_eq (terminal_code a) (terminal_code t) ≡ b → b ≡ false
    go true e = absurd (differ (sym (terminal_at t a) ∙ ap (λ k. get_or all_terminals k a) (sym (eqb-true (terminal_code a) (terminal_code t) e)) ∙ terminal_at a a))
    go false e = refl

-- the terminal is another than those
pub other_than : (a : Terminal) (t : Terminal) → (t ≡ a → ⊥) → is_among (a ∷ []) t ≡ false
other_than a t differ = ap (λ b. b || false) (code_is a t differ)

pub and_other_than : (a : Terminal) (others : List Terminal) (t : Terminal) → (t ≡ a → ⊥) → is_among others t ≡ false → is_among (a ∷ others) t ≡ false
and_other_than a others t differ rest = ap (λ b. b || is_among others t) (code_is a t differ) ∙ rest

past_rows : (rows : List Row) (n : ℕ) (α : Row) → length rows ≤ n → nth rows n ≡ Some α → ⊥
past_rows [] n α le e = cc
past_rows (β ∷ rows) zero α le e = omega arith
past_rows (β ∷ rows) (suc n) α le e = past_rows rows n α (omega arith) e

pub that_row : (rows : List Row) (k n : ℕ) (α β : Row) → is_row_or_none (length rows) k n ≡ true → nth rows k ≡ Some α → nth rows n ≡ Some β → β ≡ α
that_row rows k n α β h e f = elim (or_cases (nat_eq n k) (nat_le (length rows) n) h) [
  | inl same ↦ let one : nth rows n ≡ nth rows k = ap (nth rows) (eqb-true n k same) in cc
  | inr le ↦ absurd (past_rows rows n β (leb-true (length rows) n le) f)
]

pub rest_picks : (rule : Rule) (others : List Terminal) (k : ℕ) (w : List Lexeme) → is_rest rule others k ≡ true → is_among others (terminal_ahead w) ≡ false → is_row_or_none (length (rows_of rule)) k (picked rule (ahead (map terminal_of w))) ≡ true
rest_picks rule others k [] h differ = (and_cases _ _ h).1
rest_picks rule others k (l ∷ w) h differ =
    let both = passes (λ t. is_among others t || is_row_or_none (length (rows_of rule)) k (picked rule (Some t))) (and_cases _ _ h).0 (terminal_of l) in
    elim (or_cases (is_among others (terminal_of l)) _ both) [ inl yes_among ↦ cc | inr row ↦ row ]

-- a rule whose row stands after all other terminals
pub by_rest : (rule : Rule) (others : List Terminal) (k : ℕ) {α : Row} {x : List Sign} {w v : List Lexeme} → is_rest rule others k ≡ true → nth (rows_of rule) k ≡ Some α → is_among others (terminal_ahead w) ≡ false → Reads (plain α) x w v → Reads (part rule) x w v
by_rest rule others k {α} {x} {w} {v} test e differ f = record {
  reads = λ z r.
      let p = part_first r in
      f.reads z (subst (λ row. Runs (plain row ++ z) w) (that_row (rows_of rule) k (picked rule (ahead (map terminal_of w))) α p.0 (rest_picks rule others k w test differ) e p.1) p.2);
}

-- a rule whose row is known by the arm of a match over the terminal ahead
pub by_arm : (rule : Rule) (t a : Terminal) {α : Row} {x : List Sign} {w v : List Lexeme} → a ≡ terminal_ahead w → a ≡ t → is_other t ≡ false → choice grammar sets rule (Some t) ≡ Some α → Reads (plain α) x w v → Reads (part rule) x w v
by_arm rule t a {α} {x} {w} {v} is arm other c f = by_row rule t (sym is ∙ arm) other c f

-- and by its last arm
pub by_default : (rule : Rule) (others : List Terminal) (k : ℕ) (a : Terminal) {α : Row} {x : List Sign} {w v : List Lexeme} → a ≡ terminal_ahead w → is_rest rule others k ≡ true → nth (rows_of rule) k ≡ Some α → is_among others a ≡ false → Reads (plain α) x w v → Reads (part rule) x w v
by_default rule others k a {α} {x} {w} {v} is test e differ f = by_rest rule others k test e (ap (is_among others) (sym is) ∙ differ) f

-- what follows from the value of a result
pub in_ok : {A E : Type 0} (r : Result A E) (P Q : A → Type 0) → ((a : A) → P a → Q a) → IfOk r P → IfOk r Q
in_ok (Ok a) P Q f h = f a h
in_ok (Err e) P Q f h = tt
