-- Types are read.
use Rattle.std.proofs.Common.{length, arith, ◌≤◌, ◌≡◌, ℕ, suc, Bool, true, false, Option, Some, None, List, [], ◌∷◌, ◌++◌, refl, sym, ◌∙◌, ap, subst, drop, append_assoc}
use Rattle.std.specs.Prelude.{map, is_some, not, MatchOption, ◌||◌, ◌&&◌}
use Rattle.widl_predictive.proofs.Booleans.{and_cases}
use Rattle.widl_text.specs.declared.place.Place.{Place}
use Rattle.widl_idl.specs.declared.tree.types.AnnotatedType.{AnnotatedType}
use Rattle.widl_idl.specs.declared.tree.types.Container.{Container}
use Rattle.widl_idl.specs.declared.tree.types.Container.TheVariants as container
use Rattle.widl_idl.specs.TypeTrees.{packed_members, tree_of_annotated}
use Rattle.widl_lex.specs.Tokens.{Lexeme}
use Rattle.widl_predictive.specs.Lookahead.{choice, nth}
use Rattle.widl_predictive.specs.Predictive.{ahead}
use Rattle.widl_predictive.specs.declared.grammar.Symbol.{Symbol as RowSymbol}
use Rattle.widl_predictive.specs.declared.grammar.Symbol.TheVariants.{Token, Part, Inner}
use Rattle.widl_predictive.specs.Runs.{plain}
use Rattle.widl_grammar.specs.declared.rule.Rule.{Rule}
use Rattle.widl_grammar.specs.declared.rule.Rule.TheVariants as rule
use Rattle.widl_grammar.specs.declared.terminal.Terminal.{Terminal}
use Rattle.widl_grammar.specs.declared.terminal.Terminal.TheVariants as terminal
use Rattle.widl_grammar.specs.declared.terminal.Terminal.TheVariants.{Other}
use Rattle.widl_grammar.specs.Rows.{grammar, rows_of}
use Rattle.widl_grammar.specs.Tables.{sets, picked}
use Rattle.widl_grammar.specs.Terminals.{all_terminals}
use Rattle.widl_grammar.specs.Source.{terminal_of}
use Rattle.widl_syntax.specs.Signs.{Sign, at, word, all_signs, after, ◌⧺◌}
use Rattle.widl_syntax.specs.UnparsedNames.{word_if}
use Rattle.widl_syntax.specs.UnparsedTypes.{container_terminal, question_mark, inner_annotated, member_signs, more_member_signs, union_signs}
use Rattle.widl_syntax.specs.TypeWords.{is_primitive_word, is_type_word, is_container_word}
use Rattle.widl_syntax.specs.Reading.{Symbols, Runs, Reads, token, part, terminal_ahead, IsTaken, IsTakenAs, IsPassedBy}
use Rattle.widl_syntax.proofs.Reading.{pass_all, passes, is_other, is_row_or_none, that_row, part_first, by_row, by_rest, took, took_at, nothing_if, is_among, other_than}

-- the same signs, and the same tokens
pub of_signs : {α : Symbols} {x y : List Sign} {w v : List Lexeme} → y ≡ x → Reads α x w v → Reads α y w v
of_signs {α} {x} {y} {w} {v} e f = subst (λ s. Reads α s w v) (sym e) f

pub from_same : {α : Symbols} {x : List Sign} {u w v : List Lexeme} → w ≡ u → Reads α x w v → Reads α x u v
from_same {α} {x} {u} {w} {v} e f = subst (λ s. Reads α x s v) e f

-- fewer tokens are left
drop_le : (w : List Lexeme) → length (drop 1 w) ≤ length w
drop_le [] = omega arith
drop_le (l ∷ w) = omega arith

pub taken_le : {place : Place} {w m : List Lexeme} → IsTaken place w m → length m ≤ length w
taken_le {place} {w} {m} t = subst (λ u. length u ≤ length w) (sym t.rest) (drop_le w)

drop_lt : (t : Terminal) (w : List Lexeme) → is_other t ≡ false → terminal_ahead w ≡ t → suc (length (drop 1 w)) ≤ length w
drop_lt t [] other e = let h : is_other Other ≡ false = subst (λ u. is_other u ≡ false) (sym e) other in cc
drop_lt t (l ∷ w) other e = omega arith

pub taken_lt : (t : Terminal) {place : Place} {w m : List Lexeme} → is_other t ≡ false → terminal_ahead w ≡ t → IsTaken place w m → suc (length m) ≤ length w
taken_lt t {place} {w} {m} other e i = subst (λ u. suc (length u) ≤ length w) (sym i.rest) (drop_lt t w other e)

pub maybe_le : (t : Terminal) (w m : List Lexeme) (o : Option Place) → MatchOption o (IsPassedBy t w m) (λ place. IsTakenAs t place w m) → length m ≤ length w
maybe_le t w m None h = subst (λ u. length u ≤ length w) (sym h.same) (omega arith)
maybe_le t w m (Some place) h = taken_le h.taken

-- what a test of an option tells of a token that may be taken
pub if_passed : (t : Terminal) {w m : List Lexeme} (o : Option Place) (b : Bool) → b ≡ is_some o → b ≡ false → MatchOption o (IsPassedBy t w m) (λ place. IsTakenAs t place w m) → IsPassedBy t w m
if_passed t None b e h k = k
if_passed t (Some x) b e h k = let f : true ≡ false = sym e ∙ h in cc

pub if_taken : (t : Terminal) {w m : List Lexeme} (o : Option Place) (b : Bool) → b ≡ is_some o → b ≡ true → MatchOption o (IsPassedBy t w m) (λ place. IsTakenAs t place w m) → (place : Place) × IsTakenAs t place w m
if_taken t None b e h k = let f : false ≡ true = sym e ∙ h in cc
if_taken t (Some x) b e h k = (x, k)

-- each terminal of the test, and the end if it is one, picks this row or none
abbrev pub picks : Rule → (Terminal → Bool) → ℕ → Bool
picks rule test k = pass_all (λ t. not (test t) || is_row_or_none (length (rows_of rule)) k (picked rule (Some t))) all_terminals && (not (test Other) || is_row_or_none (length (rows_of rule)) k (picked rule None))

by_implied : (a b : Bool) → (not a || b) ≡ true → a ≡ true → b ≡ true
by_implied true b h e = h
by_implied false b h e = cc

test_picks : (rule : Rule) (test : Terminal → Bool) (k : ℕ) (w : List Lexeme) → picks rule test k ≡ true → test (terminal_ahead w) ≡ true → is_row_or_none (length (rows_of rule)) k (picked rule (ahead (map terminal_of w))) ≡ true
test_picks rule test k [] h e = by_implied (test Other) _ (and_cases _ _ h).1 e
test_picks rule test k (l ∷ w) h e = by_implied (test (terminal_of l)) _ (passes (λ t. not (test t) || is_row_or_none (length (rows_of rule)) k (picked rule (Some t))) (and_cases _ _ h).0 (terminal_of l)) e

-- a rule whose row stands after each terminal of a test
pub by_test : (rule : Rule) (test : Terminal → Bool) (k : ℕ) {α : List (RowSymbol Terminal Rule)} {x : List Sign} {w v : List Lexeme} → picks rule test k ≡ true → nth (rows_of rule) k ≡ Some α → test (terminal_ahead w) ≡ true → Reads (plain α) x w v → Reads (part rule) x w v
by_test rule test k {α} {x} {w} {v} h e among f = record {
  reads = λ z r.
      let p = part_first r in
      f.reads z (subst (λ row. Runs (plain row ++ z) w) (that_row (rows_of rule) k (picked rule (ahead (map terminal_of w))) α p.0 (test_picks rule test k w h among) e p.1) p.2);
}

-- a rule whose row stands after each terminal that a test refuses
pub by_other_test : (rule : Rule) (test : Terminal → Bool) (k : ℕ) {α : List (RowSymbol Terminal Rule)} {x : List Sign} {w v : List Lexeme} → picks rule (λ t. not (test t)) k ≡ true → nth (rows_of rule) k ≡ Some α → test (terminal_ahead w) ≡ false → Reads (plain α) x w v → Reads (part rule) x w v
by_other_test rule test k {α} {x} {w} {v} h e other f = by_test rule (λ t. not (test t)) k h e (ap not other) f

-- the second `long`, if there is one
pub second_long : (w m : List Lexeme) (o : Option Place) (b : Bool) → b ≡ is_some o → MatchOption o (IsPassedBy terminal.Long w m) (λ place. IsTakenAs terminal.Long place w m) → Reads (part rule.SecondLong) (word_if b terminal.Long) w m
second_long w m None b e h = of_signs (ap (λ k. word_if k terminal.Long) e) (by_rest rule.SecondLong (terminal.Long ∷ []) 1 refl refl (other_than terminal.Long _ h.other) (nothing_if h.same))
second_long w m (Some place) b e h = of_signs (ap (λ k. word_if k terminal.Long) e) (by_row rule.SecondLong terminal.Long h.ahead refl refl (took terminal.Long h.taken))

-- a type that is one word, by the row of the word
word_alone : {place : Place} {w m : List Lexeme} (t : Terminal) → is_other t ≡ false → choice grammar sets rule.DistinguishableBase (Some t) ≡ Some (Token t ∷ []) → terminal_ahead w ≡ t → IsTaken place w m → Reads (part rule.DistinguishableBase) (word t) w m
word_alone {place} {w} {m} t other row e i = by_row rule.DistinguishableBase t e other row (took t i)

word_within : {place : Place} {w m : List Lexeme} (inner : Rule) (t : Terminal) → is_other t ≡ false → choice grammar sets rule.DistinguishableBase (Some t) ≡ Some (Part inner ∷ []) → choice grammar sets inner (Some t) ≡ Some (Token t ∷ []) → terminal_ahead w ≡ t → IsTaken place w m → Reads (part rule.DistinguishableBase) (word t) w m
word_within {place} {w} {m} inner t other row within e i = by_row rule.DistinguishableBase t e other row (by_row inner t e other within (took t i))

pub type_word : {place : Place} {w m : List Lexeme} (t : Terminal) → is_type_word t ≡ true → terminal_ahead w ≡ t → IsTaken place w m → Reads (part rule.DistinguishableBase) (word t) w m
type_word terminal.Undefined is = word_alone terminal.Undefined refl refl
type_word terminal.Object is = word_alone terminal.Object refl refl
type_word terminal.Symbol is = word_alone terminal.Symbol refl refl
type_word terminal.DomString is = word_within rule.StringType terminal.DomString refl refl refl
type_word terminal.UsvString is = word_within rule.StringType terminal.UsvString refl refl refl
type_word terminal.ByteString is = word_within rule.StringType terminal.ByteString refl refl refl
type_word terminal.ArrayBuffer is = word_within rule.Buffer terminal.ArrayBuffer refl refl refl
type_word terminal.SharedArrayBuffer is = word_within rule.Buffer terminal.SharedArrayBuffer refl refl refl
type_word terminal.DataView is = word_within rule.Buffer terminal.DataView refl refl refl
type_word terminal.Int8Array is = word_within rule.Buffer terminal.Int8Array refl refl refl
type_word terminal.Int16Array is = word_within rule.Buffer terminal.Int16Array refl refl refl
type_word terminal.Int32Array is = word_within rule.Buffer terminal.Int32Array refl refl refl
type_word terminal.Uint8Array is = word_within rule.Buffer terminal.Uint8Array refl refl refl
type_word terminal.Uint16Array is = word_within rule.Buffer terminal.Uint16Array refl refl refl
type_word terminal.Uint32Array is = word_within rule.Buffer terminal.Uint32Array refl refl refl
type_word terminal.Uint8ClampedArray is = word_within rule.Buffer terminal.Uint8ClampedArray refl refl refl
type_word terminal.BigInt64Array is = word_within rule.Buffer terminal.BigInt64Array refl refl refl
type_word terminal.BigUint64Array is = word_within rule.Buffer terminal.BigUint64Array refl refl refl
type_word terminal.Float16Array is = word_within rule.Buffer terminal.Float16Array refl refl refl
type_word terminal.Float32Array is = word_within rule.Buffer terminal.Float32Array refl refl refl
type_word terminal.Float64Array is = word_within rule.Buffer terminal.Float64Array refl refl refl
type_word _ is = absurd (let e : false ≡ true = is in cc)

-- a generic type with one argument, by its word
pub generic_row : (kind : Container) {x : List Sign} {w v : List Lexeme} → terminal_ahead w ≡ container_terminal kind → Reads (part rule.Container ++ token terminal.Less ++ part rule.ExtendedAttributeList ++ part rule.WholeType ++ token terminal.Greater) x w v → Reads (part rule.DistinguishableBase) x w v
generic_row container.Sequence e f = by_row rule.DistinguishableBase terminal.Sequence e refl refl f
generic_row container.AsyncSequence e f = by_row rule.DistinguishableBase terminal.AsyncSequence e refl refl f
generic_row container.FrozenArray e f = by_row rule.DistinguishableBase terminal.FrozenArray e refl refl f
generic_row container.ObservableArray e f = by_row rule.DistinguishableBase terminal.ObservableArray e refl refl f

pub generic_word : (kind : Container) {place : Place} {w m : List Lexeme} → terminal_ahead w ≡ container_terminal kind → IsTaken place w m → Reads (part rule.Container) (word (container_terminal kind)) w m
generic_word container.Sequence e i = by_row rule.Container terminal.Sequence e refl refl (took terminal.Sequence i)
generic_word container.AsyncSequence e i = by_row rule.Container terminal.AsyncSequence e refl refl (took terminal.AsyncSequence i)
generic_word container.FrozenArray e i = by_row rule.Container terminal.FrozenArray e refl refl (took terminal.FrozenArray i)
generic_word container.ObservableArray e i = by_row rule.Container terminal.ObservableArray e refl refl (took terminal.ObservableArray i)

-- a type that is no name begins with the terminal
abbrev pub begins_form : Terminal → Bool
begins_form t = is_primitive_word t || is_type_word t || is_container_word t || is_among (terminal.Record ∷ []) t

or_none : (a b : Bool) → a ≡ false → b ≡ false → (a || b) ≡ false
or_none true b e f = cc
or_none false b e f = f

pub named_row : (ahead : Terminal) (w : List Lexeme) {x : List Sign} {v : List Lexeme} → ahead ≡ terminal_ahead w → is_primitive_word ahead ≡ false → is_type_word ahead ≡ false → is_container_word ahead ≡ false → (terminal_ahead w ≡ terminal.Record → ⊥) → Reads (token terminal.Identifier) x w v → Reads (part rule.DistinguishableBase) x w v
named_row ahead w {x} {v} e primitive type generic other f =
    by_other_test rule.DistinguishableBase begins_form 2 refl refl
    (or_none _ _ (or_none _ _ (or_none _ _ (ap is_primitive_word (sym e) ∙ primitive) (ap is_type_word (sym e) ∙ type)) (ap is_container_word (sym e) ∙ generic)) (other_than terminal.Record _ other))
    f

-- members with `or` between each two
more_member_list : (xs : List AnnotatedType) → more_member_signs (packed_members (map tree_of_annotated xs)) ≡ all_signs (after terminal.Or inner_annotated) xs
more_member_list [] = refl
more_member_list (x ∷ xs) = ap (λ s. word terminal.Or ⧺ inner_annotated x ⧺ s) (more_member_list xs)

pub member_list : (xs : List AnnotatedType) → member_signs (packed_members (map tree_of_annotated xs)) ≡ union_signs xs
member_list [] = refl
member_list (x ∷ xs) = ap (λ s. inner_annotated x ⧺ s) (more_member_list xs)

-- a `?`, if there is one
pub question_here : (w m : List Lexeme) (o : Option Place) → MatchOption o (IsPassedBy terminal.Question w m) (λ place. IsTakenAs terminal.Question place w m) → Reads (part rule.Nullable) (question_mark o) w m
question_here w m None h = by_rest rule.Nullable (terminal.Question ∷ []) 1 refl refl (other_than terminal.Question _ h.other) (nothing_if h.same)
question_here w m (Some place) h = by_row rule.Nullable terminal.Question h.ahead refl refl (took_at terminal.Question h.taken)

-- a place is told twice
pub twice_at : {α : Symbols} {x : List Sign} {place : Place} {w v : List Lexeme} → Reads α (at place ⧺ x) w v → Reads α (at place ⧺ at place ⧺ x) w v
twice_at {α} {x} {place} {w} {v} f = record {
  reads = λ others r.
      let one = f.reads others r in
      ((w, (one.0.1.0, one.0.1.1, one.0.1.2, one.0.1.3, refl), one.0), one.1);
}
