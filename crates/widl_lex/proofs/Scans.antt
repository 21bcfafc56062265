-- The table's patterns stand for the pieces: bytes match one of them exactly where they are a piece of some kind.
use Rattle.std.proofs.Common.{◌≡◌, ℕ, Bool, true, false, Option, Some, None, List, [], ◌∷◌, ◌++◌, take, refl, sym, ◌∙◌, ap, subst, arith, lit<}
use Rattle.widl_lex.specs.Pattern.{Matches, Range}
use Rattle.widl_lex.specs.declared.token.PieceKind.{PieceKind}
use Rattle.widl_lex.specs.declared.token.PieceKind.TheVariants.{Token, Gap}
use Rattle.widl_lex.specs.declared.token.TokenKind.TheVariants.{Quoted, Integer, Decimal, Identifier, Text, Other}
use Rattle.widl_lex.specs.Quoted.{IsQuoted, quoted_terminals}
use Rattle.widl_lex.specs.Lexical.{IsPiece}
use Rattle.widl_lex.specs.Cut.{Longest}
use Rattle.widl_lex.specs.Walk.{end_of, scanned, may_be_quoted, IsLongestScan}
use Rattle.widl_lex.proofs.Computed.{AllBytes, all_take}
use Rattle.widl_lex.proofs.Derivative.{cat_parts}
use Rattle.widl_lex.proofs.Table.{run, scan_ends, ends_scan}
use Rattle.widl_lex.proofs.Characters.{range_byte}
use Rattle.widl_lex.proofs.QuotedTable.{passes, passes_contained}

-- the kind that ends after each quoted terminal is one that may be quoted
wordlike : Option PieceKind → Bool
wordlike None = false
wordlike (Some k) = may_be_quoted k

table_quoted : passes (λ w. wordlike (end_of (run 0 w))) quoted_terminals ≡ true
unfolding passes wordlike
table_quoted = refl

quoted_wordlike : (w : List ℕ) → IsQuoted w → wordlike (end_of (run 0 w)) ≡ true
quoted_wordlike w q = passes_contained (λ x. wordlike (end_of (run 0 x))) quoted_terminals w table_quoted q

some_kind : (o : Option PieceKind) → wordlike o ≡ true → (k : PieceKind) × (o ≡ Some k)
unfolding wordlike
some_kind None e = cc
some_kind (Some k) e = (k, refl)

-- a quoted terminal is scanned as a kind that may be quoted
pub quoted_may_be : (k : PieceKind) (w : List ℕ) → AllBytes w → Matches (scanned k) w → IsQuoted w → may_be_quoted k ≡ true
unfolding wordlike
quoted_may_be k w all m q = subst (λ o. wordlike o ≡ true) (scan_ends k w all m) (quoted_wordlike w q)

-- three points are a quoted terminal
single : {b : ℕ} {w : List ℕ} → Matches (Range b b) w → w ≡ b ∷ []
single {b} m = let r = range_byte m in r.1 ∙ ap (λ x. x ∷ []) (omega (arith, r.2, r.3))

points : (w : List ℕ) → Matches (scanned (Token Quoted)) w → w ≡ 46 ∷ 46 ∷ 46 ∷ []
points w m =
    let p = cat_parts m in
    let q = cat_parts p.3 in
    p.4 ∙ ap (λ u. u ++ p.1) (single p.2) ∙ ap (λ u. 46 ∷ u) (q.4 ∙ ap (λ u. u ++ q.1) (single q.2) ∙ ap (λ u. 46 ∷ u) (single q.3))

pub points_quoted : (w : List ℕ) → Matches (scanned (Token Quoted)) w → IsQuoted w
points_quoted w m = subst IsQuoted (sym (points w m)) (4, lit< tt, refl)

-- a scan is a piece of its kind, unless it is quoted
pub scan_piece : (k : PieceKind) (w : List ℕ) → Matches (scanned k) w → (IsQuoted w → ⊥) → IsPiece k w
scan_piece (Token Quoted) w m no_quote = absurd (no_quote (points_quoted w m))
scan_piece (Token Integer) w m no_quote = m
scan_piece (Token Decimal) w m no_quote = m
scan_piece (Token Identifier) w m no_quote = m
scan_piece (Token Text) w m no_quote = m
scan_piece (Token Other) w m no_quote = m
scan_piece Gap w m no_quote = m

pub scan_is_piece : (k : PieceKind) (w : List ℕ) → Matches (scanned k) w → IsPiece k w
scan_is_piece (Token Quoted) w m = points_quoted w m
scan_is_piece (Token Integer) w m = m
scan_is_piece (Token Decimal) w m = m
scan_is_piece (Token Identifier) w m = m
scan_is_piece (Token Text) w m = m
scan_is_piece (Token Other) w m = m
scan_is_piece Gap w m = m

-- a piece is a scan of some kind
pub piece_scan : (k : PieceKind) (w : List ℕ) → AllBytes w → IsPiece k w → (j : PieceKind) × Matches (scanned j) w
piece_scan (Token Quoted) w all q = let r = some_kind (end_of (run 0 w)) (quoted_wordlike w q) in (r.0, ends_scan r.0 w all r.1)
piece_scan (Token Integer) w all m = (Token Integer, m)
piece_scan (Token Decimal) w all m = (Token Decimal, m)
piece_scan (Token Identifier) w all m = (Token Identifier, m)
piece_scan (Token Text) w all m = (Token Text, m)
piece_scan (Token Other) w all m = (Token Other, m)
piece_scan Gap w all m = (Gap, m)

-- a piece that is not quoted is scanned as its own kind
pub plain_scan : (k : PieceKind) (w : List ℕ) → (IsQuoted w → ⊥) → IsPiece k w → Matches (scanned k) w
plain_scan (Token Quoted) w no_quote q = absurd (no_quote q)
plain_scan (Token Integer) w no_quote m = m
plain_scan (Token Decimal) w no_quote m = m
plain_scan (Token Identifier) w no_quote m = m
plain_scan (Token Text) w no_quote m = m
plain_scan (Token Other) w no_quote m = m
plain_scan Gap w no_quote m = m

-- the longest scan is the longest piece, and the other way round
pub scan_longest : (kind scan : PieceKind) (n : ℕ) (text : List ℕ) → AllBytes text → IsLongestScan scan n text → (IsQuoted (take n text) → kind ≡ Token Quoted) → IsPiece kind (take n text) → Longest kind n text
scan_longest kind scan n text all long tie piece = record {
  within = long.within;
  some = long.some;
  piece = piece;
  longest = λ m other lt le p. let s = piece_scan other (take m text) (all_take m text all) p in long.longest m s.0 lt le s.1;
  tie = tie;
}

pub longest_scan : (kind : PieceKind) (n : ℕ) (text : List ℕ) → AllBytes text → Longest kind n text → (scan : PieceKind) × IsLongestScan scan n text
longest_scan kind n text all long = let s = piece_scan kind (take n text) (all_take n text all) long.piece in (
  s.0,
  record {
    within = long.within;
    some = long.some;
    scan = s.1;
    longest = λ m other lt le p. long.longest m other lt le (scan_is_piece other (take m text) p);
  },
)
