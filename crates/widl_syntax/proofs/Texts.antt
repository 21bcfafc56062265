-- Texts without the signs that stand around them.
use Rattle.std.proofs.Common.{◌≡◌, ℕ, suc, ◌-◌, ◌<◌, ◌≤◌, Bool, true, false, List, [], ◌∷◌, ◌++◌, length, get_or, take, drop, ◌+◌, refl, sym, ◌∙◌, ap, subst, arith, length-append, length-drop}
use Rattle.std.specs.Prelude.{IsUtf8, not, nat_eq, unwrap_or}
use Rattle.std.proofs.Math.Seq.{get_or-append_seam}
use Rattle.std.proofs.lemmas.Grind.{common_steps, get_or_after_one}
use Rattle.std.proofs.lemmas.Str.{IsUtf8-drop, IsUtf8-take, IsCharBoundary-after_ascii, IsCharBoundary-before_ascii}
use Rattle.widl_lex.specs.declared.token.TokenKind.{TokenKind}
use Rattle.widl_lex.specs.declared.token.TokenKind.TheVariants as kind
use Rattle.widl_lex.specs.declared.token.PieceKind.TheVariants.{Token}
use Rattle.widl_lex.specs.Lexical.{IsPiece}
use Rattle.widl_lex.specs.Pattern.{Range, Matches, range}
use Rattle.widl_lex.specs.Quoted.{quoted_terminals, IsQuoted}
use Rattle.widl_lex.specs.Tokens.{Lexeme, IsSound}
use Rattle.widl_lex.proofs.Derivative.{cat_parts}
use Rattle.widl_predictive.proofs.Check.{each, each_at}
use Rattle.widl_grammar.specs.declared.terminal.Terminal.TheVariants.{String, Other}
use Rattle.widl_grammar.specs.Source.{terminal_of, terminal_by}
use Rattle.widl_grammar.specs.Terminals.{terminal_code}
use Rattle.widl_grammar.specs.Words.{quoted}
use Rattle.widl_syntax.specs.Reading.{IfAhead}
use Rattle.widl_syntax.specs.UnparsedNames.{quoted_bytes}

all_left : (bytes : List ℕ) → take (length bytes - 1) (drop 1 bytes) ≡ drop 1 bytes
all_left bytes = grind (arith, common_steps)

-- a text after an ASCII byte
pub after_ascii : (bytes : List ℕ) → 1 ≤ length bytes → get_or bytes 0 0 < 128 → IsUtf8 bytes → IsUtf8 (take (length bytes - 1) (drop 1 bytes))
after_ascii bytes le lt u = subst IsUtf8 (sym (all_left bytes)) (IsUtf8-drop bytes 1 u (IsCharBoundary-after_ascii bytes 0 u (omega arith) lt))

-- a text between quotation marks
pub between_quotes : (bytes : List ℕ) → 2 ≤ length bytes → get_or bytes 0 0 < 128 → get_or bytes (length bytes - 1) 0 < 128 → IsUtf8 bytes → IsUtf8 (take (length bytes - 1 - 1) (drop 1 bytes))
between_quotes bytes le first last u =
    let rest : IsUtf8 (drop 1 bytes) = IsUtf8-drop bytes 1 u (IsCharBoundary-after_ascii bytes 0 u (omega arith) first) in
    let count : length (drop 1 bytes) ≡ length bytes - 1 = length-drop 1 bytes in
    let place : 1 + (length bytes - 1 - 1) ≡ length bytes - 1 = omega (arith, le) in
    let closes : get_or (drop 1 bytes) (length bytes - 1 - 1) 0 < 128 = subst (λ n. n < 128) (sym (get_or_after_one bytes (length bytes - 1 - 1) 0 ∙ ap (λ k. get_or bytes k 0) place)) last in
    IsUtf8-take (drop 1 bytes) (length bytes - 1 - 1) rest (IsCharBoundary-before_ascii (drop 1 bytes) (length bytes - 1 - 1) (omega (arith, le, count)) closes)

-- the marks of a text that stands between them
pub marks : (bytes inner : List ℕ) → bytes ≡ quoted_bytes inner → (get_or bytes 0 0 ≡ 0x22) × (get_or bytes (length bytes - 1) 0 ≡ 0x22)
marks bytes inner e =
    let count : length (quoted_bytes inner) - 1 ≡ suc (length inner) = omega (arith, length-append inner (0x22 ∷ [])) in
    let closes : get_or (quoted_bytes inner) (length (quoted_bytes inner) - 1) 0 ≡ 0x22 = ap (λ k. get_or (quoted_bytes inner) k 0) count ∙ get_or-append_seam inner 0x22 [] 0 in
    (ap (λ w. get_or w 0 0) e, ap (λ w. get_or w (length w - 1) 0) e ∙ closes)

-- no quoted terminal is a string
abbrev is_no_string : List ℕ → Bool
is_no_string text = not (nat_eq (terminal_code (unwrap_or (quoted text) Other)) 3)

no_strings : each is_no_string quoted_terminals ≡ true
unfolding each
no_strings = refl

no_string : (text : List ℕ) → IsQuoted text → is_no_string text ≡ true
no_string text h = subst (λ x. is_no_string x ≡ true) h.2 (each_at is_no_string quoted_terminals no_strings h.0 h.1 text)

that_byte : (b : ℕ) (w : List ℕ) → Matches (Range b b) w → w ≡ b ∷ []
that_byte b w (range {b = d} l h) = let e : d ≡ b = omega arith in ap (λ x. x ∷ []) e

abbrev IsInQuotes : List ℕ → Type 0
IsInQuotes text = (inner : List ℕ) × (text ≡ quoted_bytes inner)

by_kind : (k : TokenKind) (text : List ℕ) → IsPiece (Token k) text → terminal_by k text ≡ String → IsInQuotes text
by_kind kind.Quoted text p e = let bad : false ≡ true = ap (λ t. not (nat_eq (terminal_code t) 3)) (sym e) ∙ no_string text p in cc
by_kind kind.Integer text p e = cc
by_kind kind.Decimal text p e = cc
by_kind kind.Identifier text p e = cc
by_kind kind.Text text p e =
    let first = cat_parts p in
    let rest = cat_parts first.3 in
    let open_mark = that_byte 0x22 first.0 first.2 in
    let close_mark = that_byte 0x22 rest.1 rest.3 in
    (rest.0, first.4 ∙ ap (λ u. u ++ first.1) open_mark ∙ ap (λ v. 0x22 ∷ v) (rest.4 ∙ ap (λ v. rest.0 ++ v) close_mark))
by_kind kind.Other text p e = cc

-- the token ahead stands between quotation marks if it is a string
pub quoted_ahead : (w : List Lexeme) (bytes inner text : List ℕ) → IfAhead w (λ l. bytes ≡ l.text) → IfAhead w (λ l. (file : ℕ) × IsSound file l) → ((x : List ℕ) → bytes ≡ quoted_bytes x → inner ≡ x) → text ≡ inner → IfAhead w (λ l. terminal_of l ≡ String → quoted_bytes text ≡ l.text)
quoted_ahead [] bytes inner text b s cut copy = tt
quoted_ahead (l ∷ v) bytes inner text b s cut copy = λ e.
    let q = by_kind l.kind l.text s.1.piece e in
    ap quoted_bytes (copy ∙ cut q.0 (b ∙ q.1)) ∙ sym q.1
