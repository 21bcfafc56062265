-- Each UTF-8 text has exactly one cut.
use Rattle.std.proofs.Common.{◌≡◌, ℕ, zero, suc, ◌+◌, ◌<◌, ◌≤◌, Bool, true, false, Option, Some, None, List, [], ◌∷◌, length, take, drop, refl, sym, ◌∙◌, ap, subst, arith, ltb, ltb-true, ltb-false, inl, inr, take-append-drop, length-drop}
use Rattle.std.specs.Prelude.{IsUtf8, MatchOption}
use Rattle.widl_lex.specs.declared.token.PieceKind.{PieceKind}
use Rattle.widl_lex.specs.declared.token.PieceKind.TheVariants.{Token}
use Rattle.widl_lex.specs.declared.token.TokenKind.TheVariants.{Quoted}
use Rattle.widl_lex.specs.Cut.{Piece, Longest, Cut, none, next, HasOneCut}
use Rattle.widl_lex.specs.Walk.{end_of, NoScan, IsLongestScan, better_of}
use Rattle.widl_lex.proofs.Computed.{AllBytes, all_take}
use Rattle.widl_lex.proofs.Characters.{utf8_bytes}
use Rattle.widl_lex.proofs.Table.{run, scan_ends, Best, better_kept, best_done}
use Rattle.widl_lex.proofs.Scans.{scan_piece, plain_scan, scan_longest}
use Rattle.widl_lex.proofs.QuotedTable.{quoted_or_not}
use Rattle.widl_lex.proofs.Whole.{some_scan}
use Rattle.widl_lex.proofs.Cuts.{piece_utf8, rest_is}

-- two longest pieces at one place are the same
same_length : (k j : PieceKind) (n m : ℕ) (w : List ℕ) → Longest k n w → Longest j m w → n ≡ m
same_length k j n m w a b = go (ltb n m) (ltb m n) refl refl
  where
    go : (c d : Bool) → ltb n m ≡ c → ltb m n ≡ d → n ≡ m
    go true d e f = absurd (a.longest m j (ltb-true n m e) b.within b.piece)
    go false true e f = absurd (b.longest n k (ltb-true m n f) a.within a.piece)
    go false false e f = omega (arith, ltb-false n m e, ltb-false m n f)

some_same : {X : Type 0} {x y : X} → Some x ≡ Some y → x ≡ y
some_same e = cc

same_kind : (k j : PieceKind) (n : ℕ) (w : List ℕ) → AllBytes w → Longest k n w → Longest j n w → k ≡ j
same_kind k j n w all a b = elim (quoted_or_not (take n w)) [
  | inl q ↦ a.tie q ∙ sym (b.tie q)
  | inr plain ↦ some_same (sym (scan_ends k (take n w) (all_take n w all) (plain_scan k (take n w) plain a.piece)) ∙ scan_ends j (take n w) (all_take n w all) (plain_scan j (take n w) plain b.piece))
]

no_piece : (k : PieceKind) (n : ℕ) → Longest k n [] → ⊥
no_piece k n a = omega (arith, a.within, a.some)

cut_unique : {text : List ℕ} {p q : List Piece} → Cut text p → IsUtf8 text → Cut text q → p ≡ q
cut_unique none u none = refl
cut_unique none u (next j m rest b f y) = absurd (no_piece j m b)
cut_unique (next k n rest a e x) u none = absurd (no_piece k n a)
cut_unique (next {text} {more} k n rest a e x) u (next {more = others} j m other b f y) =
    let len : n ≡ m = same_length k j n m text a b in
    let kind : k ≡ j = same_kind k j n text (utf8_bytes text u) a (subst (λ i. Longest j i text) (sym len) b) in
    let after : rest ≡ drop n text = rest_is n text rest e in
    let left : rest ≡ other = after ∙ ap (λ i. drop i text) len ∙ sym (rest_is m text other f) in
    let ih : more ≡ others = cut_unique x (subst IsUtf8 (sym after) (piece_utf8 text k n u a).1) (subst (λ r. Cut r others) (sym left) y) in
    ap (λ i. (i, take n text) ∷ more) kind ∙ ap (λ i. (j, take i text) ∷ more) len ∙ ap (λ r. (j, take m text) ∷ r) ih

-- the longest scan, by going through the text
best_at : List ℕ → ℕ → Option (ℕ × PieceKind)
best_at w zero = None
best_at w (suc p) = better_of (best_at w p) (p + 1) (end_of (run 0 (take (p + 1) w)))

best_is : (w : List ℕ) → AllBytes w → (p : ℕ) → p ≤ length w → Best (best_at w p) p w
unfolding best_at
best_is w all zero le = λ m k pos lm match. absurd (omega arith)
best_is w all (suc p) le =
    let one : p + 1 ≡ suc p = omega arith in
    subst (λ i. Best (best_at w (suc p)) i w) one (better_kept w all (best_at w p) p (end_of (run 0 (take (p + 1) w))) refl (best_is w all p (omega arith)))

found : (w : List ℕ) (best : Option (ℕ × PieceKind)) → MatchOption best (NoScan w) (λ r. IsLongestScan r.1 r.0 w) → (NoScan w → ⊥) → (k : PieceKind) × (n : ℕ) × IsLongestScan k n w
found w None none_there nope = absurd (nope none_there)
found w (Some r) long nope = (r.1, r.0, long)

some_longest_scan : (w : List ℕ) → IsUtf8 w → 0 < length w → (k : PieceKind) × (n : ℕ) × IsLongestScan k n w
some_longest_scan w u pos = let all = utf8_bytes w u in found w (best_at w (length w)) (best_done w all (best_at w (length w)) (length w) (omega arith) (λ m k gt le match. absurd (omega arith)) (best_is w all (length w) (omega arith))) (some_scan w all u pos)

some_longest : (w : List ℕ) → IsUtf8 w → 0 < length w → (k : PieceKind) × (n : ℕ) × Longest k n w
some_longest w u pos =
    let all = utf8_bytes w u in
    let s = some_longest_scan w u pos in
    elim (quoted_or_not (take s.1 w)) [
      | inl q ↦ (Token Quoted, s.1, scan_longest (Token Quoted) s.0 s.1 w all s.2 (λ same. refl) q)
      | inr plain ↦ (s.0, s.1, scan_longest s.0 s.0 s.1 w all s.2 (λ q. absurd (plain q)) (scan_piece s.0 (take s.1 w) s.2.scan plain))
    ]

cut_within : (fuel : ℕ) (w : List ℕ) → length w ≤ fuel → IsUtf8 w → (p : List Piece) × Cut w p
cut_within fuel [] le u = ([], none)
cut_within zero (b ∷ w) le u = absurd (omega arith)
cut_within (suc fuel) (b ∷ w) le u =
    let r = some_longest (b ∷ w) u (omega arith) in
    let len : length (drop r.1 (b ∷ w)) ≤ fuel = omega (arith, length-drop r.1 (b ∷ w), r.2.some) in
    let rest = cut_within fuel (drop r.1 (b ∷ w)) len (piece_utf8 (b ∷ w) r.0 r.1 u r.2).1 in
    ((r.0, take r.1 (b ∷ w)) ∷ rest.0, next {more = rest.0} r.0 r.1 (drop r.1 (b ∷ w)) r.2 (sym (take-append-drop r.1 (b ∷ w))) rest.1)

pub one_cut : (text : List ℕ) → IsUtf8 text → HasOneCut text
one_cut text u =
    let c = cut_within (length text) text (omega arith) u in
    record { pieces = c.0; cut = c.1; only = λ others other. sym (cut_unique c.1 u other) }
