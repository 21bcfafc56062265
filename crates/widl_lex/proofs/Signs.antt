-- The signs with which no longer piece begins, by tests that the checker computes.
use Rattle.std.proofs.Common.{◌≡◌, ℕ, ◌<◌, Bool, true, List, [], ◌∷◌, length, get_or, take, refl, sym, ◌∙◌, ap, subst, arith, if◌then◌else◌, eqb, eqb-true}
use Rattle.std.specs.Prelude.{◌&&◌}
use lib.Pointwise.{pointwise, bytes_decides}
use Rattle.widl_lex.specs.Cut.{Longest}
use Rattle.widl_lex.specs.Quoted.{IsQuoted}
use Rattle.widl_lex.specs.Walk.{candidate_of, end_of, is_sign, next_of, IsLongestScan}
use Rattle.widl_lex.specs.declared.token.PieceKind.TheVariants.{Token}
use Rattle.widl_lex.specs.declared.token.TokenKind.TheVariants.{Other, Quoted}
use Rattle.widl_lex.proofs.Computed.{AllBytes, all_at, all_below, all_take, and_cases, if_true, take_more}
use Rattle.widl_lex.proofs.QuotedTable.{is_candidate}
use Rattle.widl_lex.proofs.Scans.{scan_longest}
use Rattle.widl_lex.proofs.Table.{dead_no, ends_scan, run, run_more}

-- a sign is quoted, and leads to the state 1
alone : ℕ → Bool
alone b = if is_sign b then eqb (next_of 0 b) 1 && pointwise eqb (candidate_of (b ∷ [])) (b ∷ []) else true

table_signs : all_below 256 alone ≡ true
unfolding all_below alone
table_signs = refl

-- in which nothing goes on
table_one : all_below 256 (λ b. eqb (next_of 1 b) 11) ≡ true
unfolding all_below
table_one = refl

sign_alone : (b : ℕ) → b < 256 → is_sign b ≡ true → (next_of 0 b ≡ 1) × IsQuoted (b ∷ [])
unfolding alone
sign_alone b lt sign =
    let tests = and_cases _ _ (if_true (is_sign b) _ (all_at 256 alone table_signs b lt) sign) in
    (eqb-true _ _ tests.0, is_candidate (b ∷ []) ((bytes_decides _ _).0 tests.1))

-- a sign is the longest piece at its place
pub sign_longest : (w : List ℕ) → AllBytes w → ((i : ℕ) → get_or w i 0 < 256) → 0 < length w → is_sign (get_or w 0 0) ≡ true → Longest (Token Quoted) 1 w
sign_longest w all bytes some sign =
    let facts = sign_alone (get_or w 0 0) (bytes 0) sign in
    let first : next_of 0 (get_or w 0 0) ≡ run 0 (take 1 w) = run_more w all 0 0 (next_of 0 (get_or w 0 0)) some refl refl in
    let one : run 0 (take 1 w) ≡ 1 = sym first ∙ facts.0 in
    let scan : IsLongestScan (Token Other) 1 w = record {
      within = omega arith;
      some = omega arith;
      scan = ends_scan (Token Other) (take 1 w) (all_take 1 w all) (ap end_of one);
      longest = λ m other more le match. dead_no w all 1 (next_of 1 (get_or w 1 0)) (run_more w all 1 1 (next_of 1 (get_or w 1 0)) (omega arith) (sym one) refl) (eqb-true _ _ (all_at 256 (λ b. eqb (next_of 1 b) 11) table_one (get_or w 1 0) (bytes 1))) m other more le match;
    } in
    scan_longest (Token Quoted) (Token Other) 1 w all scan (λ q. refl) (subst IsQuoted (sym (take_more w 0 some)) facts.1)
