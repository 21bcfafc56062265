-- Lemmas: a file has at most as many tokens as bytes, so 32 bits can count those of a set of files.
use Rattle.std.proofs.Common.{◌≡◌, ℕ, ◌+◌, ◌*◌, ◌<◌, ◌≤◌, ◌^◌, List, [], ◌∷◌, ◌++◌, length, take, suc, zero, ap, ◌∙◌, arith}
use Rattle.std.specs.Prelude.{sum_by}
use Rattle.std.proofs.lemmas.List.{length-append, length-take-le}
use Rattle.std.proofs.lemmas.List.Sums.{sum_by-cons}
use Rattle.widl_text.specs.Limits.{most_files, most_file_bytes}
use Rattle.widl_text.specs.declared.place.Place.{Place}
use Rattle.widl_idl.specs.declared.tree.fragments.Fragment.{Fragment}
use Rattle.widl_lex.specs.Cut.{Piece, Cut, none, next}
use Rattle.widl_lex.specs.Tokens.{TokenList, AreTokensOf, lexemes_of, tokens_from}
use Rattle.widl_lex.specs.declared.token.PieceKind.{PieceKind}
use Rattle.widl_lex.specs.declared.token.PieceKind.TheVariants.{Token, Gap}
use Rattle.widl_front.specs.Texts.{AreShort}
use Rattle.widl_front.specs.Verdicts.{AreTreesFrom, AreTreesOf, IsTreeOf}

one_lexeme : (at : Place) (kind : PieceKind) (text : List ℕ) → length (lexemes_of at kind text) ≤ 1
one_lexeme at (Token kind) text = omega arith
one_lexeme at Gap text = omega arith

-- each piece has a byte at least, and is one token at most
tokens_few : {text : List ℕ} {pieces : List Piece} → Cut text pieces → (file offset : ℕ) → length (tokens_from file offset pieces) ≤ length text
tokens_few none file offset = omega arith
tokens_few (next {text} {more} kind n rest longest split cut) file offset =
    let at : Place = record { file = file; at = offset } in
    let after : ℕ = offset + length (take n text) in
    let one : length (lexemes_of at kind (take n text)) ≤ 1 = one_lexeme at kind (take n text) in
    let others : length (tokens_from file after more) ≤ length rest = tokens_few cut file after in
    let piece : length (take n text) ≡ n = length-take-le n text longest.within in
    let some : 0 < n = longest.some in
    let whole : length text ≡ length (take n text) + length rest = ap length split ∙ length-append (take n text) rest in
    let sum : length (lexemes_of at kind (take n text) ++ tokens_from file after more) ≡ length (lexemes_of at kind (take n text)) + length (tokens_from file after more) =
    length-append (lexemes_of at kind (take n text)) (tokens_from file after more) in
    omega (arith, one, others, piece, some, whole, sum)

tree_tokens : (file : ℕ) (bytes : List ℕ) (tree : Fragment) → IsTreeOf file bytes tree → tree.token_count ≤ length bytes
tree_tokens file bytes tree is =
    let few : length (tokens_from file 0 is.tokens_are.cut.pieces) ≤ length bytes = tokens_few is.tokens_are.cut.cut file 0 in
    let same : length is.tokens.lexemes ≡ length (tokens_from file 0 is.tokens_are.cut.pieces) = ap length is.tokens_are.cut.tokens_are in
    let counted : tree.token_count ≡ length is.tokens.lexemes = is.counted in
    omega (arith, few, same, counted)

trees_tokens : (file : ℕ) (texts : List (List ℕ)) (trees : List Fragment) → AreShort texts → AreTreesFrom file texts trees
    → sum_by (λ (f : Fragment). f.token_count) trees ≤ most_file_bytes * length texts
trees_tokens file [] [] short are = omega arith
trees_tokens file [] (tree ∷ trees) short are = absurd are
trees_tokens file (bytes ∷ texts) [] short are = absurd are
trees_tokens file (bytes ∷ texts) (tree ∷ trees) short are =
    let here : tree.token_count ≤ length bytes = tree_tokens file bytes tree are.0 in
    let size : length bytes ≤ 1048576 = short zero in
    let others : sum_by (λ (f : Fragment). f.token_count) trees ≤ most_file_bytes * length texts = trees_tokens (file + 1) texts trees (λ i. short (suc i)) are.1 in
    let sum : sum_by (λ (f : Fragment). f.token_count) (tree ∷ trees) ≡ tree.token_count + sum_by (λ (f : Fragment). f.token_count) trees = sum_by-cons (λ (f : Fragment). f.token_count) tree trees in
    omega (arith, here, size, others, sum)

-- 64 files of 2 ^ 20 bytes have at most 2 ^ 26 tokens
pub tokens_fit : (texts : List (List ℕ)) (trees : List Fragment) → length texts ≤ most_files → AreShort texts → AreTreesOf texts trees
    → sum_by (λ (f : Fragment). f.token_count) trees < 2 ^ 32
tokens_fit texts trees few short are =
    let all : sum_by (λ (f : Fragment). f.token_count) trees ≤ 1048576 * length texts = trees_tokens 0 texts trees short are in
    omega (arith, few, all)
