-- Lemmas: a set of files has at most as many definitions as tokens, and what is written in them is no more, so 32 bits can count these.
use Rattle.std.proofs.Common.{◌≡◌, ℕ, ◌+◌, ◌<◌, ◌≤◌, ◌^◌, List, [], ◌∷◌, length, arith}
use Rattle.std.specs.Prelude.{sum_by}
use Rattle.std.proofs.lemmas.List.{length-append, length-map}
use Rattle.std.proofs.lemmas.List.Sums.{sum_by-append, sum_by-cons}
use Rattle.widl_idl.specs.declared.tree.fragments.Fragment.{Fragment}
use Rattle.widl_idl.specs.Meanings.{definitions_of}
use Rattle.widl_idl.specs.PlainTrees.{definition_of, plain_definitions}
use Rattle.widl_merge.specs.Countable.{IsCountable}
use Rattle.widl_text.specs.Limits.{most_files}
use Rattle.widl_front.specs.Texts.{AreShort}
use Rattle.widl_front.specs.Verdicts.{AreTreesFrom, AreTreesOf}
use Rattle.widl_front.proofs.TokenCounts.{tokens_fit}
use Rattle.widl_front.proofs.WrittenTokens.{counted, definition_count, file_count, file_definitions}

abbrev token_total : List Fragment → ℕ
token_total trees = sum_by (λ (f : Fragment). f.token_count) trees

trees_definitions : (file : ℕ) (texts : List (List ℕ)) (trees : List Fragment) → AreTreesFrom file texts trees → length (definitions_of trees) ≤ token_total trees
trees_definitions file [] [] are = omega arith
trees_definitions file [] (tree ∷ trees) are = absurd are
trees_definitions file (bytes ∷ texts) [] are = absurd are
trees_definitions file (bytes ∷ texts) (tree ∷ trees) are =
    let here = file_definitions tree are.0.tokens.lexemes are.0.unparsed in
    let size = length-map tree.definitions definition_of in
    let count : tree.token_count ≡ length are.0.tokens.lexemes = are.0.counted in
    let others = trees_definitions (file + 1) texts trees are.1 in
    let both = length-append (plain_definitions tree.definitions) (definitions_of trees) in
    let sum : token_total (tree ∷ trees) ≡ tree.token_count + token_total trees = sum_by-cons (λ (f : Fragment). f.token_count) tree trees in
    omega (arith, here, size, count, others, both, sum)

trees_written : (file : ℕ) (texts : List (List ℕ)) (trees : List Fragment) → AreTreesFrom file texts trees → sum_by definition_count (definitions_of trees) ≤ token_total trees
trees_written file [] [] are = omega arith
trees_written file [] (tree ∷ trees) are = absurd are
trees_written file (bytes ∷ texts) [] are = absurd are
trees_written file (bytes ∷ texts) (tree ∷ trees) are =
    let here = file_count tree are.0.tokens.lexemes are.0.unparsed in
    let count : tree.token_count ≡ length are.0.tokens.lexemes = are.0.counted in
    let others = trees_written (file + 1) texts trees are.1 in
    let both = sum_by-append definition_count (plain_definitions tree.definitions) (definitions_of trees) in
    let sum : token_total (tree ∷ trees) ≡ tree.token_count + token_total trees = sum_by-cons (λ (f : Fragment). f.token_count) tree trees in
    omega (arith, here, count, others, both, sum)

-- there are no more definitions than tokens
pub definitions_fit : (texts : List (List ℕ)) (trees : List Fragment) → length texts ≤ most_files → AreShort texts → AreTreesOf texts trees → length (definitions_of trees) < 2 ^ 32
definitions_fit texts trees few short are =
    let fewer = trees_definitions 0 texts trees are in
    let tokens = tokens_fit texts trees few short are in
    omega (arith, fewer, tokens)

-- and no more is written in them
pub written_fits : (texts : List (List ℕ)) (trees : List Fragment) → length texts ≤ most_files → AreShort texts → AreTreesOf texts trees → IsCountable (definitions_of trees)
written_fits texts trees few short are =
    let fewer = trees_written 0 texts trees are in
    let all = counted (definitions_of trees) in
    let tokens = tokens_fit texts trees few short are in
    omega (arith, fewer, all, tokens)
