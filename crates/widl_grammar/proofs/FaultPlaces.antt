-- From the fault of terminals to that of tokens.
use Rattle.std.proofs.Common.{◌≡◌, ℕ, ◌+◌, ◌≤◌, List, [], ◌∷◌, ◌++◌, Some, length, take, sym, ◌∙◌, ap, subst, inl, inr, ◌⊎◌}
use Rattle.std.proofs.lemmas.List.{map_more}
use Rattle.std.proofs.lemmas.Option.{slice_get_past, slice_get_within, get_or_from_slice_get}
use Rattle.std.specs.Prelude.{map, slice_get}
use Rattle.widl_text.specs.declared.place.Place.{Place}
use Rattle.widl_lex.specs.Tokens.{Lexeme, TokenList}
use Rattle.widl_predictive.specs.declared.fault.Fault.{Fault}
use Rattle.widl_predictive.specs.declared.fault.Fault.TheVariants as machine
use Rattle.widl_predictive.specs.Grammar.{IsFault}
use Rattle.widl_grammar.specs.declared.fault.SyntaxFault.TheVariants.{Syntax, TooDeep, Memory}
use Rattle.widl_grammar.specs.declared.rule.Rule.TheVariants.{Definitions}
use Rattle.widl_grammar.specs.declared.terminal.Terminal.{Terminal}
use Rattle.widl_grammar.specs.Rows.{grammar}
use Rattle.widl_grammar.specs.Source.{terminal_of, terminals_of, place_by, place_of, IsFaultOf}

pub place_within : (tokens : TokenList) (k : ℕ) (l : Lexeme) → slice_get tokens.lexemes k ≡ Some l → l.at ≡ place_of tokens k
place_within tokens k l e = ap (λ o. place_by o (record { file = tokens.file; at = tokens.end })) (sym e)

pub place_past : (tokens : TokenList) (k : ℕ) → length tokens.lexemes ≤ k → record { file = tokens.file; at = tokens.end } ≡ place_of tokens k
place_past tokens k h = ap (λ o. place_by o (record { file = tokens.file; at = tokens.end })) (sym (slice_get_past tokens.lexemes k h))

pub end_place : (tokens : TokenList) (file end : ℕ) → file ≡ tokens.file → end ≡ tokens.end → let place : Place = record { file = file; at = end } in place ≡ record { file = tokens.file; at = tokens.end }
end_place tokens file end f e = let one : (x : ℕ) → Place = λ x. record { file = x; at = end } in let other : (x : ℕ) → Place = λ x. record { file = tokens.file; at = x } in ap one f ∙ ap other e

pub more_terminals : (ls : List Lexeme) (k : ℕ) (l : Lexeme) (t : Terminal) (old new : List Terminal) → slice_get ls k ≡ Some l → t ≡ terminal_of l → old ≡ map terminal_of (take k ls) → new ≡ old ++ t ∷ [] → new ≡ map terminal_of (take (k + 1) ls)
more_terminals ls k l t old new e q o n =
    n ∙ ap (λ x. x ++ t ∷ []) o
    ∙ ap (λ x. map terminal_of (take k ls) ++ x ∷ []) (q ∙ ap terminal_of (sym (get_or_from_slice_get ls k l l e)))
    ∙ sym (map_more terminal_of ls k l (slice_get_within ls k l e))

abbrev ToldOf : List Terminal → Fault → Type 0
ToldOf w e = (e ≡ machine.Memory) ⊎ IsFault grammar Definitions w e

pub syntax_at : (tokens : TokenList) (w : List Terminal) (e : Fault) (k : ℕ) (place : Place) → e ≡ machine.Syntax k → w ≡ terminals_of tokens → place ≡ place_of tokens k → ToldOf w e → (Syntax place ≡ Memory) ⊎ IsFaultOf tokens (Syntax place)
syntax_at tokens w e k place is same_list at h = elim (subst (ToldOf w) is h) [
  | inl m ↦ cc
  | inr f ↦ inr (k, subst (λ x. IsFault grammar Definitions x (machine.Syntax k)) same_list f, at)
]

pub deep_at : (tokens : TokenList) (w : List Terminal) (e : Fault) (k : ℕ) (place : Place) → e ≡ machine.TooDeep k → w ≡ terminals_of tokens → place ≡ place_of tokens k → ToldOf w e → (TooDeep place ≡ Memory) ⊎ IsFaultOf tokens (TooDeep place)
deep_at tokens w e k place is same_list at h = elim (subst (ToldOf w) is h) [
  | inl m ↦ cc
  | inr f ↦ inr (k, subst (λ x. IsFault grammar Definitions x (machine.TooDeep k)) same_list f, at)
]
