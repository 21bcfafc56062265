-- Each word or sign that a token can be quoted as is a terminal.
use Rattle.std.proofs.Common.{◌≡◌, ℕ, true, List, refl, subst}
use Rattle.std.specs.Prelude.{is_some}
use Rattle.widl_lex.specs.Quoted.{quoted_terminals, IsQuoted}
use Rattle.widl_predictive.proofs.Check.{each, each_at}
use Rattle.widl_grammar.specs.Words.{quoted}

all_quoted : each (λ text. is_some (quoted text)) quoted_terminals ≡ true
unfolding each
all_quoted = refl

pub quoted_some : (text : List ℕ) → IsQuoted text → is_some (quoted text) ≡ true
quoted_some text h = subst (λ x. is_some (quoted x) ≡ true) h.2 (each_at (λ x. is_some (quoted x)) quoted_terminals all_quoted h.0 h.1 text)
