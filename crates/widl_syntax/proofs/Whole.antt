-- What is read of a whole file spells it.
use Rattle.std.proofs.Common.{◌≡◌, ◌≤◌, true, None, List, [], refl, subst, arith}
use Rattle.widl_lex.specs.Tokens.{Lexeme, TokenList}
use Rattle.widl_predictive.specs.Grammar.{IsAccepted, start}
use Rattle.widl_predictive.specs.Lookahead.{choice}
use Rattle.widl_grammar.specs.declared.rule.Rule.{Rule}
use Rattle.widl_grammar.specs.declared.rule.Rule.TheVariants.{Definitions, WholeType, MemberDistinguishable, MemberUnion}
use Rattle.widl_grammar.specs.Owed.{owed}
use Rattle.widl_grammar.specs.Rows.{grammar, begins_type}
use Rattle.widl_grammar.specs.Tables.{sets}
use Rattle.widl_grammar.specs.Source.{terminals_of}
use Rattle.widl_syntax.specs.Signs.{Sign, UnparsesTo}
use Rattle.widl_syntax.specs.Reading.{Reads, part}
use Rattle.widl_syntax.proofs.Accepted.{accepted_levels}
use Rattle.widl_syntax.proofs.Reading.{end_of_nothing}

-- no type is empty
no_end : (r : Rule) → begins_type r ≡ true → choice grammar sets r None ≡ None
no_end WholeType h = refl
no_end MemberDistinguishable h = refl
no_end MemberUnion h = refl
no_end _ h = cc

pub whole_file : (tokens : TokenList) {from to : List Lexeme} {x : List Sign} → from ≡ tokens.lexemes → IsAccepted grammar Definitions (terminals_of tokens) → Reads (part Definitions) x from to → UnparsesTo x tokens.lexemes []
whole_file tokens {from} {to} {x} all accepted read =
    let whole = subst (λ w. Reads (part Definitions) x w to) all read in
    let levels = accepted_levels grammar sets owed no_end Definitions (terminals_of tokens) refl (omega arith) accepted in
    let done = whole.reads [] (start grammar Definitions, refl, levels) in
    subst (UnparsesTo x tokens.lexemes) (end_of_nothing to done.1) done.0
