use Rattle.std.proofs.Common.{◌≡◌, ◌++◌, List, [], ◌∷◌, refl, sym, ◌∙◌, ap, subst, drop, arith}
use Rattle.std.specs.Prelude.{map}
use Rattle.widl_text.specs.declared.place.Place.{Place}
use Rattle.widl_lex.specs.Tokens.{Lexeme}
use Rattle.widl_predictive.specs.Derivation.{Terminal as Token, Nonterminal}
use Rattle.widl_grammar.specs.declared.rule.Rule.TheVariants as rule
use Rattle.widl_grammar.specs.declared.terminal.Terminal.TheVariants as terminal
use Rattle.widl_grammar.specs.Rows.{grammar}
use Rattle.widl_grammar.specs.Tables.{sets}
use Rattle.widl_grammar.specs.Source.{terminal_of}
use Rattle.widl_syntax.proofs.Leveling.{runs_taken}
use Rattle.widl_syntax.specs.Reading.{Symbols, Runs, RunsOf, IsTakenAs, token, terminal_ahead}
use Rattle.widl_syntax.proofs.Reading.{by_row, by_rest, and_then, took, nothing, nothing_if, other_than, passed_by, taken_as, first_of_token}
use Rattle.widl_syntax.proofs.Lists.{Repeats, runs_at, goes_and, goes_used_up, adds_further}
use Rattle.widl_syntax.proofs.build.reader.Reader.more_values.Goals as goal

-- a comma and a string, by the rows of two rules
another : {now mid : List Lexeme} {place : Place} → IsTakenAs terminal.Comma place now mid → terminal_ahead mid ≡ terminal.String → Repeats rule.EnumMore (token terminal.Comma ++ token terminal.String) now
another {now} {mid} comma string = record {
  repeats = λ others r.
      let f = first_of_token terminal.Comma (Nonterminal rule.EnumNext ∷ others) now (runs_at rule.EnumMore terminal.Comma others now comma.ahead refl refl r) in
      let after : f.rest ≡ mid = sym (comma.taken.rest ∙ ap (drop 1) f.is) in
      let next : Runs (Token terminal.String ∷ Nonterminal rule.EnumMore ∷ others) mid = runs_at rule.EnumNext terminal.String others mid string refl refl (subst (Runs (Nonterminal rule.EnumNext ∷ others)) after f.runs) in
      let rest : Symbols = Token terminal.String ∷ Nonterminal rule.EnumMore ∷ others in
      subst (Runs (Token terminal.Comma ∷ rest)) (sym (f.is ∙ ap (λ u. f.lexeme ∷ u) after))
      (subst (λ a. RunsOf (Token terminal.Comma ∷ rest) (a ∷ map terminal_of mid)) (sym f.terminal) (runs_taken next));
}

pub returns-then-is_none : goal.returns-then-is_none
returns-then-is_none c =
    let passed = passed_by terminal.Comma _ _ c.take_if.result c.is_none.result c.is_none.ensures c.if-is_none.true c.take_if.ensures in
    (c.loop.invariant.more, c.loop.invariant.is, goes_and c.loop.invariant.so_far (by_rest rule.EnumMore (terminal.Comma ∷ []) 1 refl refl (other_than terminal.Comma _ passed.other) (nothing_if passed.same)))

pub returns-then-not-is_ahead : goal.returns-then-not-is_ahead
returns-then-not-is_ahead c =
    let found = taken_as terminal.Comma _ _ c.take_if.result c.is_none.result c.is_none.ensures c.if-is_none.false c.take_if.ensures in
    let other = other_than terminal.String _ (c.is_ahead.ensures.no c.if-not-is_ahead.true) in (
      c.loop.invariant.more,
      c.loop.invariant.is,
      goes_and c.loop.invariant.so_far
          (by_row rule.EnumMore terminal.Comma found.1.ahead refl refl
          (and_then (took terminal.Comma found.1.taken)
          (by_rest rule.EnumNext (terminal.String ∷ []) 1 refl refl other nothing))),
    )

pub loop-preserved : goal.loop-preserved
loop-preserved c =
    let found = taken_as terminal.Comma _ _ c.take_if.result c.is_none.result c.is_none.ensures c.if-is_none.false c.take_if.ensures in
    adds_further c.loop.invariant c.in_ok-push.ensures.ok
    (another found.1 (c.is_ahead.ensures.yes c.if-not-is_ahead.false))
    (and_then (took terminal.Comma found.1.taken) c.in_ok-enumeration_value.ensures) refl

pub returns : goal.returns
returns c = (c.loop.invariant.more, c.loop.invariant.is, goes_used_up refl (omega arith) c.loop.invariant.so_far)
