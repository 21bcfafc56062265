use Rattle.std.proofs.Common.{refl, sym, [], ◌∷◌}
use Rattle.widl_grammar.specs.declared.rule.Rule.TheVariants as rule
use Rattle.widl_grammar.specs.declared.terminal.Terminal.TheVariants as terminal
use Rattle.widl_syntax.proofs.Reading.{by_row, by_rest, took_at}
use Rattle.widl_syntax.proofs.Words.{took_whole, none_of}
use Rattle.widl_syntax.proofs.build.reader.Reader.number_value.Goals as goal

pub returns-in-True : goal.returns-in-True
returns-in-True c = λ place after t. by_row rule.ConstValue terminal.True (sym c.in-True.ensures) refl refl (took_at terminal.True t)

pub returns-in-False : goal.returns-in-False
returns-in-False c = λ place after t. by_row rule.ConstValue terminal.False (sym c.in-False.ensures) refl refl (took_at terminal.False t)

pub returns-in_ok-token_text-in-Integer : goal.returns-in_ok-token_text-in-Integer
returns-in_ok-token_text-in-Integer c = λ place after t.
    by_row rule.ConstValue terminal.Integer (sym c.in-Integer.ensures) refl refl
    (took_whole terminal.Integer c.in_ok-token_text-in-Integer.field-0 t c.in_ok-token_text-in-Integer.ensures)

pub returns-in_ok-token_text-in-Decimal : goal.returns-in_ok-token_text-in-Decimal
returns-in_ok-token_text-in-Decimal c = λ place after t.
    by_row rule.ConstValue terminal.Decimal (sym c.in-Decimal.ensures) refl refl
    (took_whole terminal.Decimal c.in_ok-token_text-in-Decimal.field-0 t c.in_ok-token_text-in-Decimal.ensures)

pub returns-in-Infinity : goal.returns-in-Infinity
returns-in-Infinity c = λ place after t. by_row rule.ConstValue terminal.Infinity (sym c.in-Infinity.ensures) refl refl (took_at terminal.Infinity t)

pub returns-in-MinusInfinity : goal.returns-in-MinusInfinity
returns-in-MinusInfinity c = λ place after t. by_row rule.ConstValue terminal.MinusInfinity (sym c.in-MinusInfinity.ensures) refl refl (took_at terminal.MinusInfinity t)

pub returns-in_default : goal.returns-in_default
returns-in_default c = λ place after t.
    by_rest rule.ConstValue (terminal.True ∷ terminal.False ∷ terminal.Integer ∷ terminal.Decimal ∷ terminal.Infinity ∷ terminal.MinusInfinity ∷ []) 6 refl refl
    (none_of (terminal.True ∷ terminal.False ∷ terminal.Integer ∷ terminal.Decimal ∷ terminal.Infinity ∷ terminal.MinusInfinity ∷ []) c.ahead.result _ c.ahead.ensures
    (c.in_default.not-True, (c.in_default.not-False, (c.in_default.not-Integer, (c.in_default.not-Decimal, (c.in_default.not-Infinity, (c.in_default.not-MinusInfinity, tt)))))))
    (took_at terminal.Nan t)
