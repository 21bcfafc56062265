use Rattle.std.proofs.Common.{refl, sym, [], ◌∷◌}
use Rattle.std.proofs.lemmas.Result.{IfOk-weaker}
use Rattle.widl_grammar.specs.declared.rule.Rule.TheVariants as rule
use Rattle.widl_grammar.specs.declared.terminal.Terminal.TheVariants as terminal
use Rattle.widl_syntax.proofs.Reading.{by_row, by_rest}
use Rattle.widl_syntax.proofs.Words.{none_of}
use Rattle.widl_syntax.proofs.build.reader.Reader.literal.Goals as goal

pub returns-in-String : goal.returns-in-String
returns-in-String c = IfOk-weaker c.text_literal.result _ _ (λ value r. by_row rule.DefaultValue terminal.String (sym c.in-String.ensures) refl refl r) c.text_literal.ensures

pub returns-in-OpenBracket : goal.returns-in-OpenBracket
returns-in-OpenBracket c = by_row rule.DefaultValue terminal.OpenBracket (sym c.in-OpenBracket.ensures) refl refl (c.empty_literal.ensures terminal.OpenBracket terminal.CloseBracket refl)

pub returns-in-OpenBrace : goal.returns-in-OpenBrace
returns-in-OpenBrace c = by_row rule.DefaultValue terminal.OpenBrace (sym c.in-OpenBrace.ensures) refl refl (c.empty_literal-in-OpenBrace.ensures terminal.OpenBrace terminal.CloseBrace refl)

pub returns-in-Null : goal.returns-in-Null
returns-in-Null c = by_row rule.DefaultValue terminal.Null (sym c.in-Null.ensures) refl refl (c.word_literal.ensures terminal.Null refl)

pub returns-in-Undefined : goal.returns-in-Undefined
returns-in-Undefined c = by_row rule.DefaultValue terminal.Undefined (sym c.in-Undefined.ensures) refl refl (c.word_literal-in-Undefined.ensures terminal.Undefined refl)

pub returns-in_default : goal.returns-in_default
returns-in_default c = IfOk-weaker c.constant_value.result _ _ (λ value r.
    by_rest rule.DefaultValue (terminal.String ∷ terminal.OpenBracket ∷ terminal.OpenBrace ∷ terminal.Null ∷ terminal.Undefined ∷ []) 0 refl refl
    (none_of (terminal.String ∷ terminal.OpenBracket ∷ terminal.OpenBrace ∷ terminal.Null ∷ terminal.Undefined ∷ []) c.ahead.result _ c.ahead.ensures
    (c.in_default.not-String, (c.in_default.not-OpenBracket, (c.in_default.not-OpenBrace, (c.in_default.not-Null, (c.in_default.not-Undefined, tt))))))
    r) c.constant_value.ensures
