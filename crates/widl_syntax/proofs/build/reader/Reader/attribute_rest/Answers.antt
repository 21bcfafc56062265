use Rattle.std.proofs.Common.{refl, subst, sym}
use Rattle.widl_grammar.specs.declared.rule.Rule.TheVariants as rule
use Rattle.widl_grammar.specs.declared.terminal.Terminal.TheVariants as terminal
use Rattle.widl_syntax.specs.Reading.{Reads, part}
use Rattle.widl_syntax.specs.UnparsedNames.{attribute_rest}
use Rattle.widl_syntax.proofs.AttributeArguments.{no_tokens}
use Rattle.widl_syntax.proofs.build.reader.Reader.attribute_rest.Goals as goal

pub returns-then-is_ahead-clause-reads : goal.returns-then-is_ahead-clause-reads
returns-then-is_ahead-clause-reads c =
    subst (λ tokens. Reads (part rule.ExtendedAttributeRest) (attribute_rest tokens) c.args.self.now c.args.self.now) (sym c.new.ensures)
    (no_tokens terminal.CloseBracket (c.is_ahead.ensures.yes c.if-is_ahead.true) refl refl)

pub returns-then-is_ahead-2-clause-reads : goal.returns-then-is_ahead-2-clause-reads
returns-then-is_ahead-2-clause-reads c =
    subst (λ tokens. Reads (part rule.ExtendedAttributeRest) (attribute_rest tokens) c.args.self.now c.args.self.now) (sym c.new-then-is_ahead-2.ensures)
    (no_tokens terminal.Comma (c.is_ahead-2.ensures.yes c.if-is_ahead-2.true) refl refl)
