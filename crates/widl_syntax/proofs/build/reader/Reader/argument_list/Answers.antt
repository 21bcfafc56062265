use Rattle.std.proofs.Common.{◌≡◌, ◌++◌, [], ◌∷◌, refl, sym, ◌∙◌, ap, subst}
use Rattle.widl_grammar.specs.declared.rule.Rule.TheVariants as rule
use Rattle.widl_grammar.specs.declared.terminal.Terminal.TheVariants as terminal
use Rattle.widl_syntax.specs.Reading.{Reads, part}
use Rattle.widl_syntax.specs.Signs.{separated}
use Rattle.widl_syntax.specs.UnparsedMembers.{argument}
use Rattle.widl_syntax.proofs.Reading.{by_rest, by_row, nothing, other_than}
use Rattle.widl_syntax.proofs.Separated.{separated_items}
use Rattle.widl_syntax.proofs.build.reader.Reader.argument_list.Goals as goal

pub returns-then-is_ahead : goal.returns-then-is_ahead
returns-then-is_ahead c =
    subst (λ arguments. Reads (part rule.ArgumentList) (separated terminal.Comma argument arguments) c.args.self.now c.args.self.now) (sym c.new.ensures)
    (by_row rule.ArgumentList terminal.CloseParen (c.is_ahead.ensures.yes c.if-is_ahead.true) refl refl nothing)

pub returns : goal.returns
returns c =
    let one : c.push.new.self ≡ c.in-Ok.first ∷ [] = c.in-Ok-push.ensures.ok ∙ ap (λ l. l ++ c.in-Ok.first ∷ []) c.in_ok-arguments.ensures in
    by_rest rule.ArgumentList (terminal.CloseParen ∷ []) 0 refl refl (other_than terminal.CloseParen _ (c.is_ahead.ensures.no c.if-is_ahead.false))
    (separated_items terminal.Comma one c.in-Ok.ensures c.in-Ok-more_arguments.ensures)
