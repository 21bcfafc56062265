use Rattle.std.proofs.Common.{[], ◌∷◌, refl}
use Rattle.widl_grammar.specs.declared.rule.Rule.TheVariants as rule
use Rattle.widl_grammar.specs.declared.terminal.Terminal.TheVariants as terminal
use Rattle.widl_syntax.proofs.Reading.{and_then, by_rest, by_row, nothing_if, other_than, took_at}
use Rattle.widl_syntax.proofs.build.reader.Reader.ellipsis.Goals as goal

pub returns-in-Some : goal.returns-in-Some
returns-in-Some c = λ start end before after ty name first last.
    let read = by_row rule.Ellipsis terminal.Ellipsis c.in-Some.ensures.ahead refl refl (took_at terminal.Ellipsis c.in-Some.ensures.taken) in
    and_then first (and_then read last)

pub returns-in-None : goal.returns-in-None
returns-in-None c = λ start end before after ty name first last.
    let read = by_rest rule.Ellipsis (terminal.Ellipsis ∷ []) 1 refl refl (other_than terminal.Ellipsis _ c.in-None.ensures.other) (nothing_if c.in-None.ensures.same) in
    and_then first (and_then read last)
