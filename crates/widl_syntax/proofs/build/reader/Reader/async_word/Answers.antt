use Rattle.std.proofs.Common.{refl, [], ◌∷◌}
use Rattle.widl_grammar.specs.declared.rule.Rule.TheVariants as rule
use Rattle.widl_grammar.specs.declared.terminal.Terminal.TheVariants as terminal
use Rattle.widl_syntax.proofs.Reading.{by_arm, by_default, and_then, took, other_than}
use Rattle.widl_syntax.proofs.build.reader.Reader.async_word.Goals as goal

pub returns-in-AsyncIterable : goal.returns-in-AsyncIterable
returns-in-AsyncIterable c = by_arm rule.AsyncWord terminal.AsyncIterable _ c.ahead.ensures c.in-AsyncIterable.is refl refl (took terminal.AsyncIterable c.take-word.ensures)

pub returns-in_default : goal.returns-in_default
returns-in_default c = by_default rule.AsyncWord (terminal.AsyncIterable ∷ []) 0 _ c.ahead.ensures refl refl
    (other_than terminal.AsyncIterable _ c.in_default.not-AsyncIterable)
    (and_then (took terminal.Async c.take-async.ensures) (took terminal.Iterable c.take-iterable.ensures))
