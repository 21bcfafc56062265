use Rattle.std.proofs.Common.{[], refl}
use Rattle.widl_grammar.specs.declared.rule.Rule.TheVariants as rule
use Rattle.widl_grammar.specs.declared.terminal.Terminal.TheVariants as terminal
use Rattle.widl_syntax.proofs.Reading.{and_then, by_only, by_row, took}
use Rattle.widl_syntax.proofs.Words.{by_word}
use Rattle.widl_syntax.proofs.build.reader.Reader.optional_argument.Goals as goal

pub returns : goal.returns
returns c = λ start attributes optional. by_only rule.Argument refl
    (and_then attributes (by_row rule.ArgumentRest terminal.Optional optional refl refl
    (and_then (took terminal.Optional c.take-optional.ensures)
    (and_then c.in-Ok.ensures.reads
    (and_then (by_word rule.ArgumentName [] refl refl c.in-Ok-name.ensures)
    c.in-Ok-default_value.ensures)))))
