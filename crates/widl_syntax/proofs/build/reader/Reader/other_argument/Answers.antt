use Rattle.std.proofs.Common.{[], ◌∷◌, refl}
use Rattle.widl_grammar.specs.declared.rule.Rule.TheVariants as rule
use Rattle.widl_grammar.specs.declared.terminal.Terminal.TheVariants as terminal
use Rattle.widl_syntax.specs.Reading.{part}
use Rattle.widl_syntax.specs.UnparsedNames.{any_name}
use Rattle.widl_syntax.proofs.Reading.{and_then, by_only, by_rest, other_than}
use Rattle.widl_syntax.proofs.Words.{by_word}
use Rattle.widl_syntax.proofs.build.reader.Reader.other_argument.Goals as goal

pub returns : goal.returns
returns c = λ start attributes other. by_only rule.Argument refl
    (and_then attributes (by_rest rule.ArgumentRest (terminal.Optional ∷ []) 1 refl refl (other_than terminal.Optional _ other)
    (c.ellipsis-kind.ensures _ _ (part rule.WholeType) (part rule.ArgumentName) c.in-Ok.ty (any_name rule.ArgumentName c.in-Ok-name.name)
    c.in-Ok.ensures (by_word rule.ArgumentName [] refl refl c.in-Ok-name.ensures))))
