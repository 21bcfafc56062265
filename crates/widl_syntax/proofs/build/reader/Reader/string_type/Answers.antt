use Rattle.std.proofs.Common.{refl, sym, ◌∙◌, [], ◌∷◌}
use Rattle.widl_grammar.specs.declared.rule.Rule.TheVariants as rule
use Rattle.widl_grammar.specs.declared.terminal.Terminal.TheVariants as terminal
use Rattle.widl_syntax.proofs.Reading.{by_row, by_rest, took}
use Rattle.widl_syntax.proofs.Types.{taken_le}
use Rattle.widl_syntax.proofs.Words.{none_of}
use Rattle.widl_syntax.proofs.build.reader.Reader.string_type.Goals as goal

pub returns-in-UsvString-clause-reads : goal.returns-in-UsvString-clause-reads
returns-in-UsvString-clause-reads c =
    by_row rule.StringType terminal.UsvString (sym c.ahead-ahead.ensures ∙ c.in-UsvString.is) refl refl (took terminal.UsvString c.take-word.ensures)

pub returns-in-ByteString-clause-reads : goal.returns-in-ByteString-clause-reads
returns-in-ByteString-clause-reads c =
    by_row rule.StringType terminal.ByteString (sym c.ahead-ahead.ensures ∙ c.in-ByteString.is) refl refl (took terminal.ByteString c.take-word.ensures)

pub returns-in_default : goal.returns-in_default
returns-in_default c = record {
  reads = by_rest rule.StringType (terminal.ByteString ∷ terminal.UsvString ∷ []) 1 refl refl
      (none_of (terminal.ByteString ∷ terminal.UsvString ∷ []) c.ahead-ahead.result _ c.ahead-ahead.ensures (c.in_default.not-ByteString, (c.in_default.not-UsvString, tt)))
      (took terminal.DomString c.take-word.ensures);
  shorter = taken_le c.take-word.ensures;
}
