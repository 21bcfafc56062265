use Rattle.std.proofs.Common.{ap, sym, ◌∙◌, drop, map}
use Rattle.std.proofs.lemmas.List.{take_rest, drop-map}
use Rattle.widl_lines.specs.WordTerms.{lexeme_of}
use Rattle.widl_script_rules.proofs.names.words_behind.Goals as goal

pub returns-then-count-words : goal.returns-then-count-words
returns-then-count-words c =
    ap (map lexeme_of) (take_rest c.as_slice-words.result.now c.args.count) ∙ ap (λ xs. map lexeme_of (drop c.args.count xs)) c.as_slice-words.ensures.value ∙ sym (drop-map lexeme_of c.args.count c.args.line.now.words.items)
