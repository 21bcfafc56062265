use Rattle.std.proofs.Common.{◌≡◌, ◌∙◌, [], ap, map, subst}
use Rattle.std.proofs.lemmas.Result.{IfOk-weaker}
use Rattle.widl_lines.specs.declared.grammar.Rule.TheVariants as rule
use Rattle.widl_lines.specs.WordTerms.{lexeme_of}
use Rattle.widl_script_words.specs.Reading.{Reads, Runs, part}
use Rattle.widl_script_words.specs.Signs.{SpellsLine}
use Rattle.widl_script_words.specs.SpelledSteps.{step_signs}
use Rattle.widl_script_rules.specs.Surroundings.{plain_line}
use Rattle.widl_script_rules.proofs.FormedLines.{step_read}
use Rattle.widl_script_rules.proofs.step_lines.step_of.Goals as goal

pub returns : goal.returns
returns c =
    let line = plain_line c.args.line.now in
    let words : c.new-reader.result ≡ line.words = c.new-reader.ensures ∙ ap (map lexeme_of) c.deref.ensures.value in
    IfOk-weaker c.step_line.result (λ step. Reads (part rule.StepLine) [] (step_signs step) c.new-reader.result c.step_line.new.self) (λ step. Runs (part rule.StepLine) line.words → SpellsLine (step_signs step) line.words)
    (λ step h. step_read line.words c.step_line.new.self step (subst (λ ws. Reads (part rule.StepLine) [] (step_signs step) ws c.step_line.new.self) words h)) c.step_line.ensures
