use Rattle.std.proofs.Common.{◌≡◌, ◌∙◌, [], List, ap, drop, map}
use Rattle.std.proofs.lemmas.Result.{IfOk-weaker}
use Rattle.widl_lines.specs.declared.grammar.Rule.TheVariants as rule
use Rattle.widl_lines.specs.TextBreaks.{Line}
use Rattle.widl_lines.specs.WordTerms.{lexeme_of}
use Rattle.widl_script_rules.specs.FormedLines.{IsFormed}
use Rattle.widl_script_words.specs.Reading.{Reads, part}
use Rattle.widl_script_words.specs.SpelledTargets.{target_signs}
use Rattle.widl_script_rules.specs.Surroundings.{plain_line}
use Rattle.widl_script_rules.specs.Targets.{Opens}
use Rattle.widl_script_rules.proofs.FormedLines.{target_read}
use Rattle.widl_script_rules.proofs.step_lines.target_of.Goals as goal

pub returns : goal.returns
returns c =
    let line = plain_line c.args.line.now in
    let words : c.new-reader.result ≡ line.words = c.new-reader.ensures ∙ ap (map lexeme_of) c.deref.ensures.value in
    let next : c.take.new.self ≡ drop 1 line.words = c.take.ensures ∙ ap (drop 1) words in
    IfOk-weaker c.target.result (λ target. Reads (part rule.Target) [] (target_signs target) c.take.new.self c.target.new.self) (λ target. (around : List Line) → IsFormed around line → Opens line target)
    (λ target h. target_read line target c.take.new.self c.target.new.self c.requires next h) c.target.ensures
