use Rattle.std.proofs.Common.{◌∙◌, ap, subst, sym}
use Rattle.widl_idl.specs.DefinitionTerms.{defs_term}
use Rattle.widl_script_tree.specs.Tables.{Tables, script_tree}
use Rattle.widl_script.specs.Scripts.{Answers, lines_of_first}
use Rattle.widl_script_rules.specs.Targets.{is_target_of}
use Rattle.widl_script_words.specs.SpelledStatements.{IsTreeOf, words_of}
use Rattle.widl_script.proofs.FirstBlocks.{top_is}
use Rattle.widl_script.proofs.read.script_of.Goals as goal

pub returns-clause-tree : goal.returns-clause-tree
returns-clause-tree c =
    subst (λ (t : Tables). IsTreeOf (script_tree t) (words_of c.args.words.now)) (sym c.finish.ensures) (c.in_ok-built.ensures.tree c.in_ok-owners.owners.entries c.in_ok-targets.targets.entries)

pub returns-clause-answers : goal.returns-clause-answers
returns-clause-answers c =
    let t : Tables = c.in_ok-built.built.tables in
    let owners = c.in_ok-owners.owners.entries in
    let targets = c.in_ok-targets.targets.entries in
    subst (Answers (defs_term c.args.list.now)) (sym c.finish.ensures)
    (record {
      owners = c.in_ok-owners.ensures;
      steps = λ n m k space o at there asked. c.in_ok-targets.ensures n m k space o at there asked ∙ ap (lines_of_first (is_target_of space o k)) (top_is t c.in_ok-built.built.top owners targets);
    })
