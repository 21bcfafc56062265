use Rattle.std.proofs.Common.{refl, arith}
use Rattle.widl_grammar.specs.declared.rule.Rule.TheVariants as rule
use Rattle.widl_syntax.proofs.Lists.{goes_on, goes_over, goes_to_end, repeats_before_end, ends_here}
use Rattle.widl_syntax.proofs.Tokens.{definition_has_token}
use Rattle.widl_syntax.proofs.build.reader.Reader.definitions.Goals as goal
use Rattle.widl_syntax.proofs.build.reader.Reader.definitions.Goals.{else-loop-test, then-loop-test+then-left-eq0}

pub loop-preserved : goal.loop-preserved
loop-preserved c = goes_on c.loop.invariant c.in_ok-push.ensures.ok
    (repeats_before_end rule.Definitions 0 _ refl refl refl (omega arith))
    c.in_ok-definition.ensures (definition_has_token c.in_ok-definition.field-0)

pub returns : goal.returns
returns c = elim c.loop-test.branch [
  | else-loop-test w ↦ goes_to_end refl (omega arith) c.loop.invariant
  | then-loop-test+then-left-eq0 w ↦ goes_over c.loop.invariant (ends_here rule.Definitions _ refl (omega arith))
]
