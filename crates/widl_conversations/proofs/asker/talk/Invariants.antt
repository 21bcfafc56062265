use Rattle.widl_steps.specs.AskTerms.{answer_term}
use Rattle.widl_convert.specs.Stack.{Expects}
use Rattle.widl_conversations.proofs.asker.talk.Given as goal

abbrev pub invariant-loop-round : goal.invariant-loop-round
invariant-loop-round l = Expects l.asker (answer_term l.answer)
