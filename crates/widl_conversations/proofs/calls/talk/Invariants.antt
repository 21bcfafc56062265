use Rattle.widl_steps.specs.AskTerms.{answer_term}
use Rattle.widl_calls.specs.Stack.{CallExpects}
use Rattle.widl_conversations.proofs.calls.talk.Given as goal

abbrev pub invariant-loop-round : goal.invariant-loop-round
invariant-loop-round l = CallExpects l.asker (answer_term l.answer)
