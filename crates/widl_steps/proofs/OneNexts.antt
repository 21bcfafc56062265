-- Exactly one thing comes next after what begins a whole conversation; and conversations are put together from those of parts.
use Rattle.std.proofs.Common.{[], ◌∷◌, subst, append-nil}
use Rattle.widl_dialog.specs.Conversation.{Next, Asks, Ends}
use Rattle.widl_dialog.proofs.Nexts.{one_next, joins, splits, waits}
use Rattle.widl_dialog.proofs.Wholes.{comes_before}
use Rattle.widl_steps.specs.AskTerms.{AskTerm, Fits}
use Rattle.widl_steps.specs.Tasks.{TaskEnd, TalkOf}
use Rattle.widl_steps.specs.Laws.{Said, IsNext, IsTalk, HasOneNext, BeginningsHaveOneNext, PartsMakeWholes}

module _ {Job : Type 0} (rule : Job → TalkOf Job) where
  alone : (task : Job) (said : Said) (next : Next AskTerm TaskEnd) → IsNext rule task said next → HasOneNext rule task said
  alone task said next x = record { next = next; comes = x; one = λ other y. one_next rule Fits (rule task) said other next y x }

  pub beginnings : BeginningsHaveOneNext rule
  beginnings task said [] end x = alone task said (Ends end) (subst (λ (talk : Said). IsTalk rule task talk end) (append-nil said) x)
  beginnings task said (p ∷ more) end x = alone task said (Asks p.0) (comes_before rule Fits (rule task) said more p.0 p.1 (Ends end) x)

  pub parts : PartsMakeWholes rule
  parts = record { join = joins rule Fits; split = splits rule Fits; ask = waits rule Fits }
