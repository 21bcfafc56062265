-- What is known of a suspended conversation by where it stands in a talk of its task.
use Rattle.std.proofs.Common.{◌≡◌, [], ◌∷◌, ◌++◌, Option, Some, None, sym, ap, subst, refl, append_assoc}
use Rattle.widl_dialog.specs.Conversation.{Next, Asks}
use Rattle.widl_dialog.proofs.Nexts.{one_next}
use Rattle.widl_dialog.proofs.Positions.{next_ask}
use Rattle.widl_idl.specs.DefinitionTerms.{DefsTerm}
use Rattle.widl_steps.specs.AskTerms.{AskTerm, AskKind, Fits}
use Rattle.widl_steps.specs.Built.{built_today}
use Rattle.widl_steps.specs.Laws.{Said, IsNext, IsTalk}
use Rattle.widl_steps.specs.Rules.{rule}
use Rattle.widl_steps.specs.Tasks.{Task, TaskEnd}
use Rattle.widl_steps.proofs.Finishing.{all_talked}
use Rattle.widl_steps.proofs.OneNexts.{beginnings}
use Rattle.widl_convert.specs.declared.asker.Asker.{Asker}
use Rattle.widl_convert.specs.Stack.{HasOneLast, EachAnswerGoesOn, Stands, pending, rest}

module _ (list : DefsTerm) where
  -- the ask that is out comes next
  asks : (asker : Asker) (task : Task) (said : Said) (ask : AskTerm) → Stands list asker task said (Some ask) → IsNext (rule built_today list) task said (Asks ask)
  asks asker task said ask stands = next_ask (rule built_today list) Fits said ask (rest list asker) stands.place

  none_or_some : {k : AskKind} (o : Option AskKind) → o ≡ None → o ≡ Some k → ⊥
  none_or_some o a b = (cc)

  pub one_last : HasOneLast list
  one_last asker task said None None x y = refl
  one_last asker task said None (Some q) x y = absurd (none_or_some (pending asker) x.waits y.waits)
  one_last asker task said (Some p) None x y = absurd (none_or_some (pending asker) y.waits x.waits)
  one_last asker task said (Some p) (Some q) x y =
      let same : ◌≡◌ {A = Next AskTerm TaskEnd} (Asks q) (Asks p) =
      one_next (rule built_today list) Fits (rule built_today list task) said (Asks q) (Asks p) (asks asker task said q y) (asks asker task said p x) in
      let ask : q ≡ p = cc in
      ap (λ (o : AskTerm). let s : Option AskTerm = Some o in s) ask

  pub goes_on : EachAnswerGoesOn list
  goes_on chains_end asker task said ask a stands fits =
      let z = (all_talked built_today list chains_end task said ask a fits).0 (asks asker task said ask stands) in
      let whole : IsTalk (rule built_today list) task ((said ++ (ask, a) ∷ []) ++ z.0) z.1 =
      subst (λ (talk : Said). IsTalk (rule built_today list) task talk z.1) (sym (append_assoc said ((ask, a) ∷ []) z.0)) z.2 in
      beginnings (rule built_today list) task (said ++ (ask, a) ∷ []) z.0 z.1 whole
