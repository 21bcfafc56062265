use Rattle.std.proofs.Common.{sym, ap, ◌∙◌}
use Rattle.widl_refusals.specs.Refusals.{earlier_refusal}
use Rattle.widl_refusals.proofs.refusals.earlier_refusal.Goals as goal

pub returns-in-Some : goal.returns-in-Some
returns-in-Some c = c.joined.ensures ∙ sym (ap (λ found. earlier_refusal found c.args.best) c.in-Some.is)
