use Rattle.std.proofs.Common.{ap, ◌∙◌}
use Rattle.widl_idl.specs.MergedSets.{MergedSet}
use Rattle.widl_front.proofs.Trees.{list_accepted}
use Rattle.widl_front.proofs.checking.accept.Goals as goal

pub returns : goal.returns
returns c =
    list_accepted c.args.defs c.args.trees c.new-2.result (ap (λ (s : MergedSet). s.defs) c.new-2.ensures ∙ c.new.ensures.defs)
    (ap (λ (s : MergedSet). s.fragments) c.new-2.ensures ∙ c.new.ensures.fragments) c.requires
