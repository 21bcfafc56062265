use Rattle.std.proofs.Common.{ap, ◌∙◌}
use Rattle.widl_type_rules.specs.IndistinguishablePairs.{any_pair}
use Rattle.widl_type_rules.specs.Lineages.{begins_within}
use Rattle.widl_type_rules.proofs.TouchingSpans.{sorted_touch}
use Rattle.widl_type_rules.proofs.related_interfaces.any_touch.Goals as goal

pub returns : goal.returns
returns c = c.any_begins_within.ensures ∙ ap (any_pair begins_within) c.deref.ensures.value ∙ sorted_touch c.args.spans.items c.sort_by_start.new.spans.items c.sort_by_start.ensures.same c.in_ok-sort_by_start.ensures.sorted c.requires
