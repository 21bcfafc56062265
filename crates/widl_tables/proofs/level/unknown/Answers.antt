use Rattle.widl_tables.proofs.KnownLevels.{none_known, unknown_more}
use Rattle.widl_tables.proofs.level.unknown.Goals as goal

pub loop-n-init : goal.loop-n-init
loop-n-init c dicts = none_known dicts _ c.new-known.ensures.items

pub loop-n-preserved : goal.loop-n-preserved
loop-n-preserved c dicts = unknown_more dicts c.loop-n.known.items _ c.in_ok-push.ensures.items (c.loop-n.invariant dicts)
