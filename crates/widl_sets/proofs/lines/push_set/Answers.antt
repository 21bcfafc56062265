use Rattle.widl_idl.specs.DefinitionTerms.{defs_term}
use Rattle.widl_overload.specs.sets.Sets.{tuple_term, tuples_in}
use Rattle.std.specs.Option.{option_copied, option_map}
use Rattle.widl_sets.proofs.Stepped.{set_more}
use Rattle.widl_sets.proofs.lines.push_set.Goals as goal

pub loop-place-preserved : goal.loop-place-preserved
loop-place-preserved c = set_more (defs_term c.args.defs.now) c.args.callee.now (tuples_in c.args.set.now) c.loop-place.place (tuple_term c.at-tuple.result.now) (option_map tuple_term (option_copied c.next_tuple.result)) _ c.loop-place.text.items c.push_tuple.new.text.items c.push_after.new.text.items c.at-tuple.ensures c.next_tuple.ensures c.in_ok-push_tuple.ensures c.in_ok-push_after.ensures c.loop-place.invariant
