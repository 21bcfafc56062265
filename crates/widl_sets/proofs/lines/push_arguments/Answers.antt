use Rattle.std.proofs.Common.{◌++◌, codes, arith, ap, ◌∙◌}
use Rattle.widl_idl.specs.DefinitionTerms.{defs_term}
use Rattle.widl_idl.specs.Terms.{type_term}
use Rattle.widl_overload.specs.sets.Sets.{tuple_term}
use Rattle.widl_sets.proofs.Joined.{one_more_argument}
use Rattle.widl_sets.proofs.lines.push_arguments.Goals as goal

pub loop-place-preserved : goal.loop-place-preserved
loop-place-preserved c = one_more_argument (defs_term c.args.defs.now) (codes ", ") c.args.text.now.items c.loop-place.text.items c.extend_from_slice.new.self.items c.push_argument.new.text.items (tuple_term c.args.tuple.now).types (tuple_term c.args.tuple.now).opts c.loop-place.place (type_term c.at.result.now) c.at-in-loop-place.result.now (omega (arith, c.len-place-end.ensures)) c.requires.paired c.at.ensures c.at-in-loop-place.ensures (c.in_ok-extend_from_slice.ensures.items ∙ ap (λ xs. c.loop-place.text.items ++ xs) c.sign_before.ensures) c.in_ok-push_argument.ensures c.loop-place.invariant
