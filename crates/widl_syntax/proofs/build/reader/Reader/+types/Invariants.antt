use Rattle.std.proofs.Common.{◌+◌, ◌*◌, ◌≤◌, length}
use Rattle.widl_idl.specs.Written.{members_in}
use Rattle.widl_grammar.specs.declared.rule.Rule.TheVariants as rule
use Rattle.widl_grammar.specs.declared.terminal.Terminal.TheVariants as terminal
use Rattle.widl_syntax.specs.Signs.{after}
use Rattle.widl_syntax.specs.UnparsedTypes.{inner_annotated}
use Rattle.widl_syntax.proofs.Lists.{Adds}
use Rattle.widl_syntax.proofs.TypeLevels.{InUnion}
use Rattle.widl_syntax.proofs.build.reader.Reader.+types.Given as goal

abbrev pub decreases-container_form : goal.decreases-container_form
decreases-container_form l = 5 * length l.self.now + 0

abbrev pub decreases-record_form : goal.decreases-record_form
decreases-record_form l = 5 * length l.self.now + 0

abbrev pub decreases-promise_type : goal.decreases-promise_type
decreases-promise_type l = 5 * length l.self.now + 0

abbrev pub decreases-union_type : goal.decreases-union_type
decreases-union_type l = 5 * length l.self.now + 0

abbrev pub decreases-distinguishable_form : goal.decreases-distinguishable_form
decreases-distinguishable_form l = 5 * length l.self.now + 1

abbrev pub decreases-distinguishable_type : goal.decreases-distinguishable_type
decreases-distinguishable_type l = 5 * length l.self.now + 2

abbrev pub decreases-written_type : goal.decreases-written_type
decreases-written_type l = 5 * length l.self.now + 3

abbrev pub decreases-union_member : goal.decreases-union_member
decreases-union_member l = 5 * length l.self.now + 3

abbrev pub decreases-union_members : goal.decreases-union_members
decreases-union_members l = 5 * length l.self.now + 4

abbrev pub decreases-annotated_type : goal.decreases-annotated_type
decreases-annotated_type l = 5 * length l.self.now + 4

abbrev pub invariant-union_members-loop : goal.invariant-union_members-loop
invariant-union_members-loop l = record {
  shorter : length l.self ≤ length l.fn.self;
  so_far : Adds rule.MoreUnionMembers (after terminal.Or inner_annotated) l.initial.self l.self (members_in l.initial.members) (members_in l.members) l.counter;
  inside : InUnion l.fn.self l.self (members_in l.members);
}
