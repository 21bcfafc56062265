use Rattle.std.proofs.Common.{◌∙◌, sym, arith}
use Rattle.widl_member_rules.proofs.ApartMembers.{labeled_at}
use Rattle.widl_member_rules.proofs.apart_members.any_with.Goals as goal

pub returns-then-has_label : goal.returns-then-has_label
returns-then-has_label c = sym (labeled_at c.args.members.now c.loop-member.member-index c.member-item.result c.args.text.now (omega arith) c.member-item.is (sym c.has_label.ensures ∙ c.if-has_label.true))
