use Rattle.std.proofs.Common.{◌≡◌}
use Rattle.widl_tables.specs.MemberTables.{numbers_from}
use Rattle.widl_tables.proofs.member_orders.in_order.Given as goal

abbrev pub invariant-loop-number : goal.invariant-loop-number
invariant-loop-number l = l.numbers.items ≡ numbers_from 0 l.number
