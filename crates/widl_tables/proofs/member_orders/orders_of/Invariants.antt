use Rattle.std.proofs.Common.{map}
use Rattle.widl_idl.specs.DefinitionTerms.{dict_term}
use Rattle.widl_tables.specs.MemberTables.{AreKnown, AreOrdersOf}
use Rattle.widl_tables.proofs.member_orders.orders_of.Given as goal

abbrev pub invariant-loop-place : goal.invariant-loop-place
invariant-loop-place l = AreKnown (map dict_term l.dicts) l.known.items × AreOrdersOf (map dict_term l.dicts) l.place l.orders.items
