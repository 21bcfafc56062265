use Rattle.std.proofs.Common.{◌≡◌, Some, length, sym, ap, ◌∙◌, ltb-false, ltb-true}
use Rattle.std.specs.Prelude.{slice_get}
use Rattle.std.proofs.lemmas.Option.{slice_get-get_or}
use Rattle.widl_tables.proofs.MemberTables.{level_beyond}
use Rattle.widl_tables.proofs.member_orders.level.Goals as goal

pub returns-in-None : goal.returns-in-None
returns-in-None c dicts so = level_beyond dicts c.args.orders.now c.args.dictionary so (ltb-false c.args.dictionary (length c.args.orders.now) (sym c.in-None.ensures.lookup.0))

pub returns-in-Some : goal.returns-in-Some
returns-in-Some c dicts so =
    let found = c.in-Some.ensures.lookup in
    let there : slice_get c.args.orders.now c.args.dictionary ≡ Some c.in-Some.order.now = slice_get-get_or c.args.orders.now c.args.dictionary c.in-Some.order.now (ltb-true c.args.dictionary (length c.args.orders.now) (sym found.0)) ∙ ap Some (sym found.1) in
    (so.each c.args.dictionary c.in-Some.order.now there).level
