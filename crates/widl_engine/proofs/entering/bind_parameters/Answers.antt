use Rattle.std.proofs.Common.{◌≡◌, ◌≤◌, ◌<◌, ◌+◌, ◌∙◌, sym, refl, arith, length, get_or, min}
use Rattle.widl_script_tree.specs.Tables.{name_at}
use Rattle.widl_engine.specs.Place.{named}
use Rattle.widl_engine.proofs.ContextLaws.{bound_next, bound_end}
use Rattle.widl_engine.proofs.TakenBack.{as_many}
use Rattle.widl_engine.proofs.entering.bind_parameters.Goals as goal

pub each-preserved : goal.each-preserved
each-preserved c =
    let size : length c.each.args ≡ length c.args.args = c.each.invariant.0 in
    let within : c.each.place < length c.args.params.now = omega (arith, c.each-test.true, c.min-count.ensures, c.len.ensures) in
    let inside : c.each.place < length c.each.args = omega (arith, c.each-test.true, c.min-count.ensures, c.len.ensures, size) in
    let next : c.each.place + 1 ≤ c.min-count.result = omega (arith, c.each-test.true) in (
      as_many c.each.args c.replace.new.self c.each.place (length c.args.args) _ c.replace.ensures.list size,
      next,
      bound_next c.args.script.now c.parts_are_lower.ensures.names_differ c.each.locals c.set.new.self c.args.params.now c.each.args c.replace.new.self c.each.place (get_or c.args.params.now c.each.place 0) c.replace.result _ within inside refl c.replace.ensures.former c.replace.ensures.list c.in_ok-set.ensures
          ∙ c.each.invariant.2,
    )

pub returns : goal.returns
returns c =
    let size : length c.each.args ≡ length c.args.args = c.each.invariant.0 in
    let least : c.each.place ≡ min (length c.args.params.now) (length c.each.args) = omega (arith, c.each-test.false, c.each.invariant.1, c.min-count.ensures, c.len.ensures, size) in
    sym (bound_end (name_at c.args.script.now) (named (name_at c.args.script.now) c.each.locals) c.args.params.now c.each.args c.each.place least) ∙ c.each.invariant.2
