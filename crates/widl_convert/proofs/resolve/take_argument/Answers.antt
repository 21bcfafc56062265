use Rattle.std.proofs.Common.{set, slice_get, ◌∙◌, sym, ap, arith}
use Rattle.widl_value.specs.declared.value.Value.TheVariants.{Undefined}
use Rattle.widl_convert.proofs.Resolving.{left_is, none_left}
use Rattle.widl_convert.proofs.resolve.take_argument.Goals as goal

pub returns-then-place-count-clause-none : goal.returns-then-place-count-clause-none
returns-then-place-count-clause-none c =
    none_left c.args.resolution.now.args c.args.resolution.now.kept.argcount _ (omega (arith, c.len-place.ensures, c.len.ensures, c.min-count.ensures, c.if-place-count.true))

pub returns-clause-some : goal.returns-clause-some
returns-clause-some c =
    left_is c.args.resolution.now.kept c.args.resolution.now.args c.replace.new.self _ c.replace.result Undefined
    (omega (arith, c.len-place.ensures, c.len.ensures, c.min-count.ensures, c.if-place-count.false))
    (ap (slice_get c.args.resolution.now.args) (sym c.len-place.ensures) ∙ c.replace.ensures.former)
    (c.replace.ensures.list ∙ ap (λ k. set c.args.resolution.now.args k Undefined) c.len-place.ensures)
