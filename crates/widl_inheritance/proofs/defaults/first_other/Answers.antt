use Rattle.std.proofs.Common.{arith, refl}
use Rattle.widl_idl.specs.PlainTrees.{plain_definitions}
use Rattle.widl_names.proofs.Mapped.{all_somewhere, next_somewhere}
use Rattle.widl_overload.specs.rules.DefaultRules.{IsOtherDefault}
use Rattle.widl_inheritance.specs.WrittenDefaults.{defaulted_of, listed_defaults}
use Rattle.widl_inheritance.proofs.defaults.first_other.Goals as goal

pub loop-defaulted-preserved : goal.loop-defaulted-preserved
loop-defaulted-preserved c = λ list known.
    next_somewhere defaulted_of c.args.defaults.now (listed_defaults c.args.defaults.now) refl (IsOtherDefault list (plain_definitions c.args.resolver.now)) c.loop-defaulted.defaulted-index c.defaulted-item.result c.loop-defaulted.best c.in_ok-found.found _
    (omega arith) c.defaulted-item.is (c.loop-defaulted.invariant list known) (c.in_ok-found.ensures list known) c.earlier_violation-best.ensures

pub returns : goal.returns
returns c = λ list known.
    all_somewhere defaulted_of c.args.defaults.now (listed_defaults c.args.defaults.now) refl (IsOtherDefault list (plain_definitions c.args.resolver.now)) c.loop-defaulted.defaulted-index c.loop-defaulted.best (omega arith) (c.loop-defaulted.invariant list known)
