use Rattle.std.proofs.Common.{arith, map, refl}
use Rattle.widl_idl.specs.DefinitionTerms.{dict_term}
use Rattle.widl_idl.proofs.Steps.{first_start}
use Rattle.widl_inheritance.specs.HoldingGraph.{FlaggedAfter}
use Rattle.widl_inheritance.proofs.NamedDictionaries.{by_number, flagged_after}
use Rattle.widl_names.proofs.Mapped.{next_at_one, all_at_one}
use Rattle.widl_inheritance.proofs.holding.first_flagged.Goals as goal

pub loop-number-init : goal.loop-number-init
loop-number-init c = first_start (FlaggedAfter c.args.flags.now) (map dict_term c.args.dicts.now)

pub loop-number-preserved : goal.loop-number-preserved
loop-number-preserved c =
    next_at_one dict_term c.args.dicts.now (map dict_term c.args.dicts.now) refl (FlaggedAfter c.args.flags.now) c.loop-number.number c.index-dicts-number.result c.loop-number.best c.flagged-found.result _ (omega arith) c.index-dicts-number.is
    c.loop-number.invariant
    (flagged_after c.args.flags.now c.args.dicts.now c.loop-number.number c.index-dicts-number.result c.flagged-found.result (omega arith) c.flagged-found.ensures)
    c.earlier_violation-best.ensures

pub returns : goal.returns
returns c = by_number c.args.flags.now (map dict_term c.args.dicts.now) c.loop-number.best (all_at_one dict_term c.args.dicts.now (map dict_term c.args.dicts.now) refl (FlaggedAfter c.args.flags.now) c.loop-number.number c.loop-number.best (omega arith) c.loop-number.invariant)
