use Rattle.std.proofs.Common.{arith, refl}
use Rattle.widl_idl.specs.PlainTrees.{definition_of}
use Rattle.widl_idl.proofs.Steps.{first_start}
use Rattle.widl_merge.specs.Links.{ReturnsAfter}
use Rattle.widl_names.specs.Listings.{listed_definitions}
use Rattle.widl_merge.proofs.ComingBack.{by_number, here_after}
use Rattle.widl_names.proofs.Mapped.{next_at_one, all_at_one}
use Rattle.widl_merge.proofs.cycles.first_coming_back.Goals as goal

pub loop-number-init : goal.loop-number-init
loop-number-init c = λ links tells. first_start (ReturnsAfter links) (listed_definitions c.args.definitions.now)

pub loop-number-preserved : goal.loop-number-preserved
loop-number-preserved c = λ links tells.
    next_at_one (λ d. definition_of d.now) c.args.definitions.now (listed_definitions c.args.definitions.now) refl (ReturnsAfter links) c.loop-number.number c.index-definitions-number.result c.loop-number.best c.coming_back-found.result _ (omega arith) c.index-definitions-number.is
    (c.loop-number.invariant links tells)
    (here_after links (λ d. definition_of d.now) c.args.definitions.now c.loop-number.number (definition_of c.index-definitions-number.result.now) c.coming_back-found.result (omega arith) (c.coming_back-found.ensures links tells))
    c.earlier_violation-best.ensures

pub returns : goal.returns
returns c = λ links tells. by_number links (listed_definitions c.args.definitions.now) c.loop-number.best (all_at_one (λ d. definition_of d.now) c.args.definitions.now (listed_definitions c.args.definitions.now) refl (ReturnsAfter links) c.loop-number.number c.loop-number.best (omega arith) (c.loop-number.invariant links tells))
