use Rattle.std.proofs.Common.{Some, None, true, false, refl, ap}
use Rattle.widl_idl.specs.PlainTypes.{name_of}
use Rattle.widl_idl.specs.PlainTrees.{definition_of}
use Rattle.widl_merge.proofs.ComingBack.{nameless, returns_here}
use Rattle.widl_merge.proofs.cycles.coming_back.Goals as goal

pub returns-in-None : goal.returns-in-None
returns-in-None c = λ links tells. nameless links c.args.number (definition_of c.args.definition.now) c.in-None.ensures

pub returns-then-flag_at : goal.returns-then-flag_at
returns-then-flag_at c = λ links tells. returns_here links c.args.cyclic.now c.args.number (definition_of c.args.definition.now) (name_of c.in-Some.name.now) true (Some c.at.result) tells c.in-Some.ensures c.if-flag_at.ensures.set (ap Some c.at.ensures)

pub returns-else-flag_at : goal.returns-else-flag_at
returns-else-flag_at c = λ links tells. returns_here links c.args.cyclic.now c.args.number (definition_of c.args.definition.now) (name_of c.in-Some.name.now) false None tells c.in-Some.ensures c.if-flag_at.ensures.set refl
