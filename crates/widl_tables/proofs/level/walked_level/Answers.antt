use Rattle.std.proofs.Common.{◌<◌, ◌-◌, ◌+◌, length, map, sym, ap, subst, ◌∙◌, arith}
use Rattle.std.proofs.lemmas.List.{length-map}
use Rattle.widl_idl.specs.DefinitionTerms.{dict_term}
use Rattle.widl_tables.specs.Levels.{nearest}
use Rattle.widl_tables.proofs.Levels.{walked}
use Rattle.widl_tables.proofs.level.walked_level.Goals as goal

pub loop-links-preserved : goal.loop-links-preserved
loop-links-preserved c =
    let dicts = map dict_term c.args.dicts.now in
    let below : c.loop-links.links < length dicts = subst (λ n. c.loop-links.links < n) (sym (length-map c.args.dicts.now dict_term)) (omega arith) in
    c.loop-links.invariant
    ∙ ap (nearest dicts (length dicts - c.loop-links.links) c.loop-links.links) c.in-Some.is
    ∙ walked dicts (length dicts) c.loop-links.links c.in-Some.number below (sym c.declares.ensures ∙ c.if-declares.false)
    ∙ ap (nearest dicts (length dicts - (c.loop-links.links + 1)) (c.loop-links.links + 1)) (sym c.parent_of-at.ensures)
