use Rattle.std.proofs.Common.{◌++◌, map, sym, subst}
use Rattle.widl_idl.specs.First.{FirstWhere, Somewhere}
use Rattle.widl_idl.specs.PlainTypes.{attribute_of}
use Rattle.widl_idl.specs.Terms.{type_term}
use Rattle.widl_idl.proofs.Somewhere.{somewhere_both}
use Rattle.widl_overload.specs.rules.TypeRules.{IsMisplaced}
use Rattle.widl_type_rules.specs.Misplaced.{IsMisplacedOn}
use Rattle.widl_type_rules.proofs.annotation_rules.misplaced_annotation.Goals as goal

pub returns : goal.returns
returns c =
    let meaning = type_term c.args.ty.now.meaning in
    let outer = map attribute_of c.args.ty.now.written.outer.now in
    let own = map attribute_of c.args.ty.now.written.own.now in
    let in_outer = subst (λ t. FirstWhere (Somewhere (IsMisplacedOn t) outer) c.first_misplaced-outer.result) c.without_nullable-inner.ensures c.first_misplaced-outer.ensures in
    let in_own = subst (λ t. FirstWhere (Somewhere (IsMisplacedOn t) own) c.first_misplaced-own.result) c.without_nullable-inner.ensures c.first_misplaced-own.ensures in
    subst (λ found. FirstWhere (Somewhere (IsMisplaced meaning) (outer ++ own)) found) (sym c.earlier_violation.ensures) (somewhere_both (IsMisplaced meaning) outer own c.first_misplaced-outer.result c.first_misplaced-own.result in_outer in_own)
