use Rattle.std.proofs.Common.{◌++◌, map, subst}
use Rattle.widl_idl.specs.First.{FirstWhere}
use Rattle.widl_idl.specs.PlainTrees.{plain_definitions}
use Rattle.widl_idl.specs.PlainTypes.{attribute_of, type_of}
use Rattle.widl_idl.specs.WrittenTypes.{notes_of}
use Rattle.widl_names.specs.TypeUses.{typedef_notes}
use Rattle.widl_overload.specs.rules.TypeRules.{HasBoth}
use Rattle.widl_type_rules.proofs.LaterAnnotations.{both_first}
use Rattle.widl_type_rules.proofs.TypedefNotes.{all_written}
use Rattle.widl_type_rules.proofs.clamp_rules.clamp_and_enforce.Goals as goal

pub returns : goal.returns
returns c =
    let definitions = plain_definitions c.args.resolver.now in
    let written = c.args.written.now in
    let outer = map attribute_of written.outer.now in
    let own = map attribute_of written.own.now in
    let all = c.all_annotations-all.result in
    let before = notes_of outer ++ notes_of own in
    let said = c.all_annotations-all.ensures before (c.followed_by.ensures (notes_of outer) (notes_of own) c.of-outer.ensures c.of-own.ensures) in
    subst (λ notes. FirstWhere (HasBoth notes) c.later_of_both.result) (all_written definitions outer own (type_of written.ty.now))
    (both_first (before ++ typedef_notes definitions (type_of written.ty.now)) all.clamp all.enforce c.later_of_both.result c.later_of_both.ensures said.clamp said.enforce)
