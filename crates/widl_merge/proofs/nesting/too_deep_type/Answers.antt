use Rattle.std.proofs.Common.{◌≡◌, Some, None, true, false, refl, ap, rules, ◌∙◌}
use Rattle.widl_idl.specs.declared.tree.types.TypeForm.{the_lemmas}
use Rattle.widl_idl.specs.First.{violation_at}
use Rattle.widl_idl.specs.PlainTrees.{plain_definitions}
use Rattle.widl_idl.specs.PlainTypes.{type_of}
use Rattle.widl_merge.proofs.TableDepths.{deep_here, place_of}
use Rattle.widl_merge.proofs.nesting.too_deep_type.Goals as goal

pub returns-then-is_deep : goal.returns-then-is_deep
returns-then-is_deep c =
    let at : c.args.ty.now.at ≡ place_of (type_of c.args.ty.now) = search (rules, the_lemmas) in
    deep_here (plain_definitions c.args.meanings.now) c.args.depths.now (type_of c.args.ty.now) c.type_depth.result true (Some c.at.result) c.requires.capped c.requires.tells c.type_depth.ensures c.if-is_deep.ensures (ap Some (c.at.ensures ∙ ap violation_at at))

pub returns-else-is_deep : goal.returns-else-is_deep
returns-else-is_deep c = deep_here (plain_definitions c.args.meanings.now) c.args.depths.now (type_of c.args.ty.now) c.type_depth.result false None c.requires.capped c.requires.tells c.type_depth.ensures c.if-is_deep.ensures refl
