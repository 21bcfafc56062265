use Rattle.std.proofs.Common.{◌∙◌, ap, sym}
use Rattle.std.specs.Option.{option_or}
use Rattle.widl_script_tree.specs.Tables.{Tables, statement_tree}
use Rattle.widl_script.specs.CalleeBlocks.{lines_asked}
use Rattle.widl_script_rules.specs.Targets.{is_target_of}
use Rattle.widl_script.proofs.FirstBlocks.{next_place}
use Rattle.widl_script.proofs.callee_blocks.blocks_by_name.Goals as goal

pub places-preserved : goal.places-preserved
places-preserved c = λ space o k.
    let tree = statement_tree c.args.tables.now in
    let asked = is_target_of space o k in
    c.in_ok-add_statement.ensures space o k ∙ ap (λ x. option_or x (lines_asked asked (tree c.places.place))) (c.places.invariant space o k)
    ∙ sym (next_place tree asked c.args.statements.first c.places.place c.places.auto.place)
