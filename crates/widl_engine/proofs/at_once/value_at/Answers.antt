use Rattle.widl_script_tree.specs.Tables.{expression_tree}
use Rattle.widl_engine.proofs.ValuesAtOnce.{evaluates_name, has_name, literal_has}
use Rattle.widl_engine.proofs.at_once.value_at.Goals as goal

pub returns-in_ok-read-in-Name : goal.returns-in_ok-read-in-Name
returns-in_ok-read-in-Name c p read =
    has_name p c.args.script.now c.args.store.now c.args.place.now c.args.expression c.in-Name.name c.in_ok-read-in-Name.field-0
    (evaluates_name c.args.script.now (expression_tree c.args.script.now c.args.expression) c.expression.result.now c.in-Name.name c.expression.ensures.tree c.in-Name.is)
    (c.in_ok-read-in-Name.ensures p read)

pub returns-in_default : goal.returns-in_default
returns-in_default c = literal_has c.args.script.now c.args.store.now c.args.place.now c.args.expression c.literal.result c.literal.ensures
