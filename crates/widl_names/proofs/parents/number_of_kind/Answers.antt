use Rattle.std.proofs.Common.{ap, ◌∙◌}
use Rattle.std.specs.Prelude.{option_to_list}
use Rattle.widl_idl.specs.Meanings.{meaning, meant_kind}
use Rattle.widl_idl.specs.PlainTrees.{plain_definitions}
use Rattle.widl_names.proofs.ParentGraphs.{number_listed}
use Rattle.widl_names.proofs.parents.number_of_kind.Goals as goal

pub returns : goal.returns
returns c =
    let definitions = plain_definitions c.args.meanings.now in
    ap option_to_list c.number_meant.ensures ∙ number_listed c.args.kind (meant_kind definitions c.args.text.now) (meaning definitions c.args.text.now)
