use Rattle.std.proofs.Common.{ap, ◌∙◌}
use Rattle.std.specs.Prelude.{option_to_list}
use Rattle.widl_idl.specs.Meanings.{meaning, meant}
use Rattle.widl_idl.specs.PlainTrees.{plain_definitions}
use Rattle.widl_merge.proofs.LinkGraphs.{typedef_listed}
use Rattle.widl_merge.proofs.typedefs.typedef_named.Goals as goal

pub returns : goal.returns
returns c =
    let definitions = plain_definitions c.args.meanings.now in
    ap option_to_list c.number_meant.ensures ∙ typedef_listed (meaning definitions c.args.text.now) (meant definitions c.args.text.now)
