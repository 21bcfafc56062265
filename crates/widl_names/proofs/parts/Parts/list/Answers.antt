use Rattle.std.proofs.Common.{◌≡◌, ◌∙◌}
use Rattle.std.proofs.lemmas.Result.{IfOk-weaker}
use Rattle.widl_idl.specs.PlainTrees.{plain_definitions}
use Rattle.widl_names.specs.PartTables.{ListsParts, listed_at, listed_parts}
use Rattle.widl_names.proofs.NamedParts.{parts_listed}
use Rattle.widl_names.proofs.parts.Parts.list.Goals as goal

pub returns : goal.returns
returns c =
    let all = plain_definitions c.args.self.now in
    IfOk-weaker c.list_numbered.result (λ list. listed_parts list.items ≡ listed_at all c.args.number) (λ list. ListsParts all c.args.number (listed_parts list.items))
    (λ list e. λ text kind means is has. e ∙ parts_listed all c.args.number text kind means is has) c.list_numbered.ensures
