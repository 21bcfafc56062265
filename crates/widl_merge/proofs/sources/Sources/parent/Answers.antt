use Rattle.std.proofs.Common.{ap, sym, option_map, ◌∙◌}
use Rattle.widl_idl.specs.Meanings.{meant_kind}
use Rattle.widl_idl.specs.PlainTrees.{plain_definitions}
use Rattle.widl_idl.specs.PlainTypes.{name_of}
use Rattle.widl_merge.proofs.sources.Sources.parent.Goals as goal

pub kind_number-requires : goal.kind_number-requires
kind_number-requires c = λ other e.
    c.requires (name_of c.in-Some.name.now) (ap (option_map (λ name. name_of name.now)) c.in-Some.is) other
    (ap (λ ds. meant_kind (plain_definitions ds) (name_of c.in-Some.name.now).text) (sym c.resolver.ensures)
    ∙ ap (meant_kind (plain_definitions c.resolver.result.now)) (sym c.as_str.ensures.value) ∙ e)
