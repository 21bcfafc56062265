use Rattle.std.proofs.Common.{◌∙◌, ap, sym, ℕ, Option, bytes_eq}
use Rattle.std.specs.List.{list_any}
use Rattle.widl_script_tree.specs.Tables.{name_at, function_at}
use Rattle.widl_engine.specs.Place.{names_of}
use Rattle.widl_engine.proofs.NamesRead.{local_test}
use Rattle.widl_engine.proofs.globals.has_local.Goals as goal

pub returns-in-Some : goal.returns-in-Some
returns-in-Some c =
    local_test c.args.script.now c.parts_are_lower.ensures.names_differ c.in-Some.number c.args.name (function_at c.args.script.now c.in-Some.number).names c.is_local.result c.is_local.ensures
    ∙ ap (λ (f : Option ℕ). list_any (bytes_eq (name_at c.args.script.now c.args.name)) (names_of c.args.script.now f)) (sym c.in-Some.is)
