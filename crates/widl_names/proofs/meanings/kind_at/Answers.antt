use Rattle.std.proofs.Common.{map, length, refl, sym, ap, ◌∙◌, option_map}
use Rattle.std.proofs.lemmas.Option.{slice_get-map, slice_get_read}
use Rattle.widl_idl.specs.PlainTrees.{definition_of}
use Rattle.widl_names.proofs.meanings.kind_at.Goals as goal

pub returns-in-Some : goal.returns-in-Some
returns-in-Some c =
    let list = c.args.definitions.now in
    let found = c.in-Some.ensures.lookup in
    let here = slice_get_read list (length list) c.args.number c.in-Some.definition.now refl found.3.0 found.1 in
    let seen = slice_get-map (λ d. d.now) list c.args.number ∙ ap (option_map (λ d. d.now)) here in
    sym (ap (option_map (λ d. d.kind)) (slice_get-map definition_of (map (λ d. d.now) list) c.args.number ∙ ap (option_map definition_of) seen))
