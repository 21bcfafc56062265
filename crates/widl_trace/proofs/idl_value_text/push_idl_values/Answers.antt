use Rattle.std.proofs.Common.{arith, codes, map, ap, ◌∙◌}
use Rattle.std.specs.Prelude.{option_map}
use Rattle.std.proofs.lemmas.Grind.{common_steps}
use Rattle.std.proofs.lemmas.Option.{slice_get-map}
use Rattle.widl_idl.specs.DefinitionTerms.{defs_term}
use Rattle.widl_value.specs.IdlTerms.{idl_term, idl_terms}
use Rattle.widl_trace.specs.IdlValueTexts.{idl_value_text}
use Rattle.widl_trace.proofs.Pieces.{text_more, text_within}
use Rattle.widl_trace.proofs.idl_value_text.push_idl_values.Goals as goal

pub returns-in_err-push : goal.returns-in_err-push
returns-in_err-push c =
    let at = slice_get-map (idl_value_text (defs_term c.args.defs.now)) (idl_terms c.args.values.now) c.loop-place.place ∙ ap (option_map (idl_value_text (defs_term c.args.defs.now))) c.at-value.ensures in
    let step = text_within (codes ", ") (map (idl_value_text (defs_term c.args.defs.now)) (idl_terms c.args.values.now)) c.loop-place.place (idl_value_text (defs_term c.args.defs.now) (idl_term c.at-value.result.now)) at in
    grind (arith, common_steps, step)

pub returns-in_err-push_idl_value : goal.returns-in_err-push_idl_value
returns-in_err-push_idl_value c =
    let at = slice_get-map (idl_value_text (defs_term c.args.defs.now)) (idl_terms c.args.values.now) c.loop-place.place ∙ ap (option_map (idl_value_text (defs_term c.args.defs.now))) c.at-value.ensures in
    let step = text_within (codes ", ") (map (idl_value_text (defs_term c.args.defs.now)) (idl_terms c.args.values.now)) c.loop-place.place (idl_value_text (defs_term c.args.defs.now) (idl_term c.at-value.result.now)) at in
    grind (arith, common_steps, step)

pub loop-place-preserved : goal.loop-place-preserved
loop-place-preserved c =
    let at = slice_get-map (idl_value_text (defs_term c.args.defs.now)) (idl_terms c.args.values.now) c.loop-place.place ∙ ap (option_map (idl_value_text (defs_term c.args.defs.now))) c.at-value.ensures in
    let step = text_more (codes ", ") (map (idl_value_text (defs_term c.args.defs.now)) (idl_terms c.args.values.now)) c.loop-place.place (idl_value_text (defs_term c.args.defs.now) (idl_term c.at-value.result.now)) at in
    grind (arith, common_steps, step)
