use Rattle.std.proofs.Common.{◌≡◌, false, subst, sym}
use Rattle.std.proofs.lemmas.Result.{IfOk-weaker}
use Rattle.std.specs.Prelude.{IfSome}
use Rattle.widl_idl.specs.DefinitionTerms.{DefsTerm, defs_term}
use Rattle.widl_idl.specs.Terms.{StringType, type_term}
use Rattle.widl_value.specs.declared.value.Value.TheVariants.{Str}
use Rattle.widl_steps.specs.Built.{built_today}
use Rattle.widl_steps.specs.Scalars.{convert, string_result}
use Rattle.widl_steps.specs.Tasks.{Talk}
use Rattle.widl_convert.specs.declared.scalar_types.Given.TheVariants.{Text}
use Rattle.widl_convert.specs.declared.scalar_types.ScalarType.{ScalarType}
use Rattle.widl_convert.specs.AtOnce.{AreSame, scalar_type}
use Rattle.widl_convert.specs.Frames.{move_dialog}
use Rattle.widl_convert.specs.Stack.{Leads}
use Rattle.widl_convert.proofs.Suspending.{led_all, text_leads}
use Rattle.widl_convert.proofs.convert.convert_text.Goals as goal

pub returns-in-Text-clause-leads : goal.returns-in-Text-clause-leads
returns-in-Text-clause-leads c =
    let list = defs_term c.args.tables.now.defs in
    let same : AreSame Text (type_term c.args.ty.now) (StringType c.in-Text.kind false) = subst (λ (s : ScalarType). IfSome (scalar_type s) (AreSame Text (type_term c.args.ty.now))) c.in-Text.is c.scalar_within.ensures in
    IfOk-weaker c.to_string.result (λ m. (l : DefsTerm) → move_dialog l m ≡ string_result c.in-Text.kind c.args.text) (λ m. Leads list (convert built_today list (type_term c.args.ty.now) (Str c.args.text)) (move_dialog list m))
    (λ m is. subst (λ (d : Talk). Leads list d (move_dialog list m)) (sym (same list c.args.text))
    (subst (Leads list (convert built_today list (StringType c.in-Text.kind false) (Str c.args.text))) (sym (is list)) (text_leads list c.in-Text.kind false c.args.text))) c.to_string.ensures.dialog

pub returns-in-Integer-clause-leads : goal.returns-in-Integer-clause-leads
returns-in-Integer-clause-leads c = led_all (defs_term c.args.tables.now.defs) _ c.convert.result c.convert.ensures.dialog
