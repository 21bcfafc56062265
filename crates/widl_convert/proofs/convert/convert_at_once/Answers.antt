use Rattle.std.proofs.Common.{subst, sym}
use Rattle.std.specs.Prelude.{IfOk}
use Rattle.widl_idl.specs.DefinitionTerms.{defs_term}
use Rattle.widl_idl.specs.Terms.{type_term}
use Rattle.widl_value.specs.declared.value.Value.{Value}
use Rattle.widl_steps.specs.Built.{built_today}
use Rattle.widl_steps.specs.Scalars.{convert}
use Rattle.widl_convert.specs.Frames.{move_dialog}
use Rattle.widl_convert.specs.Stack.{Leads}
use Rattle.widl_convert.proofs.Suspending.{led_all}
use Rattle.widl_convert.proofs.convert.convert_at_once.Goals as goal

pub returns-in-Num-clause-leads : goal.returns-in-Num-clause-leads
returns-in-Num-clause-leads c =
    let list = defs_term c.args.tables.now.defs in
    subst (λ (v : Value). IfOk c.convert_number.result (λ m. Leads list (convert built_today list (type_term c.args.ty.now) v) (move_dialog list m))) (sym c.in-Num.is) c.convert_number.ensures.leads

pub returns-in-Str-clause-leads : goal.returns-in-Str-clause-leads
returns-in-Str-clause-leads c =
    let list = defs_term c.args.tables.now.defs in
    subst (λ (v : Value). IfOk c.convert_text.result (λ m. Leads list (convert built_today list (type_term c.args.ty.now) v) (move_dialog list m))) (sym c.in-Str.is) c.convert_text.ensures.leads

pub returns-in_default-clause-leads : goal.returns-in_default-clause-leads
returns-in_default-clause-leads c = led_all (defs_term c.args.tables.now.defs) _ c.convert.result c.convert.ensures.dialog
