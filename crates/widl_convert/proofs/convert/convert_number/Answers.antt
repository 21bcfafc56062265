use Rattle.std.proofs.Common.{subst, sym}
use Rattle.std.specs.Prelude.{IfSome}
use Rattle.widl_idl.specs.DefinitionTerms.{defs_term}
use Rattle.widl_idl.specs.Terms.{IntegerType, type_term}
use Rattle.widl_value.specs.declared.value.Value.TheVariants.{Num}
use Rattle.widl_steps.specs.Built.{built_today}
use Rattle.widl_steps.specs.Scalars.{convert}
use Rattle.widl_steps.specs.Tasks.{Talk}
use Rattle.widl_convert.specs.declared.scalar_types.Given.TheVariants.{Number}
use Rattle.widl_convert.specs.declared.scalar_types.ScalarType.{ScalarType}
use Rattle.widl_convert.specs.AtOnce.{AreSame, scalar_type}
use Rattle.widl_convert.specs.Frames.{move_dialog}
use Rattle.widl_convert.specs.Stack.{Leads}
use Rattle.widl_convert.proofs.Suspending.{led_all, number_leads}
use Rattle.widl_convert.proofs.convert.convert_number.Goals as goal

pub returns-in-Integer-clause-leads : goal.returns-in-Integer-clause-leads
returns-in-Integer-clause-leads c =
    let list = defs_term c.args.tables.now.defs in
    let same : AreSame Number (type_term c.args.ty.now) (IntegerType c.in-Integer.kind c.in-Integer.mode) = subst (λ (s : ScalarType). IfSome (scalar_type s) (AreSame Number (type_term c.args.ty.now))) c.in-Integer.is c.scalar_within.ensures in
    subst (λ (d : Talk). Leads list d (move_dialog list c.to_integer.result)) (sym (same list c.args.number))
    (subst (Leads list (convert built_today list (IntegerType c.in-Integer.kind c.in-Integer.mode) (Num c.args.number))) (sym (c.to_integer.ensures.dialog list)) (number_leads list c.in-Integer.kind c.in-Integer.mode c.args.number))

pub returns-in-Text-clause-leads : goal.returns-in-Text-clause-leads
returns-in-Text-clause-leads c = led_all (defs_term c.args.tables.now.defs) _ c.convert.result c.convert.ensures.dialog
