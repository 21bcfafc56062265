-- Worked conversations where nothing is built: each conversion ends there, whatever its steps are.
use Rattle.std.specs.Prelude.{[], false, refl}
use Rattle.widl_dialog.specs.Conversation.{Next, Ends}
use Rattle.widl_idl.specs.Terms.{AnyType, NullableType}
use Rattle.widl_value.specs.declared.value.Value.TheVariants as values
use Rattle.widl_value.specs.IdlTerms.{NullValue}
use Rattle.widl_steps.specs.AskTerms.{AskTerm}
use Rattle.widl_steps.specs.Built.{Built}
use Rattle.widl_steps.specs.Laws.{IsNext}
use Rattle.widl_steps.specs.Rules.{rule}
use Rattle.widl_steps.specs.Tasks.{Task, TaskEnd, Convert, Out, Profile}
use Rattle.widl_steps.proofs.Worked.{nothing_defined}

abbrev nothing_built : Built
nothing_built = record { to_type = λ t. false; to_script = λ w. false }

abbrev Does : Task → Next AskTerm TaskEnd → Type 0
Does task next = IsNext (rule nothing_built nothing_defined) task [] next

no_value : Does (Convert AnyType values.Null) (Ends (Profile 99))
no_value = (10, refl)

no_result : Does (Out (NullableType AnyType) NullValue) (Ends (Profile 99))
no_result = (10, refl)
