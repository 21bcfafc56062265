-- For contracts alone; no step names these words. What a literal is in code: a value, or `{}`, which is none itself.
use Rattle.std.specs.Prelude.{Option, Some, None}
use Rattle.widl_dialog.specs.Dialog.{End, Steps}
use Rattle.widl_idl.specs.Terms.{TypeTerm}
use Rattle.widl_value.specs.declared.value.Value.TheVariants as values
use Rattle.widl_value.specs.IdlTerms.{IdlTerm}
use Rattle.widl_steps.specs.Nullables.{inner_type}
use Rattle.widl_steps.specs.Tasks.{Convert, Talk}
use Rattle.widl_steps.specs.Words.{gives}

-- the end with a value; without one, the conversion of undefined, which gives the dictionary, also where the type is its nullable one
abbrev pub given_or_dictionary : TypeTerm → Option IdlTerm → Talk
given_or_dictionary t (Some w) = gives w
given_or_dictionary t None = Steps (Convert (inner_type t) values.Undefined) End
