-- For proofs alone. What Numbers and Strings are converted to in the same steps.
use Rattle.std.specs.Prelude.{ℕ, ◌≡◌, List, Option, None, Some, false}
use Rattle.widl_idl.specs.DefinitionTerms.{DefsTerm}
use Rattle.widl_idl.specs.Terms.{TypeTerm, IntegerType, StringType}
use Rattle.widl_value.specs.declared.class.Class.{Class}
use Rattle.widl_value.specs.declared.class.Class.TheVariants as classes
use Rattle.widl_value.specs.declared.number.Number.{Number}
use Rattle.widl_value.specs.declared.value.Value.TheVariants as values
use Rattle.widl_steps.specs.Built.{built_today}
use Rattle.widl_steps.specs.Scalars.{convert}
use Rattle.widl_convert.specs.declared.scalar_types.Given.{Given}
use Rattle.widl_convert.specs.declared.scalar_types.Given.TheVariants as givens
use Rattle.widl_convert.specs.declared.scalar_types.ScalarType.{ScalarType}
use Rattle.widl_convert.specs.declared.scalar_types.ScalarType.TheVariants as scalars

abbrev pub class_given : Given → Class
class_given givens.Number = classes.Num
class_given givens.Text = classes.Str

abbrev pub scalar_type : ScalarType → Option TypeTerm
scalar_type (scalars.Integer kind mode) = Some (IntegerType kind mode)
scalar_type (scalars.Text kind) = Some (StringType kind false)
scalar_type scalars.Unknown = None

-- conversions to both types have the same steps, over every list
abbrev pub AreSame : Given → TypeTerm → TypeTerm → Type 0
AreSame givens.Number t u = (list : DefsTerm) (n : Number) → convert built_today list t (values.Num n) ≡ convert built_today list u (values.Num n)
AreSame givens.Text t u = (list : DefsTerm) (units : List ℕ) → convert built_today list t (values.Str units) ≡ convert built_today list u (values.Str units)
