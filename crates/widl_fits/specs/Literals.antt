-- Whether a literal fits a type, in whichever way it is written.
-- Source: Web IDL, "Default values".
use Rattle.std.specs.Prelude.{◌≡◌, ◌<◌, ℕ, slice_index, FitsSigned, Some}
use Rattle.std.specs.Int.{w128}
use Rattle.widl_idl.specs.declared.literal.Literal.{Literal}
use Rattle.widl_idl.specs.declared.literal.Literal.TheVariants as the
use Rattle.widl_idl.specs.DefinitionTerms.{DefsTerm}
use Rattle.widl_idl.specs.PlainTypes.{PlainValue}
use Rattle.widl_idl.specs.Terms.{TypeTerm}
use Rattle.widl_overload.specs.rules.DefaultRules.{Fits}
use Rattle.widl_idl.specs.WrittenLiterals.{value_meant}
use Rattle.widl_fits.specs.Fitting.{literal_if}

-- a literal fits a type where a default value that means it does
pub record LiteralFits (list : DefsTerm) (t : TypeTerm) (literal : Literal) : Type 0 where
  pub written : PlainValue
  pub means : value_meant written ≡ literal
  pub fits : Fits list t written

-- For proofs alone. Some default value means the literal.
pub record IsMeant (literal : Literal) : Type 0 where
  pub written : PlainValue
  pub means : literal_if written ≡ Some literal

-- For proofs alone. What the types of the program say of its literals: an integer has 128 bits, and each unit of a text 16.
abbrev pub IsOfProgram : Literal → Type 0
IsOfProgram (the.Int n) = FitsSigned w128 n
IsOfProgram (the.Text units) = (place : ℕ) → slice_index units place < 65536
IsOfProgram literal = Unit {0}
