-- When an object is asked for its method `@iterator`, for the laws of the choice.
-- Source: Web IDL, "overload resolution algorithm", step 12.
use Rattle.std.specs.Prelude.{◌≡◌, ℕ, Bool, true, false, List, [], ◌∷◌, Some}
use Rattle.widl_idl.specs.DefinitionTerms.{DefsTerm}
use Rattle.widl_overload.specs.sets.Sets.{TupleTerm}
use Rattle.widl_value.specs.declared.class.Class.{Class}
use Rattle.widl_tables.specs.declared.entry_test.Test.TheVariants.{IsOptional, IsNullable, IsImplemented, IsCallback, IsSequence}
use Rattle.widl_tables.specs.declared.pick.Pick.TheVariants.{Refuse}
use Rattle.widl_tables.specs.Picks.{first_entry, first_pick, met_by}
use Rattle.widl_tables.specs.Tests.{is_an_object}

-- an object that wasn't found to have no such method meets no test before that of a sequence, and there this entry first
pub record IsProbed (list : DefsTerm) (entries : List TupleTerm) (place : ℕ) (class : Class) (probed : Bool) (e : ℕ) : Type 0 where
  pub unprobed : probed ≡ false
  pub object : is_an_object class ≡ true
  pub earlier : first_pick false (met_by list entries place class (IsOptional ∷ IsNullable ∷ IsImplemented ∷ IsCallback ∷ [])) ≡ Refuse
  pub sequence : first_entry list place class IsSequence entries ≡ Some e
