-- For proofs alone. What the rules on step lines look up in a list of definitions without interfaces.
use Rattle.std.specs.Prelude.{◌≡◌, []}
use Rattle.widl_fits.specs.Fitting.{Knows}
use Rattle.widl_idl.specs.DefinitionTerms.{DefsTerm, defs_term}
use Rattle.widl_script_rules.specs.declared.list_tables.ListTables.{ListTables}
use Rattle.widl_script_rules.specs.Takes.{AreTakes}

pub record AreListTables (list : DefsTerm) (t : ListTables) : Type 0 where
  pub is : defs_term t.list.now ≡ list
  pub bare : list.ifaces ≡ []
  pub fits : Knows list t.fits
  pub takes : AreTakes list t.callbacks
