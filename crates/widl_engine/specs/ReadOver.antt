-- What the tables of a script have to agree on with the list of definitions that it is run over.
use Rattle.std.specs.Prelude.{◌≡◌, ℕ}
use Rattle.widl_idl.specs.DefinitionTerms.{DefsTerm}
use Rattle.widl_script_tree.specs.Tables.{Tables, name_at, owner_at}
use Rattle.widl_steps.specs.FoundSteps.{FindsSteps}
use Rattle.widl_runs.specs.Worlds.{owner_named}

-- the owner of each name is the one of the list, and so are the steps for each operation
pub record IsReadOver (list : DefsTerm) (s : Tables) : Type 0 where
  pub owners : (name : ℕ) → owner_at s name ≡ owner_named list (name_at s name)
  pub lines : FindsSteps list s
