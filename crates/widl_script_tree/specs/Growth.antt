-- Tables that grow.
use Rattle.std.specs.Prelude.{◌≡◌, List, ◌++◌}
use Rattle.widl_script_tree.specs.Tables.{Tables}

-- the list goes on from the former one
pub record Extends {X : Type 0} (old new : List X) : Type 0 where
  pub added : List X
  pub whole : new ≡ old ++ added

-- what was put stays at its place
pub record Grown (old new : Tables) : Type 0 where
  pub expressions : Extends old.expressions new.expressions
  pub statements : Extends old.statements new.statements
  pub functions : Extends old.functions new.functions
  pub blocks : Extends old.blocks new.blocks
  pub names : Extends old.names new.names
