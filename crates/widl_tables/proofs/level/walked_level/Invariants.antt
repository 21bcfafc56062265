use Rattle.std.proofs.Common.{◌≡◌, ◌-◌, length, map}
use Rattle.widl_idl.specs.DefinitionTerms.{dict_term}
use Rattle.widl_tables.specs.Levels.{level_of, nearest}
use Rattle.widl_tables.proofs.level.walked_level.Given as goal

abbrev pub invariant-loop-links : goal.invariant-loop-links
invariant-loop-links l = level_of (map dict_term l.dicts) l.dictionary ≡ nearest (map dict_term l.dicts) (length (map dict_term l.dicts) - l.links) l.links l.at
