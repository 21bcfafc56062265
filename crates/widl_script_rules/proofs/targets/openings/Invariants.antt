use Rattle.std.proofs.Common.{◌≡◌, length}
use Rattle.widl_idl.specs.DefinitionTerms.{DefsTerm}
use Rattle.widl_script_rules.specs.Lookups.{AreNamespaces, AreOpenings}
use Rattle.widl_script_rules.specs.Surroundings.{plain_lines}
use Rattle.widl_script_rules.proofs.targets.openings.Given as goal

abbrev pub invariant-lines : goal.invariant-lines
invariant-lines l = (length l.all.items ≡ l.place) × ((list : DefsTerm) → AreNamespaces list l.namespaces → AreOpenings list (plain_lines l.lines) l.all.items)
