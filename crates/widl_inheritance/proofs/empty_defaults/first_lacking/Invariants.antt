use Rattle.std.proofs.Common.{take}
use Rattle.widl_idl.specs.DefinitionTerms.{DefsTerm}
use Rattle.widl_idl.specs.First.{FirstWhere, Somewhere}
use Rattle.widl_idl.specs.PlainTrees.{plain_definitions}
use Rattle.widl_overload.specs.rules.DefaultRules.{LacksEmptyDefault}
use Rattle.widl_fits.specs.Fitting.{KnowsRequired}
use Rattle.widl_inheritance.specs.WrittenLists.{listed_arguments}
use Rattle.widl_inheritance.proofs.empty_defaults.first_lacking.Given as goal

abbrev pub invariant-loop-list : goal.invariant-loop-list
invariant-loop-list l = (list : DefsTerm) → KnowsRequired list l.tables → FirstWhere (Somewhere (LacksEmptyDefault list (plain_definitions l.resolver)) (take l.list-index (listed_arguments l.lists))) l.best
