use Rattle.std.proofs.Common.{take}
use Rattle.widl_idl.specs.DefinitionTerms.{DefsTerm}
use Rattle.widl_idl.specs.First.{FirstWhere, Somewhere}
use Rattle.widl_idl.specs.PlainTrees.{plain_definitions}
use Rattle.widl_overload.specs.rules.DefaultRules.{IsOtherDefault}
use Rattle.widl_fits.specs.Fitting.{Knows}
use Rattle.widl_inheritance.specs.WrittenDefaults.{listed_defaults}
use Rattle.widl_inheritance.proofs.defaults.first_other.Given as goal

abbrev pub invariant-loop-defaulted : goal.invariant-loop-defaulted
invariant-loop-defaulted l = (list : DefsTerm) → Knows list l.tables → FirstWhere (Somewhere (IsOtherDefault list (plain_definitions l.resolver)) (take l.defaulted-index (listed_defaults l.defaults))) l.best
