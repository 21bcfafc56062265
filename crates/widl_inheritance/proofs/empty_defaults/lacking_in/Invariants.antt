use Rattle.std.proofs.Common.{◌≡◌, drop}
use Rattle.widl_idl.specs.DefinitionTerms.{DefsTerm}
use Rattle.widl_idl.specs.First.{FirstWhere}
use Rattle.widl_idl.specs.PlainTrees.{arguments_of, plain_definitions}
use Rattle.widl_overload.specs.rules.DefaultRules.{LacksEmptyDefault}
use Rattle.widl_fits.specs.Fitting.{KnowsRequired}
use Rattle.widl_inheritance.proofs.Lacking.{all_absent}
use Rattle.widl_inheritance.proofs.empty_defaults.lacking_in.Given as goal

abbrev pub invariant-loop-index : goal.invariant-loop-index
invariant-loop-index l = record {
  absent : l.absent ≡ all_absent (arguments_of (drop l.index l.arguments));
  earliest : (list : DefsTerm) → KnowsRequired list l.tables → FirstWhere (LacksEmptyDefault list (plain_definitions l.resolver) (arguments_of (drop l.index l.arguments))) l.best;
}
