use Rattle.std.proofs.Common.{◌≡◌, MatchOption, None, subst}
use Rattle.widl_idl.specs.DefinitionTerms.{DefsTerm}
use Rattle.widl_script_tree.specs.declared.steps.Target.{Target}
use Rattle.widl_script_rules.specs.Lookups.{IsOpening}
use Rattle.widl_script_rules.specs.PassedTargets.{key_target}
use Rattle.widl_script_rules.specs.Targets.{overload_of}
use Rattle.widl_script_rules.proofs.RepeatedTargets.{closed_there, known_there, missing_there}
use Rattle.widl_script_rules.proofs.repeated_targets.target_there.Goals as goal

pub returns-in-Some-overload : goal.returns-in-Some-overload
returns-in-Some-overload c = λ list line h.
    known_there list line c.in-Some.opening _ c.operation_target.result c.in-Some-overload.is
    (subst (λ (t : Target). MatchOption c.operation_target.result ((l : DefsTerm) → overload_of l t ≡ None) (λ key. key_target key ≡ t)) c.deref.ensures c.operation_target.ensures.target) (subst (IsOpening list line) c.in-Some.is h)

pub returns-in-None-overload : goal.returns-in-None-overload
returns-in-None-overload c = λ list line h. missing_there list line c.in-Some.opening c.in-None-overload.is (subst (IsOpening list line) c.in-Some.is h)

pub returns-in-None : goal.returns-in-None
returns-in-None c = λ list line h. closed_there list line (subst (IsOpening list line) c.in-None.is h)
