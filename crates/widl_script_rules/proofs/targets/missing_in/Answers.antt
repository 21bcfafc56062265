use Rattle.std.proofs.Common.{◌≡◌, ◌∙◌, ap, None, option_map, Some, subst, sym}
use Rattle.widl_script_rules.specs.Lookups.{IsOpened, IsOpening, overload_term}
use Rattle.widl_script_rules.specs.Surroundings.{plain_line}
use Rattle.widl_script_rules.specs.Targets.{overload_of}
use Rattle.widl_script_rules.proofs.FormedLines.{one_target}
use Rattle.widl_script_rules.proofs.targets.missing_in.Goals as goal

pub returns-in-None : goal.returns-in-None
returns-in-None c = λ list h p lacks. subst (IsOpening list (plain_line c.args.line.now)) c.in-None.is h lacks.target lacks.opens

pub returns-in-Some-overload : goal.returns-in-Some-overload
returns-in-Some-overload c = λ list h p lacks.
    let line = plain_line c.args.line.now in
    let b = c.in-Some.opening in
    let o : IsOpened list line b = subst (IsOpening list line) c.in-Some.is h in
    let one : b.target.value ≡ lacks.target = one_target line b.target.value lacks.target o.opens lacks.opens in
    let bad : Some (overload_term c.in-Some-overload.field-0) ≡ None = sym (ap (option_map overload_term) c.in-Some-overload.is) ∙ o.overload_is ∙ ap (overload_of list) one ∙ lacks.lacks in
    cc
