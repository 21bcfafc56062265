use Rattle.std.proofs.Common.{◌≡◌, ◌∙◌, false, subst, sym, true}
use Rattle.widl_first.specs.Keys.{IsFirst}
use Rattle.widl_script_rules.specs.LeastBreak.{place_key}
use Rattle.widl_script_rules.specs.PassedTargets.{IsPassed, IsThere, RepeatsIn}
use Rattle.widl_script_rules.specs.Surroundings.{plain_line}
use Rattle.widl_script_rules.proofs.RepeatedTargets.{HasKey, new_repeats, none_passes, none_repeats, not_turned, old_repeats, one_passes}
use Rattle.widl_script_rules.proofs.repeated_targets.repeated_in.Goals as goal

pub returns-then-branch-clause-passed : goal.returns-then-branch-clause-passed
returns-then-branch-clause-passed c = λ list h.
    let line = plain_line c.args.line.now in
    one_passes list line c.args.passed.now.keys c.insert.new.self.keys c.in-Some.target (λ q. c.in_ok-insert-in-Some.ensures.updates.0 q) (subst (IsThere list line) c.in-Some.is (c.target_there.ensures list line h))

pub returns-then-branch-clause-first : goal.returns-then-branch-clause-first
returns-then-branch-clause-first c = λ list h.
    let line = plain_line c.args.line.now in
    let new : HasKey c.args.passed.now.keys c.in-Some.target ≡ false = not_turned (HasKey c.args.passed.now.keys c.in-Some.target) true (sym c.in_ok-insert-in-Some.ensures.added ∙ c.if-branch.true) in
    new_repeats list line c.args.passed.now.keys c.in-Some.target new (subst (IsThere list line) c.in-Some.is (c.target_there.ensures list line h))

pub returns-else-branch-clause-passed : goal.returns-else-branch-clause-passed
returns-else-branch-clause-passed c = λ list h.
    let line = plain_line c.args.line.now in
    one_passes list line c.args.passed.now.keys c.insert.new.self.keys c.in-Some.target (λ q. c.in_ok-insert-in-Some.ensures.updates.0 q) (subst (IsThere list line) c.in-Some.is (c.target_there.ensures list line h))

pub returns-else-branch-clause-first : goal.returns-else-branch-clause-first
returns-else-branch-clause-first c = λ list h.
    let line = plain_line c.args.line.now in
    let old : HasKey c.args.passed.now.keys c.in-Some.target ≡ true = not_turned (HasKey c.args.passed.now.keys c.in-Some.target) false (sym c.in_ok-insert-in-Some.ensures.added ∙ c.if-branch.false) in
    subst (IsFirst place_key (RepeatsIn list (IsPassed c.args.passed.now.keys) line)) (sym c.place_at.ensures)
    (old_repeats list line c.args.passed.now.keys c.in-Some.target old (subst (IsThere list line) c.in-Some.is (c.target_there.ensures list line h)))

pub returns-in-None-clause-passed : goal.returns-in-None-clause-passed
returns-in-None-clause-passed c = λ list h.
    let line = plain_line c.args.line.now in
    none_passes list line c.args.passed.now.keys (subst (IsThere list line) c.in-None.is (c.target_there.ensures list line h))

pub returns-in-None-clause-first : goal.returns-in-None-clause-first
returns-in-None-clause-first c = λ list h.
    let line = plain_line c.args.line.now in
    none_repeats list line c.args.passed.now.keys (subst (IsThere list line) c.in-None.is (c.target_there.ensures list line h))
