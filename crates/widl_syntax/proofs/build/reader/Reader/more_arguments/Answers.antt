use Rattle.std.proofs.Common.{[], ◌∷◌, refl, arith}
use Rattle.widl_grammar.specs.declared.rule.Rule.TheVariants as rule
use Rattle.widl_grammar.specs.declared.terminal.Terminal.TheVariants as terminal
use Rattle.widl_syntax.proofs.Reading.{and_then, by_rest, nothing_if, other_than, passed_by, taken_as, took}
use Rattle.widl_syntax.proofs.Lists.{adds_none, adds_further, adds_over, adds_used_up, repeats_at}
use Rattle.widl_syntax.proofs.build.reader.Reader.more_arguments.Goals as goal

pub loop-init : goal.loop-init
loop-init c = adds_none

pub loop-preserved : goal.loop-preserved
loop-preserved c =
    let found = taken_as terminal.Comma _ _ c.take_if.result c.is_none.result c.is_none.ensures c.if-is_none.false c.take_if.ensures in
    adds_further c.loop.invariant c.in_ok-push.ensures.ok
    (repeats_at rule.MoreArguments terminal.Comma found.1.ahead refl refl refl)
    (and_then (took terminal.Comma found.1.taken) c.in_ok-argument.ensures)
    refl

pub returns-after-loop : goal.returns-after-loop
returns-after-loop c = adds_used_up refl (omega arith) c.loop.invariant

pub returns-then-is_none : goal.returns-then-is_none
returns-then-is_none c =
    let passed = passed_by terminal.Comma _ _ c.take_if.result c.is_none.result c.is_none.ensures c.if-is_none.true c.take_if.ensures in
    adds_over c.loop.invariant (by_rest rule.MoreArguments (terminal.Comma ∷ []) 1 refl refl (other_than terminal.Comma _ passed.other) (nothing_if passed.same))
