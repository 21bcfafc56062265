use Rattle.std.proofs.Common.{[], ◌∷◌, refl, arith}
use Rattle.widl_grammar.specs.declared.rule.Rule.TheVariants as rule
use Rattle.widl_grammar.specs.declared.terminal.Terminal.TheVariants as terminal
use Rattle.widl_syntax.proofs.Reading.{and_then, by_rest, nothing_if, other_than, passed_by, taken_as, took}
use Rattle.widl_syntax.proofs.Lists.{adds_none, adds_further, adds_over, adds_used_up, repeats_at}
use Rattle.widl_syntax.proofs.Words.{taken_shorter, passed_shorter}
use Rattle.widl_syntax.proofs.build.reader.Reader.more_extended_attributes.Goals as goal

pub loop-init : goal.loop-init
loop-init c = record { adds = adds_none; shorter = omega arith }

pub loop-preserved : goal.loop-preserved
loop-preserved c =
    let found = taken_as terminal.Comma _ _ c.take_if.result c.is_none.result c.is_none.ensures c.if-is_none.false c.take_if.ensures in
    record {
      adds = adds_further c.loop.invariant.adds c.in_ok-push.ensures.ok
          (repeats_at rule.MoreExtendedAttributes terminal.Comma found.1.ahead refl refl refl)
          (and_then (took terminal.Comma found.1.taken) c.in_ok-extended_attribute.ensures.reads)
          refl;
      shorter = let le = taken_shorter _ found.1.taken c.loop.invariant.shorter in omega (arith, c.in_ok-extended_attribute.ensures.shorter);
    }

pub returns-after-loop-clause-appends : goal.returns-after-loop-clause-appends
returns-after-loop-clause-appends c = adds_used_up refl (omega arith) c.loop.invariant.adds

pub returns-after-loop-clause-shorter : goal.returns-after-loop-clause-shorter
returns-after-loop-clause-shorter c = c.loop.invariant.shorter

pub returns-then-is_none-clause-appends : goal.returns-then-is_none-clause-appends
returns-then-is_none-clause-appends c =
    let passed = passed_by terminal.Comma _ _ c.take_if.result c.is_none.result c.is_none.ensures c.if-is_none.true c.take_if.ensures in
    adds_over c.loop.invariant.adds (by_rest rule.MoreExtendedAttributes (terminal.Comma ∷ []) 1 refl refl (other_than terminal.Comma _ passed.other) (nothing_if passed.same))

pub returns-then-is_none-clause-shorter : goal.returns-then-is_none-clause-shorter
returns-then-is_none-clause-shorter c =
    let passed = passed_by terminal.Comma _ _ c.take_if.result c.is_none.result c.is_none.ensures c.if-is_none.true c.take_if.ensures in
    passed_shorter _ passed c.loop.invariant.shorter
