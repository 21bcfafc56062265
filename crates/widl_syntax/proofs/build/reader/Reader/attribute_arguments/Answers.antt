use Rattle.std.proofs.Common.{◌+◌, ◌++◌, [], ◌∷◌, sym, ◌∙◌, ap, subst, arith}
use Rattle.widl_grammar.specs.declared.rule.Rule.TheVariants as rule
use Rattle.widl_predictive.specs.declared.machine.Frame.TheVariants.{Open}
use Rattle.widl_predictive.specs.Runs.{left_of}
use Rattle.widl_syntax.proofs.AttributeArguments.{InMachine, machine_begins, machine_goes_on, machine_over, machine_used_up}
use Rattle.widl_syntax.proofs.build.reader.Reader.attribute_arguments.Goals as goal

pub loop-init : goal.loop-init
loop-init c = machine_begins c.args.self.now c.new-tokens.result (left_of c.push.new.self.items) c.new-tokens.ensures
    (ap left_of (c.in_ok-push.ensures.items ∙ ap (λ items. items ++ Open rule.ExtendedAttributeRest 1 ∷ []) c.new-stack.ensures.items))

pub loop-preserved : goal.loop-preserved
loop-preserved c =
    subst (λ tokens. InMachine c.args.self.now c.source_token.new.self tokens (left_of c.next_token.new.stack.items) (c.loop.counter + 1)) (sym c.in_ok-push-2.ensures.ok)
    (machine_goes_on c.ahead_or_end.result c.in_ok-next_token.field-0 c.in_ok-source_token.field-0 c.loop.invariant c.ahead_or_end.ensures c.in_ok-next_token.ensures c.if-not-branch.false c.in_ok-source_token.ensures.taken c.in_ok-source_token.ensures.bytes)

pub returns-then-not-branch-clause-reads : goal.returns-then-not-branch-clause-reads
returns-then-not-branch-clause-reads c = machine_over (left_of c.next_token.new.stack.items) c.ahead_or_end.result c.in_ok-next_token.field-0 c.loop.invariant c.ahead_or_end.ensures c.in_ok-next_token.ensures c.if-not-branch.true

pub returns-then-not-branch-clause-shorter : goal.returns-then-not-branch-clause-shorter
returns-then-not-branch-clause-shorter c = c.loop.invariant.shorter

pub returns-clause-reads : goal.returns-clause-reads
returns-clause-reads c = machine_used_up (left_of c.next_token-2.new.stack.items) c.in_ok-_over._over c.loop.invariant c.in_ok-_over.ensures (omega arith)

pub returns-clause-shorter : goal.returns-clause-shorter
returns-clause-shorter c = c.loop.invariant.shorter
