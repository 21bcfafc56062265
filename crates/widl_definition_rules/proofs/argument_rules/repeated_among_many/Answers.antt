use Rattle.std.proofs.Common.{arith, rules}
use Rattle.widl_idl.specs.PlainTrees.{PlainArgument, argument_of}
use Rattle.widl_names.specs.KnownTexts.{has_text}
use Rattle.widl_definition_rules.proofs.RepeatedTexts.{nothing_repeated, repeated_end, repeated_step}
use Rattle.widl_definition_rules.proofs.argument_rules.repeated_among_many.Goals as goal

pub loop-argument-init : goal.loop-argument-init
loop-argument-init c = nothing_repeated (λ (x : PlainArgument). x.name.text) (λ (x : PlainArgument). x.name.at) (has_text c.new-known.result) (λ t. search rules)

pub loop-argument-preserved : goal.loop-argument-preserved
loop-argument-preserved c =
    repeated_step (λ (x : PlainArgument). x.name.text) (λ (x : PlainArgument). x.name.at) (has_text c.loop-argument.known) argument_of c.args.arguments.now c.loop-argument.argument-index c.argument-item.result c.as_str.result.now (has_text c.note_text.new.known)
    c.loop-argument.best c.in_ok-found.found c.earlier_violation-best.result (omega arith) c.argument-item.is (search rules) c.in_ok-found.ensures.adds c.in_ok-found.ensures.found c.earlier_violation-best.ensures c.loop-argument.invariant

pub returns : goal.returns
returns c = repeated_end (λ (x : PlainArgument). x.name.text) (λ (x : PlainArgument). x.name.at) (has_text c.loop-argument.known) argument_of c.args.arguments.now c.loop-argument.argument-index c.loop-argument.best (omega arith) c.loop-argument.invariant
