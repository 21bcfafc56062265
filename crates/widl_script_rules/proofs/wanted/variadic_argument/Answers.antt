use Rattle.std.proofs.Common.{sym, ◌∙◌, arith}
use Rattle.widl_idl.specs.DefinitionTerms.{ArgTerm, arg_term}
use Rattle.widl_script_rules.specs.Arguments.{is_variadic}
use Rattle.widl_script_rules.proofs.Finding.{found_here, none_past, passed_here}
use Rattle.widl_script_rules.proofs.wanted.variadic_argument.Goals as goal

pub returns-then-is_variadic : goal.returns-then-is_variadic
returns-then-is_variadic c =
    sym (found_here arg_term (λ (a : ArgTerm). is_variadic a.opt) c.args.args.now c.loop-arg.arg-index c.arg-item.result (omega arith) c.arg-item.is (sym c.is_variadic.ensures ∙ c.if-is_variadic.true)) ∙ c.loop-arg.invariant

pub loop-arg-preserved : goal.loop-arg-preserved
loop-arg-preserved c = passed_here arg_term (λ (a : ArgTerm). is_variadic a.opt) c.args.args.now c.loop-arg.arg-index c.arg-item.result (omega arith) c.arg-item.is (sym c.is_variadic.ensures ∙ c.if-is_variadic.false) ∙ c.loop-arg.invariant

pub returns : goal.returns
returns c = sym (none_past arg_term (λ (a : ArgTerm). is_variadic a.opt) c.args.args.now c.loop-arg.arg-index (omega arith)) ∙ c.loop-arg.invariant
