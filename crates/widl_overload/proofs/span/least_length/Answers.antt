use Rattle.std.proofs.Common.{◌≡◌, true, ◌-◌, ◌∙◌, false, length, nat_eq, arith, ap, sym, map}
use Rattle.widl_idl.specs.declared.argument.Arg.{Arg}
use Rattle.widl_idl.specs.DefinitionTerms.{arg_term}
use Rattle.std.proofs.lemmas.List.{length-map}
use Rattle.widl_overload.specs.sets.Sets.{is_free}
use Rattle.widl_overload.proofs.Terms.{item_term}
use Rattle.widl_overload.proofs.FreeStarts.{free_here, start_here}
use Rattle.widl_overload.proofs.span.least_length.Goals as goal

pub returns-then-not-is_free : goal.returns-then-not-is_free
returns-then-not-is_free c =
    let no : c.is_free.result ≡ false = (let not = c.if-not-is_free.true in cc) in
    let size = sym (length-map c.args.args.now arg_term) in
    let told = c.is_free.ensures ∙ ap (λ (a : Arg). is_free a.opt (nat_eq c.loop-least.least (length c.args.args.now))) (sym c.index-args-least.is) ∙ ap (λ n. is_free c.index-args-least.result.opt (nat_eq c.loop-least.least n)) size in
    start_here (map arg_term c.args.args.now) c.loop-least.least (arg_term c.index-args-least.result) c.is_free.result (omega arith) (omega (arith, size, c.loop-least.invariant.within)) (item_term arg_term c.args.args.now (c.loop-least.least - 1) c.index-args-least.result (omega arith) c.index-args-least.is) told no c.loop-least.invariant.free

pub loop-least-preserved : goal.loop-least-preserved
loop-least-preserved c =
    let yes : c.is_free.result ≡ true = (let not = c.if-not-is_free.false in cc) in
    let size = sym (length-map c.args.args.now arg_term) in
    let told = c.is_free.ensures ∙ ap (λ (a : Arg). is_free a.opt (nat_eq c.loop-least.least (length c.args.args.now))) (sym c.index-args-least.is) ∙ ap (λ n. is_free c.index-args-least.result.opt (nat_eq c.loop-least.least n)) size in
    record {
      within = omega (arith, c.loop-least.invariant.within);
      free = free_here (map arg_term c.args.args.now) c.loop-least.least (arg_term c.index-args-least.result) c.is_free.result (omega arith) (omega (arith, size, c.loop-least.invariant.within)) (item_term arg_term c.args.args.now (c.loop-least.least - 1) c.index-args-least.result (omega arith) c.index-args-least.is) told yes c.loop-least.invariant.free;
    }
