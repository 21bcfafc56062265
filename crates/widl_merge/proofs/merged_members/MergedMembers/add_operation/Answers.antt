use Rattle.std.proofs.Common.{ap, sym, ◌∙◌}
use Rattle.std.proofs.lemmas.Result.{IfOk-weaker, on_ok_weaker}
use Rattle.widl_idl.specs.MergingRules.{is_static}
use Rattle.widl_idl.specs.PlainTrees.{operation_of, plain_definitions}
use Rattle.widl_merge.specs.PutTogether.{GrowsByOperation, HasOverload, number_named}
use Rattle.widl_merge.proofs.Gathering.{name_more, overload_more}
use Rattle.widl_merge.proofs.merged_members.MergedMembers.add_operation.Goals as goal

pub returns-in-Some : goal.returns-in-Some
returns-in-Some c =
    let number = number_named c.args.numbers.now.regular c.args.numbers.now.fixed in
    IfOk-weaker c.add_overload.result (λ x. HasOverload c.args.self.now.ops c.add_overload.new.ops c.in-Some.number c.in_ok-sig.sig)
    (λ x. GrowsByOperation (plain_definitions c.args.resolver.now) (operation_of c.args.operation.now) c.args.self.now number (record { ctors = c.args.self.now.ctors; ops = c.add_overload.new.ops; attrs = c.args.self.now.attrs; consts = c.args.self.now.consts; text = c.args.self.now.text; pairs = c.args.self.now.pairs; order = c.args.self.now.order }) number)
    (λ x more members attributes g.
    overload_more (plain_definitions c.args.resolver.now) members attributes c.args.self.now number g (operation_of c.args.operation.now) c.in_ok-sig.sig c.add_overload.new.ops c.in-Some.number
    (ap (λ t. number t (is_static c.args.operation.now.kind)) (sym c.operation_text-text.ensures) ∙ ap (number c.operation_text-text.result.now) (sym c.is_static-fixed.ensures) ∙ sym c.number.ensures ∙ c.in-Some.is)
    more c.in_ok-sig.ensures)
    c.add_overload.ensures

pub returns-in_ok-keep-in-None : goal.returns-in_ok-keep-in-None
returns-in_ok-keep-in-None c =
    let number = number_named c.args.numbers.now.regular c.args.numbers.now.fixed in
    let now = number_named c.keep.new.self.regular c.keep.new.self.fixed in
    on_ok_weaker c.push.result
    (λ e members attributes g.
    name_more (plain_definitions c.args.resolver.now) members attributes c.args.self.now number g (operation_of c.args.operation.now) c.in_ok-sig.sig c.add_name.new.ops c.push.new.self c.operation_text-text.result.now c.is_static-fixed.result c.in_ok-number-in-None.number now
    c.operation_text-text.ensures c.is_static-fixed.ensures (sym c.number.ensures ∙ c.in-None.is) c.in_ok-number-in-None.ensures.list c.in_ok-number-in-None.ensures.number c.in_ok-sig.ensures c.in_ok-keep-in-None.ensures e)
    c.push.ensures.ok

pub add_overload-requires : goal.add_overload-requires
add_overload-requires c = c.requires.named c.operation_text-text.result.now c.is_static-fixed.result c.in-Some.number (sym c.number.ensures ∙ c.in-Some.is)

pub add_name-requires : goal.add_name-requires
add_name-requires c = c.requires.ops
