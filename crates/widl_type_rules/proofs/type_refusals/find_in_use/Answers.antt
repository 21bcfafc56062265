use Rattle.std.proofs.Common.{sym, subst, ap, ◌∙◌}
use Rattle.std.specs.Prelude.{IfOk}
use Rattle.widl_idl.specs.DefinitionTerms.{defs_term}
use Rattle.widl_idl.specs.FirstRefusal.{violation_of}
use Rattle.widl_idl.specs.PlainTrees.{plain_definitions}
use Rattle.widl_refusals.specs.Refusals.{IsFirst}
use Rattle.widl_type_rules.specs.SettledUses.{is_settled}
use Rattle.widl_overload.specs.rules.OnTypes.{BreaksType, BreaksUse, type_rules}
use Rattle.widl_type_rules.specs.UsesListed.{use_of}
use Rattle.widl_type_rules.proofs.OutlinedRules.{first_of_outline}
use Rattle.widl_type_rules.proofs.SettledUses.{no_type_rule}
use Rattle.widl_type_rules.proofs.type_refusals.find_in_use.Goals as goal

pub returns-then-is_settled : goal.returns-then-is_settled
returns-then-is_settled c = λ r b. no_type_rule (plain_definitions c.args.scope.now) (use_of c.args.written.now) (ap (λ d. is_settled (plain_definitions d) (use_of c.args.written.now)) (sym c.meanings.ensures) ∙ sym c.is_settled.ensures ∙ c.if-is_settled.true) (defs_term c.args.defs.now).ifaces b.which (violation_of r) b.breaks

pub returns-then-is_unasked : goal.returns-then-is_unasked
returns-then-is_unasked c =
    let ifaces = (defs_term c.args.defs.now).ifaces in
    subst (λ ds. IsFirst (λ which. BreaksUse ifaces (plain_definitions ds) which (use_of c.args.written.now)) type_rules c.find_unasked.result) c.resolver.ensures (c.find_unasked.ensures ifaces)

pub find_unasked-requires : goal.find_unasked-requires
find_unasked-requires c = sym c.is_unasked.ensures ∙ c.if-is_unasked.true

pub returns-in_ok-ty : goal.returns-in_ok-ty
returns-in_ok-ty c =
    let ifaces = (defs_term c.args.defs.now).ifaces in
    let definitions = plain_definitions c.resolver-resolver.result.now in
    let found = c.find_in_type-found.result in
    let written = use_of c.args.written.now in
    subst (λ ds. IfOk found (λ f. IsFirst (λ which. BreaksUse ifaces (plain_definitions ds) which written) type_rules f)) c.resolver-resolver.ensures
    (first_of_outline ifaces definitions found written (subst (λ r. IfOk found (λ f. IsFirst (λ which. BreaksType ifaces definitions which r) type_rules f)) c.in_ok-ty.ensures c.find_in_type-found.ensures))
