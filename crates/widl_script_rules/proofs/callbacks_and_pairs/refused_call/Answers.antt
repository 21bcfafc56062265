use Rattle.std.proofs.Common.{◌≡◌, ◌∷◌, ◌∙◌, [], Bool, Option, Some, ap, arith, false, length, option_map, subst, sym, if◌then◌else◌}
use Rattle.std.specs.Borrow.{Bor}
use Rattle.widl_idl.specs.declared.argument.Arg.{Arg}
use Rattle.widl_idl.specs.DefinitionTerms.{ArgTerm, arg_term}
use Rattle.widl_script_rules.specs.Arguments.{argument_of}
use Rattle.widl_script_rules.specs.CallbacksAndPairs.{callback_of, refused_word, takes_call}
use Rattle.widl_script_rules.specs.Lookups.{overload_term}
use Rattle.widl_script_rules.specs.StepUses.{Invoked}
use Rattle.widl_script_rules.specs.Surroundings.{plain_line}
use Rattle.widl_script_rules.specs.Takes.{is_taken}
use Rattle.widl_script_rules.specs.UsedPlaces.{FirstAt, capped}
use Rattle.widl_script_rules.proofs.Takes.{call_taken, call_untaken, taken_is}
use Rattle.widl_script_rules.proofs.callbacks_and_pairs.refused_call.Goals as goal

pub returns-else-takes : goal.returns-else-takes
returns-else-takes c = λ list known.
    let o = overload_term c.args.overload in
    let line = plain_line c.args.line.now in
    let word = c.args.word in
    let i : Invoked = record { word = word; call = c.args.call.now } in
    let a = arg_term c.in-Some.arg.now in
    let r = c.place_near.result in
    let found : argument_of o c.args.call.now.arg ≡ Some a = sym c.argument_of.ensures ∙ ap (option_map (λ (x : Bor Arg). arg_term x.now)) c.in-Some.is in
    let refused : takes_call (callback_of list a.ty) (length c.args.call.now.sources) ≡ false =
    call_taken (callback_of list a.ty) c.in-Some-takes.takes (length c.args.call.now.sources) (sym c.in-Some-takes.is ∙ c.takes.ensures ∙ taken_is list c.args.callbacks.now known a.ty)
    ∙ ap (is_taken c.in-Some-takes.takes) (sym c.len.ensures) ∙ sym c.takes-in-Some-takes.ensures ∙ c.if-takes.false in
    let at : word ≡ capped word = omega (arith, c.requires) in
    subst (λ (x : Option ArgTerm). FirstAt 14 line (refused_word list i x) r) (sym found) (subst (λ (b : Bool). FirstAt 14 line (if b then [] else word ∷ []) r) (sym refused) (c.place_near.ensures word at))

pub returns-in-None-takes : goal.returns-in-None-takes
returns-in-None-takes c = λ list known.
    let o = overload_term c.args.overload in
    let line = plain_line c.args.line.now in
    let word = c.args.word in
    let i : Invoked = record { word = word; call = c.args.call.now } in
    let a = arg_term c.in-Some.arg.now in
    let r = c.place_near-in-None-takes.result in
    let found : argument_of o c.args.call.now.arg ≡ Some a = sym c.argument_of.ensures ∙ ap (option_map (λ (x : Bor Arg). arg_term x.now)) c.in-Some.is in
    let refused : takes_call (callback_of list a.ty) (length c.args.call.now.sources) ≡ false = call_untaken (callback_of list a.ty) (length c.args.call.now.sources) (sym c.in-None-takes.is ∙ c.takes.ensures ∙ taken_is list c.args.callbacks.now known a.ty) in
    let at : word ≡ capped word = omega (arith, c.requires) in
    subst (λ (x : Option ArgTerm). FirstAt 14 line (refused_word list i x) r) (sym found) (subst (λ (b : Bool). FirstAt 14 line (if b then [] else word ∷ []) r) (sym refused) (c.place_near-in-None-takes.ensures word at))
