use Rattle.std.proofs.Common.{◌≡◌, ◌∙◌, ap, map, rules, slice_get, sym}
use Rattle.widl_idl.specs.DefinitionTerms.{callback_term, defs_term}
use Rattle.widl_idl.specs.declared.types.IdlType.{the_lemmas}
use Rattle.widl_idl.specs.Terms.{CallbackFunctionType, CallbackInterfaceType, type_term}
use Rattle.widl_script_rules.specs.CallbacksAndPairs.{callback_of}
use Rattle.widl_script_rules.proofs.wanted.callback_of.Goals as goal

pub returns-in-CallbackFn : goal.returns-in-CallbackFn
returns-in-CallbackFn c =
    let n = c.in-CallbackFn.number in
    let ty : type_term c.args.t.now ≡ CallbackFunctionType n = (let is = c.in-CallbackFn.is in search (rules, the_lemmas)) in
    c.callback_at.ensures ∙ ap (λ xs. slice_get (map callback_term xs) n) c.as_slice.ensures ∙ ap (callback_of (defs_term c.args.list.now)) (sym ty)

pub returns-in-CallbackIface : goal.returns-in-CallbackIface
returns-in-CallbackIface c =
    let n = c.in-CallbackIface.number in
    let ty : type_term c.args.t.now ≡ CallbackInterfaceType n = (let is = c.in-CallbackIface.is in search (rules, the_lemmas)) in
    c.callback_at-in-CallbackIface.ensures ∙ ap (λ xs. slice_get (map callback_term xs) n) c.as_slice-in-CallbackIface.ensures ∙ ap (callback_of (defs_term c.args.list.now)) (sym ty)
