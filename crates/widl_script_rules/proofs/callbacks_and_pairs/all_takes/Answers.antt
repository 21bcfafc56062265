use Rattle.std.proofs.Common.{◌≡◌, ◌≤◌, ◌∷◌, ◌++◌, ◌∙◌, [], ap, arith, length, map, slice_get, Some, sym, take}
use Rattle.std.proofs.lemmas.List.{take_all}
use Rattle.widl_idl.specs.declared.callback.Callback.{Callback}
use Rattle.widl_idl.specs.DefinitionTerms.{CallbackTerm, arg_term, callback_term}
use Rattle.widl_script_rules.specs.Takes.{takes_of}
use Rattle.widl_script_rules.proofs.Surrounding.{at_place}
use Rattle.widl_script_rules.proofs.Takes.{mapped_next, mapped_twice}
use Rattle.widl_script_rules.proofs.callbacks_and_pairs.all_takes.Goals as goal

pub callbacks-preserved : goal.callbacks-preserved
callbacks-preserved c =
    let all = c.args.callbacks.now in
    let k = c.callbacks.callback-index in
    let x = c.callback-item.result in
    let f = λ (k : Callback). takes_of (callback_term k).sig.args in
    let is : slice_get all k ≡ Some x = ap (λ xs. slice_get xs k) (sym c.as_slice-callback-items.ensures) ∙ at_place c.as_slice-callback-items.result.now k x c.callbacks-test.true c.callback-item.is in
    c.in_ok-push.ensures.items ∙ ap (λ ts. ts ++ c.takes_of.result ∷ []) c.callbacks.invariant
    ∙ ap (λ t. map f (take k all) ++ t ∷ []) (c.takes_of.ensures ∙ ap (λ args. takes_of (map arg_term args)) c.as_slice.ensures)
    ∙ sym (mapped_next f all k x is)

pub returns : goal.returns
returns c =
    let all = c.args.callbacks.now in
    let k = c.callbacks.callback-index in
    let f = λ (k : Callback). takes_of (callback_term k).sig.args in
    let end : length all ≤ k = omega (arith, ap length c.as_slice-callback-items.ensures, c.callbacks-test.false) in
    c.callbacks.invariant ∙ ap (map f) (take_all k all end) ∙ sym (mapped_twice (λ (k : CallbackTerm). takes_of k.sig.args) callback_term all)
