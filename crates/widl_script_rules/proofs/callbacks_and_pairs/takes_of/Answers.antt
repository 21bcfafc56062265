use Rattle.std.proofs.Common.{◌≡◌, ◌∙◌, ℕ, Bool, length, map, sym}
use Rattle.std.specs.Prelude.{count_by}
use Rattle.std.specs.List.{list_any}
use Rattle.std.proofs.lemmas.List.{length-map}
use Rattle.widl_idl.specs.DefinitionTerms.{ArgTerm, arg_term}
use Rattle.widl_script_rules.specs.declared.callbacks_and_pairs.Takes.{Takes}
use Rattle.widl_script_rules.specs.Arguments.{is_variadic}
use Rattle.widl_script_rules.specs.CallbacksAndPairs.{is_required}
use Rattle.widl_script_rules.proofs.Takes.{any_mapped, count_mapped}
use Rattle.widl_script_rules.proofs.callbacks_and_pairs.takes_of.Goals as goal

same : (a b c d : ℕ) (e f : Bool) → a ≡ b → c ≡ d → e ≡ f → (let x : Takes = record { required = a; declared = c; variadic = e } in x) ≡ record { required = b; declared = d; variadic = f }
same a b c d e f p q r = cc

pub returns : goal.returns
returns c =
    let args = c.args.args.now in
    same c.required_count.result (count_by (λ (a : ArgTerm). is_required a.opt) (map arg_term args)) (length args) (length (map arg_term args)) c.has_variadic.result (list_any (λ (a : ArgTerm). is_variadic a.opt) (map arg_term args))
    (c.required_count.ensures ∙ sym (count_mapped (λ (a : ArgTerm). is_required a.opt) arg_term args)) (sym (length-map args arg_term)) (c.has_variadic.ensures ∙ sym (any_mapped (λ (a : ArgTerm). is_variadic a.opt) arg_term args))
