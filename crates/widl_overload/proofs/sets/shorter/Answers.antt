use Rattle.std.proofs.Common.{◌≡◌, map, take, sym, ap, ◌∙◌}
use Rattle.std.proofs.lemmas.List.{drop-map, take-map}
use Rattle.widl_idl.specs.DefinitionTerms.{arg_term}
use Rattle.widl_overload.specs.sets.Sets.{are_free, declared_opts, declared_types, tuple_term}
use Rattle.widl_overload.proofs.Shorter.{cut_short}
use Rattle.widl_overload.proofs.sets.shorter.Goals as goal

pub returns-in_ok-declared : goal.returns-in_ok-declared
returns-in_ok-declared c =
    let args = map arg_term c.args.args.now in
    let front : map arg_term c.split_at.result.0.now ≡ take c.args.m args = ap (map arg_term) c.split_at.ensures.front ∙ sym (take-map arg_term c.args.m c.args.args.now) in
    cut_short c.args.number args c.args.m (tuple_term c.in_ok-declared.field-0) c.all_free.result
    (c.all_free.ensures ∙ ap (λ args. are_free (declared_opts (map arg_term args))) c.split_at.ensures.back ∙ ap (λ args. are_free (declared_opts args)) (sym (drop-map arg_term c.args.m c.args.args.now))) c.if-all_free.true
    (c.in_ok-declared.ensures ∙ (λ i. record { overload = c.args.number; types = declared_types (front i); opts = declared_opts (front i) }))
