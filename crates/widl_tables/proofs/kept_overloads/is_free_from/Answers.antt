use Rattle.std.proofs.Common.{map, sym, ap, ◌∙◌}
use Rattle.std.proofs.lemmas.List.{drop-map}
use Rattle.widl_idl.specs.DefinitionTerms.{arg_term}
use Rattle.widl_overload.specs.sets.Sets.{are_free, declared_opts}
use Rattle.widl_tables.proofs.kept_overloads.is_free_from.Goals as goal

pub returns : goal.returns
returns c = c.all_free.ensures ∙ ap (λ args. are_free (declared_opts (map arg_term args))) c.split_at.ensures.back ∙ ap (λ args. are_free (declared_opts args)) (sym (drop-map arg_term c.args.m c.args.args.now))
