use Rattle.std.proofs.Common.{sym, ◌∙◌, map}
use Rattle.widl_idl.specs.DefinitionTerms.{sig_term}
use Rattle.widl_overload.specs.sets.Sets.{has_variadic}
use Rattle.widl_overload.proofs.Lengths.{all_lengths}
use Rattle.widl_overload.proofs.Terms.{any_of_terms}
use Rattle.widl_overload.proofs.sets.greatest_length.Goals as goal

pub returns-else-any_variadic-clause-all : goal.returns-else-any_variadic-clause-all
returns-else-any_variadic-clause-all c = all_lengths (map sig_term c.args.sigs.now) c.args.n c.longest_list-most.result c.longest_list-most.ensures.is (any_of_terms has_variadic sig_term c.args.sigs.now ∙ sym c.any_variadic.ensures ∙ c.if-any_variadic.false)
