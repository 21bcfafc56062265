use Rattle.std.proofs.Common.{ap, ◌∙◌}
use Rattle.std.specs.Prelude.{slice_set}
use Rattle.std.proofs.lemmas.List.{map-set}
use Rattle.widl_value.specs.IdlTerms.{idl_term, idl_terms}
use Rattle.widl_value.proofs.Places.{term_at}
use Rattle.widl_value.proofs.idl_values.IdlValues.replace.Goals as goal

pub returns-clause-list : goal.returns-clause-list
returns-clause-list c = map-set idl_term c.args.self.now.items.items c.args.place c.replace.new.dest ∙ ap (λ t. slice_set (idl_terms c.args.self.now) c.args.place (idl_term t)) c.replace.ensures.after

pub returns-clause-former : goal.returns-clause-former
returns-clause-former c = term_at idl_term c.args.self.now.items.items c.args.place c.replace.result c.index_mut.result.now c.requires c.index_mut.ensures.value c.replace.ensures.value
