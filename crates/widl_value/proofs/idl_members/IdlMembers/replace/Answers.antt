use Rattle.std.proofs.Common.{ap, ◌∙◌}
use Rattle.std.specs.Prelude.{slice_set}
use Rattle.std.proofs.lemmas.List.{map-set}
use Rattle.widl_value.specs.IdlTerms.{member_term, member_terms}
use Rattle.widl_value.proofs.Places.{term_at}
use Rattle.widl_value.proofs.idl_members.IdlMembers.replace.Goals as goal

pub returns-clause-list : goal.returns-clause-list
returns-clause-list c = map-set member_term c.args.self.now.items.items c.args.place c.replace.new.dest ∙ ap (λ t. slice_set (member_terms c.args.self.now) c.args.place (member_term t)) c.replace.ensures.after

pub returns-clause-former : goal.returns-clause-former
returns-clause-former c = term_at member_term c.args.self.now.items.items c.args.place c.replace.result c.index_mut.result.now c.requires c.index_mut.ensures.value c.replace.ensures.value
