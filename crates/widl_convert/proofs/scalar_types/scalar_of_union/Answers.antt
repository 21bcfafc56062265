use Rattle.std.proofs.Common.{ap, false, sym, ◌∙◌}
use Rattle.widl_idl.specs.DefinitionTerms.{defs_term}
use Rattle.widl_idl.specs.Terms.{packed, type_terms}
use Rattle.widl_tables.specs.Picks.{pick_member_of}
use Rattle.widl_convert.proofs.ScalarTypes.{picked_same}
use Rattle.widl_convert.proofs.scalar_types.scalar_of_union.Goals as goal

pub returns-in-Entry : goal.returns-in-Entry
returns-in-Entry c =
    let list = defs_term c.args.defs.now in
    let members = packed (type_terms c.args.members.now) in
    picked_same c.args.given c.scalar_at.result list members c.in-Entry.place
    (ap (λ class. pick_member_of list members class false) (sym c.class.ensures) ∙ sym c.pick_member.ensures ∙ c.in-Entry.is) c.scalar_at.ensures
