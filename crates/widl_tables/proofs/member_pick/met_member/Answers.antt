use Rattle.std.proofs.Common.{sym, ◌∙◌}
use Rattle.widl_idl.specs.DefinitionTerms.{defs_term}
use Rattle.widl_idl.specs.Flattened.{flattened_members}
use Rattle.widl_idl.specs.Terms.{packed, type_terms}
use Rattle.widl_tables.specs.TypeTests.{asks, suits}
use Rattle.widl_tables.proofs.Finding.{told_asked, told_unasked}
use Rattle.widl_tables.proofs.member_pick.met_member.Goals as goal

pub returns-then-holds : goal.returns-then-holds
returns-then-holds c = told_asked (asks c.args.value c.args.class) (suits (defs_term c.args.defs.now) c.args.class c.args.member) (flattened_members (packed (type_terms c.args.members.now))) c.first_place.result (sym c.holds.ensures ∙ c.if-holds.true) c.first_place.ensures

pub returns-else-holds : goal.returns-else-holds
returns-else-holds c = told_unasked (asks c.args.value c.args.class) (suits (defs_term c.args.defs.now) c.args.class c.args.member) (flattened_members (packed (type_terms c.args.members.now))) (sym c.holds.ensures ∙ c.if-holds.false)
