use Rattle.std.proofs.Common.{◌≡◌, rules, sym, ◌∙◌}
use Rattle.widl_idl.specs.DefinitionTerms.{defs_term}
use Rattle.widl_idl.specs.Flattened.{flattened_members}
use Rattle.widl_idl.specs.Terms.{packed, type_terms}
use Rattle.widl_scalar.specs.Enumerations.{told_place}
use Rattle.widl_tables.specs.TypeTests.{suits}
use Rattle.widl_tables.proofs.Finding.{told_found, told_none}
use Rattle.widl_tables.proofs.type_walk.first_place.Goals as goal

pub returns-then-search : goal.returns-then-search
returns-then-search c =
    let told : c.ok.result ≡ told_place c.find_among-search.result.passed = search rules in
    told_found (suits (defs_term c.args.defs.now) c.args.class c.args.test) (flattened_members (packed (type_terms c.args.members.now))) c.find_among-search.result.passed c.ok.result (sym c.find_among-search.ensures.found ∙ c.if-search.true) c.find_among-search.ensures.passed told

pub returns-else-search : goal.returns-else-search
returns-else-search c = told_none (suits (defs_term c.args.defs.now) c.args.class c.args.test) (flattened_members (packed (type_terms c.args.members.now))) (sym c.find_among-search.ensures.found ∙ c.if-search.false)
