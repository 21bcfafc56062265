use Rattle.std.proofs.Common.{length, map, sym, ap, ◌∙◌}
use Rattle.std.proofs.lemmas.List.{length-map}
use Rattle.widl_idl.specs.DefinitionTerms.{dict_term}
use Rattle.widl_tables.specs.Levels.{further}
use Rattle.widl_tables.proofs.Levels.{level_above, level_itself, level_nowhere}
use Rattle.widl_tables.proofs.level.level_in.Goals as goal

pub returns-in-None : goal.returns-in-None
returns-in-None c = sym (level_nowhere (map dict_term c.args.dicts.now) c.args.dictionary (sym c.declares.ensures ∙ c.if-declares.false) (sym c.parent_of.ensures ∙ c.in-None.is))

pub returns-in-Some : goal.returns-in-Some
returns-in-Some c =
    let dicts = map dict_term c.args.dicts.now in
    c.further.ensures
    ∙ ap (λ n. further n c.known_level.result) (sym (length-map c.args.dicts.now dict_term))
    ∙ ap (further (length dicts)) c.known_level.ensures
    ∙ sym (level_above dicts c.args.dictionary c.in-Some.parent (sym c.declares.ensures ∙ c.if-declares.false) (sym c.parent_of.ensures ∙ c.in-Some.is))

pub returns-then-declares : goal.returns-then-declares
returns-then-declares c = sym (level_itself (map dict_term c.args.dicts.now) c.args.dictionary (sym c.declares.ensures ∙ c.if-declares.true))
