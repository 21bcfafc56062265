use Rattle.std.proofs.Common.{cond, ap, None, Some}
use Rattle.widl_idl.specs.DefinitionTerms.{dict_term}
use Rattle.widl_idl.specs.MergedList.{dictionary_of}
use Rattle.widl_idl.specs.PlainTrees.{plain_definitions}
use Rattle.widl_idl.specs.PlainTypes.{name_of}
use Rattle.widl_merge.specs.PlainMain.{plain_dictionary}
use Rattle.widl_merge.proofs.Growing.{pushed_adds}
use Rattle.widl_merge.proofs.defs.add_dictionary.Goals as goal

pub dictionary_meant-requires-clause-itself : goal.dictionary_meant-requires-clause-itself
dictionary_meant-requires-clause-itself c = c.requires.itself (name_of c.args.dictionary.now.name) (ap (λ b. cond b None (Some (name_of c.args.dictionary.now.name))) c.if-dictionary.false)

pub returns : goal.returns
returns c =
    let found = dictionary_of (plain_definitions c.args.sources.now) (plain_dictionary c.args.dictionary.now) in
    pushed_adds dict_term found _ c.in_ok-dictionary_meant.field-0 c.args.dicts.now c.push.new.self c.push.result c.push.ensures.ok c.in_ok-dictionary_meant.ensures
    (ap (λ b. cond b None (Some found)) c.if-dictionary.false)
