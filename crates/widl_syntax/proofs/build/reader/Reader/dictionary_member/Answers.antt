use Rattle.std.proofs.Common.{◌≡◌, List, Result, Ok, Err, IfOk, refl, sym, subst}
use Rattle.widl_lex.specs.Tokens.{Lexeme}
use Rattle.widl_grammar.specs.declared.rule.Rule.TheVariants as rule
use Rattle.widl_idl.specs.declared.tree.dictionaries.DictionaryMember.{DictionaryMember}
use Rattle.widl_idl.specs.declared.tree.extended_attributes.ExtendedAttribute.{ExtendedAttribute}
use Rattle.widl_syntax.specs.Reading.{Reads, part}
use Rattle.widl_syntax.specs.UnparsedNames.{extended_attributes}
use Rattle.widl_syntax.specs.UnparsedDefinitions.{dictionary_member, dictionary_member_rest}
use Rattle.widl_syntax.proofs.Reading.{by_only, and_then}
use Rattle.widl_syntax.proofs.build.reader.Reader.dictionary_member.Goals as goal

-- a member's extended attributes, and then its rest
whole : {E : Type 0} (attributes : List ExtendedAttribute) (start now next : List Lexeme) → Reads (part rule.ExtendedAttributeList) (extended_attributes attributes) start now → (r : Result DictionaryMember E) → IfOk r (λ read. read.attributes ≡ attributes) → IfOk r (λ read. Reads (part rule.DictionaryMemberRest) (dictionary_member_rest read) now next) → IfOk r (λ read. Reads (part rule.DictionaryMember) (dictionary_member read) start next)
whole attributes start now next first (Ok read) same rest = by_only rule.DictionaryMember refl (and_then (subst (λ all. Reads (part rule.ExtendedAttributeList) (extended_attributes all) start now) (sym same) first) rest)
whole attributes start now next first (Err e) same rest = tt

pub returns-then-is_ahead : goal.returns-then-is_ahead
returns-then-is_ahead c = whole c.in_ok-attributes.attributes c.args.self.now _ _ c.in_ok-attributes.ensures.reads c.required_member.result c.required_member.ensures.attributes c.required_member.ensures.reads

pub returns-else-is_ahead : goal.returns-else-is_ahead
returns-else-is_ahead c = whole c.in_ok-attributes.attributes c.args.self.now _ _ c.in_ok-attributes.ensures.reads c.optional_member.result c.optional_member.ensures.attributes c.optional_member.ensures.reads
