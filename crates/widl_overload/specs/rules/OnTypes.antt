-- The rules of validity on types, asked of one type where it is written.
use Rattle.std.specs.Prelude.{List, [], ◌∷◌}
use Rattle.widl_idl.specs.declared.violation.Violation.{Violation}
use Rattle.widl_idl.specs.DefinitionTerms.{IfaceTerm}
use Rattle.widl_idl.specs.First.{Somewhere}
use Rattle.widl_idl.specs.PlainTrees.{PlainDefinition}
use Rattle.widl_idl.specs.Terms.{TypeTerm}
use Rattle.widl_overload.specs.declared.validity_rule.ValidityRule.{ValidityRule}
use Rattle.widl_overload.specs.declared.validity_rule.ValidityRule.TheVariants as rule
use Rattle.widl_overload.specs.rules.TypeRules.{HasClampAndEnforceRange, HasMisplacedAnnotation, HaveIndistinguishableMembers, HaveNullableAndDictionary, HaveSeveralNullable, IsAnnotatedMember, IsCopiedAttribute, IsNullableDictionary, IsOtherConstantType, IsUndefinedInside, IsWronglyNullable, OfUnion}
use Rattle.widl_overload.specs.rules.TypeUses.{TypeUse, meaning_of_use, type_uses_of}

abbrev pub type_rules : List ValidityRule
type_rules =
    rule.OtherConstantType ∷ rule.CopiedAttribute ∷ rule.UndefinedInside ∷ rule.WronglyNullable ∷ rule.SeveralNullableMembers ∷ rule.NullableBesideDictionary
    ∷ rule.AnnotatedUnionMember ∷ rule.NullableDictionary ∷ rule.MisplacedAnnotation ∷ rule.ClampAndEnforceRange ∷ rule.IndistinguishableUnionMembers ∷ []

-- a type where it is written, with what it means there
pub record UseTerm : Type 0 where
  pub written : TypeUse
  pub meaning : TypeTerm

abbrev pub with_meaning : List PlainDefinition → TypeUse → UseTerm
with_meaning definitions u = record { written = u; meaning = meaning_of_use definitions u }

-- over these definitions, and the interfaces of their merged list
module _ (ifaces : List IfaceTerm) (definitions : List PlainDefinition) where
  -- a type, with what it means, breaks the rule; none breaks one that isn't on types
  abbrev pub BreaksType : ValidityRule → UseTerm → Violation → Type 0
  BreaksType rule.OtherConstantType u = IsOtherConstantType u.meaning u.written
  BreaksType rule.CopiedAttribute u = IsCopiedAttribute u.meaning u.written
  BreaksType rule.UndefinedInside u = IsUndefinedInside u.written
  BreaksType rule.WronglyNullable u = IsWronglyNullable u.meaning u.written
  BreaksType rule.SeveralNullableMembers u = OfUnion HaveSeveralNullable u.meaning u.written
  BreaksType rule.NullableBesideDictionary u = OfUnion HaveNullableAndDictionary u.meaning u.written
  BreaksType rule.AnnotatedUnionMember u = IsAnnotatedMember u.meaning u.written
  BreaksType rule.NullableDictionary u = IsNullableDictionary u.meaning u.written
  BreaksType rule.MisplacedAnnotation u = HasMisplacedAnnotation u.meaning u.written
  BreaksType rule.ClampAndEnforceRange u = HasClampAndEnforceRange definitions u.written
  BreaksType rule.IndistinguishableUnionMembers u = OfUnion (HaveIndistinguishableMembers ifaces) u.meaning u.written
  BreaksType other u = λ s. ⊥

  -- a type breaks the rule where it is written
  abbrev pub BreaksUse : ValidityRule → TypeUse → Violation → Type 0
  BreaksUse which u = BreaksType which (with_meaning definitions u)

  -- one of these types breaks the rule
  abbrev pub SomeBreaks : List TypeUse → ValidityRule → Violation → Type 0
  SomeBreaks uses which s = Somewhere (BreaksUse which) uses s

  -- one of the types that are written in the definitions breaks the rule
  abbrev pub InOneType : ValidityRule → Violation → Type 0
  InOneType which s = SomeBreaks (type_uses_of definitions) which s
