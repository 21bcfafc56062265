-- The rules of validity over a set of files and its merged list.
use Rattle.std.specs.Prelude.{ℕ, List, [], ◌∷◌, ◌++◌}
use Rattle.widl_idl.specs.declared.violation.Violation.{Violation}
use Rattle.widl_idl.specs.DefinitionTerms.{DefsTerm, defs_term}
use Rattle.widl_idl.specs.Meanings.{definitions_of}
use Rattle.widl_idl.specs.MergedSets.{MergedSet}
use Rattle.widl_idl.specs.PlainTrees.{PlainDefinition}
use Rattle.widl_overload.specs.declared.validity_rule.ValidityRule.{ValidityRule}
use Rattle.widl_overload.specs.declared.validity_rule.ValidityRule.TheVariants as rule
use Rattle.widl_overload.specs.rules.DefaultRules.{HasNoEmptyDefault, HasOtherDefault}
use Rattle.widl_overload.specs.rules.DictionaryRules.{BeginsLongChain, HasNameTwice, HoldsItself}
use Rattle.widl_overload.specs.rules.IterableRules.{HasSecondIterable, HidesIterationMethod}
use Rattle.widl_overload.specs.rules.OnDefinitions.{InOneDefinition, definition_rules}
use Rattle.widl_overload.specs.rules.OnMembers.{InOneMember, member_rules}
use Rattle.widl_overload.specs.rules.OnTypes.{InOneType, type_rules}
use Rattle.widl_overload.specs.rules.OverloadRules.{HasIndistinguishableOverloads, HasEarlyDifference}

-- the number of a rule in a refusal
abbrev pub validity_number : ValidityRule → ℕ
validity_number rule.RepeatedEnumerationValue = 12
validity_number rule.RepeatedArgumentName = 13
validity_number rule.ArgumentAfterEllipsis = 14
validity_number rule.RequiredAfterOptional = 15
validity_number rule.OtherDefault = 16
validity_number rule.OtherConstantType = 17
validity_number rule.OtherConstantValue = 18
validity_number rule.CopiedAttribute = 19
validity_number rule.RepeatedDictionaryMember = 20
validity_number rule.WronglyNullable = 21
validity_number rule.SeveralNullableMembers = 22
validity_number rule.NullableBesideDictionary = 23
validity_number rule.IndistinguishableUnionMembers = 24
validity_number rule.AnnotatedUnionMember = 25
validity_number rule.NoEmptyDefault = 26
validity_number rule.NullableDictionary = 27
validity_number rule.MisplacedAnnotation = 28
validity_number rule.ClampAndEnforceRange = 29
validity_number rule.AnnotationOfNoType = 30
validity_number rule.SecondIterable = 31
validity_number rule.HiddenIterationMethod = 32
validity_number rule.CallbackInterfaceOperations = 33
validity_number rule.Stringifiers = 34
validity_number rule.IndistinguishableOverloads = 35
validity_number rule.EarlyDifference = 36
validity_number rule.WritablePromise = 37
validity_number rule.PromisesAndOthers = 38
validity_number rule.NamelessOperation = 39
validity_number rule.UndefinedInside = 40
validity_number rule.DictionaryHoldsItself = 41
validity_number rule.RepeatedMember = 42
validity_number rule.KeptName = 43
validity_number rule.TooManyOverloads = 44
validity_number rule.TooManyArguments = 45
validity_number rule.MisformedCallbackOperation = 46
validity_number rule.LongDictionaryChain = 47

-- the rules on default values, on dictionaries and what they inherit, on iterables and on overloads
abbrev pub default_rules : List ValidityRule
default_rules = rule.OtherDefault ∷ rule.NoEmptyDefault ∷ []

abbrev pub dictionary_rules : List ValidityRule
dictionary_rules = rule.RepeatedDictionaryMember ∷ rule.DictionaryHoldsItself ∷ rule.LongDictionaryChain ∷ []

abbrev pub iterable_rules : List ValidityRule
iterable_rules = rule.SecondIterable ∷ rule.HiddenIterationMethod ∷ []

abbrev pub overload_rules : List ValidityRule
overload_rules = rule.IndistinguishableOverloads ∷ rule.EarlyDifference ∷ []

-- the rules of validity
abbrev pub validity_rules : List ValidityRule
validity_rules = definition_rules ++ type_rules ++ member_rules ++ default_rules ++ dictionary_rules ++ iterable_rules ++ overload_rules

-- over these definitions and their merged list
module _ (list : DefsTerm) (definitions : List PlainDefinition) where
  -- the rule is broken at the violation
  abbrev pub BreaksRule : ValidityRule → Violation → Type 0
  BreaksRule rule.RepeatedEnumerationValue s = InOneDefinition definitions rule.RepeatedEnumerationValue s
  BreaksRule rule.AnnotationOfNoType s = InOneDefinition definitions rule.AnnotationOfNoType s
  BreaksRule rule.CallbackInterfaceOperations s = InOneDefinition definitions rule.CallbackInterfaceOperations s
  BreaksRule rule.NamelessOperation s = InOneDefinition definitions rule.NamelessOperation s
  BreaksRule rule.MisformedCallbackOperation s = InOneDefinition definitions rule.MisformedCallbackOperation s
  BreaksRule rule.RepeatedArgumentName s = InOneDefinition definitions rule.RepeatedArgumentName s
  BreaksRule rule.ArgumentAfterEllipsis s = InOneDefinition definitions rule.ArgumentAfterEllipsis s
  BreaksRule rule.RequiredAfterOptional s = InOneDefinition definitions rule.RequiredAfterOptional s
  BreaksRule rule.TooManyArguments s = InOneDefinition definitions rule.TooManyArguments s
  BreaksRule rule.OtherConstantType s = InOneType list.ifaces definitions rule.OtherConstantType s
  BreaksRule rule.CopiedAttribute s = InOneType list.ifaces definitions rule.CopiedAttribute s
  BreaksRule rule.UndefinedInside s = InOneType list.ifaces definitions rule.UndefinedInside s
  BreaksRule rule.WronglyNullable s = InOneType list.ifaces definitions rule.WronglyNullable s
  BreaksRule rule.SeveralNullableMembers s = InOneType list.ifaces definitions rule.SeveralNullableMembers s
  BreaksRule rule.NullableBesideDictionary s = InOneType list.ifaces definitions rule.NullableBesideDictionary s
  BreaksRule rule.AnnotatedUnionMember s = InOneType list.ifaces definitions rule.AnnotatedUnionMember s
  BreaksRule rule.NullableDictionary s = InOneType list.ifaces definitions rule.NullableDictionary s
  BreaksRule rule.MisplacedAnnotation s = InOneType list.ifaces definitions rule.MisplacedAnnotation s
  BreaksRule rule.ClampAndEnforceRange s = InOneType list.ifaces definitions rule.ClampAndEnforceRange s
  BreaksRule rule.IndistinguishableUnionMembers s = InOneType list.ifaces definitions rule.IndistinguishableUnionMembers s
  BreaksRule rule.OtherConstantValue s = InOneMember definitions rule.OtherConstantValue s
  BreaksRule rule.WritablePromise s = InOneMember definitions rule.WritablePromise s
  BreaksRule rule.Stringifiers s = InOneMember definitions rule.Stringifiers s
  BreaksRule rule.PromisesAndOthers s = InOneMember definitions rule.PromisesAndOthers s
  BreaksRule rule.RepeatedMember s = InOneMember definitions rule.RepeatedMember s
  BreaksRule rule.KeptName s = InOneMember definitions rule.KeptName s
  BreaksRule rule.TooManyOverloads s = InOneMember definitions rule.TooManyOverloads s
  BreaksRule rule.OtherDefault s = HasOtherDefault list definitions s
  BreaksRule rule.NoEmptyDefault s = HasNoEmptyDefault list definitions s
  BreaksRule rule.RepeatedDictionaryMember s = HasNameTwice list.dicts s
  BreaksRule rule.DictionaryHoldsItself s = HoldsItself list.dicts s
  BreaksRule rule.LongDictionaryChain s = BeginsLongChain list.dicts s
  BreaksRule rule.SecondIterable s = HasSecondIterable definitions s
  BreaksRule rule.HiddenIterationMethod s = HidesIterationMethod definitions s
  BreaksRule rule.IndistinguishableOverloads s = HasIndistinguishableOverloads list s
  BreaksRule rule.EarlyDifference s = HasEarlyDifference list s

-- the rule is broken at the violation by a set of files with its merged list
abbrev pub BreaksValidity : MergedSet → ValidityRule → Violation → Type 0
BreaksValidity set rule s = BreaksRule (defs_term set.defs) (definitions_of set.fragments) rule s

-- no rule of validity is broken anywhere
abbrev pub IsValid : MergedSet → Type 0
IsValid set = (rule : ValidityRule) (s : Violation) → BreaksValidity set rule s → ⊥
