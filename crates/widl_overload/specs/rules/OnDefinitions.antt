-- The rules of validity on definitions and on the lists of arguments in them, asked of one definition.
use Rattle.std.specs.Prelude.{List, [], ◌∷◌}
use Rattle.widl_idl.specs.declared.violation.Violation.{Violation}
use Rattle.widl_idl.specs.First.{Somewhere}
use Rattle.widl_idl.specs.PlainTrees.{PlainDefinition}
use Rattle.widl_overload.specs.declared.validity_rule.ValidityRule.{ValidityRule}
use Rattle.widl_overload.specs.declared.validity_rule.ValidityRule.TheVariants as rule
use Rattle.widl_overload.specs.rules.ArgumentRules.{FollowsEllipsis, FollowsOptional, InOneList, IsArgumentPastLimit, RepeatsArgument}
use Rattle.widl_overload.specs.rules.DefinitionRules.{AnnotatesNoType, HasMisformed, HasNameless, HasOtherThanOne, HasValueTwice}

abbrev pub definition_rules : List ValidityRule
definition_rules =
    rule.RepeatedEnumerationValue ∷ rule.AnnotationOfNoType ∷ rule.CallbackInterfaceOperations ∷ rule.NamelessOperation ∷ rule.MisformedCallbackOperation
    ∷ rule.RepeatedArgumentName ∷ rule.ArgumentAfterEllipsis ∷ rule.RequiredAfterOptional ∷ rule.TooManyArguments ∷ []

-- a definition breaks the rule; none breaks one that isn't on definitions
abbrev pub BreaksDefinition : ValidityRule → PlainDefinition → Violation → Type 0
BreaksDefinition rule.RepeatedEnumerationValue d = HasValueTwice d.kind
BreaksDefinition rule.AnnotationOfNoType d = AnnotatesNoType d
BreaksDefinition rule.CallbackInterfaceOperations d = HasOtherThanOne d.kind
BreaksDefinition rule.NamelessOperation d = HasNameless d.kind
BreaksDefinition rule.MisformedCallbackOperation d = HasMisformed d.kind
BreaksDefinition rule.RepeatedArgumentName d = InOneList RepeatsArgument d
BreaksDefinition rule.ArgumentAfterEllipsis d = InOneList FollowsEllipsis d
BreaksDefinition rule.RequiredAfterOptional d = InOneList FollowsOptional d
BreaksDefinition rule.TooManyArguments d = InOneList IsArgumentPastLimit d
BreaksDefinition other d = λ s. ⊥

-- one of the definitions breaks the rule
abbrev pub InOneDefinition : List PlainDefinition → ValidityRule → Violation → Type 0
InOneDefinition definitions which s = Somewhere (BreaksDefinition which) definitions s
