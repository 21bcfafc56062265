-- The rules of merging, each as one predicate.
-- Source: Web IDL, "Names", "Partial definitions", "includes statement", "inherits" and "Typedefs".
use Rattle.std.specs.Prelude.{◌≡◌, ◌≢◌, ℕ, ◌+◌, ◌<◌, ◌≤◌, Bool, true, false, ◌&&◌, ◌||◌, List, [], ◌∷◌, length, map, sum_by, Option, None, Some, if◌then◌else◌, slice_get, is_some, codes, bytes_eq, nat_eq, ◌++◌}
use Rattle.std.specs.List.{list_any}
use Rattle.widl_text.specs.Limits.{most_members, most_type_levels}
use Rattle.widl_text.specs.declared.place.Place.{Place}
use Rattle.widl_idl.specs.declared.kind.Kind.{Kind}
use Rattle.widl_idl.specs.declared.kind.Kind.TheVariants as kinds
use Rattle.widl_idl.specs.declared.merging_rule.MergingRule.{MergingRule}
use Rattle.widl_idl.specs.declared.merging_rule.MergingRule.TheVariants as rule
use Rattle.widl_idl.specs.declared.violation.Violation.{Violation}
use Rattle.widl_idl.specs.declared.tree.operations.OperationKind.{OperationKind}
use Rattle.widl_idl.specs.declared.tree.operations.OperationKind.TheVariants as operation_kind
use Rattle.widl_idl.specs.PlainTypes.{PlainName, PlainNamed, plain_type}
use Rattle.widl_idl.specs.PlainTrees.{PlainDefinition, PlainKind, InterfaceDefinition, NamespaceDefinition, DictionaryDefinition, IncludesStatement, PlainMember, PlainMemberKind, OperationMember}
use Rattle.widl_idl.specs.First.{AtOne, Somewhere, violation_at}
use Rattle.widl_graph.specs.Reaching.{ReachesItself}
use Rattle.widl_idl.specs.Meanings.{is_text_of, kind_of, same_kind, is_partial, main_name, partial_name, declared_name, meaning, meant_kind}
use Rattle.widl_idl.specs.Nesting.{depth_of, typedef_links}
use Rattle.widl_idl.specs.Parts.{own_parts, members_in, is_mixin, parts_of}
use Rattle.widl_idl.specs.Nodes.{Node, NameNode, TypeNode, nodes_of}

-- the number of a rule in a refusal
abbrev pub merging_number : MergingRule → ℕ
merging_number rule.SecondDefinition = 1
merging_number rule.ReservedName = 2
merging_number rule.PartialWithoutMain = 3
merging_number rule.IncludesIntoNoInterface = 4
merging_number rule.IncludesNoMixin = 5
merging_number rule.ParentOfOtherKind = 6
merging_number rule.InheritsFromItself = 7
merging_number rule.UnknownType = 8
merging_number rule.TypedefReachesItself = 9
merging_number rule.OperationInTwoParts = 10
merging_number rule.NestsTooDeep = 11
merging_number rule.TooManyMembers = 48

-- the violation is this place, and speaks of no other
abbrev pub IsAt : Place → Violation → Type 0
IsAt place s = violation_at place ≡ s

-- the fact holds of the name, if there is one, and the violation is its place
abbrev pub AtName : Option PlainName → (PlainName → Type 0) → Violation → Type 0
AtName None P s = ⊥
AtName (Some name) P s = P name × IsAt name.at s

-- rule 1: a name has two main definitions: at the second name
abbrev pub IsSecondDefinition : List PlainDefinition → PlainDefinition → Violation → Type 0
IsSecondDefinition before d s = AtName (main_name d.kind) (λ name. is_some (meaning before name.text) ≡ true) s

-- whether a text begins with `_`
abbrev pub begins_with_underscore : List ℕ → Bool
begins_with_underscore [] = false
begins_with_underscore (c ∷ more) = nat_eq c 0x5F

-- a name that no definition, attribute, operation, constant or dictionary member may have
abbrev pub is_reserved : List ℕ → Bool
is_reserved text = bytes_eq text (codes "constructor") || bytes_eq text (codes "toString") || begins_with_underscore text

-- rule 2: a node with such a name: at the name
abbrev pub IsReservedName : Node → Violation → Type 0
IsReservedName (NameNode name) s = (is_reserved name.text ≡ true) × IsAt name.at s
IsReservedName node s = ⊥

-- rule 3: a partial definition, where its name means no definition of its kind: at its name
abbrev pub IsWithoutMain : List PlainDefinition → PlainDefinition → Violation → Type 0
IsWithoutMain definitions d s = AtName (partial_name d.kind) (λ name. meant_kind definitions name.text ≢ Some (kind_of d.kind)) s

-- the sides of an includes statement
abbrev pub included_into : PlainKind → Option PlainName
included_into (IncludesStatement i) = Some i.interface
included_into kind = None

abbrev pub included : PlainKind → Option PlainName
included (IncludesStatement i) = Some i.mixin
included kind = None

-- rule 4: the left side of an includes statement means no interface: at that side
abbrev pub IncludesIntoOther : List PlainDefinition → PlainDefinition → Violation → Type 0
IncludesIntoOther definitions d s = AtName (included_into d.kind) (λ name. meant_kind definitions name.text ≢ Some kinds.Interface) s

-- rule 5: its right side means no mixin: at that side
abbrev pub IncludesOther : List PlainDefinition → PlainDefinition → Violation → Type 0
IncludesOther definitions d s = AtName (included d.kind) (λ name. meant_kind definitions name.text ≢ Some kinds.Mixin) s

-- the name after the colon
abbrev pub parent_of : PlainKind → Option PlainName
parent_of (InterfaceDefinition i) = i.parent
parent_of (DictionaryDefinition d) = d.parent
parent_of kind = None

-- rule 6: the parent means no definition of the same kind: at the parent
abbrev pub HasOtherParent : List PlainDefinition → PlainDefinition → Violation → Type 0
HasOtherParent definitions d s = AtName (parent_of d.kind) (λ name. meant_kind definitions name.text ≢ Some (kind_of d.kind)) s

-- the number of the definition of the same kind that a parent means
abbrev pub number_of_kind : Kind → Option Kind → Option ℕ → List ℕ
number_of_kind kind (Some other) (Some number) = if same_kind kind other then number ∷ [] else []
number_of_kind kind other number = []

abbrev pub parent_numbers : List PlainDefinition → Kind → Option PlainName → List ℕ
parent_numbers definitions kind None = []
parent_numbers definitions kind (Some name) = number_of_kind kind (meant_kind definitions name.text) (meaning definitions name.text)

-- for each definition its parent, if it has one of the same kind
abbrev pub parent_links : List PlainDefinition → List (List ℕ)
parent_links definitions = map (λ d. parent_numbers definitions (kind_of d.kind) (parent_of d.kind)) definitions

-- rules 7 (by parents) and 9 (by typedefs): by these links one of the definitions comes back to itself: at its name
pub record ComesBack (links : List (List ℕ)) (definitions : List PlainDefinition) (s : Violation) : Type 0 where
  pub number : ℕ
  pub definition : PlainDefinition
  pub is : slice_get definitions number ≡ Some definition
  pub back : ReachesItself links number
  pub at_name : AtName (declared_name definition.kind) (λ name. Unit {0}) s

-- whether a name in a type may stand there: where it means a definition that is neither a mixin nor a namespace
abbrev pub is_type_kind : Option Kind → Bool
is_type_kind None = false
is_type_kind (Some kinds.Mixin) = false
is_type_kind (Some kinds.Namespace) = false
is_type_kind (Some kind) = true

-- rule 8: a name in a type that is the name of no type: at that name
abbrev pub IsUnknownType : List PlainDefinition → Node → Violation → Type 0
IsUnknownType definitions (TypeNode (plain_type place (PlainNamed name) question)) s = (is_type_kind (meant_kind definitions name.text) ≡ false) × IsAt name.at s
IsUnknownType definitions node s = ⊥

-- rule 11: a type nests deeper than the limit: at its first token
abbrev pub NestsDeep : List PlainDefinition → Node → Violation → Type 0
NestsDeep definitions (TypeNode (plain_type place form question)) s = ((depth : ℕ) × (depth_of definitions (plain_type place form question) ≡ Some depth) × (most_type_levels < depth)) × IsAt place s
NestsDeep definitions node s = ⊥

abbrev pub is_static : OperationKind → Bool
is_static operation_kind.Static = true
is_static kind = false

-- the same word or none: both are true, or both false
abbrev pub both_or_none : Bool → Bool → Bool
both_or_none true b = b
both_or_none false true = false
both_or_none false false = true

-- whether a member is an operation of this name, static or not
abbrev pub is_operation_of : List ℕ → Bool → PlainMemberKind → Bool
is_operation_of text static (OperationMember o) = is_text_of text o.name && both_or_none static (is_static o.kind)
is_operation_of text static kind = false

-- whether a part has such an operation
abbrev pub has_operation : List ℕ → Bool → PlainKind → Bool
has_operation text static part = list_any (λ (m : PlainMember). is_operation_of text static m.kind) (members_in part)

-- an operation that an earlier part has too: at its name
abbrev pub IsInEarlierPart : List PlainKind → PlainMemberKind → Violation → Type 0
IsInEarlierPart before (OperationMember o) s = AtName o.name (λ name. list_any (has_operation name.text (is_static o.kind)) before ≡ true) s
IsInEarlierPart before kind s = ⊥

-- of the parts one has an operation that an earlier one has
abbrev pub RepeatsOperation : List PlainKind → PlainKind → Violation → Type 0
RepeatsOperation before part s = Somewhere (λ (m : PlainMember). IsInEarlierPart before m.kind) (members_in part) s

-- rule 10: the definition that a name means has operations of one name in two of its parts
pub record HasInTwoParts (definitions : List PlainDefinition) (s : Violation) : Type 0 where
  pub text : List ℕ
  pub kind : Kind
  pub means : meant_kind definitions text ≡ Some kind
  pub repeats : AtOne RepeatsOperation (parts_of definitions kind text) s

-- a part of the sum that is bounded: a definition or an includes statement, by its place and what it adds
pub record Portion : Type 0 where
  pub at : Place
  pub size : ℕ

abbrev pub member_total : List PlainKind → ℕ
member_total parts = sum_by (λ part. length (members_in part)) parts

abbrev pub is_number : ℕ → Option ℕ → Bool
is_number n None = false
is_number n (Some m) = nat_eq n m

abbrev pub is_kind : Kind → Option Kind → Bool
is_kind kind None = false
is_kind kind (Some other) = same_kind kind other

-- whether the definition of this number is the one that its name means, or a partial one of it
abbrev pub takes_part : List PlainDefinition → ℕ → PlainKind → List ℕ → Bool
takes_part definitions number kind text = if is_partial kind then is_kind (kind_of kind) (meant_kind definitions text) else is_number number (meaning definitions text)

-- a part of an interface or a namespace adds 1 and the number of its members
abbrev pub part_portion : List PlainDefinition → ℕ → PlainKind → PlainName → List PlainMember → List Portion
part_portion definitions number kind name members =
    if takes_part definitions number kind name.text then record { at = name.at; size = 1 + length members } ∷ [] else []

-- an includes statement between an interface and a mixin adds 1 and the number of the mixin's members
abbrev pub includes_portion : List PlainDefinition → PlainName → PlainName → List Portion
includes_portion definitions interface mixin =
    if is_kind kinds.Interface (meant_kind definitions interface.text) && is_kind kinds.Mixin (meant_kind definitions mixin.text)
    then record { at = interface.at; size = 1 + member_total (own_parts is_mixin definitions mixin.text) } ∷ [] else []

abbrev pub portion_of : List PlainDefinition → ℕ → PlainKind → List Portion
portion_of definitions number (InterfaceDefinition i) = part_portion definitions number (InterfaceDefinition i) i.name i.members
portion_of definitions number (NamespaceDefinition n) = part_portion definitions number (NamespaceDefinition n) n.name n.members
portion_of definitions number (IncludesStatement i) = includes_portion definitions i.interface i.mixin
portion_of definitions number kind = []

-- the portions of these definitions in file order, where they are counted from `number` on
abbrev pub portions_from : List PlainDefinition → ℕ → List PlainDefinition → List Portion
portions_from definitions number [] = []
portions_from definitions number (d ∷ more) = portion_of definitions number d.kind ++ portions_from definitions (number + 1) more

-- rule 48: the sum passes the limit with this portion
abbrev pub PassesLimit : List Portion → Portion → Violation → Type 0
PassesLimit before portion s =
    ((sum_by (λ (p : Portion). p.size) before ≤ most_members) × (most_members < sum_by (λ (p : Portion). p.size) before + portion.size)) × IsAt portion.at s

-- the rule is broken at the violation
abbrev pub BreaksMerging : List PlainDefinition → MergingRule → Violation → Type 0
BreaksMerging definitions rule.SecondDefinition s = AtOne IsSecondDefinition definitions s
BreaksMerging definitions rule.ReservedName s = Somewhere IsReservedName (nodes_of definitions) s
BreaksMerging definitions rule.PartialWithoutMain s = Somewhere (IsWithoutMain definitions) definitions s
BreaksMerging definitions rule.IncludesIntoNoInterface s = Somewhere (IncludesIntoOther definitions) definitions s
BreaksMerging definitions rule.IncludesNoMixin s = Somewhere (IncludesOther definitions) definitions s
BreaksMerging definitions rule.ParentOfOtherKind s = Somewhere (HasOtherParent definitions) definitions s
BreaksMerging definitions rule.InheritsFromItself s = ComesBack (parent_links definitions) definitions s
BreaksMerging definitions rule.UnknownType s = Somewhere (IsUnknownType definitions) (nodes_of definitions) s
BreaksMerging definitions rule.TypedefReachesItself s = ComesBack (typedef_links definitions) definitions s
BreaksMerging definitions rule.OperationInTwoParts s = HasInTwoParts definitions s
BreaksMerging definitions rule.NestsTooDeep s = Somewhere (NestsDeep definitions) (nodes_of definitions) s
BreaksMerging definitions rule.TooManyMembers s = AtOne PassesLimit (portions_from definitions 0 definitions) s

-- the rules of merging
abbrev pub merging_rules : List MergingRule
merging_rules =
    rule.SecondDefinition ∷ rule.ReservedName ∷ rule.PartialWithoutMain ∷ rule.IncludesIntoNoInterface ∷ rule.IncludesNoMixin ∷ rule.ParentOfOtherKind ∷ rule.UnknownType
    ∷ rule.InheritsFromItself ∷ rule.TypedefReachesItself ∷ rule.NestsTooDeep ∷ rule.OperationInTwoParts ∷ rule.TooManyMembers ∷ []
