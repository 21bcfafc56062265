-- The rules of validity on iterables, each as one predicate over the interfaces with their partials and mixins and with all that they inherit.
-- Source: Web IDL, "Iterable declarations" and "inherited interfaces".
use Rattle.std.specs.Prelude.{◌≡◌, ◌⊎◌, ℕ, Bool, true, false, ◌||◌, List, Option, None, Some, bytes_eq, codes}
use Rattle.std.specs.List.{list_any}
use Rattle.widl_graph.specs.Reaching.{Reaches}
use Rattle.widl_idl.specs.declared.kind.Kind.TheVariants as kinds
use Rattle.widl_idl.specs.declared.violation.Violation.{Violation}
use Rattle.widl_idl.specs.First.{AtOne, Somewhere}
use Rattle.widl_idl.specs.Meanings.{meaning, meant_kind}
use Rattle.widl_idl.specs.MergingRules.{IsAt, parent_links}
use Rattle.widl_idl.specs.Parts.{merged_members}
use Rattle.widl_idl.specs.PlainTypes.{PlainName}
use Rattle.widl_idl.specs.PlainTrees.{PlainMember, PlainMemberKind, IterableMember, PlainDefinition}
use Rattle.widl_overload.specs.rules.MemberRules.{identifier}

abbrev pub is_iterable : PlainMemberKind → Bool
is_iterable (IterableMember i) = true
is_iterable kind = false

abbrev pub has_iterable : List PlainMember → Bool
has_iterable members = list_any (λ (m : PlainMember). is_iterable m.kind) members

-- at the word `iterable`
abbrev pub AtIterable : PlainMemberKind → Violation → Type 0
AtIterable (IterableMember i) s = IsAt i.at s
AtIterable kind s = ⊥

-- the names of the methods that an iterable brings
abbrev pub is_iteration_method : List ℕ → Bool
is_iteration_method text = bytes_eq text (codes "entries") || bytes_eq text (codes "forEach") || bytes_eq text (codes "keys") || bytes_eq text (codes "values")

abbrev pub is_iteration_name : Option PlainName → Bool
is_iteration_name None = false
is_iteration_name (Some name) = is_iteration_method name.text

-- whether one of the members, static or not, has the name of such a method
abbrev pub has_iteration_name : List PlainMember → Bool
has_iteration_name members = list_any (λ (m : PlainMember). is_iteration_name (identifier m.kind)) members

module _ (definitions : List PlainDefinition) where
  -- a text is the name of the interface with this number
  pub record IsInterface (text : List ℕ) (number : ℕ) : Type 0 where
    pub means : meaning definitions text ≡ Some number
    pub kind_is : meant_kind definitions text ≡ Some kinds.Interface

  -- an interface inherits from another one, directly or at a distance: both by their names
  pub record InheritsFrom (text other : List ℕ) : Type 0 where
    pub number : ℕ
    pub ancestor : ℕ
    pub is : IsInterface text number
    pub other_is : IsInterface other ancestor
    pub inherits : Reaches (parent_links definitions) number ancestor

  -- the members of the interface of a name, with those of its partials and its mixins
  abbrev pub members_of_interface : List ℕ → List PlainMember
  members_of_interface text = merged_members definitions kinds.Interface text

  -- an interface inherits an iterable
  pub record InheritsIterable (text : List ℕ) : Type 0 where
    pub other : List ℕ
    pub inherits : InheritsFrom text other
    pub has : has_iterable (members_of_interface other) ≡ true

  -- an iterable of an interface that has an earlier one, or inherits one: at its word
  abbrev pub IsSecondIterable : List ℕ → List PlainMember → PlainMember → Violation → Type 0
  IsSecondIterable text before m s = ((has_iterable before ≡ true) ⊎ InheritsIterable text) × AtIterable m.kind s

  -- rule 31: an iterable whose interface has an earlier one or inherits one: at its word
  pub record HasSecondIterable (s : Violation) : Type 0 where
    pub text : List ℕ
    pub number : ℕ
    pub is : IsInterface text number
    pub second : AtOne (IsSecondIterable text) (members_of_interface text) s

  -- an interface has, or inherits, a member with the name of a method that an iterable brings
  pub record HasIterationName (text : List ℕ) : Type 0 where
    pub other : List ℕ
    pub of_line : (text ≡ other) ⊎ InheritsFrom text other
    pub has : has_iteration_name (members_of_interface other) ≡ true

  -- rule 32: an iterable of such an interface: at its word
  pub record HidesIterationMethod (s : Violation) : Type 0 where
    pub text : List ℕ
    pub number : ℕ
    pub is : IsInterface text number
    pub named : HasIterationName text
    pub iterable : Somewhere (λ (m : PlainMember). AtIterable m.kind) (members_of_interface text) s
