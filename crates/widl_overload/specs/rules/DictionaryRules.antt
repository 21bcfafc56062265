-- The rules of validity on dictionaries with all that they inherit, each as one predicate over the dictionaries of the merged list.
-- Source: Web IDL, "Dictionaries".
use Rattle.std.specs.Prelude.{◌≡◌, ◌⊎◌, ℕ, ◌+◌, Bool, true, List, slice_get, Some, bytes_eq}
use Rattle.std.specs.List.{list_any}
use Rattle.widl_text.specs.Limits.{most_chained_dictionaries}
use Rattle.widl_idl.specs.declared.violation.Violation.{Violation}
use Rattle.widl_idl.specs.DefinitionTerms.{DictTerm, MemberTerm}
use Rattle.widl_idl.specs.First.{AtOne}
use Rattle.widl_idl.specs.MergingRules.{IsAt}
use Rattle.widl_overload.specs.rules.Dictionaries.{BeginsChain, Inherits, LeadsTo}

-- whether one of these members has the name
abbrev pub has_member : List ℕ → List MemberTerm → Bool
has_member name members = list_any (λ (m : MemberTerm). bytes_eq m.name name) members

module _ (dicts : List DictTerm) where
  -- a dictionary inherits a member of the name
  pub record InheritsMember (n : ℕ) (name : List ℕ) : Type 0 where
    pub declaring : ℕ
    pub dictionary : DictTerm
    pub inherits : Inherits dicts n declaring
    pub is : slice_get dicts declaring ≡ Some dictionary
    pub has : has_member name dictionary.members ≡ true

  -- an earlier member of the dictionary has the name, or one that it inherits: at the name
  abbrev pub RepeatsName : ℕ → List MemberTerm → MemberTerm → Violation → Type 0
  RepeatsName n before m s = ((has_member m.name before ≡ true) ⊎ InheritsMember n m.name) × IsAt m.at s

  -- rule 20: a dictionary has a member name twice, inherited ones included
  pub record HasNameTwice (s : Violation) : Type 0 where
    pub number : ℕ
    pub dictionary : DictTerm
    pub is : slice_get dicts number ≡ Some dictionary
    pub repeats : AtOne (RepeatsName number) dictionary.members s

  -- rule 41: a dictionary stands in the type of a member of its own, at any depth and through any number of dictionaries: at its name
  pub record HoldsItself (s : Violation) : Type 0 where
    pub number : ℕ
    pub dictionary : DictTerm
    pub is : slice_get dicts number ≡ Some dictionary
    pub back : LeadsTo dicts number number
    pub at_name : IsAt dictionary.at s

  -- rule 47: no dictionary holds itself, and a chain of more dictionaries than may be begins with this one: at its name
  pub record BeginsLongChain (s : Violation) : Type 0 where
    pub number : ℕ
    pub dictionary : DictTerm
    pub is : slice_get dicts number ≡ Some dictionary
    pub finite : (other : Violation) → HoldsItself other → ⊥
    pub chain : BeginsChain dicts (most_chained_dictionaries + 1) number
    pub at_name : IsAt dictionary.at s
