-- Which dictionaries inherit from which, which members they require, and which dictionaries stand in the types of their members.
-- Source: Web IDL, "Dictionaries" and "inherited dictionaries".
use Rattle.std.specs.Prelude.{◌≡◌, ◌⊎◌, ℕ, ◌+◌, true, List, [], ◌∷◌, ◌++◌, Contains, map, flat_map, slice_get, Some}
use Rattle.std.specs.List.{list_any}
use Rattle.std.specs.Option.{option_to_list}
use Rattle.widl_graph.specs.Reaching.{Reaches}
use Rattle.widl_idl.specs.declared.defs.Defs.{Defs}
use Rattle.widl_idl.specs.DefinitionTerms.{DictTerm, MemberTerm, dict_term}
use Rattle.widl_idl.specs.Terms.{TypeTerm, TypeTerms, DictionaryType, SequenceType, RecordType, PromiseType, NullableType, UnionType, no_types, more_types}

-- the dictionaries of a merged list
abbrev pub dictionary_terms : Defs → List DictTerm
dictionary_terms defs = map dict_term defs.dicts

-- for each dictionary that from which it inherits directly, if there is one
abbrev pub dictionary_parents : List DictTerm → List (List ℕ)
dictionary_parents dicts = map (λ (d : DictTerm). option_to_list d.parent) dicts

abbrev mutual
  -- the dictionaries that stand in a type, at any depth
  pub dictionaries_in : TypeTerm → List ℕ
  dictionaries_in (DictionaryType n) = n ∷ []
  dictionaries_in (SequenceType t) = dictionaries_in t
  dictionaries_in (RecordType key t) = dictionaries_in t
  dictionaries_in (PromiseType t) = dictionaries_in t
  dictionaries_in (NullableType t) = dictionaries_in t
  dictionaries_in (UnionType ts) = dictionaries_in_all ts
  dictionaries_in t = []

  pub dictionaries_in_all : TypeTerms → List ℕ
  dictionaries_in_all no_types = []
  dictionaries_in_all (more_types t ts) = dictionaries_in t ++ dictionaries_in_all ts

-- the dictionaries in the types of a dictionary's own members
abbrev pub dictionaries_of_members : DictTerm → List ℕ
dictionaries_of_members d = flat_map (λ (m : MemberTerm). dictionaries_in m.ty) d.members

module _ (dicts : List DictTerm) where
  -- a dictionary inherits from another one, directly or at a distance
  abbrev pub Inherits : ℕ → ℕ → Type 0
  Inherits n m = Reaches (dictionary_parents dicts) n m

  -- the second is the dictionary itself, or one from which it inherits
  abbrev pub IsOfLine : ℕ → ℕ → Type 0
  IsOfLine n m = (n ≡ m) ⊎ Inherits n m

  -- a member of a dictionary is required, inherited ones included
  pub record HasRequired (n : ℕ) : Type 0 where
    pub declaring : ℕ
    pub dictionary : DictTerm
    pub of_line : IsOfLine n declaring
    pub is : slice_get dicts declaring ≡ Some dictionary
    pub required : list_any (λ (m : MemberTerm). m.needed) dictionary.members ≡ true

  -- the second dictionary stands in the type of a member of the first, inherited members included
  pub record HoldsIn (n m : ℕ) : Type 0 where
    pub declaring : ℕ
    pub dictionary : DictTerm
    pub of_line : IsOfLine n declaring
    pub is : slice_get dicts declaring ≡ Some dictionary
    pub inside : Contains (dictionaries_of_members dictionary) m

  -- one step or more from a dictionary to one in the type of a member lead from n to m
  pub data LeadsTo : ℕ → ℕ → Type 0 where
    at_once : {n m : ℕ} → HoldsIn n m → LeadsTo n m
    further : {n k m : ℕ} → HoldsIn n k → LeadsTo k m → LeadsTo n m

  -- a chain of so many dictionaries begins with this one, each next one in the type of a member of the one before
  pub data BeginsChain : ℕ → ℕ → Type 0 where
    alone : {n : ℕ} → BeginsChain 1 n
    after : {count n m : ℕ} → HoldsIn n m → BeginsChain count m → BeginsChain (count + 1) n
