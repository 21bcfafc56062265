-- The graph that tells which dictionaries stand in the types of the members of which, with two nodes for each: of `count` dictionaries the one of number n is node n as a type, and node count + n stands for its members with those that it inherits.
use Rattle.std.specs.Prelude.{◌≡◌, ℕ, ◌+◌, ◌<◌, Bool, true, List, [], ◌∷◌, ◌++◌, Contains, length, map, slice_get, Some}
use Rattle.std.specs.Option.{option_to_list}
use Rattle.widl_graph.specs.Order.{IsOrder, StandsBefore}
use Rattle.widl_graph.specs.Reaching.{ReachesItself, Step, TellsCyclic, successors_of}
use Rattle.widl_idl.specs.declared.violation.Violation.{Violation}
use Rattle.widl_idl.specs.DefinitionTerms.{DictTerm}
use Rattle.widl_idl.specs.MergingRules.{IsAt}
use Rattle.widl_inheritance.specs.declared.holding.Holdings.{Holdings}
use Rattle.widl_overload.specs.rules.Dictionaries.{dictionaries_of_members}

-- the nodes that follow that of a dictionary's members: the dictionaries in their types, and the members of its parent
abbrev pub member_links : ℕ → DictTerm → List ℕ
member_links count d = dictionaries_of_members d ++ map (λ p. count + p) (option_to_list d.parent)

-- a dictionary names none past the count
pub record IsWithin (count : ℕ) (d : DictTerm) : Type 0 where
  pub inside : (m : ℕ) → Contains (dictionaries_of_members d) m → m < count
  pub above : (p : ℕ) → d.parent ≡ Some p → p < count

-- the dictionaries name none past the last of them, as in each merged list
abbrev pub AreWithin : List DictTerm → Type 0
AreWithin dicts = (n : ℕ) (d : DictTerm) → slice_get dicts n ≡ Some d → IsWithin (length dicts) d

-- the graph has so many nodes of dictionaries as types, each followed by that of its members
pub record IsTypeGraph (count nodes : ℕ) (graph : List (List ℕ)) : Type 0 where
  pub size : length graph ≡ nodes
  pub types : (n : ℕ) → n < nodes → successors_of graph n ≡ (count + n) ∷ []

-- and those of the members of the first dictionaries
pub record IsHoldingGraph (dicts : List DictTerm) (upto : ℕ) (graph : List (List ℕ)) : Type 0 where
  pub size : length graph ≡ length dicts + upto
  pub types : (n : ℕ) → n < length dicts → successors_of graph n ≡ (length dicts + n) ∷ []
  pub members : (n : ℕ) (d : DictTerm) → n < upto → slice_get dicts n ≡ Some d → successors_of graph (length dicts + n) ≡ member_links (length dicts) d
  pub within : (n : ℕ) (d : DictTerm) → n < upto → slice_get dicts n ≡ Some d → IsWithin (length dicts) d

-- the graph of all dictionaries, with what a walk over it finds
pub record AreHoldings (dicts : List DictTerm) (holdings : Holdings) : Type 0 where
  pub graph : IsHoldingGraph dicts (length dicts) holdings.graph
  pub cyclic : TellsCyclic holdings.graph holdings.walk.cyclic.items
  pub order : IsOrder (length holdings.graph) holdings.walk.order.items
  pub before : (x y : ℕ) → (ReachesItself holdings.graph x → ⊥) → Step holdings.graph x y → StandsBefore holdings.walk.order.items y x

-- a fact holds of the number of a dictionary: at its name
pub record IsAtName (P : ℕ → Type 0) (dicts : List DictTerm) (s : Violation) : Type 0 where
  pub number : ℕ
  pub dictionary : DictTerm
  pub is : slice_get dicts number ≡ Some dictionary
  pub holds : P number
  pub at_name : IsAt dictionary.at s

-- the flag of the dictionary that stands after these is set: at its name
abbrev pub FlaggedAfter : List Bool → List DictTerm → DictTerm → Violation → Type 0
FlaggedAfter flags before d s = (slice_get flags (length before) ≡ Some true) × IsAt d.at s
