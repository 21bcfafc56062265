-- Interfaces and dictionaries that inherit from one another without a circle, as those of each merged list do.
-- Source: Web IDL, "inherited interfaces", "Dictionaries" and "inherited dictionaries".
use Rattle.std.specs.Prelude.{ℕ, List, map}
use Rattle.std.specs.Option.{option_to_list}
use Rattle.widl_graph.specs.Reaching.{IsForest}
use Rattle.widl_idl.specs.DefinitionTerms.{DictTerm, IfaceTerm}
use Rattle.widl_overload.specs.rules.Dictionaries.{dictionary_parents}

-- for each interface that from which it inherits directly, if there is one
abbrev pub interface_parents : List IfaceTerm → List (List ℕ)
interface_parents ifaces = map (λ (i : IfaceTerm). option_to_list i.parent) ifaces

-- each dictionary inherits from one of these or from none, and none inherits from itself
abbrev pub IsHierarchy : List DictTerm → Type 0
IsHierarchy dicts = IsForest (dictionary_parents dicts)
