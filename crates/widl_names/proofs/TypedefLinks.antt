-- What typedefs are named, and the graph of those that their types name.
use Rattle.std.proofs.Common.{◌≡◌, ℕ, ◌+◌, ◌<◌, ◌++◌, List, [], ◌∷◌, length, Option, None, Some, length-append, arith, sym, ap, subst, ◌∙◌}
use Rattle.std.specs.Prelude.{IfNone, IfSome}
use Rattle.std.proofs.lemmas.List.{length-map}
use Rattle.widl_graph.specs.Lists.{with_successor}
use Rattle.widl_graph.specs.Reaching.{AreBelow}
use Rattle.widl_graph.proofs.Building.{below_node, below_successor, length-with_successor}
use Rattle.widl_idl.specs.Meanings.{meaning}
use Rattle.widl_idl.specs.declared.tree.definitions.Definition.{Definition}
use Rattle.widl_idl.specs.PlainTrees.{PlainDefinition, definition_of, plain_definitions}
use Rattle.widl_idl.specs.PlainTypes.{PlainForm, PlainNamed}
use Rattle.widl_names.specs.TypedefLinks.{HasNodes}
use Rattle.widl_names.specs.TypeUses.{meaning_of_form, typedef_at, typedef_of_form}
use Rattle.widl_names.proofs.NameMeanings.{meaning_below}
use Rattle.widl_names.proofs.TypeUses.{typedef_under}

-- a name means one of the definitions
number_below : (definitions : List Definition) (text : List ℕ) (found : Option ℕ) → found ≡ meaning (plain_definitions definitions) text → IfSome found (λ n. n < length definitions)
number_below definitions text None e = tt
number_below definitions text (Some n) e = let l = meaning_below (plain_definitions definitions) text n (sym e) in let size = length-map definitions definition_of in omega (arith, l, size)

-- a form names one of the definitions
pub meaning_within : (definitions : List Definition) (form : PlainForm) (found : Option ℕ) → found ≡ meaning_of_form (plain_definitions definitions) form → IfSome found (λ n. n < length definitions)
meaning_within definitions (PlainNamed name) found e = number_below definitions name.text found e
meaning_within definitions form None e = tt
meaning_within definitions form (Some n) e = absurd (cc)

-- the definition of the number that a form names is the typedef that it names, if it is one
pub named_under : (definitions : List PlainDefinition) (form : PlainForm) (found : Option ℕ) → found ≡ meaning_of_form definitions form → IfSome found (λ n. typedef_of_form definitions form ≡ typedef_at definitions n)
named_under definitions form None e = tt
named_under definitions form (Some n) e = typedef_under definitions form (Some n) e

pub none_under : (definitions : List PlainDefinition) (form : PlainForm) (found : Option ℕ) → found ≡ meaning_of_form definitions form → IfNone found (typedef_of_form definitions form ≡ None)
none_under definitions form None e = typedef_under definitions form None e
none_under definitions form (Some n) e = tt

pub one_node : (old new : List (List ℕ)) (count nodes : ℕ) → HasNodes old count nodes → new ≡ old ++ [] ∷ [] → HasNodes new count (nodes + 1)
one_node old new count nodes so is = record {
  below = subst (λ g. AreBelow g count) (sym is) (below_node old count so.below);
  size = ap length is ∙ length-append old ([] ∷ []) ∙ ap (λ n. n + 1) so.size;
}

pub one_successor : (old new : List (List ℕ)) (count nodes successor : ℕ) → HasNodes old count nodes → successor < count → new ≡ with_successor old successor → HasNodes new count nodes
one_successor old new count nodes successor so within is = record {
  below = subst (λ g. AreBelow g count) (sym is) (below_successor old count successor so.below within);
  size = ap length is ∙ length-with_successor old successor ∙ so.size;
}
