-- The marks of the rows, by a test that the checker computes.
use Rattle.std.proofs.Common.{◌≡◌, Bool, true, false, List, refl, subst}
use Rattle.std.specs.Prelude.{not, Contains}
use Rattle.widl_predictive.specs.declared.grammar.Symbol.{Symbol}
use Rattle.widl_predictive.specs.declared.grammar.Symbol.TheVariants.{Token, Part, Inner}
use Rattle.widl_predictive.proofs.Check.{each, each_at, each_coded}
use Rattle.widl_grammar.specs.declared.rule.Rule.{Rule}
use Rattle.widl_grammar.specs.declared.terminal.Terminal.{Terminal}
use Rattle.widl_grammar.specs.Levels.{lies_inside, IsMarked}
use Rattle.widl_grammar.specs.Rows.{rows_of}
use Rattle.widl_grammar.specs.Rules.{rules, all_rules}

is_marked : Rule → Symbol Terminal Rule → Bool
is_marked rule (Token t) = true
is_marked rule (Part part) = not (lies_inside part rule)
is_marked rule (Inner part) = lies_inside part rule

rule_marked : Rule → Bool
unfolding each
rule_marked rule = each (each (is_marked rule)) (rows_of rule)

all_marked : each rule_marked all_rules ≡ true
unfolding each rule_marked is_marked
all_marked = refl

each_of : {X : Type 0} (p : X → Bool) (xs : List X) (x : X) → each p xs ≡ true → Contains xs x → p x ≡ true
each_of p xs x h c = subst (λ y. p y ≡ true) c.2 (each_at p xs h c.0 c.1 x)

refused : (b : Bool) → not b ≡ true → b ≡ false
refused true h = cc
refused false h = refl

marked_so : (rule : Rule) (symbol : Symbol Terminal Rule) → is_marked rule symbol ≡ true → IsMarked rule symbol
unfolding is_marked
marked_so rule (Token t) h = tt
marked_so rule (Part part) h = refused (lies_inside part rule) h
marked_so rule (Inner part) h = h

pub each_marked : (rule : Rule) (row : List (Symbol Terminal Rule)) (symbol : Symbol Terminal Rule) → Contains (rows_of rule) row → Contains row symbol → IsMarked rule symbol
unfolding rule_marked
each_marked rule row symbol has within =
    let rows = each_coded rules rule_marked all_marked rule in
    marked_so rule symbol (each_of (is_marked rule) row symbol (each_of (each (is_marked rule)) (rows_of rule) row rows has) within)
