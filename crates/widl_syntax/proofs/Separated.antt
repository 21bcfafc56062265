-- Items with a separator between each two.
use Rattle.std.proofs.Common.{◌≡◌, List, [], ◌∷◌, ◌++◌, refl, sym, ◌∙◌, ap, subst}
use Rattle.widl_lex.specs.Tokens.{Lexeme}
use Rattle.widl_idl.specs.declared.tree.extended_attributes.ExtendedAttribute.{ExtendedAttribute}
use Rattle.widl_grammar.specs.declared.rule.Rule.{Rule}
use Rattle.widl_grammar.specs.declared.terminal.Terminal.{Terminal}
use Rattle.widl_grammar.specs.declared.terminal.Terminal.TheVariants.{Comma, OpenBracket, CloseBracket}
use Rattle.widl_syntax.specs.Signs.{Sign, word, after, separated, ◌⧺◌}
use Rattle.widl_syntax.specs.UnparsedNames.{extended_attribute, extended_attributes}
use Rattle.widl_syntax.specs.Reading.{Symbols, Reads, Appends, part, token}
use Rattle.widl_syntax.proofs.Reading.{and_then}

-- the items begin with the one that was there
pub first_item : {X : Type 0} {rule : Rule} {one : X → List Sign} {old items : List X} {start now : List Lexeme} {x : X} → old ≡ x ∷ [] → Appends rule one old items start now → (more : List X) × (items ≡ x ∷ more)
first_item e added = (added.more, added.is ∙ ap (λ l. l ++ added.more) e)

-- an item, and more after separators
pub separated_items : {X : Type 0} {rule : Rule} (separator : Terminal) {one : X → List Sign} {old items : List X} {α : Symbols} {start middle now : List Lexeme} {x : X} → old ≡ x ∷ [] → Reads α (one x) start middle → Appends rule (after separator one) old items middle now → Reads (α ++ part rule) (separated separator one items) start now
separated_items {rule} separator {one} {α} {start} {now} e first added =
    subst (λ items. Reads (α ++ part rule) (separated separator one items) start now) (sym (added.is ∙ ap (λ l. l ++ added.more) e)) (and_then first added.reads)

-- two items with a separator between them, and more after separators
pub separated_pair : {X : Type 0} {rule : Rule} (separator : Terminal) {one : X → List Sign} {old items : List X} {α β : Symbols} {start first middle second now : List Lexeme} {x y : X} → old ≡ x ∷ y ∷ [] → Reads α (one x) start first → Reads (token separator) (word separator) first middle → Reads β (one y) middle second → Appends rule (after separator one) old items second now → Reads (α ++ (token separator ++ (β ++ part rule))) (separated separator one items) start now
separated_pair {rule = rule} separator {one} {α = α} {β} {start = start} {now = now} e f g h added =
    subst (λ items. Reads (α ++ (token separator ++ (β ++ part rule))) (separated separator one items) start now) (sym (added.is ∙ ap (λ l. l ++ added.more) e)) (and_then f (and_then g (and_then h added.reads)))

-- extended attributes stand in brackets where there is one
pub in_brackets : {α : Symbols} {items : List ExtendedAttribute} {start now : List Lexeme} (more : List ExtendedAttribute) (x : ExtendedAttribute) → items ≡ x ∷ more → Reads α (word OpenBracket ⧺ separated Comma extended_attribute items ⧺ word CloseBracket) start now → Reads α (extended_attributes items) start now
in_brackets {α} {items} {start} {now} more x e r =
    subst (λ signs. Reads α signs start now) (subst (λ l. (word OpenBracket ⧺ separated Comma extended_attribute l ⧺ word CloseBracket) ≡ extended_attributes l) (sym e) refl) r
