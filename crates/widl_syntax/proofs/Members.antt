-- Members by the words before them.
use Rattle.std.proofs.Common.{◌≡◌, Bool, true, false, List, refl, sym, subst}
use Rattle.widl_text.specs.declared.place.Place.{Place}
use Rattle.widl_idl.specs.declared.tree.members.Attribute.{Attribute}
use Rattle.widl_idl.specs.declared.tree.members.AttributeKind.{AttributeKind}
use Rattle.widl_idl.specs.declared.tree.operations.Operation.{Operation}
use Rattle.widl_idl.specs.declared.tree.operations.OperationKind.{OperationKind}
use Rattle.widl_idl.specs.declared.tree.operations.SpecialWord.{SpecialWord}
use Rattle.widl_idl.specs.declared.tree.operations.SpecialWord.TheVariants.{Getter, Setter, Deleter}
use Rattle.widl_lex.specs.Tokens.{Lexeme}
use Rattle.widl_grammar.specs.declared.terminal.Terminal.{Terminal}
use Rattle.widl_grammar.specs.declared.rule.Rule.TheVariants as rule
use Rattle.widl_grammar.specs.declared.terminal.Terminal.TheVariants.{Readonly}
use Rattle.widl_grammar.specs.declared.terminal.Terminal.TheVariants as terminal
use Rattle.widl_syntax.specs.Signs.{Sign, at, word, ◌⧺◌}
use Rattle.widl_syntax.specs.Reading.{Symbols, Reads, IsTaken, part, terminal_ahead}
use Rattle.widl_syntax.specs.UnparsedNames.{word_if}
use Rattle.widl_syntax.specs.UnparsedMembers.{attribute, attribute_word, attribute_rest, operation, operation_word, operation_rest, special_terminal}
use Rattle.widl_syntax.proofs.Reading.{by_row, took_at}

-- with the word, or without
pub with_word : (t : Terminal) (b : Bool) {α : Symbols} {x : List Sign} {w m : List Lexeme} → b ≡ true → Reads α (word t ⧺ x) w m → Reads α (word_if b t ⧺ x) w m
with_word t b {α} {x} {w} {m} e f = subst (λ v. Reads α (word_if v t ⧺ x) w m) (sym e) f

pub without_word : (t : Terminal) (b : Bool) {α : Symbols} {x : List Sign} {w m : List Lexeme} → b ≡ false → Reads α x w m → Reads α (word_if b t ⧺ x) w m
without_word t b {α} {x} {w} {m} e f = subst (λ v. Reads α (word_if v t ⧺ x) w m) (sym e) f

pub as_attribute : (a : Attribute) (kind : AttributeKind) (readonly : Bool) {α : Symbols} {w m : List Lexeme} → a.kind ≡ kind → a.readonly ≡ readonly → Reads α (attribute_word kind ⧺ word_if readonly Readonly ⧺ attribute_rest a) w m → Reads α (attribute a) w m
as_attribute a kind readonly {α} {w} {m} k r f =
    subst (λ v. Reads α (attribute_word v ⧺ word_if a.readonly Readonly ⧺ attribute_rest a) w m) (sym k)
    (subst (λ v. Reads α (attribute_word kind ⧺ word_if v Readonly ⧺ attribute_rest a) w m) (sym r) f)

pub as_operation : (o : Operation) (kind : OperationKind) {α : Symbols} {w m : List Lexeme} → o.kind ≡ kind → Reads α (operation_word kind ⧺ operation_rest o) w m → Reads α (operation o) w m
as_operation o kind {α} {w} {m} k f = subst (λ v. Reads α (operation_word v ⧺ operation_rest o) w m) (sym k) f

-- the word of a special operation, at its place
pub special_word : (s : SpecialWord) {w m : List Lexeme} {place : Place} → terminal_ahead w ≡ special_terminal s → IsTaken place w m → Reads (part rule.SpecialWord) (at place ⧺ word (special_terminal s)) w m
special_word Getter e t = by_row rule.SpecialWord terminal.Getter e refl refl (took_at terminal.Getter t)
special_word Setter e t = by_row rule.SpecialWord terminal.Setter e refl refl (took_at terminal.Setter t)
special_word Deleter e t = by_row rule.SpecialWord terminal.Deleter e refl refl (took_at terminal.Deleter t)
