use Rattle.std.proofs.Common.{◌≡◌, ◌++◌, [], ◌∷◌, refl, sym, ◌∙◌, ap, subst}
use Rattle.widl_grammar.specs.declared.rule.Rule.TheVariants as rule
use Rattle.widl_grammar.specs.declared.terminal.Terminal.TheVariants as terminal
use Rattle.widl_syntax.specs.Reading.{Reads, part}
use Rattle.widl_syntax.specs.UnparsedNames.{extended_attributes}
use Rattle.widl_syntax.proofs.Reading.{and_then, by_rest, by_row, nothing_if, other_than, passed_by, taken_as, took}
use Rattle.widl_syntax.proofs.Separated.{first_item, in_brackets, separated_items}
use Rattle.widl_syntax.proofs.build.reader.Reader.extended_attributes.Goals as goal

pub returns-then-is_none-clause-reads : goal.returns-then-is_none-clause-reads
returns-then-is_none-clause-reads c =
    let passed = passed_by terminal.OpenBracket _ _ c.take_if.result c.is_none.result c.is_none.ensures c.if-is_none.true c.take_if.ensures in
    subst (λ attributes. Reads (part rule.ExtendedAttributeList) (extended_attributes attributes) c.args.self.now c.take_if.new.self) (sym c.new-attributes.ensures)
    (by_rest rule.ExtendedAttributeList (terminal.OpenBracket ∷ []) 1 refl refl (other_than terminal.OpenBracket _ passed.other) (nothing_if passed.same))

pub returns-clause-reads : goal.returns-clause-reads
returns-clause-reads c =
    let found = taken_as terminal.OpenBracket _ _ c.take_if.result c.is_none.result c.is_none.ensures c.if-is_none.false c.take_if.ensures in
    let one : c.push.new.self ≡ c.in-Ok.first ∷ [] = c.in-Ok-push.ensures.ok ∙ ap (λ l. l ++ c.in-Ok.first ∷ []) c.new-attributes.ensures in
    let first = first_item one c.in-Ok-more_extended_attributes.ensures.appends in
    by_row rule.ExtendedAttributeList terminal.OpenBracket found.1.ahead refl refl
    (in_brackets first.0 c.in-Ok.first first.1
    (and_then (took terminal.OpenBracket found.1.taken)
    (and_then (separated_items terminal.Comma one c.in-Ok.ensures.reads c.in-Ok-more_extended_attributes.ensures.appends)
    (took terminal.CloseBracket c.take-close.ensures))))
