use Rattle.std.proofs.Common.{refl, sym, ◌∙◌, ap, List, [], ◌∷◌, inl, inr}
use Rattle.widl_idl.specs.declared.int_kind.IntKind.TheVariants as int
use Rattle.widl_idl.specs.PlainTypes.{form_term, plain_form}
use Rattle.widl_idl.specs.TypeTrees.{form_of}
use Rattle.widl_grammar.specs.declared.rule.Rule.TheVariants as rule
use Rattle.widl_grammar.specs.declared.terminal.Terminal.{Terminal}
use Rattle.widl_grammar.specs.declared.terminal.Terminal.TheVariants as terminal
use Rattle.widl_syntax.specs.Nesting.{form_levels}
use Rattle.widl_syntax.specs.UnparsedTypes.{form_signs}
use Rattle.widl_syntax.proofs.Reading.{by_row, by_rest, took}
use Rattle.widl_syntax.proofs.TypeForms.{form-Boolean, form-BigInt, form-Integer, form-Float}
use Rattle.widl_syntax.proofs.Types.{of_signs, taken_le}
use Rattle.widl_syntax.proofs.Words.{none_of}
use Rattle.widl_syntax.proofs.build.reader.Reader.primitive_form.Goals as goal

pub returns-in-Short-clause-reads : goal.returns-in-Short-clause-reads
returns-in-Short-clause-reads c = of_signs (ap form_signs (form-Integer c.integer_kind.result) ∙ c.integer_kind.ensures.words) (elim c.in-Short.is [
  | inl short ↦ by_row rule.Primitive terminal.Short (sym c.ahead.ensures ∙ short) refl refl c.integer_kind.ensures.reads
  | inr long ↦ by_row rule.Primitive terminal.Long (sym c.ahead.ensures ∙ long) refl refl c.integer_kind.ensures.reads
])

pub returns-in-Float-clause-reads : goal.returns-in-Float-clause-reads
returns-in-Float-clause-reads c = of_signs (ap form_signs (form-Float c.float_kind.result) ∙ c.float_kind.ensures.words) (elim c.in-Float.is [
  | inl single ↦ by_row rule.Primitive terminal.Float (sym c.ahead.ensures ∙ single) refl refl c.float_kind.ensures.reads
  | inr double ↦ by_row rule.Primitive terminal.Double (sym c.ahead.ensures ∙ double) refl refl c.float_kind.ensures.reads
])

pub returns-in-Boolean : goal.returns-in-Boolean
returns-in-Boolean c = record {
  reads = of_signs (ap form_signs (ap form_of c.one_word.ensures.same ∙ form-Boolean))
      (by_row rule.Primitive terminal.Boolean (sym c.ahead.ensures ∙ c.in-Boolean.is) refl refl (took terminal.Boolean c.one_word.ensures.taken.1));
  flat = ap (λ form. form_levels (form_term form)) c.one_word.ensures.same ∙ ap (λ form. form_levels (plain_form form)) form-Boolean;
  shorter = taken_le c.one_word.ensures.taken.1;
}

pub returns-in-Byte : goal.returns-in-Byte
returns-in-Byte c = record {
  reads = of_signs (ap form_signs (ap form_of c.one_word-in-Byte.ensures.same ∙ form-Integer int.Byte))
      (by_row rule.Primitive terminal.Byte (sym c.ahead.ensures ∙ c.in-Byte.is) refl refl (took terminal.Byte c.one_word-in-Byte.ensures.taken.1));
  flat = ap (λ form. form_levels (form_term form)) c.one_word-in-Byte.ensures.same ∙ ap (λ form. form_levels (plain_form form)) (form-Integer int.Byte);
  shorter = taken_le c.one_word-in-Byte.ensures.taken.1;
}

pub returns-in-Octet : goal.returns-in-Octet
returns-in-Octet c = record {
  reads = of_signs (ap form_signs (ap form_of c.one_word-in-Octet.ensures.same ∙ form-Integer int.Octet))
      (by_row rule.Primitive terminal.Octet (sym c.ahead.ensures ∙ c.in-Octet.is) refl refl (took terminal.Octet c.one_word-in-Octet.ensures.taken.1));
  flat = ap (λ form. form_levels (form_term form)) c.one_word-in-Octet.ensures.same ∙ ap (λ form. form_levels (plain_form form)) (form-Integer int.Octet);
  shorter = taken_le c.one_word-in-Octet.ensures.taken.1;
}

abbrev others : List Terminal
others = terminal.Unsigned ∷ terminal.Short ∷ terminal.Long ∷ terminal.Unrestricted ∷ terminal.Float ∷ terminal.Double ∷ terminal.Boolean ∷ terminal.Byte ∷ terminal.Octet ∷ []

pub returns-in_default : goal.returns-in_default
returns-in_default c = record {
  reads = of_signs (ap form_signs (ap form_of c.one_word-in_default.ensures.same ∙ form-BigInt))
      (by_rest rule.Primitive others 7 refl refl
      (none_of others c.ahead.result _ c.ahead.ensures (c.in_default.not-Unsigned, (c.in_default.not-Short, (c.in_default.not-Long, (c.in_default.not-Unrestricted, (c.in_default.not-Float, (c.in_default.not-Double, (c.in_default.not-Boolean, (c.in_default.not-Byte, (c.in_default.not-Octet, tt))))))))))
      (took terminal.Bigint c.one_word-in_default.ensures.taken.1));
  flat = ap (λ form. form_levels (form_term form)) c.one_word-in_default.ensures.same ∙ ap (λ form. form_levels (plain_form form)) form-BigInt;
  shorter = taken_le c.one_word-in_default.ensures.taken.1;
}
