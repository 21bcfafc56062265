-- Types nest, so they are read by functions that call each other.
use Rattle.std.proofs.Common.{◌≤◌, suc, arith, length, None, List, [], ◌∷◌, ◌++◌, refl, sym, ◌∙◌, ap, subst}
use Rattle.widl_idl.specs.declared.tree.extended_attributes.ExtendedAttribute.{ExtendedAttribute}
use Rattle.widl_idl.specs.declared.tree.types.AnnotatedType.{AnnotatedType}
use Rattle.widl_idl.specs.declared.tree.types.TypeForm.TheVariants as form
use Rattle.widl_idl.specs.declared.tree.types.WrittenType.{WrittenType}
use Rattle.widl_idl.specs.PlainTypes.{plain_form, plain_union, type_of, annotated_of}
use Rattle.widl_idl.specs.TypeTrees.{tree_of_type, trees_of_members, PromiseForm, UnionForm}
use Rattle.widl_idl.specs.Written.{members_in}
use Rattle.widl_lex.specs.Tokens.{Lexeme}
use Rattle.widl_predictive.specs.declared.grammar.Symbol.TheVariants.{Token, Part}
use Rattle.widl_grammar.specs.declared.rule.Rule.TheVariants as rule
use Rattle.widl_grammar.specs.declared.terminal.Terminal.{Terminal}
use Rattle.widl_grammar.specs.declared.terminal.Terminal.TheVariants as terminal
use Rattle.widl_syntax.specs.Nesting.{form_levels, type_levels, annotated_levels, member_levels}
use Rattle.widl_syntax.specs.Reading.{Appends}
use Rattle.widl_syntax.specs.Signs.{Sign, at, after, word, ◌⧺◌}
use Rattle.widl_syntax.specs.UnparsedNames.{extended_attributes}
use Rattle.widl_syntax.specs.UnparsedTypes.{inner_type, inner_annotated, form_signs, member_signs, question_mark, container_terminal, string_terminal}
use Rattle.widl_syntax.specs.TypeWords.{is_primitive_word}
use Rattle.widl_syntax.proofs.Lists.{adds_none, adds_further, adds_over, adds_used_up, repeats_at}
use Rattle.widl_syntax.proofs.Separated.{separated_pair}
use Rattle.widl_syntax.proofs.Reading.{in_ok, and_then, at_part, by_only, by_rest, by_row, nothing, other_than, passed_by, taken_as, took, took_at, took_identifier}
use Rattle.widl_syntax.proofs.TypeForms.{form-Container, form-Named, form-Promise, form-Record, form-Union, trees-UnionMembers, levels-AnnotatedType, levels-WrittenType, outer-AnnotatedType, type-AnnotatedType, type-WrittenType}
use Rattle.widl_syntax.proofs.TypeLevels.{begins_after, begins_by, begun_by, levels_of_list, nests_after, nests_annotated, nests_by, nests_first, nests_flat, nests_inside, of_levels, of_nested, outer_flat, outer_ok, picks_at, picks_generic, picks_only, picks_rest, union_begins, union_goes_on, union_nests}
use Rattle.widl_syntax.proofs.Types.{by_test, generic_row, generic_word, member_list, named_row, of_signs, taken_le, type_word}
use Rattle.widl_syntax.proofs.Words.{none_of}
use Rattle.widl_syntax.proofs.build.reader.Reader.+types.Goals as goal
use Rattle.widl_syntax.proofs.build.reader.Reader.+types.Goals.{union_members-else-loop-test, union_members-then-loop-test+then-is_none}

pub annotated_type-returns-clause-reads : goal.annotated_type-returns-clause-reads
annotated_type-returns-clause-reads t c = of_signs (outer-AnnotatedType c.at-at.result c.in_ok-attributes.attributes c.in_ok-ty.ty)
    (at_part rule.ExtendedAttributeList refl c.at-at.ensures (and_then c.in_ok-attributes.ensures.reads c.in_ok-ty.ensures.reads))

pub annotated_type-returns-clause-inner : goal.annotated_type-returns-clause-inner
annotated_type-returns-clause-inner t c = of_signs (type-AnnotatedType c.at-at.result c.in_ok-attributes.attributes c.in_ok-ty.ty)
    (at_part rule.ExtendedAttributeList refl c.at-at.ensures (and_then c.in_ok-attributes.ensures.reads c.in_ok-ty.ensures.inner))

pub annotated_type-returns-clause-nests : goal.annotated_type-returns-clause-nests
annotated_type-returns-clause-nests t c = of_nested (levels-AnnotatedType c.at-at.result c.in_ok-attributes.attributes c.in_ok-ty.ty)
    (begins_after (Part rule.ExtendedAttributeList ∷ []) c.in_ok-attributes.ensures.reads c.in_ok-ty.ensures.nests)

pub container_form-returns-clause-reads : goal.container_form-returns-clause-reads
container_form-returns-clause-reads t c =
    let signs : AnnotatedType → List Sign = λ element. word (container_terminal c.args.kind) ⧺ word terminal.Less ⧺ inner_annotated element ⧺ word terminal.Greater in
    of_signs (ap form_signs (form-Container c.args.kind c.in_ok-new.field-0) ∙ ap signs c.in_ok-new.ensures.ok)
    (generic_row c.args.kind c.requires
    (and_then (generic_word c.args.kind c.requires c.take-word.ensures)
    (and_then (took terminal.Less c.take-less.ensures)
    (and_then c.in_ok-element.ensures.inner
    (took terminal.Greater c.take-greater.ensures)))))

pub container_form-returns-clause-nests : goal.container_form-returns-clause-nests
container_form-returns-clause-nests t c = of_levels (ap (λ form. form_levels (plain_form form)) (form-Container c.args.kind c.in_ok-new.field-0) ∙ ap (λ element. suc (annotated_levels (annotated_of element))) c.in_ok-new.ensures.ok)
    (nests_by rule.DistinguishableBase (picks_generic c.args.kind c.requires)
    (nests_after (Part rule.Container ∷ []) (generic_word c.args.kind c.requires c.take-word.ensures)
    (nests_after (Token terminal.Less ∷ []) (took terminal.Less c.take-less.ensures)
    (nests_annotated {β = Token terminal.Greater ∷ []} c.in_ok-element.ensures.nests))))

pub distinguishable_form-returns-then-is_primitive-clause-reads :
    goal.distinguishable_form-returns-then-is_primitive-clause-reads
distinguishable_form-returns-then-is_primitive-clause-reads t c =
    by_test rule.DistinguishableBase is_primitive_word 0 refl refl (ap is_primitive_word (sym c.ahead-ahead.ensures) ∙ sym c.is_primitive.ensures ∙ c.if-is_primitive.true)
    c.primitive_form.ensures.reads

pub distinguishable_form-returns-then-is_primitive-clause-nests :
    goal.distinguishable_form-returns-then-is_primitive-clause-nests
distinguishable_form-returns-then-is_primitive-clause-nests t c = nests_flat c.primitive_form.ensures.flat

pub distinguishable_form-returns-in-Some-clause-nests :
    goal.distinguishable_form-returns-in-Some-clause-nests
distinguishable_form-returns-in-Some-clause-nests t c = nests_flat c.in-Some.ensures.flat

pub distinguishable_form-returns-clause-nests : goal.distinguishable_form-returns-clause-nests
distinguishable_form-returns-clause-nests t c = nests_flat (ap (λ form. form_levels (plain_form form)) (form-Named c.in_ok-name.field-0))

pub distinguishable_form-returns-in-Some-clause-reads :
    goal.distinguishable_form-returns-in-Some-clause-reads
distinguishable_form-returns-in-Some-clause-reads t c = of_signs c.in-Some.ensures.signs
    (type_word c.ahead-ahead.result c.in-Some.ensures.known (sym c.ahead-ahead.ensures) c.take-word.ensures)

pub distinguishable_form-returns-clause-reads : goal.distinguishable_form-returns-clause-reads
distinguishable_form-returns-clause-reads t c = of_signs (ap form_signs (form-Named c.in_ok-name.field-0))
    (named_row c.ahead-ahead.result c.args.self.now c.ahead-ahead.ensures
    (sym c.is_primitive.ensures ∙ c.if-is_primitive.false) c.in_default.ensures c.in_default-container.ensures (c.is_ahead.ensures.no c.if-is_ahead.false)
    (took_identifier c.in_ok-name.ensures))

pub distinguishable_type-returns-clause-reads : goal.distinguishable_type-returns-clause-reads
distinguishable_type-returns-clause-reads t c = of_signs (type-WrittenType c.at-at.result c.in_ok-form.form _ c.question-question.result refl)
    (at_part rule.Distinguishable refl c.at-at.ensures
    (by_only rule.Distinguishable refl (and_then c.in_ok-form.ensures.reads c.question-question.ensures.reads)))

pub distinguishable_type-returns-clause-nests : goal.distinguishable_type-returns-clause-nests
distinguishable_type-returns-clause-nests t c = of_levels (levels-WrittenType c.at-at.result c.in_ok-form.form c.question-question.result)
    (nests_by rule.Distinguishable (picks_only rule.Distinguishable refl) (nests_first (Part rule.Nullable ∷ []) c.in_ok-form.ensures.nests))

pub promise_type-returns-clause-nests : goal.promise_type-returns-clause-nests
promise_type-returns-clause-nests t c =
    let box = c.in_ok-new.field-0 in
    of_nested (levels-WrittenType c.take-at.result (form.Promise box) None ∙ ap (λ form. form_levels (plain_form form)) (form-Promise box) ∙ ap (λ value. suc (type_levels (type_of value))) c.in_ok-new.ensures.ok)
    (begins_by rule.WholeType refl (picks_at rule.WholeType terminal.Promise c.requires refl refl)
    (nests_after (Token terminal.Promise ∷ []) (took terminal.Promise c.take-at.ensures)
    (nests_after (Token terminal.Less ∷ []) (took terminal.Less c.take-less.ensures)
    (nests_inside rule.WholeType {β = Token terminal.Greater ∷ []} c.in_ok-value.ensures.nests))))

pub promise_type-returns-clause-reads : goal.promise_type-returns-clause-reads
promise_type-returns-clause-reads t c =
    let box = c.in_ok-new.field-0 in
    let signs : WrittenType → List Sign = λ value. at c.take-at.result ⧺ (word terminal.Promise ⧺ word terminal.Less ⧺ inner_type value ⧺ word terminal.Greater) ⧺ [] in
    of_signs (type-WrittenType c.take-at.result (form.Promise box) (PromiseForm (tree_of_type box.value)) None (form-Promise box) ∙ ap signs c.in_ok-new.ensures.ok)
    (by_row rule.WholeType terminal.Promise c.requires refl refl
    (and_then (took_at terminal.Promise c.take-at.ensures)
    (and_then (took terminal.Less c.take-less.ensures)
    (and_then (and_then c.in_ok-value.ensures.inner (took terminal.Greater c.take-greater.ensures)) nothing))))

pub record_form-returns-clause-reads : goal.record_form-returns-clause-reads
record_form-returns-clause-reads t c =
    let signs : AnnotatedType → List Sign = λ value. word terminal.Record ⧺ word terminal.Less ⧺ word (string_terminal c.string_type-key.result) ⧺ word terminal.Comma ⧺ inner_annotated value ⧺ word terminal.Greater in
    of_signs (ap form_signs (form-Record c.string_type-key.result c.in_ok-new.field-0) ∙ ap signs c.in_ok-new.ensures.ok)
    (by_row rule.DistinguishableBase terminal.Record c.requires refl refl
    (and_then (took terminal.Record c.take-word.ensures)
    (and_then (took terminal.Less c.take-less.ensures)
    (and_then c.string_type-key.ensures.reads
    (and_then (took terminal.Comma c.take-comma.ensures)
    (and_then c.in_ok-value.ensures.inner
    (took terminal.Greater c.take-greater.ensures)))))))

pub record_form-returns-clause-nests : goal.record_form-returns-clause-nests
record_form-returns-clause-nests t c = of_levels (ap (λ form. form_levels (plain_form form)) (form-Record c.string_type-key.result c.in_ok-new.field-0) ∙ ap (λ value. suc (annotated_levels (annotated_of value))) c.in_ok-new.ensures.ok)
    (nests_by rule.DistinguishableBase (picks_at rule.DistinguishableBase terminal.Record c.requires refl refl)
    (nests_after (Token terminal.Record ∷ []) (took terminal.Record c.take-word.ensures)
    (nests_after (Token terminal.Less ∷ []) (took terminal.Less c.take-less.ensures)
    (nests_after (Part rule.StringType ∷ []) c.string_type-key.ensures.reads
    (nests_after (Token terminal.Comma ∷ []) (took terminal.Comma c.take-comma.ensures)
    (nests_annotated {β = Token terminal.Greater ∷ []} c.in_ok-value.ensures.nests))))))

pub record_form-returns-clause-shorter : goal.record_form-returns-clause-shorter
record_form-returns-clause-shorter t c =
    omega (arith, taken_le c.take-word.ensures, taken_le c.take-less.ensures, c.string_type-key.ensures.shorter, taken_le c.take-comma.ensures, c.in_ok-value.ensures.shorter, taken_le c.take-greater.ensures)

pub union_member-returns-then-is_ahead-clause-reads :
    goal.union_member-returns-then-is_ahead-clause-reads
union_member-returns-then-is_ahead-clause-reads t c =
    let signs : List ExtendedAttribute → List Sign = λ attributes. at c.at-at.result ⧺ extended_attributes attributes ⧺ inner_type c.in_ok-ty.ty in
    of_signs (type-AnnotatedType c.at-at.result c.new.result c.in_ok-ty.ty ∙ ap signs c.new.ensures)
    (at_part rule.UnionMember refl c.at-at.ensures
    (by_row rule.UnionMember terminal.OpenParen (c.is_ahead.ensures.yes c.if-is_ahead.true) refl refl
    (by_only rule.MemberUnion refl c.in_ok-ty.ensures.reads)))

pub union_member-returns-clause-reads : goal.union_member-returns-clause-reads
union_member-returns-clause-reads t c = of_signs (type-AnnotatedType c.at-at.result c.in_ok-attributes.attributes c.in_ok-ty-2.ty)
    (at_part rule.UnionMember refl c.at-at.ensures
    (by_rest rule.UnionMember (terminal.OpenParen ∷ []) 0 refl refl (other_than terminal.OpenParen _ (c.is_ahead.ensures.no c.if-is_ahead.false))
    (and_then c.in_ok-attributes.ensures.reads (by_only rule.MemberDistinguishable refl c.in_ok-ty-2.ensures.reads))))

pub union_member-returns-then-is_ahead-clause-nests :
    goal.union_member-returns-then-is_ahead-clause-nests
union_member-returns-then-is_ahead-clause-nests t c = of_nested (levels-AnnotatedType c.at-at.result c.new.result c.in_ok-ty.ty)
    (begun_by rule.UnionMember (picks_at rule.UnionMember terminal.OpenParen (c.is_ahead.ensures.yes c.if-is_ahead.true) refl refl)
    (begins_by rule.MemberUnion refl (picks_only rule.MemberUnion refl) c.in_ok-ty.ensures.nests))

pub union_member-returns-clause-nests : goal.union_member-returns-clause-nests
union_member-returns-clause-nests t c = of_nested (levels-AnnotatedType c.at-at.result c.in_ok-attributes.attributes c.in_ok-ty-2.ty)
    (begun_by rule.UnionMember (picks_rest rule.UnionMember (terminal.OpenParen ∷ []) 0 refl refl (other_than terminal.OpenParen _ (c.is_ahead.ensures.no c.if-is_ahead.false)))
    (begins_after (Part rule.ExtendedAttributeList ∷ []) c.in_ok-attributes.ensures.reads
    (begins_by rule.MemberDistinguishable refl (picks_only rule.MemberDistinguishable refl) c.in_ok-ty-2.ensures.nests)))

pub union_members-loop-init : goal.union_members-loop-init
union_members-loop-init t c = record {
  shorter = omega (arith, c.in_ok-union_member.ensures.shorter, taken_le c.take-or.ensures, c.in_ok-union_member-2.ensures.shorter);
  so_far = adds_none;
  inside = union_begins (c.in_ok-push-2.ensures.ok ∙ ap (λ members. members ++ c.in_ok-union_member-2.field-0 ∷ []) (c.in_ok-push.ensures.ok ∙ ap (λ members. members ++ c.in_ok-union_member.field-0 ∷ []) c.new-members.ensures))
      c.in_ok-union_member.ensures.reads c.in_ok-union_member.ensures.nests c.take-or.ensures c.in_ok-union_member-2.ensures.reads c.in_ok-union_member-2.ensures.nests;
}

pub union_members-loop-preserved : goal.union_members-loop-preserved
union_members-loop-preserved t c =
    let found = taken_as terminal.Or _ _ c.take_if.result c.is_none.result c.is_none.ensures c.if-is_none.false c.take_if.ensures in
    record {
      shorter = omega (arith, taken_le found.1.taken, c.in_ok-union_member-3.ensures.shorter, c.loop.invariant.shorter);
      so_far = adds_further c.loop.invariant.so_far c.in_ok-push-3.ensures.ok
          (repeats_at rule.MoreUnionMembers terminal.Or found.1.ahead refl refl refl)
          (and_then (took terminal.Or found.1.taken) c.in_ok-union_member-3.ensures.reads) refl;
      inside = union_goes_on c.in_ok-union_member-3.field-0 c.in_ok-push-3.ensures.ok c.loop.invariant.inside found.1.ahead found.1.taken c.in_ok-union_member-3.ensures.reads c.in_ok-union_member-3.ensures.nests;
    }

pub union_members-returns-clause-nests : goal.union_members-returns-clause-nests
union_members-returns-clause-nests t c = union_nests (ap suc (ap (λ members. member_levels (plain_union members)) (trees-UnionMembers c.loop.members) ∙ levels_of_list (members_in c.loop.members))) c.loop.invariant.inside

pub union_members-returns-clause-reads : goal.union_members-returns-clause-reads
union_members-returns-clause-reads t c =
    let P : List Lexeme → Type 0 = λ to. Appends rule.MoreUnionMembers (after terminal.Or inner_annotated) (members_in c.push-2.new.self) (members_in c.loop.members) c.union_member-2.new.self to in
    separated_pair terminal.Or (c.in_ok-push-2.ensures.ok ∙ ap (λ members. members ++ c.in_ok-union_member-2.field-0 ∷ []) (c.in_ok-push.ensures.ok ∙ ap (λ members. members ++ c.in_ok-union_member.field-0 ∷ []) c.new-members.ensures))
    c.in_ok-union_member.ensures.reads (took terminal.Or c.take-or.ensures) c.in_ok-union_member-2.ensures.reads
    (elim c.loop-test.branch [
      | union_members-else-loop-test w ↦ subst P (sym w.self-is) (adds_used_up refl (omega arith) c.loop.invariant.so_far)
      | union_members-then-loop-test+then-is_none w ↦
          let passed = passed_by terminal.Or _ _ w.take_if.result w.is_none.result w.is_none.ensures w.if-is_none.true w.take_if.ensures in
          subst P (sym (w.self-is ∙ passed.same)) (adds_over c.loop.invariant.so_far (by_rest rule.MoreUnionMembers (terminal.Or ∷ []) 1 refl refl (other_than terminal.Or _ passed.other) nothing))
    ])

pub union_members-returns-clause-shorter : goal.union_members-returns-clause-shorter
union_members-returns-clause-shorter t c =
    let P : List Lexeme → Type 0 = λ to. length to ≤ length c.args.self.now in
    elim c.loop-test.branch [
      | union_members-else-loop-test w ↦ subst P (sym w.self-is) c.loop.invariant.shorter
      | union_members-then-loop-test+then-is_none w ↦
          let passed = passed_by terminal.Or _ _ w.take_if.result w.is_none.result w.is_none.ensures w.if-is_none.true w.take_if.ensures in
          subst P (sym (w.self-is ∙ passed.same)) c.loop.invariant.shorter
    ]

pub union_type-returns-clause-reads : goal.union_type-returns-clause-reads
union_type-returns-clause-reads t c =
    let members = c.in_ok-members.members in
    let question = c.question-question in
    let signs : List Sign → List Sign = λ inner. at c.take-at.result ⧺ (word terminal.OpenParen ⧺ inner ⧺ word terminal.CloseParen) ⧺ question_mark question.result in
    of_signs (type-WrittenType c.take-at.result (form.Union members) (UnionForm (trees_of_members members)) question.result (form-Union members) ∙ ap signs (ap member_signs (trees-UnionMembers members) ∙ member_list (members_in members)))
    (and_then (by_only rule.Union refl
    (and_then (took_at terminal.OpenParen c.take-at.ensures)
    (and_then c.in_ok-members.ensures.reads
    (took terminal.CloseParen c.take-close.ensures))))
    question.ensures.reads)

pub union_type-returns-clause-nests : goal.union_type-returns-clause-nests
union_type-returns-clause-nests t c =
    let members = c.in_ok-members.members in
    of_levels (levels-WrittenType c.take-at.result (form.Union members) c.question-question.result ∙ ap (λ form. form_levels (plain_form form)) (form-Union members))
    (nests_first (Part rule.Nullable ∷ []) (nests_by rule.Union (picks_only rule.Union refl)
    (nests_after (Token terminal.OpenParen ∷ []) (took terminal.OpenParen c.take-at.ensures)
    (nests_first (Token terminal.CloseParen ∷ []) c.in_ok-members.ensures.nests))))

pub written_type-returns-in-Any-clause-inner : goal.written_type-returns-in-Any-clause-inner
written_type-returns-in-Any-clause-inner t c = by_row rule.WholeType terminal.Any (sym c.ahead.ensures ∙ c.in-Any.is) refl refl c.any_type.ensures.reads

pub written_type-returns-in-Any-clause-nests : goal.written_type-returns-in-Any-clause-nests
written_type-returns-in-Any-clause-nests t c = begins_by rule.WholeType refl (picks_at rule.WholeType terminal.Any (sym c.ahead.ensures ∙ c.in-Any.is) refl refl) (nests_flat c.any_type.ensures.flat)

pub written_type-returns-in-Any-clause-reads : goal.written_type-returns-in-Any-clause-reads
written_type-returns-in-Any-clause-reads t c = outer_flat c.any_type.result c.any_type.ensures.flat (by_row rule.WholeType terminal.Any (sym c.ahead.ensures ∙ c.in-Any.is) refl refl c.any_type.ensures.reads)

pub written_type-returns-in-Promise : goal.written_type-returns-in-Promise
written_type-returns-in-Promise t c = record {
  reads = outer_ok c.args.self.now c.promise_type.new.self c.promise_type.result c.promise_type.ensures.nests c.promise_type.ensures.reads;
  inner = c.promise_type.ensures.reads;
  nests = c.promise_type.ensures.nests;
  shorter = c.promise_type.ensures.shorter;
}

pub written_type-returns-in-OpenParen : goal.written_type-returns-in-OpenParen
written_type-returns-in-OpenParen t c =
    let nests = in_ok c.union_type.result _ _ (λ ty n. begins_by rule.WholeType refl (picks_at rule.WholeType terminal.OpenParen (sym c.ahead.ensures ∙ c.in-OpenParen.is) refl refl) n) c.union_type.ensures.nests in
    let inner = in_ok c.union_type.result _ _ (λ ty r. by_row rule.WholeType terminal.OpenParen (sym c.ahead.ensures ∙ c.in-OpenParen.is) refl refl r) c.union_type.ensures.reads in
    record { reads = outer_ok c.args.self.now c.union_type.new.self c.union_type.result nests inner; inner = inner; nests = nests; shorter = c.union_type.ensures.shorter }

pub written_type-returns-in_default : goal.written_type-returns-in_default
written_type-returns-in_default t c =
    let others : List Terminal = terminal.Any ∷ terminal.Promise ∷ terminal.OpenParen ∷ [] in
    let other = none_of others c.ahead.result _ c.ahead.ensures (c.in_default.not-Any, (c.in_default.not-Promise, (c.in_default.not-OpenParen, tt))) in
    let nests = in_ok c.distinguishable_type.result _ _ (λ ty n. begins_by rule.WholeType refl (picks_rest rule.WholeType others 0 refl refl other) n) c.distinguishable_type.ensures.nests in
    let inner = in_ok c.distinguishable_type.result _ _ (λ ty r. by_rest rule.WholeType others 0 refl refl other r) c.distinguishable_type.ensures.reads in
    record { reads = outer_ok c.args.self.now c.distinguishable_type.new.self c.distinguishable_type.result nests inner; inner = inner; nests = nests; shorter = c.distinguishable_type.ensures.shorter }
