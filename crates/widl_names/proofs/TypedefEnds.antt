-- The ends of chains of typedefs.
use Rattle.std.proofs.Common.{◌≡◌, ℕ, ◌+◌, ◌++◌, ◌⊎◌, inl, inr, ◌≢◌, zero, suc, List, Option, None, Some, slice_get, arith, refl, sym, ap, subst, ◌∙◌}
use Rattle.std.specs.Prelude.{IfSome, replicate, slice_set}
use Rattle.std.proofs.lemmas.List.{append_assoc}
use Rattle.widl_graph.proofs.Gets.{set_cases}
use Rattle.widl_text.specs.declared.place.Place.{Place}
use Rattle.widl_idl.specs.Meanings.{meant}
use Rattle.widl_idl.specs.PlainTrees.{PlainDefinition}
use Rattle.widl_idl.specs.PlainTypes.{PlainForm, PlainAnnotated, PlainAttribute, PlainNamed, plain_type, plain_annotated, form_term}
use Rattle.widl_idl.specs.Resolution.{Note, typedef_in}
use Rattle.widl_idl.specs.WrittenTypes.{notes_of, typedefs, written_form}
use Rattle.widl_names.specs.declared.resolver.Use.{Use}
use Rattle.widl_names.specs.declared.typedef_ends.ChainEnd.{ChainEnd}
use Rattle.widl_names.specs.SaidNotes.{Says}
use Rattle.widl_names.specs.TypedefEnds.{AreEnds, EndsAt, GoesTo, IsEndOf}
use Rattle.widl_names.specs.TypeUses.{Leads, capped, form_in, form_meaning, meaning_at, meaning_of_use, notes_from, notes_in, notes_of_typedef, question_count, questioned, type_in, typedef_at, typedef_of_form, typedef_type}
use Rattle.widl_names.proofs.TypeUses.{nullable_written, questioned_sum, typedef_means, typedef_of}

none_kept : (n number : ℕ) (end : ChainEnd) → slice_get (replicate n None) number ≡ Some (Some end) → ⊥
none_kept zero number end e = absurd (cc)
none_kept (suc n) zero end e = absurd (cc)
none_kept (suc n) (suc number) end e = none_kept n number end e

-- a table in which nothing is kept
pub ends_start : (definitions : List PlainDefinition) (n : ℕ) (ends : List (Option ChainEnd)) → ends ≡ replicate n None → AreEnds definitions ends
ends_start definitions n ends is = record { each = λ number end e. absurd (none_kept n number end (ap (λ l. slice_get l number) (sym is) ∙ e)) }

-- with one end more
pub ends_with : (definitions : List PlainDefinition) (old new : List (Option ChainEnd)) (number : ℕ) (end : Option ChainEnd) → AreEnds definitions old → IfSome end (IsEndOf definitions (typedef_at definitions number)) → new ≡ slice_set old number end → AreEnds definitions new
ends_with definitions old new number end so kept is = record { each = λ other found e. by_place other found (set_cases old number other (Some found) end (ap (λ l. slice_get l other) (sym is) ∙ e)) }
  where
    by_place : (other : ℕ) (found : ChainEnd) → ((other ≢ number) × (slice_get old other ≡ Some (Some found))) ⊎ ((other ≡ number) × (Some found ≡ end)) → IsEndOf definitions (typedef_at definitions other) found
    by_place other found (inl k) = so.each other found k.1
    by_place other found (inr k) = subst (λ n. IsEndOf definitions (typedef_at definitions n) found) (sym k.0) (subst (λ e. IfSome e (IsEndOf definitions (typedef_at definitions number))) (sym k.1) kept)

-- what the name of a typedef means, by the end of the typedef's chain
record MeansAtEnd (definitions : List PlainDefinition) (form : PlainForm) (end : ChainEnd) : Type 0 where
  notes : List Note
  said : Says end.annotations notes
  same : (levels : ℕ) (before : List Note) → form_meaning definitions (levels + end.passed + 1) before form ≡ questioned end.questions (form_meaning definitions levels (before ++ notes) (form_term end.form.now))
  gathered : (levels : ℕ) → notes_from definitions (levels + end.passed + 1) form ≡ notes ++ notes_from definitions levels (form_term end.form.now)

module _ (definitions : List PlainDefinition) where
  -- the chain that is a type alone
  pub ends_alone : (t : PlainAnnotated) (end : ChainEnd) (attributes : List PlainAttribute) (at inner_at : Place) (question : Option Place) → t ≡ plain_annotated at attributes (plain_type inner_at (form_term end.form.now) question) → end.questions ≡ question_count question → end.passed ≡ 0 → Says end.annotations (notes_of attributes) → EndsAt definitions t end
  ends_alone t end attributes at inner_at question is count none said = record {
    notes = notes_of attributes;
    said = said;
    same = λ levels before.
        let here : levels + end.passed ≡ levels = omega arith in
        ap (λ n. meaning_at definitions n (before ++ notes_in t) (type_in t)) here
        ∙ ap (λ a. meaning_at definitions levels (before ++ notes_in a) (type_in a)) is
        ∙ nullable_written (typedef_in (typedefs definitions) levels) (before ++ notes_of attributes) question (written_form definitions (form_term end.form.now))
        ∙ ap (λ n. questioned n (form_meaning definitions levels (before ++ notes_of attributes) (form_term end.form.now))) (sym count);
    gathered = λ levels.
        let here : levels + end.passed ≡ levels = omega arith in
        ap (λ n. notes_in t ++ notes_from definitions n (form_in (type_in t))) here ∙ ap (λ a. notes_in a ++ notes_from definitions levels (form_in (type_in a))) is;
  }

  means_at_end : (form : PlainForm) (end : ChainEnd) → IsEndOf definitions (typedef_of_form definitions form) end → MeansAtEnd definitions form end
  means_at_end (PlainNamed name) end e = by_typedef (typedef_type (meant definitions name.text)) refl e
    where
      by_typedef : (found : Option PlainAnnotated) → typedef_type (meant definitions name.text) ≡ found → IsEndOf definitions found end → MeansAtEnd definitions (PlainNamed name) end
      by_typedef None is h = absurd h
      by_typedef (Some ty) is h =
          let t = typedef_of definitions (meant definitions name.text) ty is in
          record {
            notes = h.notes;
            said = h.said;
            same = λ levels before.
                let fewer : levels + end.passed + 1 ≡ suc (levels + end.passed) = omega arith in
                ap (λ n. form_meaning definitions n before (PlainNamed name)) fewer
                ∙ typedef_means definitions (levels + end.passed) before name t.0 t.1
                ∙ ap (λ a. meaning_at definitions (levels + end.passed) (before ++ notes_in a) (type_in a)) t.2
                ∙ h.same levels before;
            gathered = λ levels.
                let fewer : levels + end.passed + 1 ≡ suc (levels + end.passed) = omega arith in
                ap (λ n. notes_from definitions n (PlainNamed name)) fewer ∙ ap (notes_of_typedef (notes_from definitions (levels + end.passed))) is ∙ h.gathered levels;
          }
  means_at_end form end e = absurd e

  -- the chain of a type that names a typedef, whose own chain has this end
  pub ends_after : (t : PlainAnnotated) (form : PlainForm) (next end : ChainEnd) (attributes : List PlainAttribute) (at inner_at : Place) (question : Option Place) → t ≡ plain_annotated at attributes (plain_type inner_at form question) → IsEndOf definitions (typedef_of_form definitions form) next → end.form ≡ next.form → end.passed ≡ next.passed + 1 → end.questions ≡ capped (question_count question + next.questions)
      → ((more : List Note) → Says next.annotations more → Says end.annotations (notes_of attributes ++ more)) → EndsAt definitions t end
  ends_after t form next end attributes at inner_at question is after form_is passed count both =
      let m = means_at_end form next after in
      record {
        notes = notes_of attributes ++ m.notes;
        said = both m.notes m.said;
        same = λ levels before.
            let own = before ++ notes_of attributes in
            let fewer : levels + end.passed ≡ levels + next.passed + 1 = omega arith in
            ap (λ n. meaning_at definitions n (before ++ notes_in t) (type_in t)) fewer
            ∙ ap (λ a. meaning_at definitions (levels + next.passed + 1) (before ++ notes_in a) (type_in a)) is
            ∙ nullable_written (typedef_in (typedefs definitions) (levels + next.passed + 1)) own question (written_form definitions form)
            ∙ ap (questioned (question_count question)) (m.same levels own)
            ∙ questioned_sum (question_count question) next.questions (form_meaning definitions levels (own ++ m.notes) (form_term next.form.now))
            ∙ ap (λ n. questioned n (form_meaning definitions levels (own ++ m.notes) (form_term next.form.now))) (sym count)
            ∙ ap (λ f. questioned end.questions (form_meaning definitions levels (own ++ m.notes) (form_term f.now))) (sym form_is)
            ∙ ap (λ notes. questioned end.questions (form_meaning definitions levels notes (form_term end.form.now))) (append_assoc before (notes_of attributes) m.notes);
        gathered = λ levels.
            let fewer : levels + end.passed ≡ levels + next.passed + 1 = omega arith in
            ap (λ n. notes_in t ++ notes_from definitions n (form_in (type_in t))) fewer
            ∙ ap (λ a. notes_in a ++ notes_from definitions (levels + next.passed + 1) (form_in (type_in a))) is
            ∙ ap (λ l. notes_of attributes ++ l) (m.gathered levels)
            ∙ sym (append_assoc (notes_of attributes) m.notes (notes_from definitions levels (form_term next.form.now)))
            ∙ ap (λ f. (notes_of attributes ++ m.notes) ++ notes_from definitions levels (form_term f.now)) (sym form_is);
      }

  -- a use of a typedef's name leads to the end of the typedef's chain
  pub leads_to_end : (u next : Use) (end : ChainEnd) → IsEndOf definitions (typedef_of_form definitions (form_term u.form.now)) end → GoesTo u end next → Leads definitions u next
  leads_to_end u next end is g =
      let m = means_at_end (form_term u.form.now) end is in
      record { same = λ notes. (notes ++ m.notes, λ s. g.said notes m.notes s m.said, same notes, gathered notes) }
    where
      gathered : (notes : List Note) → notes ++ notes_from definitions u.typedefs (form_term u.form.now) ≡ (notes ++ (means_at_end (form_term u.form.now) end is).notes) ++ notes_from definitions next.typedefs (form_term next.form.now)
      gathered notes =
          let m = means_at_end (form_term u.form.now) end is in
          ap (λ n. notes ++ notes_from definitions n (form_term u.form.now)) g.fewer
          ∙ ap (λ l. notes ++ l) (m.gathered next.typedefs)
          ∙ sym (append_assoc notes m.notes (notes_from definitions next.typedefs (form_term end.form.now)))
          ∙ ap (λ f. (notes ++ m.notes) ++ notes_from definitions next.typedefs (form_term f.now)) (sym g.form)

      same : (notes : List Note) → meaning_of_use definitions notes u ≡ meaning_of_use definitions (notes ++ (means_at_end (form_term u.form.now) end is).notes) next
      same notes =
          let m = means_at_end (form_term u.form.now) end is in
          ap (λ n. questioned u.questions (form_meaning definitions n notes (form_term u.form.now))) g.fewer
          ∙ ap (questioned u.questions) (m.same next.typedefs notes)
          ∙ questioned_sum u.questions end.questions (form_meaning definitions next.typedefs (notes ++ m.notes) (form_term end.form.now))
          ∙ ap (λ n. questioned n (form_meaning definitions next.typedefs (notes ++ m.notes) (form_term end.form.now))) (sym g.questions)
          ∙ ap (λ f. questioned next.questions (form_meaning definitions next.typedefs (notes ++ m.notes) (form_term f.now))) (sym g.form)
