-- Uses of types, and where they lead.
use Rattle.std.proofs.Common.{◌≡◌, ℕ, ◌+◌, ◌++◌, false, zero, suc, List, [], ◌∷◌, map, Option, None, Some, option_map, slice_get, arith, refl, sym, ap, subst, ◌∙◌}
use Rattle.std.specs.Prelude.{option_and_then}
use Rattle.std.proofs.lemmas.List.{append-nil}
use Rattle.widl_text.specs.declared.place.Place.{Place}
use Rattle.widl_idl.specs.declared.kind.Kind.{Kind}
use Rattle.widl_idl.specs.declared.kind.Kind.TheVariants as kinds
use Rattle.widl_idl.specs.declared.tree.types.AnnotatedType.{AnnotatedType}
use Rattle.widl_idl.specs.declared.tree.types.Container.{Container}
use Rattle.widl_idl.specs.declared.tree.types.Container.TheVariants as container
use Rattle.widl_idl.specs.Meanings.{kind_of, meaning, meant, meant_kind}
use Rattle.widl_idl.specs.MergingRules.{is_kind}
use Rattle.widl_idl.specs.PlainTrees.{PlainDefinition, PlainKind, PlainTypedef, TypedefDefinition}
use Rattle.widl_idl.specs.PlainTypes.{PlainForm, PlainName, PlainType, PlainAnnotated, PlainMembers, PlainNamed, PlainContainer, PlainRecord, plain_type, plain_annotated, more_plain, annotated_of, form_term, union_of}
use Rattle.widl_idl.specs.declared.text_kind.TextKind.{TextKind}
use Rattle.widl_idl.specs.Resolution.{Note, WrittenType, nullable_of, resolved, resolved_members, resolved_typedef, typedef_in}
use Rattle.widl_idl.specs.Terms.{TypeTerm, NullableType, RecordType, more_types, packed}
use Rattle.widl_idl.specs.WrittenTypes.{named_type, nullable_if, type_of_meaning, typedef_in_tree, typedefs, written_form, written_members, written_type}
use Rattle.widl_names.specs.declared.annotations.Annotations.{Annotations}
use Rattle.widl_names.specs.declared.extent.Extent.{Extent}
use Rattle.widl_names.specs.declared.resolver.Use.{Use}
use Rattle.widl_names.specs.Extents.{made}
use Rattle.widl_names.specs.SaidNotes.{Says}
use Rattle.widl_names.specs.TypeUses.{Leads, MeansWritten, capped, container_meaning, form_in, form_meaning, is_followed, meaning_at, meaning_of_form, meaning_of_use, notes_from, notes_in, notes_of_typedef, own_meaning, question_count, questioned, type_in, typedef_of_form, typedef_type, without_parts}
use Rattle.widl_names.proofs.KindNumbers.{typedef_numbered}

-- a third `?` adds nothing
three_as_two : (t : TypeTerm) → questioned 3 t ≡ questioned 2 t
three_as_two (NullableType t) = by_inner t
  where
    by_inner : (t : TypeTerm) → questioned 3 (NullableType t) ≡ questioned 2 (NullableType t)
    by_inner (NullableType t) = refl
    by_inner t = refl
three_as_two t = refl

more_as_two : (n : ℕ) (t : TypeTerm) → questioned (suc (suc n)) t ≡ questioned 2 t
more_as_two zero t = refl
more_as_two (suc n) t = ap nullable_of (more_as_two n t) ∙ three_as_two t

pub questioned_capped : (n : ℕ) (t : TypeTerm) → questioned (capped n) t ≡ questioned n t
questioned_capped zero t = refl
questioned_capped (suc zero) t = refl
questioned_capped (suc (suc n)) t = let e : capped (suc (suc n)) ≡ 2 = omega arith in ap (λ k. questioned k t) e ∙ sym (more_as_two n t)

-- one `?` more
pub questioned_more : (n : ℕ) (t : TypeTerm) → nullable_of (questioned n t) ≡ questioned (n + 1) t
questioned_more n t = let e : suc n ≡ n + 1 = omega arith in ap (λ k. questioned k t) e

questioned_added : (m n : ℕ) (t : TypeTerm) → questioned m (questioned n t) ≡ questioned (m + n) t
questioned_added zero n t = let e : n ≡ zero + n = omega arith in ap (λ k. questioned k t) e
questioned_added (suc m) n t = let e : suc (m + n) ≡ suc m + n = omega arith in ap nullable_of (questioned_added m n t) ∙ ap (λ k. questioned k t) e

pub questioned_sum : (m n : ℕ) (t : TypeTerm) → questioned m (questioned n t) ≡ questioned (capped (m + n)) t
questioned_sum m n t = questioned_added m n t ∙ sym (questioned_capped (m + n) t)

pub nullable_written : (f : ℕ → List Note → TypeTerm) (notes : List Note) (question : Option Place) (w : WrittenType) → resolved f notes (nullable_if question w) ≡ questioned (question_count question) (resolved f notes w)
nullable_written f notes None w = refl
nullable_written f notes (Some p) w = refl

-- a use of a type as it is written
pub means_written : (u : Use) (t : PlainType) (at : Place) (question : Option Place) → t ≡ plain_type at (form_term u.form.now) question → u.questions ≡ question_count question → MeansWritten u t
means_written u t at question is count = record {
  same = λ definitions notes.
      ap (λ n. questioned n (form_meaning definitions u.typedefs notes (form_term u.form.now))) count
      ∙ sym (nullable_written (typedef_in (typedefs definitions) u.typedefs) notes question (written_form definitions (form_term u.form.now)))
      ∙ ap (meaning_at definitions u.typedefs notes) (sym is);
}

-- what a use of a type means is what the type as it is written does
pub use_means : (definitions : List PlainDefinition) (u : Use) (t : PlainType) (annotations : Annotations) (levels : ℕ) → MeansWritten u t → u.annotations ≡ annotations → u.typedefs ≡ levels → (x : TypeTerm) → ((notes : List Note) → Says u.annotations notes → x ≡ meaning_of_use definitions notes u) → (notes : List Note) → Says annotations notes → x ≡ meaning_at definitions levels notes t
use_means definitions u t annotations levels written same count x so notes said = so notes (subst (λ a. Says a notes) (sym same) said) ∙ written.same definitions notes ∙ ap (λ l. meaning_at definitions l notes t) count

-- the same of what is made of it
pub use_made : (definitions : List PlainDefinition) (extent : Extent) (u : Use) (t : PlainType) (annotations : Annotations) (levels : ℕ) → MeansWritten u t → u.annotations ≡ annotations → u.typedefs ≡ levels → (x : TypeTerm) → ((notes : List Note) → Says u.annotations notes → x ≡ made extent (meaning_of_use definitions notes u)) → (notes : List Note) → Says annotations notes → x ≡ made extent (meaning_at definitions levels notes t)
use_made definitions extent u t annotations levels written same count x so notes said = so notes (subst (λ a. Says a notes) (sym same) said) ∙ ap (made extent) (written.same definitions notes ∙ ap (λ l. meaning_at definitions l notes t) count)

pub leads_here : (definitions : List PlainDefinition) (u : Use) → Leads definitions u u
leads_here definitions u = record { same = λ notes. (notes, λ s. s, refl, refl) }

pub leads_on : (definitions : List PlainDefinition) (u v w : Use) → Leads definitions u v → Leads definitions v w → Leads definitions u w
leads_on definitions u v w l m = record { same = λ notes. let a = l.same notes in let b = m.same a.0 in (b.0, λ s. b.1 (a.1 s), a.2 ∙ b.2, a.3 ∙ b.3) }

module _ (definitions : List PlainDefinition) where
  meant_at : (text : List ℕ) (kind : PlainKind) → meant definitions text ≡ Some kind → (y : ℕ) × (meaning definitions text ≡ Some y) × (option_map (λ d. d.kind) (slice_get definitions y) ≡ Some kind)
  meant_at text kind e = by_number (meaning definitions text) e
    where
      by_number : (m : Option ℕ) → option_map (λ d. d.kind) (option_and_then (slice_get definitions) m) ≡ Some kind → (y : ℕ) × (m ≡ Some y) × (option_map (λ d. d.kind) (slice_get definitions y) ≡ Some kind)
      by_number None h = absurd (cc)
      by_number (Some y) h = (y, refl, h)

  tree_means : (f : ℕ → List Note → TypeTerm) (notes : List Note) (a : PlainAnnotated) → resolved_typedef f notes (Some (typedef_in_tree definitions a)) ≡ resolved f (notes ++ notes_in a) (written_type definitions (type_in a))
  tree_means f notes (plain_annotated at attributes inner) = refl

  -- the name of a typedef means its type
  pub typedef_means : (levels : ℕ) (notes : List Note) (name : PlainName) (t : PlainTypedef) → meant definitions name.text ≡ Some (TypedefDefinition t) → form_meaning definitions (suc levels) notes (PlainNamed name) ≡ meaning_at definitions levels (notes ++ notes_in t.ty) (type_in t.ty)
  typedef_means levels notes name t is =
      let a = meant_at name.text (TypedefDefinition t) is in
      let inner : ℕ → List Note → TypeTerm = typedef_in (typedefs definitions) levels in
      ap (λ m. resolved (typedef_in (typedefs definitions) (suc levels)) notes (type_of_meaning definitions m (meant_kind definitions name.text))) a.1
      ∙ ap (λ k. resolved (typedef_in (typedefs definitions) (suc levels)) notes (type_of_meaning definitions (Some a.0) (option_map kind_of k))) is
      ∙ ap (resolved_typedef inner notes) (typedef_numbered definitions a.0 t a.2)
      ∙ tree_means inner notes t.ty

  pub typedef_of : (kind : Option PlainKind) (ty : PlainAnnotated) → typedef_type kind ≡ Some ty → (t : PlainTypedef) × (kind ≡ Some (TypedefDefinition t)) × (t.ty ≡ ty)
  typedef_of (Some (TypedefDefinition t)) ty e = (t, refl, some_is e)
    where
      some_is : Some t.ty ≡ Some ty → t.ty ≡ ty
      some_is f = (cc)
  typedef_of kind ty e = absurd (cc)

  -- the typedef that a form names stands under the number that the form's name means
  pub typedef_by_meaning : (form : PlainForm) → typedef_of_form definitions form ≡ typedef_type (option_map (λ d. d.kind) (option_and_then (slice_get definitions) (meaning_of_form definitions form)))
  typedef_by_meaning (PlainNamed name) = refl
  typedef_by_meaning form = refl

  -- the same, where the number is known
  pub typedef_under : (form : PlainForm) (found : Option ℕ) → found ≡ meaning_of_form definitions form → typedef_of_form definitions form ≡ typedef_type (option_map (λ d. d.kind) (option_and_then (slice_get definitions) found))
  typedef_under form found e = typedef_by_meaning form ∙ ap (λ m. typedef_type (option_map (λ d. d.kind) (option_and_then (slice_get definitions) m))) (sym e)

  at_no_level : (notes : List Note) (number : Option ℕ) (kind : Option Kind) → resolved (typedef_in (typedefs definitions) zero) notes (type_of_meaning definitions number kind) ≡ without_parts (type_of_meaning definitions number kind)
  at_no_level notes (Some n) (Some kinds.Typedef) = refl
  at_no_level notes (Some n) (Some kind) = refl
  at_no_level notes number kind = refl

  at_level : (levels : ℕ) (notes : List Note) (number : Option ℕ) (kind : Option Kind) → is_kind kinds.Typedef kind ≡ false → resolved (typedef_in (typedefs definitions) (suc levels)) notes (type_of_meaning definitions number kind) ≡ without_parts (type_of_meaning definitions number kind)
  at_level levels notes (Some n) (Some kinds.Typedef) e = absurd (cc)
  at_level levels notes (Some n) (Some kind) e = refl
  at_level levels notes number kind e = refl

  -- what a name means that is not followed
  pub named_last : (levels : ℕ) (notes : List Note) (name : PlainName) → is_followed definitions levels (PlainNamed name) ≡ false → form_meaning definitions levels notes (PlainNamed name) ≡ without_parts (named_type definitions name)
  named_last zero notes name e = at_no_level notes (meaning definitions name.text) (meant_kind definitions name.text)
  named_last (suc levels) notes name e = at_level levels notes (meaning definitions name.text) (meant_kind definitions name.text) e

  -- a form that is not followed leads to no annotations
  pub last_notes : (levels : ℕ) (form : PlainForm) → is_followed definitions levels form ≡ false → notes_from definitions levels form ≡ []
  last_notes zero form e = refl
  last_notes (suc levels) (PlainNamed name) e = by_kind (meant definitions name.text) e
    where
      by_kind : (kind : Option PlainKind) → is_kind kinds.Typedef (option_map kind_of kind) ≡ false → notes_of_typedef (notes_from definitions levels) (typedef_type kind) ≡ []
      by_kind (Some (TypedefDefinition t)) f = absurd (cc)
      by_kind kind f = refl
  last_notes (suc levels) form e = refl

  -- the annotations that a use of a type leads to are said where it ends
  pub gathered_last : (u v : Use) (annotations : Annotations) (t : PlainType) (levels : ℕ) → Leads definitions u v → is_followed definitions v.typedefs (form_term v.form.now) ≡ false → u.annotations ≡ annotations → form_term u.form.now ≡ form_in t → u.typedefs ≡ levels → (notes : List Note) → Says annotations notes → Says v.annotations (notes ++ notes_from definitions levels (form_in t))
  gathered_last u v annotations t levels leads last before form count notes said =
      let m = leads.same notes in
      subst (Says v.annotations)
      (sym (ap (λ f. notes ++ notes_from definitions levels f) (sym form) ∙ ap (λ n. notes ++ notes_from definitions n (form_term u.form.now)) (sym count) ∙ m.3 ∙ ap (λ l. m.0 ++ l) (last_notes v.typedefs (form_term v.form.now) last) ∙ append-nil m.0))
      (m.1 (subst (λ a. Says a notes) (sym before) said))

  pub container_means : (levels : ℕ) (notes : List Note) (kind : Container) (inner : PlainAnnotated) → form_meaning definitions levels notes (PlainContainer kind inner) ≡ container_meaning definitions levels kind inner
  container_means levels notes container.Sequence (plain_annotated at attributes inner) = refl
  container_means levels notes kind (plain_annotated at attributes inner) = refl

  pub record_means : (levels : ℕ) (notes : List Note) (key : TextKind) (inner : PlainAnnotated) → form_meaning definitions levels notes (PlainRecord key inner) ≡ RecordType key (own_meaning definitions levels inner)
  record_means levels notes key (plain_annotated at attributes inner) = refl

  module _ (levels : ℕ) where
    one_member : (member : PlainAnnotated) (more : PlainMembers) → more_types (own_meaning definitions levels member) (resolved_members (typedef_in (typedefs definitions) levels) (written_members definitions more)) ≡ resolved_members (typedef_in (typedefs definitions) levels) (written_members definitions (more_plain member more))
    one_member (plain_annotated at attributes inner) more = refl

    -- what the members of a union mean, each by itself
    pub members_mean : (members : List AnnotatedType) → packed (map (λ m. own_meaning definitions levels (annotated_of m)) members) ≡ resolved_members (typedef_in (typedefs definitions) levels) (written_members definitions (union_of members))
    members_mean [] = refl
    members_mean (m ∷ members) = ap (more_types (own_meaning definitions levels (annotated_of m))) (members_mean members) ∙ one_member (annotated_of m) (union_of members)
