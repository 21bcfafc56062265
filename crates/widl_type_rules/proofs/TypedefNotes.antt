-- The annotations of the typedefs that a type leads to.
use Rattle.std.proofs.Common.{◌≡◌, ℕ, ◌++◌, false, List, [], length, zero, suc, Option, None, Some, option_map, slice_get, refl, sym, ap, ◌∙◌}
use Rattle.std.specs.Prelude.{option_and_then}
use Rattle.std.proofs.lemmas.List.Elements.{filter_map-append}
use Rattle.widl_text.specs.declared.place.Place.{Place}
use Rattle.widl_idl.specs.declared.kind.Kind.{Kind}
use Rattle.widl_idl.specs.declared.kind.Kind.TheVariants as kinds
use Rattle.widl_idl.specs.declared.tree.types.Container.{Container}
use Rattle.widl_idl.specs.declared.tree.types.Container.TheVariants as container
use Rattle.widl_idl.specs.Meanings.{kind_of, meaning, meant, meant_kind, same_kind}
use Rattle.widl_idl.specs.PlainTrees.{PlainDefinition, PlainKind, PlainTypedef, TypedefDefinition}
use Rattle.widl_idl.specs.PlainTypes.{PlainAttribute, PlainForm, PlainType, PlainAnnotated, PlainName, PlainNamed, PlainContainer, PlainRecord, plain_type, plain_annotated}
use Rattle.widl_idl.specs.Resolution.{Note, WrittenType, TypedefName, NullableOf}
use Rattle.widl_idl.specs.WrittenTypes.{container_of, note_of, notes_of, nullable_if, type_of_kind, type_of_meaning, typedef_in_tree, typedefs, written_form, written_type}
use Rattle.widl_names.specs.TypeUses.{form_in, notes_from, notes_in as own_notes, notes_of_typedef as notes_of_typed, type_in, typedef_notes, typedef_of_form, typedef_type}
use Rattle.widl_names.proofs.KindNumbers.{typedef_numbered}
use Rattle.widl_overload.specs.rules.TypeRules.{notes_after, notes_in, notes_of_typedef}

some_is : {A : Type 0} {a b : A} → Some a ≡ Some b → a ≡ b
some_is e = (cc)

-- where no level is left nothing is gathered
none_at_zero : (definitions : List PlainDefinition) (w : WrittenType) → notes_in (notes_after (typedefs definitions) zero) w ≡ []
none_at_zero definitions (TypedefName n) = refl
none_at_zero definitions (NullableOf t) = none_at_zero definitions t
none_at_zero definitions w = refl

-- a `?` changes nothing
notes_under : (inner : ℕ → List Note) (question : Option Place) (w : WrittenType) → notes_in inner (nullable_if question w) ≡ notes_in inner w
notes_under inner None w = refl
notes_under inner (Some p) w = refl

module _ (definitions : List PlainDefinition) (levels : ℕ) where
  abbrev inner : ℕ → List Note
  inner = notes_after (typedefs definitions) levels

  of_kind : (kind : Kind) (n : ℕ) → same_kind kinds.Typedef kind ≡ false → notes_in inner (type_of_kind kind n) ≡ []
  of_kind kinds.Typedef n other = absurd (cc)
  of_kind kind n other = refl

  not_typedef : (kind : PlainKind) → typedef_type (Some kind) ≡ None → same_kind kinds.Typedef (kind_of kind) ≡ false
  not_typedef (TypedefDefinition t) e = absurd (cc)
  not_typedef kind e = refl

  of_meaning : (number : Option ℕ) (kind : Option PlainKind) → typedef_type kind ≡ None → notes_in inner (type_of_meaning definitions number (option_map kind_of kind)) ≡ []
  of_meaning None kind none = refl
  of_meaning (Some n) None none = refl
  of_meaning (Some n) (Some kind) none = of_kind (kind_of kind) _ (not_typedef kind none)

  of_container : (kind : Container) (notes : List Note) (w : WrittenType) → notes_in inner (container_of kind notes w) ≡ []
  of_container container.Sequence notes w = refl
  of_container kind notes w = refl

  -- a form that names no typedef leads to no annotations
  no_notes : (form : PlainForm) → typedef_of_form definitions form ≡ None → notes_in inner (written_form definitions form) ≡ []
  no_notes (PlainNamed name) none = of_meaning (meaning definitions name.text) (meant definitions name.text) none
  no_notes (PlainContainer kind (plain_annotated at attributes t)) none = of_container kind (notes_of attributes) (written_type definitions t)
  no_notes (PlainRecord key (plain_annotated at attributes t)) none = refl
  no_notes form none = refl

module _ (definitions : List PlainDefinition) (levels : ℕ) where
  meant_at : (text : List ℕ) (kind : PlainKind) → meant definitions text ≡ Some kind → (y : ℕ) × (meaning definitions text ≡ Some y) × (option_map (λ (d : PlainDefinition). d.kind) (slice_get definitions y) ≡ Some kind)
  meant_at text kind e = by_number (meaning definitions text) e
    where
      by_number : (m : Option ℕ) → option_map (λ (d : PlainDefinition). d.kind) (option_and_then (slice_get definitions) m) ≡ Some kind → (y : ℕ) × (m ≡ Some y) × (option_map (λ (d : PlainDefinition). d.kind) (slice_get definitions y) ≡ Some kind)
      by_number None h = absurd (cc)
      by_number (Some y) h = (y, refl, h)

  typedef_of : (kind : Option PlainKind) (ty : PlainAnnotated) → typedef_type kind ≡ Some ty → (t : PlainTypedef) × (kind ≡ Some (TypedefDefinition t)) × (t.ty ≡ ty)
  typedef_of (Some (TypedefDefinition t)) ty e = (t, refl, some_is e)
  typedef_of kind ty e = absurd (cc)

  in_tree : (f : ℕ → List Note) (a : PlainAnnotated) → notes_of_typedef f (Some (typedef_in_tree definitions a)) ≡ own_notes a ++ notes_in f (written_type definitions (type_in a))
  in_tree f (plain_annotated at attributes t) = refl

  -- the name of a typedef leads to its annotations, and to those after it
  named_notes : (name : PlainName) (ty : PlainAnnotated) → typedef_type (meant definitions name.text) ≡ Some ty → notes_in (notes_after (typedefs definitions) (suc levels)) (written_form definitions (PlainNamed name)) ≡ own_notes ty ++ notes_in (notes_after (typedefs definitions) levels) (written_type definitions (type_in ty))
  named_notes name ty is =
      let t = typedef_of (meant definitions name.text) ty is in
      let a = meant_at name.text (TypedefDefinition t.0) t.1 in
      let f : ℕ → List Note = notes_after (typedefs definitions) levels in
      ap (λ m. notes_in (notes_after (typedefs definitions) (suc levels)) (type_of_meaning definitions m (meant_kind definitions name.text))) a.1
      ∙ ap (λ k. notes_in (notes_after (typedefs definitions) (suc levels)) (type_of_meaning definitions (Some a.0) (option_map kind_of k))) t.1
      ∙ ap (notes_of_typedef f) (typedef_numbered definitions a.0 t.0 a.2)
      ∙ in_tree f t.0.ty
      ∙ ap (λ a. own_notes a ++ notes_in f (written_type definitions (type_in a))) t.2

  typed_notes : (form : PlainForm) (ty : PlainAnnotated) → typedef_of_form definitions form ≡ Some ty → notes_in (notes_after (typedefs definitions) (suc levels)) (written_form definitions form) ≡ own_notes ty ++ notes_in (notes_after (typedefs definitions) levels) (written_type definitions (type_in ty))
  typed_notes (PlainNamed name) ty is = named_notes name ty is
  typed_notes form ty is = absurd (cc)

module _ (definitions : List PlainDefinition) where
  after_question : (levels : ℕ) (t : PlainType) → notes_in (notes_after (typedefs definitions) levels) (written_form definitions (form_in t)) ≡ notes_in (notes_after (typedefs definitions) levels) (written_type definitions t)
  after_question levels (plain_type at form question) = sym (notes_under (notes_after (typedefs definitions) levels) question (written_form definitions form))

  -- the annotations that a form leads to by the names of typedefs are those that it leads to by their numbers
  by_number : (levels : ℕ) (form : PlainForm) → notes_from definitions levels form ≡ notes_in (notes_after (typedefs definitions) levels) (written_form definitions form)
  by_number zero form = sym (none_at_zero definitions (written_form definitions form))
  by_number (suc levels) form = by_typedef (typedef_of_form definitions form) refl (by_number levels)
    where
      by_typedef : (found : Option PlainAnnotated) → typedef_of_form definitions form ≡ found → ((inner : PlainForm) → notes_from definitions levels inner ≡ notes_in (notes_after (typedefs definitions) levels) (written_form definitions inner)) → notes_of_typed (notes_from definitions levels) found ≡ notes_in (notes_after (typedefs definitions) (suc levels)) (written_form definitions form)
      by_typedef None is same = sym (no_notes definitions (suc levels) form is)
      by_typedef (Some ty) is same = ap (λ l. own_notes ty ++ l) (same (form_in (type_in ty)) ∙ after_question levels (type_in ty)) ∙ sym (typed_notes definitions levels form ty is)

  -- all annotations of a type
  pub all_written : (outer own : List PlainAttribute) (t : PlainType) → (notes_of outer ++ notes_of own) ++ typedef_notes definitions t ≡ notes_of (outer ++ own) ++ notes_in (notes_after (typedefs definitions) (length (typedefs definitions))) (written_type definitions t)
  all_written outer own t =
      ap (λ l. l ++ typedef_notes definitions t) (sym (filter_map-append note_of outer own))
      ∙ ap (λ l. notes_of (outer ++ own) ++ l) (by_number (length (typedefs definitions)) (form_in t) ∙ after_question (length (typedefs definitions)) t)
