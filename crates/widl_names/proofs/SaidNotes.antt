-- What two lists of annotations say together.
use Rattle.std.proofs.Common.{◌≡◌, ℕ, ◌+◌, ◌<◌, ◌++◌, Bool, true, false, cond, ◌||◌, List, [], ◌∷◌, length, take, map, get_or, Option, None, Some, option_map, refl, sym, ap, subst, ◌∙◌}
use Rattle.std.specs.Prelude.{option_to_list}
use Rattle.std.specs.List.{cons_option}
use Rattle.std.proofs.lemmas.List.{take_more, map-append}
use Rattle.std.proofs.lemmas.List.Elements.{filter_map-append}
use Rattle.widl_text.specs.declared.place.Place.{Place}
use Rattle.widl_idl.specs.declared.tree.extended_attributes.ExtendedAttribute.{ExtendedAttribute}
use Rattle.widl_idl.specs.First.{FirstWhere, Somewhere, earlier, is_before, violation_at}
use Rattle.widl_idl.specs.PlainTypes.{PlainAttribute, attribute_of}
use Rattle.widl_idl.specs.Resolution.{Annotation, ClampTo, EnforceRange, LegacyNullToEmptyString, Note, ModeNote, earlier_mode, first_mode, has_null_to_empty, is_null_to_empty, mode_note}
use Rattle.widl_idl.specs.WrittenTypes.{annotation_of, note_of, notes_of}
use Rattle.widl_idl.proofs.Order.{before_of, before_trans, not_before, not_before_same, irreflexive}
use Rattle.widl_idl.proofs.Somewhere.{somewhere_both, somewhere_none, somewhere_one}
use Rattle.widl_names.specs.declared.annotations.Annotations.{Annotations}
use Rattle.widl_names.specs.SaidNotes.{NotedAt, Says, StandsFirst, mode_said, said_by}

module _ (m n o : ModeNote) where
  before_both : is_before n.at m.at ≡ true → is_before o.at n.at ≡ true → is_before o.at m.at ≡ false → ⊥
  before_both nm on om = irreflexive o.at (not_before m.at o.at o.at om (before_trans o.at n.at m.at (before_of o.at n.at on) (before_of n.at m.at nm)))

  before_none : is_before n.at m.at ≡ false → is_before o.at n.at ≡ false → is_before o.at m.at ≡ true → ⊥
  before_none nm on om = irreflexive o.at (not_before n.at o.at o.at on (not_before m.at n.at o.at nm (before_of o.at m.at om)))

  three : (nm on om : Bool) → is_before n.at m.at ≡ nm → is_before o.at n.at ≡ on → is_before o.at m.at ≡ om → earlier_mode (cond nm (Some n) (Some m)) (Some o) ≡ earlier_mode (Some m) (cond on (Some o) (Some n))
  three true true true a b c = ap (λ t. cond t (Some o) (Some n)) b ∙ sym (ap (λ t. cond t (Some o) (Some m)) c)
  three true true false a b c = absurd (before_both a b c)
  three true false om a b c = ap (λ t. cond t (Some o) (Some n)) b ∙ sym (ap (λ t. cond t (Some n) (Some m)) a)
  three false true om a b c = refl
  three false false true a b c = absurd (before_none a b c)
  three false false false a b c = ap (λ t. cond t (Some o) (Some m)) c ∙ sym (ap (λ t. cond t (Some n) (Some m)) a)

earlier_none : (m : ModeNote) (b : Bool) (n : ModeNote) → earlier_mode (cond b (Some n) (Some m)) None ≡ cond b (Some n) (Some m)
earlier_none m true n = refl
earlier_none m false n = refl

earlier_assoc : (a b c : Option ModeNote) → earlier_mode (earlier_mode a b) c ≡ earlier_mode a (earlier_mode b c)
earlier_assoc None b c = refl
earlier_assoc (Some m) None c = refl
earlier_assoc (Some m) (Some n) None = earlier_none m (is_before n.at m.at) n
earlier_assoc (Some m) (Some n) (Some o) = three m n o (is_before n.at m.at) (is_before o.at n.at) (is_before o.at m.at) refl refl refl

pub first_append : (notes more : List Note) → first_mode (notes ++ more) ≡ earlier_mode (first_mode notes) (first_mode more)
first_append [] more = refl
first_append (n ∷ notes) more = ap (earlier_mode (mode_note n.annotation n.at)) (first_append notes more) ∙ sym (earlier_assoc (mode_note n.annotation n.at) (first_mode notes) (first_mode more))

or_assoc : (a b c : Bool) → (a || (b || c)) ≡ ((a || b) || c)
or_assoc true b c = refl
or_assoc false b c = refl

pub null_append : (notes more : List Note) → has_null_to_empty (notes ++ more) ≡ (has_null_to_empty notes || has_null_to_empty more)
null_append [] more = refl
null_append (n ∷ notes) more = ap (λ b. is_null_to_empty n.annotation || b) (null_append notes more) ∙ or_assoc (is_null_to_empty n.annotation) (has_null_to_empty notes) (has_null_to_empty more)

-- no annotation says nothing
pub says_none : (said : Annotations) → said.mode ≡ None → said.clamp ≡ None → said.enforce ≡ None → said.null_to_empty ≡ false → Says said []
says_none said mode clamp enforce null = record {
  mode = ap mode_said mode;
  clamp = subst (StandsFirst ClampTo []) (sym clamp) (somewhere_none (NotedAt ClampTo));
  enforce = subst (StandsFirst EnforceRange []) (sym enforce) (somewhere_none (NotedAt EnforceRange));
  null = null;
}

-- of two lists together the first one of an annotation is the earlier of the first ones in each
first_both : (annotation : Annotation) (notes more : List Note) (first second both : Option Place) → option_map violation_at both ≡ earlier (option_map violation_at first) (option_map violation_at second) → StandsFirst annotation notes first → StandsFirst annotation more second → StandsFirst annotation (notes ++ more) both
first_both annotation notes more first second both is a b = subst (FirstWhere (Somewhere (NotedAt annotation) (notes ++ more))) (sym is) (somewhere_both (NotedAt annotation) notes more (option_map violation_at first) (option_map violation_at second) a b)

-- what two lists say together
pub says_both : (first second both : Annotations) (notes more : List Note) → mode_said both.mode ≡ earlier_mode (mode_said first.mode) (mode_said second.mode)
    → option_map violation_at both.clamp ≡ earlier (option_map violation_at first.clamp) (option_map violation_at second.clamp) → option_map violation_at both.enforce ≡ earlier (option_map violation_at first.enforce) (option_map violation_at second.enforce)
    → both.null_to_empty ≡ (first.null_to_empty || second.null_to_empty) → Says first notes → Says second more → Says both (notes ++ more)
says_both first second both notes more mode clamp enforce null a b = record {
  mode = mode ∙ ap (λ m. earlier_mode m (mode_said second.mode)) a.mode ∙ ap (earlier_mode (first_mode notes)) b.mode ∙ sym (first_append notes more);
  clamp = first_both ClampTo notes more first.clamp second.clamp both.clamp clamp a.clamp b.clamp;
  enforce = first_both EnforceRange notes more first.enforce second.enforce both.enforce enforce a.enforce b.enforce;
  null = null ∙ ap (λ t. t || second.null_to_empty) a.null ∙ ap (λ t. has_null_to_empty notes || t) b.null ∙ sym (null_append notes more);
}

abbrev noted : Annotation → Place → Note
noted annotation at = record { annotation = annotation; at = at }

-- one annotation of the kind
here : (annotation : Annotation) (at : Place) → StandsFirst annotation (noted annotation at ∷ []) (Some at)
here annotation at = somewhere_one (NotedAt annotation) (noted annotation at) (Some (violation_at at)) (record { holds = (refl, refl); first = λ t h before. not_before_same (violation_at at) t h.1 before })

-- one annotation of another kind
elsewhere : (annotation other : Annotation) (at : Place) → (other ≡ annotation → ⊥) → StandsFirst annotation (noted other at ∷ []) None
elsewhere annotation other at differs = somewhere_one (NotedAt annotation) (noted other at) None (λ t h. differs h.0)

says_noted : (annotation : Option Annotation) (at : Place) → Says (said_by annotation at) (option_to_list (option_map (λ a. noted a at) annotation))
says_noted None at = says_none (said_by None at) refl refl refl refl
says_noted (Some ClampTo) at = record { mode = refl; clamp = here ClampTo at; enforce = elsewhere EnforceRange ClampTo at (λ e. absurd (cc)); null = refl }
says_noted (Some EnforceRange) at = record { mode = refl; clamp = elsewhere ClampTo EnforceRange at (λ e. absurd (cc)); enforce = here EnforceRange at; null = refl }
says_noted (Some LegacyNullToEmptyString) at = record { mode = refl; clamp = elsewhere ClampTo LegacyNullToEmptyString at (λ e. absurd (cc)); enforce = elsewhere EnforceRange LegacyNullToEmptyString at (λ e. absurd (cc)); null = refl }

-- what an extended attribute says
pub says_one : (a : PlainAttribute) (said : Annotations) → said ≡ said_by (annotation_of a.name.text) a.name.at → Says said (option_to_list (note_of a))
says_one a said is = subst (λ r. Says r (option_to_list (note_of a))) (sym is) (says_noted (annotation_of a.name.text) a.name.at)

-- the annotations among the first extended attributes, with one more
pub notes_more : (attributes : List ExtendedAttribute) (i : ℕ) (a : ExtendedAttribute) → i < length attributes → a ≡ get_or attributes i a → notes_of (map attribute_of (take i attributes)) ++ option_to_list (note_of (attribute_of a)) ≡ notes_of (map attribute_of (take (i + 1) attributes))
notes_more attributes i a below is =
    ap (λ l. notes_of (map attribute_of (take i attributes)) ++ l) (one (note_of (attribute_of a)))
    ∙ sym (filter_map-append note_of (map attribute_of (take i attributes)) (attribute_of a ∷ []))
    ∙ ap notes_of (sym (map-append attribute_of (take i attributes) (a ∷ [])))
    ∙ ap (λ l. notes_of (map attribute_of l)) (sym (take_more attributes i a below ∙ ap (λ y. take i attributes ++ y ∷ []) (sym is)))
  where
    one : (o : Option Note) → option_to_list o ≡ cons_option o []
    one None = refl
    one (Some n) = refl
