-- What is listed of a type after extended attributes, and of the members of a union.
use Rattle.std.proofs.Common.{◌≡◌, refl, ◌++◌, List, [], ◌∷◌, flat_map, Option, sym, ap, subst, ◌∙◌}
use Rattle.std.proofs.lemmas.List.{append_assoc}
use Rattle.widl_text.specs.declared.place.Place.{Place}
use Rattle.widl_idl.specs.declared.tree.types.AnnotatedType.{AnnotatedType}
use Rattle.widl_idl.specs.PlainTypes.{PlainAttribute, PlainForm, PlainType, PlainAnnotated, plain_type, plain_annotated, annotated_of, union_of}
use Rattle.widl_overload.specs.rules.TypeUses.{TypeUse, uses_in_form, uses_of_annotated, uses_of_union}
use Rattle.widl_overload.specs.declared.type_role.TypeRole.{TypeRole}
use Rattle.widl_overload.specs.declared.type_role.TypeRole.TheVariants as role

module _ (as_role : TypeRole) (outer own : List PlainAttribute) (first at : Place) (form : PlainForm) (question : Option Place) where
  abbrev use_with : List PlainAttribute → PlainType → TypeUse
  use_with read t = record { role = as_role; attributes = outer ++ read; first = first; ty = t }

  uses_are : (t : PlainType) → t ≡ plain_type at form question → uses_of_annotated as_role outer (plain_annotated first own t) ≡ use_with own t ∷ uses_in_form form
  uses_are t is = subst (λ x. uses_of_annotated as_role outer (plain_annotated first own x) ≡ use_with own x ∷ uses_in_form form) (sym is) refl

  -- a type is added, and then those inside it
  pub annotated_added : (read : List PlainAttribute) (t : PlainType) (ty : PlainAnnotated) (old between new : List TypeUse) → ty ≡ plain_annotated first own t → t ≡ plain_type at form question → read ≡ own → between ≡ old ++ use_with read t ∷ [] → new ≡ between ++ uses_in_form form → new ≡ old ++ uses_of_annotated as_role outer ty
  annotated_added read t ty old between new is type_is same added inside =
      inside
      ∙ ap (λ l. l ++ uses_in_form form) (added ∙ ap (λ l. old ++ use_with l t ∷ []) same)
      ∙ append_assoc old (use_with own t ∷ []) (uses_in_form form)
      ∙ ap (λ l. old ++ l) (sym (uses_are t type_is))
      ∙ ap (λ a. old ++ uses_of_annotated as_role outer a) (sym is)

-- the member types of a union, as a loop over them lists them
pub union_listed : (members : List AnnotatedType) → flat_map (λ m. uses_of_annotated role.UnionMember [] (annotated_of m)) members ≡ uses_of_union (union_of members)
union_listed [] = refl
union_listed (m ∷ members) = ap (λ uses. uses_of_annotated role.UnionMember [] (annotated_of m) ++ uses) (union_listed members)
