-- The rules on types ask no more of what a type means than its outline tells.
use Rattle.std.proofs.Common.{◌≡◌, ◌+◌, ◌<◌, ◌++◌, Bool, true, ◌||◌, List, [], ◌∷◌, map, nat_eq, not, Option, None, Some, refl, sym, ap, subst, ◌∙◌}
use Rattle.std.proofs.lemmas.List.{map-append}
use Rattle.std.proofs.lemmas.Result.{IfOk-weaker}
use Rattle.std.specs.Prelude.{IfOk, Result}
use Rattle.std.specs.List.{list_any}
use Rattle.widl_idl.specs.declared.refusal.Refusal.{Refusal}
use Rattle.widl_idl.specs.declared.violation.Violation.{Violation}
use Rattle.widl_idl.specs.DefinitionTerms.{IfaceTerm}
use Rattle.widl_idl.specs.First.{Somewhere}
use Rattle.widl_idl.specs.Flattened.{flattened_member, flattened_members, inner_nullable_members, nullable_members, nullable_one}
use Rattle.widl_idl.specs.MergingRules.{IsAt}
use Rattle.widl_idl.specs.PlainTrees.{PlainDefinition}
use Rattle.widl_idl.specs.PlainTypes.{PlainAttribute}
use Rattle.widl_idl.specs.Resolution.{Annotation, ClampTo, EnforceRange, LegacyNullToEmptyString}
use Rattle.widl_idl.specs.Terms.{TypeTerm, TypeTerms, NullableType, UnionType, no_types, more_types}
use Rattle.widl_idl.specs.WrittenTypes.{annotation_of}
use Rattle.widl_names.specs.declared.extent.Extent.TheVariants.{Outline}
use Rattle.widl_names.specs.Extents.{made_members, outline}
use Rattle.widl_overload.specs.declared.validity_rule.ValidityRule.{ValidityRule}
use Rattle.widl_overload.specs.declared.validity_rule.ValidityRule.TheVariants as rule
use Rattle.widl_overload.specs.rules.OnTypes.{BreaksType, BreaksUse, type_rules, with_meaning}
use Rattle.widl_overload.specs.rules.TypeUses.{TypeUse, meaning_of_use}
use Rattle.widl_idl.specs.StringTypes.{is_unit_string}
use Rattle.widl_overload.specs.rules.TypeRules.{is_annotated, is_constant_type, is_copied, is_integer, is_misplaced, is_never_nullable, is_nullable_dictionary, is_wrongly_nullable, members_of_union, without_nullable}
use Rattle.widl_overload.specs.sets.Distinct.{category, is_dictionary}
use Rattle.widl_refusals.specs.Refusals.{IsFirst}
use Rattle.widl_refusals.proofs.FirstRefusals.{same_breaks}
use Rattle.widl_type_rules.specs.UsesListed.{outlined}
use Rattle.widl_type_rules.proofs.FlatMembers.{members_flat}
use Rattle.widl_type_rules.proofs.IndistinguishablePairs.{same_pair}

mutual
  flattened_outline : (t : TypeTerm) → flattened_member (outline t) ≡ map outline (flattened_member t)
  flattened_outline (NullableType t) = flattened_outline t
  flattened_outline (UnionType ts) = flattened_outlines ts
  flattened_outline t = refl

  flattened_outlines : (ts : TypeTerms) → flattened_members (made_members Outline ts) ≡ map outline (flattened_members ts)
  flattened_outlines no_types = refl
  flattened_outlines (more_types t ts) = (λ j. flattened_outline t j ++ flattened_outlines ts j) ∙ sym (map-append outline (flattened_member t) (flattened_members ts))

one_outline : (t : TypeTerm) → nullable_one (outline t) ≡ nullable_one t
one_outline (NullableType t) = refl
one_outline t = refl

mutual
  nullable_outlines : (ts : TypeTerms) → nullable_members (made_members Outline ts) ≡ nullable_members ts
  nullable_outlines no_types = refl
  nullable_outlines (more_types t ts) = λ j. one_outline t j + inner_outline t j + nullable_outlines ts j

  inner_outline : (t : TypeTerm) → inner_nullable_members (outline t) ≡ inner_nullable_members t
  inner_outline (NullableType t) = inner_outline t
  inner_outline (UnionType ts) = nullable_outlines ts
  inner_outline t = refl

any_outlined : (p : TypeTerm → Bool) → ((t : TypeTerm) → p (outline t) ≡ p t) → (ts : List TypeTerm) → list_any p (map outline ts) ≡ list_any p ts
any_outlined p same [] = refl
any_outlined p same (t ∷ ts) = λ j. same t j || any_outlined p same ts j

copied_outline : (t : TypeTerm) → is_copied (outline t) ≡ is_copied t
copied_outline (NullableType t) = refl
copied_outline t = refl

dictionary_outline : (t : TypeTerm) → is_dictionary (outline t) ≡ is_dictionary t
dictionary_outline (NullableType t) = refl
dictionary_outline t = refl

category_outline : (t : TypeTerm) → category (outline t) ≡ category t
category_outline (NullableType t) = refl
category_outline t = refl

categories_outlined : (ts : List TypeTerm) → map category (map outline ts) ≡ map category ts
categories_outlined [] = refl
categories_outlined (t ∷ ts) = λ j. category_outline t j ∷ categories_outlined ts j

members_outline : (t : TypeTerm) → members_of_union (outline t) ≡ made_members Outline (members_of_union t)
members_outline (NullableType t) = members_outline t
members_outline t = refl

any_dictionary_outline : (ts : TypeTerms) → list_any is_dictionary (flattened_members (made_members Outline ts)) ≡ list_any is_dictionary (flattened_members ts)
any_dictionary_outline ts = ap (list_any is_dictionary) (flattened_outlines ts) ∙ any_outlined is_dictionary dictionary_outline (flattened_members ts)

never_outline : (t : TypeTerm) → is_never_nullable (outline t) ≡ is_never_nullable t
never_outline (UnionType ts) = λ j. nat_eq (nullable_outlines ts j) 1 || any_dictionary_outline ts j
never_outline t = refl

wrongly_outline : (t : TypeTerm) → is_wrongly_nullable (outline t) ≡ is_wrongly_nullable t
wrongly_outline (NullableType t) = never_outline t
wrongly_outline t = refl

annotated_outline : (t : TypeTerm) → is_annotated (outline t) ≡ is_annotated t
annotated_outline (NullableType t) = annotated_outline t
annotated_outline t = refl

nullable_dictionary_outline : (t : TypeTerm) → is_nullable_dictionary (outline t) ≡ is_nullable_dictionary t
nullable_dictionary_outline (NullableType t) = dictionary_outline t
nullable_dictionary_outline t = refl

constant_outline : (t : TypeTerm) → is_constant_type (outline t) ≡ is_constant_type t
constant_outline (NullableType t) = refl
constant_outline t = refl

without_outline : (t : TypeTerm) → without_nullable (outline t) ≡ outline (without_nullable t)
without_outline (NullableType t) = without_outline t
without_outline t = refl

integer_outline : (t : TypeTerm) → is_integer (outline t) ≡ is_integer t
integer_outline (NullableType t) = refl
integer_outline t = refl

unit_string_outline : (t : TypeTerm) → is_unit_string (outline t) ≡ is_unit_string t
unit_string_outline (NullableType t) = refl
unit_string_outline t = refl

misplaced_outline : (t : TypeTerm) (a : Option Annotation) → is_misplaced (outline t) a ≡ is_misplaced t a
misplaced_outline t None = refl
misplaced_outline t (Some ClampTo) = ap not (integer_outline t)
misplaced_outline t (Some EnforceRange) = ap not (integer_outline t)
misplaced_outline t (Some LegacyNullToEmptyString) = ap not (unit_string_outline t)

-- the rules on types ask the same of two types
record AreAlike (t u : TypeTerm) : Type 0 where
  constant : is_constant_type t ≡ is_constant_type u
  copied : list_any is_copied (flattened_member t) ≡ list_any is_copied (flattened_member u)
  wrongly : is_wrongly_nullable t ≡ is_wrongly_nullable u
  nullable : nullable_members (members_of_union t) ≡ nullable_members (members_of_union u)
  dictionary : list_any is_dictionary (flattened_members (members_of_union t)) ≡ list_any is_dictionary (flattened_members (members_of_union u))
  annotated : is_annotated t ≡ is_annotated u
  nullable_dictionary : is_nullable_dictionary t ≡ is_nullable_dictionary u
  misplaced : (a : Option Annotation) → is_misplaced (without_nullable t) a ≡ is_misplaced (without_nullable u) a
  categories : map category (flattened_members (members_of_union t)) ≡ map category (flattened_members (members_of_union u))

alike_back : (t u : TypeTerm) → AreAlike t u → AreAlike u t
alike_back t u same = record {
  constant = sym same.constant;
  copied = sym same.copied;
  wrongly = sym same.wrongly;
  nullable = sym same.nullable;
  dictionary = sym same.dictionary;
  annotated = sym same.annotated;
  nullable_dictionary = sym same.nullable_dictionary;
  misplaced = λ a. sym (same.misplaced a);
  categories = sym same.categories;
}

alike_outline : (t : TypeTerm) → AreAlike (outline t) t
alike_outline t =
    let members = members_of_union t in record {
      constant = constant_outline t;
      copied = ap (list_any is_copied) (flattened_outline t) ∙ any_outlined is_copied copied_outline (flattened_member t);
      wrongly = wrongly_outline t;
      nullable = ap nullable_members (members_outline t) ∙ nullable_outlines members;
      dictionary = ap (λ ts. list_any is_dictionary (flattened_members ts)) (members_outline t) ∙ any_dictionary_outline members;
      annotated = annotated_outline t;
      nullable_dictionary = nullable_dictionary_outline t;
      misplaced = λ a. ap (λ x. is_misplaced x a) (without_outline t) ∙ misplaced_outline (without_nullable t) a;
      categories = ap (λ ts. map category (flattened_members ts)) (members_outline t) ∙ ap (map category) (flattened_outlines members) ∙ categories_outlined (flattened_members members);
    }

module _ (ifaces : List IfaceTerm) (definitions : List PlainDefinition) where
  alike_breaks : (w : TypeUse) (t u : TypeTerm) → AreAlike t u → (which : ValidityRule) (s : Violation) → BreaksType ifaces definitions which (record { written = w; meaning = t }) s → BreaksType ifaces definitions which (record { written = w; meaning = u }) s
  alike_breaks w t u same rule.OtherConstantType s b = ((b.0.0, sym same.constant ∙ b.0.1), b.1)
  alike_breaks w t u same rule.CopiedAttribute s b = ((b.0.0, sym same.copied ∙ b.0.1), b.1)
  alike_breaks w t u same rule.UndefinedInside s b = b
  alike_breaks w t u same rule.WronglyNullable s b = (sym same.wrongly ∙ b.0, b.1)
  alike_breaks w t u same rule.SeveralNullableMembers s b = ((b.0.0, subst (λ n. 1 < n) same.nullable b.0.1), b.1)
  alike_breaks w t u same rule.NullableBesideDictionary s b = ((b.0.0, (sym same.nullable ∙ b.0.1.0, sym same.dictionary ∙ b.0.1.1)), b.1)
  alike_breaks w t u same rule.AnnotatedUnionMember s b = ((b.0.0, sym same.annotated ∙ b.0.1), b.1)
  alike_breaks w t u same rule.NullableDictionary s b = ((b.0.0, sym same.nullable_dictionary ∙ b.0.1), b.1)
  alike_breaks w t u same rule.MisplacedAnnotation s b =
      let tests : is_misplaced (without_nullable t) ≡ is_misplaced (without_nullable u) = λ j a. same.misplaced a j in
      subst (λ (test : Option Annotation → Bool). Somewhere (λ (a : PlainAttribute) (p : Violation). (test (annotation_of a.name.text) ≡ true) × IsAt a.name.at p) w.attributes s) tests b
  alike_breaks w t u same rule.ClampAndEnforceRange s b = b
  alike_breaks w t u same rule.IndistinguishableUnionMembers s b =
      let ts = members_of_union t in
      let us = members_of_union u in
      ((b.0.0, same_pair ifaces (flattened_members ts) (flattened_members us) (members_flat ts) (members_flat us) same.categories b.0.1), b.1)
  alike_breaks w t u same other s b = b

  -- a type breaks a rule as its outline does
  outline_breaks : (w : TypeUse) (t : TypeTerm) (which : ValidityRule) (s : Violation) → BreaksType ifaces definitions which (record { written = w; meaning = outline t }) s → BreaksType ifaces definitions which (record { written = w; meaning = t }) s
  outline_breaks w t = alike_breaks w (outline t) t (alike_outline t)

  breaks_outline : (w : TypeUse) (t : TypeTerm) (which : ValidityRule) (s : Violation) → BreaksType ifaces definitions which (record { written = w; meaning = t }) s → BreaksType ifaces definitions which (record { written = w; meaning = outline t }) s
  breaks_outline w t = alike_breaks w t (outline t) (alike_back (outline t) t (alike_outline t))

  -- so the first refusal by what it breaks is that by what its outline breaks
  pub first_of_outline : {E : Type 0} (found : Result (Option Refusal) E) (written : TypeUse) → IfOk found (λ f. IsFirst (λ which. BreaksType ifaces definitions which (outlined (with_meaning definitions written))) type_rules f) → IfOk found (λ f. IsFirst (λ which. BreaksUse ifaces definitions which written) type_rules f)
  first_of_outline found written outline_first =
      let meant = meaning_of_use definitions written in
      IfOk-weaker found
      (λ f. IsFirst (λ which. BreaksType ifaces definitions which (outlined (with_meaning definitions written))) type_rules f)
      (λ f. IsFirst (λ which. BreaksUse ifaces definitions which written) type_rules f)
      (λ f first. same_breaks (λ which. BreaksType ifaces definitions which (outlined (with_meaning definitions written))) (λ which. BreaksUse ifaces definitions which written) type_rules f (outline_breaks written meant) (breaks_outline written meant) first)
      outline_first
