-- The types of which the rules on types aren't asked break none of them.
use Rattle.std.proofs.Common.{◌≡◌, Bool, true, false, ℕ, ◌++◌, List, [], ◌∷◌, length, map, slice_get, zero, suc, eqb-true, Option, None, Some, arith, refl, sym, ap, subst, ◌∙◌}
use Rattle.std.specs.Prelude.{◌&&◌, ◌||◌, ◌==◌, not, Contains}
use Rattle.std.specs.List.{list_any}
use Rattle.widl_text.specs.declared.place.Place.{Place}
use Rattle.widl_idl.specs.declared.kind.Kind.{Kind}
use Rattle.widl_idl.specs.declared.kind.Kind.TheVariants as kinds
use Rattle.widl_idl.specs.declared.text_kind.TextKind.TheVariants as texts
use Rattle.widl_idl.specs.declared.violation.Violation.{Violation}
use Rattle.widl_idl.specs.DefinitionTerms.{IfaceTerm}
use Rattle.widl_idl.specs.Flattened.{flattened_member}
use Rattle.widl_idl.specs.Meanings.{meaning, meant_kind}
use Rattle.widl_idl.specs.PlainTrees.{PlainDefinition}
use Rattle.widl_idl.specs.PlainTypes.{PlainForm, PlainAny, PlainUndefined, PlainBoolean, PlainObject, PlainInteger, PlainText, PlainNamed, PlainUnion, PlainAttribute, PlainType, plain_type}
use Rattle.widl_idl.specs.Resolution.{Note, resolve}
use Rattle.widl_idl.specs.Terms.{TypeTerm, TypeTerms}
use Rattle.widl_idl.specs.WrittenTypes.{meaning_of_type, notes_of, number_among, type_of_kind, type_of_meaning, typedefs, written_form, written_type}
use Rattle.widl_overload.specs.declared.type_role.TypeRole.{TypeRole}
use Rattle.widl_overload.specs.declared.validity_rule.ValidityRule.{ValidityRule}
use Rattle.widl_overload.specs.declared.validity_rule.ValidityRule.TheVariants as rule
use Rattle.widl_overload.specs.rules.TypeRules.{HasClampAndEnforceRange, HasMisplacedAnnotation, HaveIndistinguishableMembers, HaveNullableAndDictionary, HaveSeveralNullable, IsOtherConstantType, IsUndefinedInside, OfUnion, all_notes, has_question, is_annotated, is_attribute_role, is_constant_role, is_copied, is_nullable_dictionary, is_undefined_form, is_undefined_word, is_union_form, is_written_union, is_wrongly_nullable, notes_after, notes_in, takes_undefined}
use Rattle.widl_overload.specs.rules.TypeUses.{TypeUse, meaning_of_use}
use Rattle.widl_type_rules.specs.SettledUses.{are_none, is_settled, is_settled_form, is_settled_kind, is_settled_type}
use Rattle.widl_overload.specs.rules.OnTypes.{BreaksUse}

-- what the rules ask of what a type means, a question in each line
abbrev questions : TypeRole → TypeTerm → List Bool
questions role t =
    (list_any is_copied (flattened_member t) && is_attribute_role role)
    ∷ is_wrongly_nullable t
    ∷ is_annotated t
    ∷ is_nullable_dictionary t
    ∷ []

abbrev is_any : List Bool → Bool
is_any answers = list_any (λ yes. yes) answers

-- no rule asks for such a type
abbrev Settled : TypeRole → TypeTerm → Type 0
Settled role t = is_any (questions role t) ≡ false

-- none of the answers is yes, so this one isn't
not_this : (answers : List Bool) (n : ℕ) → is_any answers ≡ false → slice_get answers n ≡ Some true → ⊥
not_this [] n none this = cc
not_this (true ∷ more) n none this = cc
not_this (false ∷ more) zero none this = cc
not_this (false ∷ more) (suc n) none this = not_this more n none this

abbrev meaning_of_word : List PlainDefinition → PlainForm → TypeTerm
meaning_of_word definitions form = resolve (typedefs definitions) [] (written_form definitions form)

differs : (b : Bool) → b ≡ true → b ≡ false → ⊥
differs b h n = cc

not_if : (b : Bool) → not b ≡ true → (b || false) ≡ false
not_if true e = cc
not_if false e = refl

of_kind : (definitions : List PlainDefinition) (role : TypeRole) (kind : Kind) (n : ℕ) → is_settled_kind role (Some kind) ≡ true → Settled role (resolve (typedefs definitions) [] (type_of_kind kind n))
of_kind definitions role kinds.Typedef n e = cc
of_kind definitions role kinds.Dictionary n e = not_if (is_attribute_role role) e
of_kind definitions role kind n e = refl

of_meaning : (definitions : List PlainDefinition) (role : TypeRole) (number : Option ℕ) (kind : Option Kind) → is_settled_kind role kind ≡ true → Settled role (resolve (typedefs definitions) [] (type_of_meaning definitions number kind))
of_meaning definitions role number None e = cc
of_meaning definitions role None (Some kind) e = refl
of_meaning definitions role (Some number) (Some kind) e = of_kind definitions role kind (number_among definitions kind number) e

settled_word : (definitions : List PlainDefinition) (role : TypeRole) (form : PlainForm) → is_settled_form definitions role form ≡ true → Settled role (meaning_of_word definitions form)
settled_word definitions role PlainAny e = refl
settled_word definitions role PlainBoolean e = refl
settled_word definitions role PlainObject e = refl
settled_word definitions role (PlainInteger kind) e = refl
settled_word definitions role (PlainText texts.Dom) e = refl
settled_word definitions role (PlainText texts.Usv) e = refl
settled_word definitions role (PlainText texts.Byte) e = refl
settled_word definitions role PlainUndefined e = refl
settled_word definitions role (PlainNamed name) e = of_meaning definitions role (meaning definitions name.text) (meant_kind definitions name.text) e
settled_word definitions role form e = cc

pub both_true : (a b : Bool) → (a && b) ≡ true → (a ≡ true) × (b ≡ true)
both_true true b e = (refl, e)
both_true false b e = cc

both_are : (a b : Bool) → a ≡ true → b ≡ true → (a && b) ≡ true
both_are true b e f = f
both_are false b e f = cc

not_true : (a : Bool) → not a ≡ true → a ≡ false
not_true true e = cc
not_true false e = refl

pub none_is : (attributes : List PlainAttribute) → are_none attributes ≡ true → attributes ≡ []
none_is [] e = refl
none_is (a ∷ more) e = cc

-- such a type is a form alone
record IsWord (definitions : List PlainDefinition) (role : TypeRole) (ty : PlainType) : Type 0 where
  at : Place
  form : PlainForm
  is : ty ≡ plain_type at form None
  settled : is_settled_form definitions role form ≡ true

word_of : (definitions : List PlainDefinition) (role : TypeRole) (ty : PlainType) → is_settled_type definitions role ty ≡ true → IsWord definitions role ty
word_of definitions role (plain_type at form None) e = record { at = at; form = form; is = refl; settled = e }
word_of definitions role (plain_type at form (Some question)) e = cc

no_union : (definitions : List PlainDefinition) (role : TypeRole) (form : PlainForm) → is_settled_form definitions role form ≡ true → is_union_form form ≡ false
no_union definitions role (PlainUnion members) e = cc
no_union definitions role form e = refl

takes_it : (takes : Bool) → takes ≡ true → (not takes || false) ≡ true → ⊥
takes_it true e h = cc
takes_it false e h = cc

undefined_taken : (definitions : List PlainDefinition) (role : TypeRole) (form : PlainForm) → is_settled_form definitions role form ≡ true → is_undefined_form form ≡ true → (not (takes_undefined role) || false) ≡ true → ⊥
undefined_taken definitions role PlainUndefined e is h = takes_it (takes_undefined role) e h
undefined_taken definitions role form e is h = cc

notes_of_kind : (role : TypeRole) (kind : Kind) (n : ℕ) (inner : ℕ → List Note) → is_settled_kind role (Some kind) ≡ true → notes_in inner (type_of_kind kind n) ≡ []
notes_of_kind role kinds.Typedef n inner e = cc
notes_of_kind role kind n inner e = refl

notes_of_meaning : (definitions : List PlainDefinition) (role : TypeRole) (number : Option ℕ) (kind : Option Kind) (inner : ℕ → List Note) → is_settled_kind role kind ≡ true → notes_in inner (type_of_meaning definitions number kind) ≡ []
notes_of_meaning definitions role number None inner e = cc
notes_of_meaning definitions role None (Some kind) inner e = refl
notes_of_meaning definitions role (Some number) (Some kind) inner e = notes_of_kind role kind (number_among definitions kind number) inner e

no_notes : (definitions : List PlainDefinition) (role : TypeRole) (form : PlainForm) (inner : ℕ → List Note) → is_settled_form definitions role form ≡ true → notes_in inner (written_form definitions form) ≡ []
no_notes definitions role PlainAny inner e = refl
no_notes definitions role PlainBoolean inner e = refl
no_notes definitions role PlainObject inner e = refl
no_notes definitions role (PlainInteger kind) inner e = refl
no_notes definitions role (PlainText kind) inner e = refl
no_notes definitions role PlainUndefined inner e = refl
no_notes definitions role (PlainNamed name) inner e = notes_of_meaning definitions role (meaning definitions name.text) (meant_kind definitions name.text) inner e
no_notes definitions role form inner e = cc

pub nothing_listed : {X : Type 0} (xs : List X) (x : X) → xs ≡ [] → Contains xs x → ⊥
nothing_listed [] x e h = omega (arith, h.1)
nothing_listed (y ∷ xs) x e h = cc

module _ (definitions : List PlainDefinition) (u : TypeUse) (e : is_settled definitions u ≡ true) where
  parts : (not (is_constant_role u.role) && are_none u.attributes ≡ true) × (is_settled_type definitions u.role u.ty ≡ true)
  parts = both_true (not (is_constant_role u.role) && are_none u.attributes) (is_settled_type definitions u.role u.ty) e

  first_parts : (not (is_constant_role u.role) ≡ true) × (are_none u.attributes ≡ true)
  first_parts = both_true (not (is_constant_role u.role)) (are_none u.attributes) parts.0

  no_constant : is_constant_role u.role ≡ false
  no_constant = not_true (is_constant_role u.role) first_parts.0

  no_attributes : u.attributes ≡ []
  no_attributes = none_is u.attributes first_parts.1

  word : IsWord definitions u.role u.ty
  word = word_of definitions u.role u.ty parts.1

  meaning_is : meaning_of_use definitions u ≡ meaning_of_word definitions word.form
  meaning_is = ap (λ attributes. meaning_of_type definitions (notes_of attributes) u.ty) no_attributes ∙ ap (meaning_of_type definitions []) word.is

  settled : Settled u.role (meaning_of_use definitions u)
  settled = subst (Settled u.role) (sym meaning_is) (settled_word definitions u.role word.form word.settled)

  not_so : (n : ℕ) → slice_get (questions u.role (meaning_of_use definitions u)) n ≡ Some true → ⊥
  not_so n this = not_this (questions u.role (meaning_of_use definitions u)) n settled this

  no_other_constant_type : (s : Violation) → IsOtherConstantType (meaning_of_use definitions u) u s → ⊥
  no_other_constant_type s h = differs (is_constant_role u.role) h.0.0 no_constant

  no_undefined_inside : (s : Violation) → IsUndefinedInside u s → ⊥
  no_undefined_inside s h = undefined_taken definitions u.role word.form word.settled (subst (λ t. is_undefined_word t ≡ true) word.is h.0.0) (subst (λ t. (not (takes_undefined u.role) || has_question t) ≡ true) word.is h.0.1)

  of_no_union : (P : TypeTerms → Type 0) (s : Violation) → OfUnion P (meaning_of_use definitions u) u s → ⊥
  of_no_union P s h = differs (is_union_form word.form) (subst (λ t. is_written_union t ≡ true) word.is h.0.0) (no_union definitions u.role word.form word.settled)

  no_misplaced_annotation : (s : Violation) → HasMisplacedAnnotation (meaning_of_use definitions u) u s → ⊥
  no_misplaced_annotation s h = nothing_listed u.attributes h.item no_attributes h.listed

  notes_are : all_notes definitions u ≡ []
  notes_are = ap (λ attributes. notes_of attributes ++ notes_in (notes_after (typedefs definitions) (length (typedefs definitions))) (written_type definitions u.ty)) no_attributes ∙ ap (λ t. notes_in (notes_after (typedefs definitions) (length (typedefs definitions))) (written_type definitions t)) word.is ∙ no_notes definitions u.role word.form _ word.settled

  no_clamp_and_enforce : (s : Violation) → HasClampAndEnforceRange definitions u s → ⊥
  no_clamp_and_enforce s h = nothing_listed (all_notes definitions u) h.clamp notes_are h.clamp_listed

  -- it breaks no rule on types
  pub no_type_rule : (ifaces : List IfaceTerm) (which : ValidityRule) (s : Violation) → BreaksUse ifaces definitions which u s → ⊥
  no_type_rule ifaces rule.OtherConstantType = no_other_constant_type
  no_type_rule ifaces rule.CopiedAttribute = λ s h. not_so 0 (ap Some (both_are _ _ h.0.1 h.0.0))
  no_type_rule ifaces rule.UndefinedInside = no_undefined_inside
  no_type_rule ifaces rule.WronglyNullable = λ s h. not_so 1 (ap Some h.0)
  no_type_rule ifaces rule.SeveralNullableMembers = of_no_union HaveSeveralNullable
  no_type_rule ifaces rule.NullableBesideDictionary = of_no_union HaveNullableAndDictionary
  no_type_rule ifaces rule.AnnotatedUnionMember = λ s h. not_so 2 (ap Some h.0.1)
  no_type_rule ifaces rule.NullableDictionary = λ s h. not_so 3 (ap Some h.0.1)
  no_type_rule ifaces rule.MisplacedAnnotation = no_misplaced_annotation
  no_type_rule ifaces rule.ClampAndEnforceRange = no_clamp_and_enforce
  no_type_rule ifaces rule.IndistinguishableUnionMembers = of_no_union (HaveIndistinguishableMembers ifaces)
  no_type_rule ifaces other = λ s h. h

-- there are no attributes, as their lengths tell
pub none_listed : {X : Type 0} (f : X → PlainAttribute) (xs ys : List X) (first second : Bool) → first ≡ (length xs == 0) → first ≡ true → second ≡ (length ys == 0) → second ≡ are_none (map f xs ++ map f ys)
none_listed f [] [] first second is e h = h
none_listed f [] (y ∷ ys) first true is e h = absurd (omega (arith, eqb-true (length (y ∷ ys)) 0 (sym h)))
none_listed f [] (y ∷ ys) first false is e h = refl
none_listed f (x ∷ xs) ys first second is e h = absurd (omega (arith, eqb-true (length (x ∷ xs)) 0 (sym is ∙ e)))

pub some_listed : {X : Type 0} (f : X → PlainAttribute) (xs ys : List X) (first : Bool) → first ≡ (length xs == 0) → first ≡ false → false ≡ are_none (map f xs ++ map f ys)
some_listed f [] ys first is e = cc
some_listed f (x ∷ xs) ys first is e = refl
