-- Arguments that lack a default value, from the last to the first.
use Rattle.std.proofs.Common.{◌≡◌, ◌⊎◌, ◌↔◌, inl, inr, ℕ, ◌+◌, ◌<◌, ◌≤◌, zero, suc, Bool, true, false, not, ◌&&◌, cond, List, [], ◌∷◌, ◌++◌, length, drop, get_or, Option, None, Some, arith, refl, sym, ap, subst, ◌∙◌}
use Rattle.std.specs.List.{list_all}
use Rattle.widl_idl.specs.declared.violation.Violation.{Violation}
use Rattle.widl_idl.specs.declared.tree.arguments.Argument.{Argument}
use Rattle.widl_idl.specs.DefinitionTerms.{DefsTerm}
use Rattle.widl_idl.specs.First.{FirstWhere, earlier, violation_at}
use Rattle.widl_idl.specs.PlainTrees.{PlainArgument, PlainArgumentKind, RequiredArgument, OptionalArgument, VariadicArgument, PlainDefinition, argument_of, arguments_of}
use Rattle.widl_text.specs.declared.place.Place.{Place}
use Rattle.widl_idl.specs.declared.tree.types.Container.TheVariants as container
use Rattle.widl_idl.specs.PlainTypes.{PlainAttribute, PlainForm, PlainType, PlainAnnotated, PlainNamed, PlainContainer, PlainRecord, PlainUnion, plain_type, plain_annotated}
use Rattle.widl_idl.specs.Resolution.{Note, nullable_of}
use Rattle.widl_idl.specs.Terms.{TypeTerm, NullableType}
use Rattle.widl_idl.specs.WrittenTypes.{meaning_of_type, meaning_with}
use Rattle.widl_idl.proofs.Order.{first_either, one_place}
use Rattle.widl_overload.specs.rules.ArgumentRules.{is_required}
use Rattle.widl_overload.specs.rules.DefaultRules.{HasNoDefault, LacksEmptyDefault, TakesNoMember, may_be_absent}
use Rattle.widl_fits.specs.declared.tables.Tables.{Tables}
use Rattle.widl_inheritance.specs.EmptyDefaults.{LacksHere, is_name_or_union, may_take_dictionary, needs_default, takes_no_member}
use Rattle.widl_fits.specs.Fitting.{KnowsRequired, takes}
use Rattle.widl_inheritance.proofs.Fits.{no_member_told}

-- whether a call may leave out all of these arguments
abbrev pub all_absent : List PlainArgument → Bool
all_absent arguments = list_all (λ (a : PlainArgument). not (is_required a.kind)) arguments

head_same : {A : Type 0} {x y : A} {xs ys : List A} → x ∷ xs ≡ y ∷ ys → x ≡ y
head_same e = (cc)

tail_same : {A : Type 0} {x y : A} {xs ys : List A} → x ∷ xs ≡ y ∷ ys → xs ≡ ys
tail_same e = (cc)

never : {A : Type 0} {x : A} {xs : List A} → [] ≡ x ∷ xs → ⊥
never e = (cc)

both_turned : (a b : Bool) → (a && b) ≡ (b && a)
both_turned true true = refl
both_turned true false = refl
both_turned false true = refl
both_turned false false = refl

module _ (list : DefsTerm) (definitions : List PlainDefinition) where
  kind_absent : (kind : PlainArgumentKind) → may_be_absent list definitions kind ≡ not (is_required kind)
  kind_absent RequiredArgument = refl
  kind_absent (OptionalArgument default) = refl
  kind_absent (VariadicArgument ellipsis) = refl

  absent_same : (arguments : List PlainArgument) → list_all (λ (a : PlainArgument). may_be_absent list definitions a.kind) arguments ≡ all_absent arguments
  absent_same [] = refl
  absent_same (a ∷ arguments) = ap (λ b. b && list_all (λ (x : PlainArgument). may_be_absent list definitions x.kind) arguments) (kind_absent a.kind) ∙ ap (λ b. not (is_required a.kind) && b) (absent_same arguments)

  -- whether an argument needs a default value
  needs_told : (absent : Bool) (kind : PlainArgumentKind) → (needs_default absent kind ≡ true) ↔ (((is_required kind ≡ true) × (absent ≡ true)) ⊎ HasNoDefault list definitions kind)
  needs_told absent RequiredArgument = (λ h. inl (refl, h), λ h. elim h [ inl w ↦ w.1 | inr v ↦ absurd v ])
  needs_told absent (OptionalArgument None) = (λ h. inr tt, λ h. refl)
  needs_told absent (OptionalArgument (Some default)) = (λ h. absurd (let f : false ≡ true = h in (cc)), λ h. elim h [ inl w ↦ absurd (let f : false ≡ true = w.0 in (cc)) | inr v ↦ absurd v ])
  needs_told absent (VariadicArgument ellipsis) = (λ h. absurd (let f : false ≡ true = h in (cc)), λ h. elim h [ inl w ↦ absurd (let f : false ≡ true = w.0 in (cc)) | inr v ↦ absurd v ])

  -- no argument lacks anything where there is none
  none_lacks : (s : Violation) → LacksEmptyDefault list definitions [] s → ⊥
  none_lacks s h = by_before h.before h.stands
    where
      by_before : (before : List PlainArgument) → [] ≡ before ++ h.argument ∷ h.following → ⊥
      by_before [] e = never e
      by_before (b ∷ before) e = never e

  pub nothing_lacks : FirstWhere (LacksEmptyDefault list definitions []) None
  nothing_lacks = none_lacks

  module _ (a : PlainArgument) (following : List PlainArgument) where
    here_lacks : (s : Violation) → LacksHere list definitions (all_absent following) a s → LacksEmptyDefault list definitions (a ∷ following) s
    here_lacks s h = record {
      before = [];
      argument = a;
      following = following;
      stands = refl;
      bare = h.0.0;
      lacks = elim ((needs_told (all_absent following) a.kind).0 h.0.1) [ inl w ↦ inl (w.0, absent_same following ∙ w.1) | inr v ↦ inr v ];
      at_name = h.1;
    }

    later_lacks : (s : Violation) → LacksEmptyDefault list definitions following s → LacksEmptyDefault list definitions (a ∷ following) s
    later_lacks s h = record { before = a ∷ h.before; argument = h.argument; following = h.following; stands = ap (λ xs. a ∷ xs) h.stands; bare = h.bare; lacks = h.lacks; at_name = h.at_name }

    which_lacks : (s : Violation) → LacksEmptyDefault list definitions (a ∷ following) s → LacksEmptyDefault list definitions following s ⊎ LacksHere list definitions (all_absent following) a s
    which_lacks s h = by_before h.before h.stands
      where
        needs : h.argument ≡ a → h.following ≡ following → needs_default (all_absent following) a.kind ≡ true
        needs e f = subst (λ (x : PlainArgument). needs_default (all_absent following) x.kind ≡ true) e (subst (λ xs. needs_default (all_absent xs) h.argument.kind ≡ true) f now)
          where
            now : needs_default (all_absent h.following) h.argument.kind ≡ true
            now = (needs_told (all_absent h.following) h.argument.kind).1 (elim h.lacks [ inl w ↦ inl (w.0, sym (absent_same h.following) ∙ w.1) | inr v ↦ inr v ])

        by_before : (before : List PlainArgument) → a ∷ following ≡ before ++ h.argument ∷ h.following → LacksEmptyDefault list definitions following s ⊎ LacksHere list definitions (all_absent following) a s
        by_before [] e =
            let same : h.argument ≡ a = sym (head_same e) in
            inr ((subst (λ (x : PlainArgument). TakesNoMember list definitions (meaning_with definitions x.attributes x.ty)) same h.bare, needs same (sym (tail_same e))), ap (λ (x : PlainArgument). violation_at x.name.at) (sym same) ∙ h.at_name)
        by_before (b ∷ before) e = inl (record { before = before; argument = h.argument; following = h.following; stands = tail_same e; bare = h.bare; lacks = h.lacks; at_name = h.at_name })

    -- one argument more, before the others
    lacks_more : (best found : Option Violation) → FirstWhere (LacksEmptyDefault list definitions following) best → FirstWhere (LacksHere list definitions (all_absent following) a) found → FirstWhere (LacksEmptyDefault list definitions (a ∷ following)) (earlier best found)
    lacks_more best found l m = first_either (LacksEmptyDefault list definitions following) (LacksHere list definitions (all_absent following) a) (LacksEmptyDefault list definitions (a ∷ following)) (record { left = later_lacks; right = here_lacks; only = which_lacks }) best found l m

  -- an argument, by the tests of the program
  pub lacking_here : (tables : Tables) → KnowsRequired list tables → (absent : Bool) (a : PlainArgument) (t : TypeTerm) (b : Bool) (found : Option Violation) → t ≡ meaning_with definitions a.attributes a.ty → needs_default absent a.kind ≡ true → b ≡ takes_no_member tables t → found ≡ cond b (Some (violation_at a.name.at)) None → FirstWhere (LacksHere list definitions absent a) found
  lacking_here tables told absent a t b found means needs b_is is =
      let meaning : TypeTerm = meaning_with definitions a.attributes a.ty in
      let tells = no_member_told list tables told definitions meaning in
      let whole : b ≡ takes_no_member tables meaning = b_is ∙ ap (takes_no_member tables) means in
      one_place (TakesNoMember list definitions meaning × (needs_default absent a.kind ≡ true)) a.name.at b found
      (λ h. (tells.0 (sym whole ∙ h), needs))
      (λ h q. let f : true ≡ false = sym (tells.1 q.0) ∙ sym whole ∙ h in (cc))
      is

  -- a type that is written neither as a name nor as a union is no dictionary
  form_takes_none : (tables : Tables) (notes : List Note) (at : Place) (form : PlainForm) → is_name_or_union form ≡ false → takes_no_member tables (meaning_of_type definitions notes (plain_type at form None)) ≡ false
  unfolding takes
  form_takes_none tables notes at (PlainNamed name) e = absurd (cc)
  form_takes_none tables notes at (PlainUnion members) e = absurd (cc)
  form_takes_none tables notes at (PlainContainer container.Sequence (plain_annotated place attributes inner)) e = refl
  form_takes_none tables notes at (PlainContainer kind (plain_annotated place attributes inner)) e = refl
  form_takes_none tables notes at (PlainRecord key (plain_annotated place attributes inner)) e = refl
  form_takes_none tables notes at form e = refl

  nullable_takes_none : (tables : Tables) (t : TypeTerm) → takes_no_member tables (nullable_of t) ≡ false
  nullable_takes_none tables (NullableType t) = by_inner t
    where
      by_inner : (t : TypeTerm) → takes_no_member tables (nullable_of (NullableType t)) ≡ false
      by_inner (NullableType t) = refl
      by_inner t = refl
  nullable_takes_none tables t = refl

  type_takes_none : (tables : Tables) (notes : List Note) (t : PlainType) → may_take_dictionary t ≡ false → takes_no_member tables (meaning_of_type definitions notes t) ≡ false
  type_takes_none tables notes (plain_type at form None) e = form_takes_none tables notes at form e
  type_takes_none tables notes (plain_type at form (Some question)) e = nullable_takes_none tables (meaning_of_type definitions notes (plain_type at form None))

  written_takes_none : (tables : Tables) (attributes : List PlainAttribute) (t : PlainAnnotated) (place : Place) (own : List PlainAttribute) (inner : PlainType) → t ≡ plain_annotated place own inner → may_take_dictionary inner ≡ false → takes_no_member tables (meaning_with definitions attributes t) ≡ false
  written_takes_none tables attributes t place own inner is e = ap (λ x. takes_no_member tables (meaning_with definitions attributes x)) is ∙ type_takes_none tables _ inner e

  -- an argument whose type takes no dictionary as it is written
  pub lacking_other : (tables : Tables) → KnowsRequired list tables → (absent : Bool) (a : PlainArgument) (place : Place) (own : List PlainAttribute) (inner : PlainType) → a.ty ≡ plain_annotated place own inner → may_take_dictionary inner ≡ false → FirstWhere (LacksHere list definitions absent a) None
  lacking_other tables told absent a place own inner is e = λ s h.
      let taken : true ≡ false = sym ((no_member_told list tables told definitions (meaning_with definitions a.attributes a.ty)).1 h.0.0) ∙ written_takes_none tables a.attributes a.ty place own inner is e in
      (cc)

  -- an argument that needs no default value
  pub lacking_nothing : (absent : Bool) (a : PlainArgument) → needs_default absent a.kind ≡ false → FirstWhere (LacksHere list definitions absent a) None
  lacking_nothing absent a none = λ s h. let f : true ≡ false = sym h.0.1 ∙ none in (cc)

-- the argument before the others, as a loop from the last to the first has it
after : (arguments : List Argument) (i : ℕ) (a : Argument) → i < length arguments → a ≡ get_or arguments i a → arguments_of (drop i arguments) ≡ argument_of a ∷ arguments_of (drop (i + 1) arguments)
after [] i a below is = absurd (omega arith)
after (x ∷ arguments) zero a below is = ap (λ y. argument_of y ∷ arguments_of arguments) (sym is)
after (x ∷ arguments) (suc i) a below is = let next : suc i + 1 ≡ suc (i + 1) = omega arith in after arguments i a (omega arith) is ∙ ap (λ n. argument_of a ∷ arguments_of (drop n (x ∷ arguments))) (sym next)

pub absent_next : (arguments : List Argument) (i k : ℕ) (a : Argument) (old new : Bool) → k ≡ i + 1 → i < length arguments → a ≡ get_or arguments i a → old ≡ all_absent (arguments_of (drop k arguments)) → new ≡ (old && not (is_required (argument_of a).kind)) → new ≡ all_absent (arguments_of (drop i arguments))
absent_next arguments i k a old new next below is was now_is =
    now_is ∙ ap (λ b. b && not (is_required (argument_of a).kind)) (was ∙ ap (λ n. all_absent (arguments_of (drop n arguments))) next)
    ∙ both_turned (all_absent (arguments_of (drop (i + 1) arguments))) (not (is_required (argument_of a).kind))
    ∙ ap all_absent (sym (after arguments i a below is))

pub lacks_next : (list : DefsTerm) (definitions : List PlainDefinition) (arguments : List Argument) (i k : ℕ) (a : Argument) (absent : Bool) (best found now : Option Violation) → k ≡ i + 1 → i < length arguments → a ≡ get_or arguments i a → absent ≡ all_absent (arguments_of (drop k arguments))
    → FirstWhere (LacksEmptyDefault list definitions (arguments_of (drop k arguments))) best → FirstWhere (LacksHere list definitions absent (argument_of a)) found → now ≡ earlier best found → FirstWhere (LacksEmptyDefault list definitions (arguments_of (drop i arguments))) now
lacks_next list definitions arguments i k a absent best found now next below is was l m e =
    subst (FirstWhere (LacksEmptyDefault list definitions (arguments_of (drop i arguments)))) (sym e)
    (subst (λ xs. FirstWhere (LacksEmptyDefault list definitions xs) (earlier best found)) (sym (after arguments i a below is))
    (lacks_more list definitions (argument_of a) (arguments_of (drop (i + 1) arguments)) best found
    (subst (λ n. FirstWhere (LacksEmptyDefault list definitions (arguments_of (drop n arguments))) best) next l)
    (subst (λ b. FirstWhere (LacksHere list definitions b (argument_of a)) found) (was ∙ ap (λ n. all_absent (arguments_of (drop n arguments))) next) m)))

-- after the last argument
none_after : (arguments : List Argument) → arguments_of (drop (length arguments) arguments) ≡ []
none_after [] = refl
none_after (a ∷ arguments) = none_after arguments

pub absent_none : (arguments : List Argument) → true ≡ all_absent (arguments_of (drop (length arguments) arguments))
absent_none arguments = ap all_absent (sym (none_after arguments))

pub lacks_none : (list : DefsTerm) (definitions : List PlainDefinition) (arguments : List Argument) → FirstWhere (LacksEmptyDefault list definitions (arguments_of (drop (length arguments) arguments))) None
lacks_none list definitions arguments = subst (λ xs. FirstWhere (LacksEmptyDefault list definitions xs) None) (sym (none_after arguments)) (nothing_lacks list definitions)

-- after the first argument
pub lacks_end : (list : DefsTerm) (definitions : List PlainDefinition) (arguments : List Argument) (k : ℕ) (best : Option Violation) → k ≤ 0 → FirstWhere (LacksEmptyDefault list definitions (arguments_of (drop k arguments))) best → FirstWhere (LacksEmptyDefault list definitions (arguments_of arguments)) best
lacks_end list definitions arguments k best past l = let none : k ≡ 0 = omega arith in subst (λ n. FirstWhere (LacksEmptyDefault list definitions (arguments_of (drop n arguments))) best) none l
