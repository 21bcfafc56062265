-- The types inside nullable types and unions that Numbers and Strings take. Whether a value implements an interface is asked of objects alone: so
-- no list matters.
use Rattle.std.proofs.Common.{◌≡◌, ℕ, ◌&&◌, Bool, true, false, if◌then◌else◌, List, [], Option, Some, None, refl, sym, ap, subst, ◌∙◌}
use Rattle.widl_dialog.specs.Position.{At}
use Rattle.widl_dialog.specs.Stack.{still}
use Rattle.std.specs.Prelude.{IfSome, slice_get}
use Rattle.widl_idl.specs.DefinitionTerms.{DefsTerm}
use Rattle.widl_idl.specs.Flattened.{flattened_members, includes_nullable_type}
use Rattle.widl_idl.specs.Terms.{TypeTerm, TypeTerms, IntegerType, NullableType, StringType, UnionType}
use Rattle.widl_value.specs.declared.class.Class.TheVariants as classes
use Rattle.widl_value.specs.declared.value.Value.{Value}
use Rattle.widl_value.specs.declared.value.Value.TheVariants as values
use Rattle.widl_value.specs.IdlTerms.{NullValue}
use Rattle.widl_tables.specs.declared.pick.Pick.{Pick}
use Rattle.widl_tables.specs.declared.pick.Pick.TheVariants.{Entry}
use Rattle.widl_tables.specs.Picks.{pick_member_of}
use Rattle.widl_steps.specs.AskTerms.{BeginAnswer, Fits}
use Rattle.widl_steps.specs.Built.{built_today}
use Rattle.widl_steps.specs.Rules.{rule}
use Rattle.widl_steps.specs.Scalars.{convert, convert_plain}
use Rattle.widl_steps.specs.Tasks.{Talk, Task}
use Rattle.widl_steps.specs.Unions.{member_picked, to_member}
use Rattle.widl_steps.specs.Words.{gives}
use Rattle.widl_convert.specs.declared.scalar_types.Given.{Given}
use Rattle.widl_convert.specs.declared.scalar_types.Given.TheVariants as givens
use Rattle.widl_convert.specs.declared.scalar_types.ScalarType.{ScalarType}
use Rattle.widl_convert.specs.declared.scalar_types.ScalarType.TheVariants as scalars
use Rattle.widl_convert.specs.AtOnce.{AreSame, class_given, scalar_type}
use Rattle.widl_convert.specs.declared.asker.Asker.{Asker}
use Rattle.widl_convert.specs.Stack.{Stands, rest}

-- 1. Members

no_null : (b : Bool) (d e : Talk) → (if b && false then d else e) ≡ e
no_null true d e = refl
no_null false d e = refl

-- a value that picked a member goes on with it
goes_on : (list : DefsTerm) (ts : TypeTerms) (v : Value) (pick : Pick) (place : ℕ) (t : TypeTerm) → pick ≡ Entry place → slice_get (flattened_members ts) place ≡ Some t → member_picked (convert_plain built_today list) built_today list ts v pick ≡ convert_plain built_today list t v
goes_on list ts v pick place t picks found =
    ap (member_picked (convert_plain built_today list) built_today list ts v) picks ∙ ap (λ (m : Option TypeTerm). to_member (convert_plain built_today list) m v) found

-- a type at which no list of members is gone through
abbrev IsPlain : TypeTerm → Type 0
IsPlain t = (list : DefsTerm) (v : Value) → convert built_today list t v ≡ convert_plain built_today list t v

of_member : (given : Given) (other : DefsTerm) (ts : TypeTerms) (place : ℕ) (t : TypeTerm) → IsPlain t → pick_member_of other ts (class_given given) false ≡ Entry place → slice_get (flattened_members ts) place ≡ Some t → AreSame given (UnionType ts) t
of_member givens.Number other ts place t plain picks found = λ list n.
    no_null (includes_nullable_type (UnionType ts)) (gives NullValue) (member_picked (convert_plain built_today list) built_today list ts (values.Num n) (pick_member_of list ts classes.Num false))
    ∙ goes_on list ts (values.Num n) (pick_member_of list ts classes.Num false) place t picks found ∙ sym (plain list (values.Num n))
of_member givens.Text other ts place t plain picks found = λ list units.
    no_null (includes_nullable_type (UnionType ts)) (gives NullValue) (member_picked (convert_plain built_today list) built_today list ts (values.Str units) (pick_member_of list ts classes.Str false))
    ∙ goes_on list ts (values.Str units) (pick_member_of list ts classes.Str false) place t picks found ∙ sym (plain list (values.Str units))

pub picked_same : (given : Given) (s : ScalarType) (other : DefsTerm) (ts : TypeTerms) (place : ℕ) → pick_member_of other ts (class_given given) false ≡ Entry place → IfSome (scalar_type s) (λ t. slice_get (flattened_members ts) place ≡ Some t) → IfSome (scalar_type s) (λ t. AreSame given (UnionType ts) t)
picked_same given (scalars.Integer kind mode) other ts place picks found = of_member given other ts place (IntegerType kind mode) (λ list v. refl) picks found
picked_same given (scalars.Text kind) other ts place picks found = of_member given other ts place (StringType kind false) (λ list v. refl) picks found
picked_same given scalars.Unknown other ts place picks found = tt

-- neither a Number nor a String is null
pub nullable_same : (given : Given) (t u : TypeTerm) → AreSame given t u → AreSame given (NullableType t) u
nullable_same givens.Number t u same = same
nullable_same givens.Text t u same = same

pub same_back : (given : Given) (t u : TypeTerm) → AreSame given t u → AreSame given u t
same_back givens.Number t u same = λ list n. sym (same list n)
same_back givens.Text t u same = λ list units. sym (same list units)

-- 2. Where a conversation of another task with the same steps begins

pub stands_as : (list : DefsTerm) (asker : Asker) (task other : Task) → rule built_today list task ≡ rule built_today list other → Stands list asker task [] None → Stands list asker other [] None
stands_as list asker task other same stands =
    record { waits = stands.waits; place = subst (λ (d : Talk). At (rule built_today list) Fits d [] (still BeginAnswer (rest list asker) None)) same stands.place }
