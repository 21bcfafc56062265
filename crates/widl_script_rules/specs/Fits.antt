-- Which sources fit what a step line does with them.
-- Source: this program's own; of literals Web IDL, "Default values".
use Rattle.std.specs.Prelude.{◌≡◌, ℕ, false, List, [], Contains, find, map, Option, Some, None, option_map, slice_get}
use Rattle.std.specs.Option.{option_and_then, option_to_list}
use Rattle.widl_graph.specs.Reaching.{Reaches}
use Rattle.widl_idl.specs.declared.int_kind.Mode.TheVariants.{Wrap}
use Rattle.widl_idl.specs.DefinitionTerms.{ArgTerm, AttrTerm, CallbackTerm, DefsTerm, IfaceTerm}
use Rattle.widl_idl.specs.Terms.{TypeTerm, TypeTerms, IntegerType, StringType, InterfaceType, SequenceType, RecordType, PromiseType, NullableType, UnionType, no_types, more_types}
use Rattle.widl_fits.specs.Literals.{LiteralFits}
use Rattle.widl_lines.specs.declared.script_place.ScriptPlace.{ScriptPlace}
use Rattle.widl_lines.specs.TextBreaks.{Line}
use Rattle.widl_script_tree.specs.declared.steps.Source.{Source}
use Rattle.widl_script_tree.specs.declared.steps.Source.TheVariants as source
use Rattle.widl_script_tree.specs.declared.steps.StepLine.{StepLine}
use Rattle.widl_script_tree.specs.declared.steps.StepLine.TheVariants as step
use Rattle.widl_script_rules.specs.Standings.{Standing, IsAtWord}
use Rattle.widl_script_rules.specs.Targets.{Overload}
use Rattle.widl_script_rules.specs.StepUses.{Used, Invoked, IsStep, invoked_in, used_in}
use Rattle.widl_script_rules.specs.Arguments.{argument_named, is_variadic}
use Rattle.widl_script_rules.specs.Slots.{attribute_named}
use Rattle.widl_script_rules.specs.CallbacksAndPairs.{callback_called}

-- 1. Types

abbrev mutual
  -- a type without annotations, also in it
  pub without_annotations : TypeTerm → TypeTerm
  without_annotations (IntegerType kind mode) = IntegerType kind Wrap
  without_annotations (StringType kind null_empty) = StringType kind false
  without_annotations (SequenceType t) = SequenceType (without_annotations t)
  without_annotations (RecordType key t) = RecordType key (without_annotations t)
  without_annotations (PromiseType t) = PromiseType (without_annotations t)
  without_annotations (NullableType t) = NullableType (without_annotations t)
  without_annotations (UnionType ts) = UnionType (all_without_annotations ts)
  without_annotations t = t

  pub all_without_annotations : TypeTerms → TypeTerms
  all_without_annotations no_types = no_types
  all_without_annotations (more_types t ts) = more_types (without_annotations t) (all_without_annotations ts)

-- one interface inherits from another, directly or at a distance
abbrev pub InheritsFrom : DefsTerm → ℕ → ℕ → Type 0
InheritsFrom list n m = Reaches (map (λ (i : IfaceTerm). option_to_list i.parent) list.ifaces) n m

-- a source of one type fits another one in three cases: without annotations they are the same; the other is nullable over a type that it fits; both are interfaces, of which the source's inherits from the other
pub data TypeFits (list : DefsTerm) : TypeTerm → TypeTerm → Type 0 where
  same : {t u : TypeTerm} → without_annotations t ≡ without_annotations u → TypeFits list t u
  nullable : {t u : TypeTerm} → TypeFits list t u → TypeFits list t (NullableType u)
  inherits : {n m : ℕ} → InheritsFrom list n m → TypeFits list (InterfaceType n) (InterfaceType m)

-- 2. Sources

-- the type of a source that is no literal, where what it names is there
abbrev pub source_type : Overload → Source → Option TypeTerm
source_type o (source.Arg k) = option_map (λ (a : ArgTerm). a.ty) (argument_named o k)
source_type o source.This = None
source_type o (source.Slot text) = option_map (λ (a : AttrTerm). a.ty) (attribute_named o text)
source_type o (source.Literal l) = None

abbrev pub FitsIfThere : DefsTerm → Option TypeTerm → TypeTerm → Type 0
FitsIfThere list None t = Unit {0}
FitsIfThere list (Some u) t = TypeFits list u t

-- a literal fits where it would do as a default value. What isn't there breaks another rule, and this one isn't asked
abbrev pub SourceFits : DefsTerm → Overload → Source → TypeTerm → Type 0
SourceFits list o (source.Literal l) t = LiteralFits list t l
SourceFits list o s t = FitsIfThere list (source_type o s) t

-- 3. What is wanted

abbrev pub first_there : {X : Type 0} → Option X → Option X → Option X
first_there (Some x) other = Some x
first_there None other = other

-- the type of a callback's argument of this number; past the last one that of a variadic one
abbrev pub parameter_type : CallbackTerm → ℕ → Option TypeTerm
parameter_type c number = option_map (λ (a : ArgTerm). a.ty) (first_there (slice_get c.sig.args number) (find (λ (a : ArgTerm). is_variadic a.opt) c.sig.args))

abbrev pub parameter_wanted : DefsTerm → Overload → Invoked → Used → Option TypeTerm
parameter_wanted list o i u = option_and_then (λ c. parameter_type c u.number) (callback_called list o i)

-- the type that a line wants of one of its sources, where it wants one
abbrev pub wanted : DefsTerm → Overload → StepLine → Used → Option TypeTerm
wanted list o (step.Return s) u = Some o.signature.returned
wanted list o (step.SetSlot text s) u = option_map (λ (a : AttrTerm). a.ty) (attribute_named o text)
wanted list o (step.Invoke i) u = parameter_wanted list o (record { word = 0; call = i }) u
wanted list o (step.ReturnInvoke i) u = parameter_wanted list o (record { word = 1; call = i }) u
wanted list o line u = None

-- a callback's result that is returned
abbrev pub is_returned : StepLine → List Invoked
is_returned (step.ReturnInvoke i) = invoked_in (step.ReturnInvoke i)
is_returned line = []

-- at this word of the line stands what doesn't fit: a source or literal, or `invoke` of a callback whose result doesn't fit the operation's
pub data Misfits (list : DefsTerm) (o : Overload) (line : StepLine) : ℕ → Type 0 where
  source_misfits : (u : Used) (t : TypeTerm) → Contains (used_in line) u → wanted list o line u ≡ Some t → (SourceFits list o u.source t → ⊥) → Misfits list o line u.word
  result_misfits : (i : Invoked) (c : CallbackTerm) → Contains (is_returned line) i → callback_called list o i ≡ Some c → (TypeFits list c.sig.returned o.signature.returned → ⊥) → Misfits list o line i.word

-- rule 13: a source or literal doesn't fit: at its first word, of `return invoke` at `invoke`
pub record HasMisfit (list : DefsTerm) (script : List Standing) (place : ScriptPlace) : Type 0 where
  pub overload : Overload
  pub line : Line
  pub step : StepLine
  pub is_step : IsStep list script overload line step
  pub word : ℕ
  pub misfits : Misfits list overload step word
  pub at : IsAtWord 13 line word place
