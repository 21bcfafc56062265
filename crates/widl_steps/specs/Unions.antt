-- Values of the script to unions.
-- Source: Web IDL, "Union types" (JavaScript binding).
use Rattle.std.specs.Prelude.{ℕ, true, false, ◌&&◌, if◌then◌else◌, slice_get, Option, None, Some}
use Rattle.std.specs.Option.{option_and_then}
use Rattle.widl_dialog.specs.Dialog.{End, Say, Steps}
use Rattle.widl_text.specs.declared.key.Key.TheVariants as keys
use Rattle.widl_idl.specs.DefinitionTerms.{DefsTerm}
use Rattle.widl_idl.specs.Flattened.{flattened_members, includes_nullable_type}
use Rattle.widl_idl.specs.Terms.{TypeTerm, TypeTerms, UnionType}
use Rattle.widl_value.specs.Classes.{class_of}
use Rattle.widl_value.specs.declared.object.ObjRef.{ObjRef}
use Rattle.widl_value.specs.declared.value.Value.{Value}
use Rattle.widl_value.specs.declared.value.Value.TheVariants as values
use Rattle.widl_value.specs.IdlTerms.{NullValue}
use Rattle.widl_trace.specs.declared.code.Code.TheVariants as code
use Rattle.widl_tables.specs.declared.pick.Pick.{Pick}
use Rattle.widl_tables.specs.declared.pick.Pick.TheVariants.{Entry, Probe, Refuse}
use Rattle.widl_tables.specs.Picks.{pick_member_of}
use Rattle.widl_tables.specs.Tests.{is_null_or_undefined}
use Rattle.widl_steps.specs.AskTerms.{GetAsk}
use Rattle.widl_steps.specs.Built.{Built}
use Rattle.widl_steps.specs.Sequences.{iterator_symbol, element_of, if_sequences}
use Rattle.widl_steps.specs.Tasks.{SequenceFrom, Talk}
use Rattle.widl_steps.specs.Words.{gives, fails, normal, object, method_or}

-- Members are flattened: none of them is nullable or a union. How a value is converted to such a type is given, as `to_plain`.

-- a value is converted to the member at a place, which the union has
abbrev pub to_member : (TypeTerm → Value → Talk) → Option TypeTerm → Value → Talk
to_member to_plain (Some t) v = to_plain t v
to_member to_plain None v = fails code.Union

-- without a method `@iterator` the later members are tried
abbrev pub without_iterator : (TypeTerm → Value → Talk) → TypeTerms → Value → Pick → Talk
without_iterator to_plain ts v (Entry place) = to_member to_plain (slice_get (flattened_members ts) place) v
without_iterator to_plain ts v (Probe place) = fails code.Union
without_iterator to_plain ts v Refuse = fails code.Union

-- with it, the sequence is made from the object and the method
abbrev pub member_from : ObjRef → ObjRef → Option TypeTerm → Talk
member_from o method (Some t) = Steps (SequenceFrom t o method) End
member_from o method None = fails code.Union

abbrev pub member_probed : (TypeTerm → Value → Talk) → Built → DefsTerm → TypeTerms → ℕ → ObjRef → Value → Talk
member_probed to_plain built list ts place o =
    method_or (without_iterator to_plain ts (values.Obj o) (pick_member_of list ts (class_of (values.Obj o)) true))
    (λ method. if_sequences built (member_from o method (option_and_then element_of (slice_get (flattened_members ts) place))))

abbrev pub member_picked : (TypeTerm → Value → Talk) → Built → DefsTerm → TypeTerms → Value → Pick → Talk
member_picked to_plain built list ts v (Entry place) = to_member to_plain (slice_get (flattened_members ts) place) v
member_picked to_plain built list ts v (Probe place) = object code.Union (λ o. Say (GetAsk o (keys.Sym iterator_symbol)) (normal (member_probed to_plain built list ts place o))) v
member_picked to_plain built list ts v Refuse = fails code.Union

-- where a nullable type is included, undefined and null are null
abbrev pub to_union : (TypeTerm → Value → Talk) → Built → DefsTerm → TypeTerms → Value → Talk
to_union to_plain built list ts v =
    if includes_nullable_type (UnionType ts) && is_null_or_undefined (class_of v)
    then gives NullValue
    else member_picked to_plain built list ts v (pick_member_of list ts (class_of v) false)
