-- Lists of definitions that 32 bits can number: each list in them but the texts has fewer than 4,294,967,296 items.
use Rattle.std.specs.Prelude.{ℕ, ◌+◌, ◌<◌, List, length, Option, None, Some}
use Rattle.std.specs.List.{All}
use Rattle.widl_idl.specs.declared.argument.Arg.{Arg}
use Rattle.widl_idl.specs.declared.attribute.Attr.{Attr}
use Rattle.widl_idl.specs.declared.callback.Callback.{Callback}
use Rattle.widl_idl.specs.declared.constant.Constant.{Constant}
use Rattle.widl_idl.specs.declared.defs.Defs.{Defs}
use Rattle.widl_idl.specs.declared.dictionary.Dict.{Dict}
use Rattle.widl_idl.specs.declared.dictionary.Member.{Member}
use Rattle.widl_idl.specs.declared.enumeration.Choice.{Choice}
use Rattle.widl_idl.specs.declared.interface.Iface.{Iface}
use Rattle.widl_idl.specs.declared.interface.Pair.{Pair}
use Rattle.widl_idl.specs.declared.namespace.Space.{Space}
use Rattle.widl_idl.specs.declared.operation.OpName.{OpName}
use Rattle.widl_idl.specs.declared.signature.Sig.{Sig}
use Rattle.widl_idl.specs.Terms.{TypeTerm, TypeTerms, SequenceType, RecordType, PromiseType, NullableType, UnionType, no_types, more_types, type_term}

-- a list with few enough items, of which each has the property
pub record IsNumbered {X : Type 0} (P : X → Type 0) (xs : List X) : Type 0 where
  pub few : length xs < 4294967296
  pub each : All P xs

abbrev pub AnyItem : {X : Type 0} → X → Type 0
AnyItem x = Unit {0}

abbrev pub member_count : TypeTerms → ℕ
member_count no_types = 0
member_count (more_types t ts) = member_count ts + 1

abbrev mutual
  pub NumberedType : TypeTerm → Type 0
  NumberedType (SequenceType t) = NumberedType t
  NumberedType (RecordType key t) = NumberedType t
  NumberedType (PromiseType t) = NumberedType t
  NumberedType (NullableType t) = NumberedType t
  NumberedType (UnionType ts) = (member_count ts < 4294967296) × NumberedMembers ts
  NumberedType t = Unit {0}

  pub NumberedMembers : TypeTerms → Type 0
  NumberedMembers no_types = Unit {0}
  NumberedMembers (more_types t ts) = NumberedType t × NumberedMembers ts

pub record NumberedSig (sig : Sig) : Type 0 where
  pub args : IsNumbered (λ (a : Arg). NumberedType (type_term a.ty)) sig.args
  pub returned : NumberedType (type_term sig.result)

abbrev pub NumberedOp : OpName → Type 0
NumberedOp op = IsNumbered NumberedSig op.sigs

abbrev pub NumberedAttr : Attr → Type 0
NumberedAttr a = NumberedType (type_term a.ty)

abbrev pub NumberedConstant : Constant → Type 0
NumberedConstant k = NumberedType (type_term k.ty)

abbrev pub NumberedPairs : Option Pair → Type 0
NumberedPairs None = Unit {0}
NumberedPairs (Some pair) = NumberedType (type_term pair.key) × NumberedType (type_term pair.value)

pub record NumberedInterface (i : Iface) : Type 0 where
  pub ctors : IsNumbered NumberedSig i.ctors
  pub ops : IsNumbered NumberedOp i.ops
  pub attrs : IsNumbered NumberedAttr i.attrs
  pub consts : IsNumbered NumberedConstant i.consts
  pub pairs : NumberedPairs i.pairs
  pub order : IsNumbered AnyItem i.order

pub record NumberedNamespace (s : Space) : Type 0 where
  pub ops : IsNumbered NumberedOp s.ops
  pub attrs : IsNumbered NumberedAttr s.attrs
  pub consts : IsNumbered NumberedConstant s.consts
  pub order : IsNumbered AnyItem s.order

abbrev pub NumberedDictionary : Dict → Type 0
NumberedDictionary d = IsNumbered (λ (m : Member). NumberedType (type_term m.ty)) d.members

abbrev pub NumberedEnumeration : Choice → Type 0
NumberedEnumeration e = IsNumbered AnyItem e.values

abbrev pub NumberedCallback : Callback → Type 0
NumberedCallback c = NumberedSig c.sig

pub record IsNumberedList (defs : Defs) : Type 0 where
  pub ifaces : IsNumbered NumberedInterface defs.ifaces
  pub spaces : IsNumbered NumberedNamespace defs.spaces
  pub dicts : IsNumbered NumberedDictionary defs.dicts
  pub choices : IsNumbered NumberedEnumeration defs.choices
  pub callback_fns : IsNumbered NumberedCallback defs.callback_fns
  pub callback_ifaces : IsNumbered NumberedCallback defs.callback_ifaces
