-- Lists of definitions as plain terms: without the places in memory of the parts of their types.
use Rattle.std.specs.Prelude.{ℕ, Bool, List, map, Option, option_map}
use Rattle.widl_text.specs.declared.place.Place.{Place}
use Rattle.widl_idl.specs.declared.argument.Arg.{Arg}
use Rattle.widl_idl.specs.declared.argument.Optionality.{Optionality}
use Rattle.widl_idl.specs.declared.attribute.Attr.{Attr}
use Rattle.widl_idl.specs.declared.callback.Callback.{Callback}
use Rattle.widl_idl.specs.declared.constant.Constant.{Constant}
use Rattle.widl_idl.specs.declared.defs.Defs.{Defs}
use Rattle.widl_idl.specs.declared.dictionary.Dict.{Dict}
use Rattle.widl_idl.specs.declared.dictionary.Member.{Member}
use Rattle.widl_idl.specs.declared.enumeration.Choice.{Choice}
use Rattle.widl_idl.specs.declared.interface.Iface.{Iface}
use Rattle.widl_idl.specs.declared.interface.Pair.{Pair}
use Rattle.widl_idl.specs.declared.interface.Slot.{Slot}
use Rattle.widl_idl.specs.declared.interface.Stringify.{Stringify}
use Rattle.widl_idl.specs.declared.literal.Literal.{Literal}
use Rattle.widl_idl.specs.declared.namespace.Space.{Space}
use Rattle.widl_idl.specs.declared.operation.OpName.{OpName}
use Rattle.widl_idl.specs.declared.signature.Sig.{Sig}
use Rattle.widl_idl.specs.Terms.{TypeTerm, type_term}

-- an argument
pub record ArgTerm : Type 0 where
  pub name : List ℕ
  pub ty : TypeTerm
  pub opt : Optionality
  pub value : Option Literal

-- a signature
pub record SigTerm : Type 0 where
  pub at : Place
  pub args : List ArgTerm
  pub returned : TypeTerm

-- the operations of one name
pub record OpNameTerm : Type 0 where
  pub name : List ℕ
  pub fixed : Bool
  pub sigs : List SigTerm

-- an attribute
pub record AttrTerm : Type 0 where
  pub at : Place
  pub name : List ℕ
  pub ty : TypeTerm
  pub readonly : Bool
  pub fixed : Bool

-- a constant
pub record ConstantTerm : Type 0 where
  pub at : Place
  pub name : List ℕ
  pub ty : TypeTerm
  pub value : Literal

-- the types of a pair iterable
pub record PairTerm : Type 0 where
  pub key : TypeTerm
  pub value : TypeTerm

-- what interfaces and namespaces have in common: operations, attributes, constants, and all members in order
pub record MembersTerm : Type 0 where
  pub ops : List OpNameTerm
  pub attrs : List AttrTerm
  pub consts : List ConstantTerm
  pub order : List Slot

-- an interface
pub record IfaceTerm : Type 0 where
  pub at : Place
  pub name : List ℕ
  pub parent : Option ℕ
  pub ctors : List SigTerm
  pub members : MembersTerm
  pub text : Stringify
  pub pairs : Option PairTerm

-- a namespace
pub record SpaceTerm : Type 0 where
  pub at : Place
  pub name : List ℕ
  pub members : MembersTerm

-- a member of a dictionary
pub record MemberTerm : Type 0 where
  pub at : Place
  pub name : List ℕ
  pub ty : TypeTerm
  pub needed : Bool
  pub value : Option Literal

-- a dictionary
pub record DictTerm : Type 0 where
  pub at : Place
  pub name : List ℕ
  pub parent : Option ℕ
  pub members : List MemberTerm

-- a callback function, or a callback interface
pub record CallbackTerm : Type 0 where
  pub at : Place
  pub name : List ℕ
  pub op : List ℕ
  pub sig : SigTerm

-- a list of definitions
pub record DefsTerm : Type 0 where
  pub ifaces : List IfaceTerm
  pub spaces : List SpaceTerm
  pub dicts : List DictTerm
  pub choices : List Choice
  pub callback_fns : List CallbackTerm
  pub callback_ifaces : List CallbackTerm

abbrev pub arg_term : Arg → ArgTerm
arg_term a = record { name = a.name; ty = type_term a.ty; opt = a.opt; value = a.value }

abbrev pub sig_term : Sig → SigTerm
sig_term s = record { at = s.at; args = map arg_term s.args; returned = type_term s.result }

abbrev pub op_name_term : OpName → OpNameTerm
op_name_term o = record { name = o.name; fixed = o.fixed; sigs = map sig_term o.sigs }

abbrev pub attr_term : Attr → AttrTerm
attr_term a = record { at = a.at; name = a.name; ty = type_term a.ty; readonly = a.readonly; fixed = a.fixed }

abbrev pub constant_term : Constant → ConstantTerm
constant_term c = record { at = c.at; name = c.name; ty = type_term c.ty; value = c.value }

abbrev pub pair_term : Pair → PairTerm
pair_term p = record { key = type_term p.key; value = type_term p.value }

abbrev pub iface_term : Iface → IfaceTerm
iface_term i = record {
  at = i.at;
  name = i.name;
  parent = i.parent;
  ctors = map sig_term i.ctors;
  members = record { ops = map op_name_term i.ops; attrs = map attr_term i.attrs; consts = map constant_term i.consts; order = i.order };
  text = i.text;
  pairs = option_map pair_term i.pairs;
}

abbrev pub space_term : Space → SpaceTerm
space_term s = record {
  at = s.at;
  name = s.name;
  members = record { ops = map op_name_term s.ops; attrs = map attr_term s.attrs; consts = map constant_term s.consts; order = s.order };
}

abbrev pub member_term : Member → MemberTerm
member_term m = record { at = m.at; name = m.name; ty = type_term m.ty; needed = m.required; value = m.value }

abbrev pub dict_term : Dict → DictTerm
dict_term d = record { at = d.at; name = d.name; parent = d.parent; members = map member_term d.members }

abbrev pub callback_term : Callback → CallbackTerm
callback_term c = record { at = c.at; name = c.name; op = c.op; sig = sig_term c.sig }

-- the term of a list of definitions
abbrev pub defs_term : Defs → DefsTerm
defs_term d = record {
  ifaces = map iface_term d.ifaces;
  spaces = map space_term d.spaces;
  dicts = map dict_term d.dicts;
  choices = d.choices;
  callback_fns = map callback_term d.callback_fns;
  callback_ifaces = map callback_term d.callback_ifaces;
}
