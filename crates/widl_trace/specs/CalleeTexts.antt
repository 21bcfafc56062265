-- Names, and what can be called, in a trace and in lists (this program's own).
use Rattle.std.specs.Prelude.{ℕ, ◌%◌, ◌++◌, Bool, true, false, List, [], map, codes, decimal, slice_get, Option, None, Some}
use Rattle.widl_idl.specs.declared.callee.Callee.{Callee}
use Rattle.widl_idl.specs.declared.callee.Owner.{Owner}
use Rattle.widl_idl.specs.declared.callee.Owner.TheVariants as owners
use Rattle.widl_idl.specs.declared.callee.Part.{Part}
use Rattle.widl_idl.specs.declared.callee.Part.TheVariants as parts
use Rattle.widl_idl.specs.DefinitionTerms.{AttrTerm, DefsTerm, IfaceTerm, OpNameTerm, SpaceTerm}

-- a unit of a name: names are ASCII, and seven bits make a line ASCII also where no condition says so of the list
abbrev pub name_unit : ℕ → ℕ
name_unit unit = unit % 128

-- a name as it stands in a list of definitions, without the `_` that a file may have before it
abbrev pub name_text : List ℕ → List ℕ
name_text name = map name_unit name

-- nothing where no definition has the number
abbrev pub name_or_nothing : Option (List ℕ) → List ℕ
name_or_nothing None = []
name_or_nothing (Some name) = name_text name

abbrev pub static_text : Bool → List ℕ
static_text true = codes "static "
static_text false = []

-- the operations of a name: `N.f`, or `I.static f` if they are static
abbrev pub operation_text : List ℕ → Bool → List ℕ → List ℕ
operation_text owner fixed name = name_text owner ++ codes "." ++ static_text fixed ++ name_text name

-- the constructors of an interface
abbrev pub constructor_text : List ℕ → List ℕ
constructor_text owner = name_text owner ++ codes ".constructor"

-- the stringifier of an interface
abbrev pub stringifier_text : List ℕ → List ℕ
stringifier_text owner = name_text owner ++ codes ".toString"

-- nothing where the owner has no such operations
abbrev pub operation_or_nothing : List ℕ → Option OpNameTerm → List ℕ
operation_or_nothing owner None = []
operation_or_nothing owner (Some op) = operation_text owner op.fixed op.name

-- the getter or the setter of an attribute: `I.get a`, `I.set a`
abbrev pub accessor_or_nothing : List ℕ → List ℕ → Option AttrTerm → List ℕ
accessor_or_nothing owner word None = []
accessor_or_nothing owner word (Some a) = name_text owner ++ word ++ name_text a.name

-- a part of an owner of this name, with these operations and attributes
abbrev pub part_text : List ℕ → List OpNameTerm → List AttrTerm → Part → List ℕ
part_text owner ops attrs (parts.Op n) = operation_or_nothing owner (slice_get ops n)
part_text owner ops attrs parts.Constructor = constructor_text owner
part_text owner ops attrs (parts.Get n) = accessor_or_nothing owner (codes ".get ") (slice_get attrs n)
part_text owner ops attrs (parts.Set n) = accessor_or_nothing owner (codes ".set ") (slice_get attrs n)
part_text owner ops attrs parts.Text = stringifier_text owner

abbrev pub interface_part : Part → Option IfaceTerm → List ℕ
interface_part part None = []
interface_part part (Some i) = part_text i.name i.members.ops i.members.attrs part

abbrev pub namespace_part : Part → Option SpaceTerm → List ℕ
namespace_part part None = []
namespace_part part (Some s) = part_text s.name s.members.ops s.members.attrs part

-- a part of the interface or the namespace of a number
abbrev pub owner_part : DefsTerm → Owner → Part → List ℕ
owner_part defs (owners.Iface n) part = interface_part part (slice_get defs.ifaces n)
owner_part defs (owners.Space n) part = namespace_part part (slice_get defs.spaces n)

-- the number of an overload, of a callee that has overloads
abbrev pub overload_text : Option ℕ → List ℕ
overload_text None = []
overload_text (Some number) = codes "#" ++ decimal number

-- a callee, under the name of what it is a member of; where the owner or the part isn't there only the overload's number is left
abbrev pub callee_text : DefsTerm → Callee → Option ℕ → List ℕ
callee_text defs callee overload = owner_part defs callee.owner callee.part ++ overload_text overload
