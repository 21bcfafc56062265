-- For proofs alone. The types that are written in a set of files, and what they mean, as the program lists them.
use Rattle.std.specs.Prelude.{◌≡◌, List, ◌++◌, map}
use Rattle.widl_idl.specs.PlainTypes.{attribute_of, type_of}
use Rattle.widl_idl.specs.Terms.{type_term}
use Rattle.widl_names.specs.Extents.{outline}
use Rattle.widl_overload.specs.rules.OnTypes.{UseTerm}
use Rattle.widl_overload.specs.rules.TypeUses as plain
use Rattle.widl_type_rules.specs.declared.resolved_uses.ResolvedUse.{ResolvedUse}
use Rattle.widl_type_rules.specs.declared.type_uses.TypeUse.{TypeUse}

-- a type where it is written, without its place in memory
abbrev pub use_of : TypeUse → plain.TypeUse
use_of u = record { role = u.role; attributes = map attribute_of u.outer.now ++ map attribute_of u.own.now; first = u.first; ty = type_of u.ty.now }

abbrev pub uses_listed : List TypeUse → List plain.TypeUse
uses_listed uses = map use_of uses

-- the types are put after those that were there
abbrev pub Adds : List TypeUse → List TypeUse → List plain.TypeUse → Type 0
Adds old new uses = uses_listed new ≡ uses_listed old ++ uses

-- the same with what it means there
abbrev pub resolved_use : ResolvedUse → UseTerm
resolved_use r = record { written = use_of r.written; meaning = type_term r.meaning }

-- a type where it is written, with the outline of what it means there
abbrev pub outlined : UseTerm → UseTerm
outlined u = record { written = u.written; meaning = outline u.meaning }
