-- For proofs alone. The members of a written union.
use Rattle.std.specs.Prelude.{List}
use Rattle.widl_idl.specs.declared.tree.types.TypeForm.TheViews.{out-UnionMembers}
use Rattle.widl_idl.specs.declared.tree.types.AnnotatedType.{AnnotatedType}
use Rattle.widl_idl.specs.declared.tree.types.UnionMembers.{UnionMembers}

-- the members, with their places in memory
abbrev pub members_in : UnionMembers → List AnnotatedType
members_in members = (out-UnionMembers members).items.items
