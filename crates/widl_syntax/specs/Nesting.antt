-- How deep the types of a file nest.
use Rattle.std.specs.Prelude.{ℕ, suc, ◌≤◌, max, Contains}
use Rattle.widl_idl.specs.declared.tree.fragments.Fragment.{Fragment}
use Rattle.widl_idl.specs.Nodes.{TypeNode, nodes_of}
use Rattle.widl_idl.specs.PlainTrees.{plain_definitions}
use Rattle.widl_idl.specs.PlainTypes.{PlainForm, PlainType, PlainAnnotated, PlainMembers, PlainContainer, PlainRecord, PlainPromise, PlainUnion, plain_type, plain_annotated, no_plain, more_plain}

abbrev mutual
  -- the levels of a type as it is written: one, and those of the deepest type inside it. Its extended attributes have none
  pub form_levels : PlainForm → ℕ
  form_levels (PlainContainer container inner) = suc (annotated_levels inner)
  form_levels (PlainRecord key inner) = suc (annotated_levels inner)
  form_levels (PlainPromise inner) = suc (type_levels inner)
  form_levels (PlainUnion members) = suc (member_levels members)
  form_levels form = 1

  pub type_levels : PlainType → ℕ
  type_levels (plain_type at form question) = form_levels form

  pub annotated_levels : PlainAnnotated → ℕ
  annotated_levels (plain_annotated at attributes inner) = type_levels inner

  pub member_levels : PlainMembers → ℕ
  member_levels no_plain = 0
  member_levels (more_plain member more) = max (annotated_levels member) (member_levels more)

-- no type of the file has more levels
abbrev pub HasLevels : ℕ → Fragment → Type 0
HasLevels most f = (ty : PlainType) → Contains (nodes_of (plain_definitions f.definitions)) (TypeNode ty) → type_levels ty ≤ most
