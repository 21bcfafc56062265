-- For proofs alone. Arguments of a tree, as the program reads them.
use Rattle.std.specs.Prelude.{Bool}
use Rattle.widl_idl.specs.declared.tree.arguments.Argument.{Argument}
use Rattle.widl_idl.specs.PlainTrees.{argument_kind_of}
use Rattle.widl_overload.specs.rules.DefinitionRules.{is_variadic}

-- whether an argument of a tree has an ellipsis
abbrev pub has_ellipsis : Argument → Bool
has_ellipsis a = is_variadic (argument_kind_of a.kind)
