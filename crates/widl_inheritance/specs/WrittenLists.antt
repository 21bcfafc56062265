-- For proofs alone. Lists of arguments after references, as the program lists them.
use Rattle.std.specs.Prelude.{List, map}
use Rattle.std.specs.Borrow.{Bor}
use Rattle.widl_idl.specs.declared.tree.arguments.Argument.{Argument}
use Rattle.widl_idl.specs.PlainTrees.{PlainArgument, arguments_of}

-- the lists as definitions see them
abbrev pub listed_arguments : List (Bor (List Argument)) → List (List PlainArgument)
listed_arguments lists = map (λ l. arguments_of l.now) lists
