-- For proofs alone. The lists of overloads of one node.
use Rattle.std.specs.Prelude.{List, ◌∷◌, flat_map}
use Rattle.widl_idl.specs.DefinitionTerms.{SigTerm, IfaceTerm, SpaceTerm}
use Rattle.widl_overload.specs.rules.OverloadRules.{operation_lists}

-- the overloads of an interface: its constructors, and the operations of each name
abbrev pub lists_of_interface : IfaceTerm → List (List SigTerm)
lists_of_interface i = i.ctors ∷ operation_lists i.members.ops

abbrev pub lists_of_interfaces : List IfaceTerm → List (List SigTerm)
lists_of_interfaces ifaces = flat_map lists_of_interface ifaces

abbrev pub lists_of_namespace : SpaceTerm → List (List SigTerm)
lists_of_namespace s = operation_lists s.members.ops

abbrev pub lists_of_namespaces : List SpaceTerm → List (List SigTerm)
lists_of_namespaces spaces = flat_map lists_of_namespace spaces
