-- For proofs alone. The main definitions of a tree as plain terms.
use Rattle.std.specs.Prelude.{map, option_map}
use Rattle.widl_idl.specs.declared.tree.callbacks.Callback.{Callback}
use Rattle.widl_idl.specs.declared.tree.callbacks.CallbackInterface.{CallbackInterface}
use Rattle.widl_idl.specs.declared.tree.dictionaries.Dictionary.{Dictionary}
use Rattle.widl_idl.specs.declared.tree.enumerations.Enumeration.{Enumeration}
use Rattle.widl_idl.specs.declared.tree.interfaces.Interface.{Interface}
use Rattle.widl_idl.specs.declared.tree.interfaces.Namespace.{Namespace}
use Rattle.widl_idl.specs.PlainTypes.{name_of, type_of}
use Rattle.widl_idl.specs.PlainTrees.{PlainCallback, PlainCallbackInterface, PlainContainerOfMembers, PlainDictionary, PlainEnumeration, PlainInterface, arguments_of, dictionary_member_of, enumeration_value_of, members_of}

abbrev pub plain_interface : Interface → PlainInterface
plain_interface i = record { partial = i.partial; name = name_of i.name; parent = option_map name_of i.parent; members = members_of i.members }

abbrev pub plain_namespace : Namespace → PlainContainerOfMembers
plain_namespace n = record { partial = n.partial; name = name_of n.name; members = members_of n.members }

abbrev pub plain_dictionary : Dictionary → PlainDictionary
plain_dictionary d = record { partial = d.partial; name = name_of d.name; parent = option_map name_of d.parent; members = map dictionary_member_of d.members }

abbrev pub plain_enumeration : Enumeration → PlainEnumeration
plain_enumeration e = record { name = name_of e.name; values = map enumeration_value_of e.values; trailing_comma = e.trailing_comma }

abbrev pub plain_callback : Callback → PlainCallback
plain_callback c = record { name = name_of c.name; returned = type_of c.result; arguments = arguments_of c.arguments }

abbrev pub plain_callback_interface : CallbackInterface → PlainCallbackInterface
plain_callback_interface c = record { name = name_of c.name; members = members_of c.members }
