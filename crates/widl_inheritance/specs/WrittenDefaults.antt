-- For proofs alone. Default values after references, as the program lists them.
use Rattle.std.specs.Prelude.{List, map}
use Rattle.widl_idl.specs.PlainTrees.{PlainArgument, PlainDefinition, PlainDictionaryMember}
use Rattle.widl_idl.specs.PlainTypes.{annotated_of, attribute_of, literal_of}
use Rattle.widl_overload.specs.rules.DefaultRules as rules
use Rattle.widl_overload.specs.rules.DefaultRules.{default_of, defaulted, defaults_of_members}
use Rattle.widl_inheritance.specs.declared.defaulted.Defaulted.{Defaulted}

-- a type with its default value, as definitions see it
abbrev pub defaulted_of : Defaulted → rules.Defaulted
defaulted_of d = record { attributes = map attribute_of d.attributes.now; ty = annotated_of d.ty.now; value = literal_of d.value.now }

abbrev pub listed_defaults : List Defaulted → List rules.Defaulted
listed_defaults list = map defaulted_of list

-- the default value of an argument, if it has one
abbrev pub default_of_argument : PlainArgument → List rules.Defaulted
default_of_argument a = defaulted a.attributes a.ty (default_of a.kind)

-- the same of a dictionary member
abbrev pub default_of_member : PlainDictionaryMember → List rules.Defaulted
default_of_member m = defaulted m.attributes m.ty m.default

-- those of the members of a definition
abbrev pub defaults_in : PlainDefinition → List rules.Defaulted
defaults_in d = defaults_of_members d.kind
