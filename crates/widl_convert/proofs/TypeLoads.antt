-- How many moves the conversion to a type makes without a charge, at most.
use Rattle.std.proofs.Common.{◌≤◌, arith}
use Rattle.widl_idl.specs.Terms.{TypeTerm, AnyType, UndefinedType, BooleanType, IntegerType, StringType, EnumerationType, InterfaceType, CallbackFunctionType, CallbackInterfaceType, DictionaryType, ObjectType, SequenceType, RecordType, PromiseType, NullableType, UnionType}
use Rattle.widl_convert.specs.Loads.{conversion_load, type_load}

pub most_of_types : (t : TypeTerm) → type_load t ≤ conversion_load
most_of_types (StringType kind null_empty) = omega arith
most_of_types AnyType = omega arith
most_of_types UndefinedType = omega arith
most_of_types BooleanType = omega arith
most_of_types (IntegerType kind mode) = omega arith
most_of_types (EnumerationType n) = omega arith
most_of_types (InterfaceType n) = omega arith
most_of_types (CallbackFunctionType n) = omega arith
most_of_types (CallbackInterfaceType n) = omega arith
most_of_types (DictionaryType n) = omega arith
most_of_types ObjectType = omega arith
most_of_types (SequenceType t) = omega arith
most_of_types (RecordType key t) = omega arith
most_of_types (PromiseType t) = omega arith
most_of_types (NullableType t) = omega arith
most_of_types (UnionType ts) = omega arith
