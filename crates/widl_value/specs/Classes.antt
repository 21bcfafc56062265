-- The class of a value: its type, and for an object what its shape says.
use Rattle.widl_value.specs.declared.class.Class.{Class}
use Rattle.widl_value.specs.declared.class.Class.TheVariants as classes
use Rattle.widl_value.specs.declared.object.Shape.{Shape}
use Rattle.widl_value.specs.declared.object.Shape.TheVariants as shapes
use Rattle.widl_value.specs.declared.value.Value.{Value}
use Rattle.widl_value.specs.declared.value.Value.TheVariants as values

abbrev pub class_of_shape : Shape → Class
class_of_shape shapes.Plain = classes.Plain
class_of_shape shapes.Callable = classes.Callable
class_of_shape (shapes.Platform iface) = classes.Platform iface

abbrev pub class_of : Value → Class
class_of values.Undefined = classes.Undefined
class_of values.Null = classes.Null
class_of (values.Bool b) = classes.Bool
class_of (values.Num n) = classes.Num
class_of (values.Str text) = classes.Str
class_of (values.Sym id) = classes.Sym
class_of (values.Obj obj) = class_of_shape obj.shape
