use Rattle.std.proofs.Common.{take, map}
use Rattle.widl_idl.specs.PlainTypes.{attribute_of}
use Rattle.widl_idl.specs.WrittenTypes.{notes_of}
use Rattle.widl_names.specs.SaidNotes.{Says}
use Rattle.widl_names.proofs.annotations.Annotations.of.Given as goal

abbrev pub invariant-loop-attribute : goal.invariant-loop-attribute
invariant-loop-attribute l = Says l.said (notes_of (map attribute_of (take l.attribute-index l.attributes)))
