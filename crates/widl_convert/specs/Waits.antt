-- For proofs and contracts alone; no step names these words. The kind of the ask whose answer a suspended conversation waits for.
use Rattle.widl_value.specs.declared.object.Shape.TheVariants as shapes
use Rattle.widl_steps.specs.AskTerms.{AskKind, OfGet, OfCall, OfOwnKeys, OfOwn, OfUnit, OfNew}
use Rattle.widl_convert.specs.declared.primitive.PrimitiveWait.{PrimitiveWait}
use Rattle.widl_convert.specs.declared.primitive.PrimitiveWait.TheVariants.{Method, MethodResult, Ordinary, OrdinaryResult}
use Rattle.widl_convert.specs.declared.sequence.SequenceWait.{SequenceWait}
use Rattle.widl_convert.specs.declared.sequence.SequenceWait.TheVariants as sequences
use Rattle.widl_convert.specs.declared.waits.ValueWait.{ValueWait}
use Rattle.widl_convert.specs.declared.waits.ValueWait.TheVariants as values
use Rattle.widl_convert.specs.declared.waits.Wait.{Wait}
use Rattle.widl_convert.specs.declared.waits.Wait.TheVariants as waits

abbrev pub kind_for_primitive : PrimitiveWait → AskKind
kind_for_primitive (Method hint o) = OfGet
kind_for_primitive MethodResult = OfCall
kind_for_primitive (Ordinary o otherwise) = OfGet
kind_for_primitive (OrdinaryResult o otherwise) = OfCall

abbrev pub kind_for_sequence : SequenceWait → AskKind
kind_for_sequence (sequences.Method element o) = OfGet
kind_for_sequence (sequences.Iterator element) = OfCall
kind_for_sequence (sequences.Next element iterator) = OfGet
kind_for_sequence (sequences.Turn i) = OfCall
kind_for_sequence (sequences.Done i turn) = OfGet
kind_for_sequence (sequences.Element i) = OfGet

abbrev pub kind_for_value : ValueWait → AskKind
kind_for_value (values.Primitive w) = kind_for_primitive w
kind_for_value (values.Probe p) = OfGet
kind_for_value (values.Sequence w) = kind_for_sequence w
kind_for_value (values.Property p) = OfGet
kind_for_value (values.Member w) = OfGet
kind_for_value (values.UnionProbe p) = OfGet
kind_for_value values.NewArray = OfNew shapes.Plain
kind_for_value values.NewObject = OfNew shapes.Plain

abbrev pub kind_for : Wait → AskKind
kind_for (waits.Value w) = kind_for_value w
kind_for (waits.Keys r) = OfOwnKeys
kind_for (waits.Own p) = OfOwn
kind_for (waits.Unit w) = OfUnit
kind_for (waits.Item f) = OfUnit
