use Rattle.std.proofs.Common.{take, map}
use Rattle.widl_idl.specs.DefinitionTerms.{sig_term}
use Rattle.widl_overload.specs.sets.Spans.{AreSpans}
use Rattle.widl_overload.proofs.span.spans_of.Given as goal

abbrev pub invariant-loop-sig : goal.invariant-loop-sig
invariant-loop-sig l = AreSpans (map sig_term (take l.sig-index l.sigs)) l.spans
