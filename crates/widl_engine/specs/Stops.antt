-- The line of a stop, and the end that it makes.
use Rattle.std.specs.Prelude.{◌≡◌, ℕ, List}
use Rattle.widl_idl.specs.DefinitionTerms.{DefsTerm}
use Rattle.widl_sink.specs.Lines.{ended}
use Rattle.widl_trace.specs.EventLines.{line_of}
use Rattle.widl_runs.specs.Ends.{JobEnd, Thrown}
use Rattle.widl_runs.specs.declared.stop.Stop.{Stop}
use Rattle.widl_runs.specs.Traces.{stop_event}
use Rattle.widl_engine.specs.declared.runs.End.{End}
use Rattle.widl_engine.specs.declared.runs.End.TheVariants as ends
use Rattle.widl_engine.specs.Output.{Output, Emits, Tears}

abbrev pub ends_with : JobEnd → End
ends_with (Thrown v) = ends.Uncaught
ends_with _ = ends.Done

abbrev pub bytes_of_stop : DefsTerm → Stop → List ℕ
bytes_of_stop list stop = ended (line_of list (stop_event stop))

-- the line of the stop was emitted, or there was no memory, or the sink failed at it
abbrev pub Said : DefsTerm → Stop → Output → Output → End → Type 0
Said list stop before after (ends.Stopped said) = (said ≡ stop) × Emits before after (bytes_of_stop list stop)
Said list stop before after ends.Memory = after ≡ before
Said list stop before after ends.WriteFault = Tears before after (bytes_of_stop list stop)
Said list stop before after end = ⊥
