-- The line of a stop is short.
use Rattle.std.proofs.Common.{◌≤◌, ◌++◌, [], ◌∷◌, length, codes, decimal, arith}
use Rattle.std.proofs.lemmas.Fmt.{length-decimal-le}
use Rattle.std.proofs.lemmas.List.{length-append}
use Rattle.widl_idl.specs.DefinitionTerms.{DefsTerm}
use Rattle.widl_sink.specs.Lines.{ended}
use Rattle.widl_trace.specs.EventLines.{line_of}
use Rattle.widl_trace.specs.EventTerms.{EventTerm, BudgetStop, DepthStop, ProfileStop, IsStop}

pub stop_line_is_short : (defs : DefsTerm) (event : EventTerm) → IsStop event → length (ended (line_of defs event)) ≤ 64
unfolding line_of
stop_line_is_short defs BudgetStop stop = omega arith
stop_line_is_short defs DepthStop stop = omega arith
stop_line_is_short defs (ProfileStop end) stop =
    let digits = length-decimal-le 3 end (omega arith) (omega arith) (omega arith) in
    let whole = length-append (codes "stop profile " ++ decimal end) (10 ∷ []) in
    let front = length-append (codes "stop profile ") (decimal end) in
    omega (arith, digits, whole, front)
stop_line_is_short defs event stop = absurd stop
