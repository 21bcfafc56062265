-- What a function that adds bytes to a line does, where the line may have so many bytes at most (this program's own).
-- The contracts of functions inside this crate speak of it; what a line is stands in `EventLines`.
use Rattle.std.specs.Prelude.{◌≡◌, ℕ, ◌+◌, ◌^◌, ◌<◌, ◌≤◌, ◌++◌, List, length, Result, OnOk, IfErr}
use Rattle.widl_trace.specs.declared.cut.Cut.{Cut}
use Rattle.widl_trace.specs.declared.cut.Cut.TheVariants.{TooLong, Memory}
use Rattle.widl_trace.specs.declared.draft.Draft.{Draft}

-- how many bytes a line has at least that was cut off so; nothing is known where memory was wanting
unfoldable pub least : ℕ → Cut → ℕ
least most TooLong = most + 1
least most Memory = 0

-- a call that adds bytes to a draft: they are there, or else the line has more bytes than it may have, or memory was wanting
abbrev pub Adds : {T : Type 0} → Draft → Draft → List ℕ → Result T Cut → Type 0
Adds old new more result =
    OnOk result (new.bytes.items ≡ old.bytes.items ++ more) × OnOk result (new.most ≡ old.most)
    × IfErr result (λ cut. least old.most cut ≤ length old.bytes.items + length more) × IfErr result (λ cut. least old.most cut < 2 ^ 64)
