-- Lemmas on the output of the arguments.
use Rattle.std.proofs.Common.{◌≡◌, ℕ, List, subst, inl, inr}
use Rattle.std.specs.Prelude.{◌⊎◌, ◌≢◌, Option}
use Rattle.widl_sink.specs.Growth.{GrewByPrefix}
use Rattle.widl_top.specs.Causes.{fault_of}
use Rattle.widl_top.specs.Answers.{Answers}
use Rattle.widl_top.specs.Output.{Output}
use Rattle.widl_top.specs.Outputs.{Writes, WritesPart, IsRequestOutput, IsOutput}
use Rattle.widl_top.specs.Readings.{read_in_order}
use Rattle.widl_top.specs.Requests.{request_of, names_of}
use Rattle.widl_top.specs.declared.request.Request.{Request}
use Rattle.widl_top.specs.declared.status.Status.{Status}
use Rattle.widl_top.specs.declared.status.Status.TheVariants as ends

-- the output of a request of the arguments
abbrev pub IsAsked : List (List ℕ) → Option Request → List (List ℕ × List ℕ) → Output → Type 0
IsAsked words request told output = IsRequestOutput request (read_in_order told (names_of request words)) output

-- is the output of the arguments
asked : (words : List (List ℕ)) (request : Option Request) (told : List (List ℕ × List ℕ)) (output : Output) → request ≡ request_of words → IsAsked words request told output → IsOutput words told output
unfolding IsOutput
asked words request told output is p = subst (λ r. IsAsked words r told output) is p

pub writes_asked : (words : List (List ℕ)) (request : Option Request) (told : List (List ℕ × List ℕ)) (a b : Option (List ℕ)) (result : Status) → request ≡ request_of words
    → Writes (IsAsked words request told) a b result → Writes (IsOutput words told) a b result
writes_asked words request told a b result is p = record { output = p.output; is = asked words request told p.output is p.is; status = p.status; bytes = p.bytes }

pub part_asked : (words : List (List ℕ)) (request : Option Request) (told : List (List ℕ × List ℕ)) (a b : Option (List ℕ)) → request ≡ request_of words
    → WritesPart (IsAsked words request told) a b → WritesPart (IsOutput words told) a b
part_asked words request told a b is p = record { output = p.output; is = asked words request told p.output is p.is; part = p.part }

-- nothing or a prefix of the output
pub same_or_part : (words : List (List ℕ)) (request : Option Request) (told : List (List ℕ × List ℕ)) (a b : Option (List ℕ)) → request ≡ request_of words
    → (b ≡ a) ⊎ WritesPart (IsAsked words request told) a b → (b ≡ a) ⊎ WritesPart (IsOutput words told) a b
same_or_part words request told a b is (inl p) = inl p
same_or_part words request told a b is (inr p) = inr (part_asked words request told a b is p)

-- a prefix of the output or of the line of a fault
pub either_asked : (words : List (List ℕ)) (request : Option Request) (told : List (List ℕ × List ℕ)) (a b : Option (List ℕ)) (started : ℕ) → request ≡ request_of words
    → WritesPart (IsAsked words request told) a b ⊎ GrewByPrefix a b (fault_of (names_of request words) started)
    → WritesPart (IsOutput words told) a b ⊎ GrewByPrefix a b (fault_of (names_of (request_of words) words) started)
either_asked words request told a b started is (inl p) = inl (part_asked words request told a b is p)
either_asked words request told a b started is (inr p) = inr (subst (λ r. GrewByPrefix a b (fault_of (names_of r words) started)) is p)

-- what was answered without a file
pub writes_output : (IsIt : Output → Type 0) (output : Output) (a b : Option (List ℕ)) (f h : ℕ) (result : Status) → IsIt output → Answers output a b f h result
    → result ≢ ends.Memory → result ≢ ends.WriteFault → Writes IsIt a b result
writes_output IsIt output a b f h result is p m w = record { output = output; is = is; status = p.status m w; bytes = p.wrote m w }

pub writes_part : (IsIt : Output → Type 0) (output : Output) (a b : Option (List ℕ)) (f h : ℕ) (result : Status) → IsIt output → Answers output a b f h result
    → result ≡ ends.WriteFault → WritesPart IsIt a b
writes_part IsIt output a b f h result is p e = record { output = output; is = is; part = p.torn e }
