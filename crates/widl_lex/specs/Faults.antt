-- Why a file has no tokens.
use Rattle.std.specs.Prelude.{◌≡◌, ℕ, List, IsUtf8}
use Rattle.widl_lex.specs.declared.fault.LexFault.{LexFault}
use Rattle.widl_lex.specs.declared.fault.LexFault.TheVariants.{NotUtf8, Memory}
use Rattle.widl_lex.specs.Utf8.{IsUtf8Fault}

-- the place where the file stops being UTF-8; memory may be wanting for a UTF-8 file alone
abbrev pub IsLexFault : (file : ℕ) (bytes : List ℕ) → LexFault → Type 0
IsLexFault file bytes (NotUtf8 place) = (place.file ≡ file) × IsUtf8Fault bytes place.at
IsLexFault file bytes Memory = IsUtf8 bytes
