-- What the first two phases find in a set of files: a fault of the encoding, or of the grammar.
use Rattle.std.specs.Prelude.{ℕ, ◌<◌, List, ◌++◌, Option, Some, None, EachIndex, IsUtf8, codes, decimal, length}
use Rattle.widl_text.specs.declared.place.Place.{Place}
use Rattle.widl_lex.specs.Faults.{IsLexFault}
use Rattle.widl_lex.specs.Tokens.{TokenList, AreTokensOf}
use Rattle.widl_lex.specs.declared.fault.LexFault.TheVariants.{NotUtf8}
use Rattle.widl_predictive.specs.Grammar.{IsAccepted}
use Rattle.widl_grammar.specs.Rows.{grammar}
use Rattle.widl_grammar.specs.Source.{terminals_of, IsFaultOf}
use Rattle.widl_grammar.specs.declared.rule.Rule.TheVariants.{Definitions}
use Rattle.widl_grammar.specs.declared.fault.SyntaxFault.{SyntaxFault}
use Rattle.widl_grammar.specs.declared.fault.SyntaxFault.TheVariants as faults
use Rattle.widl_front.specs.Texts.{named}
use Rattle.widl_front.specs.declared.finding.Finding.{Finding}
use Rattle.widl_front.specs.declared.finding.Finding.TheVariants.{Encoding, Syntax, Deep}

-- ---- one file, by its number and its bytes

-- a UTF-8 text whose tokens are a sentence of the grammar without a type of level 17
pub record IsWellFormed (file : ℕ) (bytes : List ℕ) : Type 0 where
  pub utf8 : IsUtf8 bytes
  pub tokens : TokenList
  pub tokens_are : AreTokensOf file bytes tokens
  pub accepted : IsAccepted grammar Definitions (terminals_of tokens)

-- a UTF-8 text whose tokens have this fault
pub record HasSyntaxFault (file : ℕ) (bytes : List ℕ) (fault : SyntaxFault) : Type 0 where
  pub utf8 : IsUtf8 bytes
  pub tokens : TokenList
  pub tokens_are : AreTokensOf file bytes tokens
  pub fault_is : IsFaultOf tokens fault

-- what is found in one file
abbrev pub IsFileFinding : ℕ → List ℕ → Option Finding → Type 0
IsFileFinding file bytes None = IsWellFormed file bytes
IsFileFinding file bytes (Some (Encoding place)) = IsLexFault file bytes (NotUtf8 place)
IsFileFinding file bytes (Some (Syntax place)) = HasSyntaxFault file bytes (faults.Syntax place)
IsFileFinding file bytes (Some (Deep place)) = HasSyntaxFault file bytes (faults.TooDeep place)

-- ---- a set of files, of which each has its place among the texts as its number

-- all are UTF-8, and this is the fault of the first that isn't well-formed
pub record IsFirstSyntaxFault (texts : List (List ℕ)) (fault : SyntaxFault) : Type 0 where
  pub encoded : EachIndex texts (λ i. IsUtf8 (named texts i))
  pub file : ℕ
  pub within : file < length texts
  pub before : (i : ℕ) → i < file → IsWellFormed i (named texts i)
  pub here : HasSyntaxFault file (named texts file) fault

-- this file isn't UTF-8 from this place on, and all before it are
pub record IsFirstEncodingFault (texts : List (List ℕ)) (place : Place) : Type 0 where
  pub within : place.file < length texts
  pub before : (i : ℕ) → i < place.file → IsUtf8 (named texts i)
  pub here : IsLexFault place.file (named texts place.file) (NotUtf8 place)

-- the first phase looks at the encoding of all files, the second at the grammar
abbrev pub IsFoundIn : List (List ℕ) → Option Finding → Type 0
IsFoundIn texts None = EachIndex texts (λ i. IsWellFormed i (named texts i))
IsFoundIn texts (Some (Encoding place)) = IsFirstEncodingFault texts place
IsFoundIn texts (Some (Syntax place)) = IsFirstSyntaxFault texts (faults.Syntax place)
IsFoundIn texts (Some (Deep place)) = IsFirstSyntaxFault texts (faults.TooDeep place)

-- ---- the line of a refusal: `refused RULE FILE OFFSET`

abbrev pub rule_of : Finding → List ℕ
rule_of (Encoding place) = codes "utf8"
rule_of (Syntax place) = codes "syntax"
rule_of (Deep place) = codes "deep"

abbrev pub place_of : Finding → Place
place_of (Encoding place) = place
place_of (Syntax place) = place
place_of (Deep place) = place

unfoldable pub finding_line : Finding → List ℕ
finding_line finding = codes "refused " ++ rule_of finding ++ codes " " ++ decimal (place_of finding).file ++ codes " " ++ decimal (place_of finding).at
