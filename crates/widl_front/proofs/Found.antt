-- Lemmas on what is found in a set of files, by one file more.
use Rattle.std.proofs.Common.{◌≡◌, ℕ, ◌+◌, ◌<◌, ◌≤◌, ◌⊎◌, inl, inr, List, [], ◌∷◌, ◌++◌, length, take, subst, sym, ◌∙◌, ap, arith}
use Rattle.std.specs.Prelude.{Option, Some, None, EachIndex, IsUtf8}
use Rattle.std.specs.Option.{option_or}
use Rattle.std.proofs.Math.Seq.{get_or-append_seam}
use Rattle.std.proofs.lemmas.Bool.{cases_lt}
use Rattle.std.proofs.lemmas.List.{get_or_append_left, get_or-take, length-take-le, length_push, take_more}
use Rattle.widl_text.specs.declared.place.Place.{Place}
use Rattle.widl_lex.specs.Faults.{IsLexFault}
use Rattle.widl_lex.specs.declared.fault.LexFault.TheVariants.{NotUtf8}
use Rattle.widl_grammar.specs.declared.fault.SyntaxFault.{SyntaxFault}
use Rattle.widl_front.specs.Findings.{IsWellFormed, HasSyntaxFault, IsFileFinding, IsFirstEncodingFault, IsFirstSyntaxFault, IsFoundIn}
use Rattle.widl_front.specs.Steps.{BreaksEncoding, KeepsEncoding}
use Rattle.widl_front.specs.Texts.{named}
use Rattle.widl_front.specs.declared.finding.Finding.{Finding}
use Rattle.widl_front.specs.declared.finding.Finding.TheVariants.{Encoding, Syntax, Deep}

-- ---- a list of texts with one more

pub named_front : (texts : List (List ℕ)) (bytes : List ℕ) (i : ℕ) → i < length texts → named (texts ++ bytes ∷ []) i ≡ named texts i
named_front texts bytes i below = get_or_append_left texts (bytes ∷ []) [] i below

pub named_last : (texts : List (List ℕ)) (bytes : List ℕ) → named (texts ++ bytes ∷ []) (length texts) ≡ bytes
named_last texts bytes = get_or-append_seam texts bytes [] []

-- what holds of each, and of the one more, holds of all
each_more : (P : ℕ → List ℕ → Type 0) (texts : List (List ℕ)) (bytes : List ℕ) → EachIndex texts (λ i. P i (named texts i)) → P (length texts) bytes
    → EachIndex (texts ++ bytes ∷ []) (λ i. P i (named (texts ++ bytes ∷ []) i))
each_more P texts bytes so_far here i below = by (cases_lt i (length texts))
  where
    by : (i < length texts) ⊎ (length texts ≤ i) → P i (named (texts ++ bytes ∷ []) i)
    by (inl low) = subst (P i) (sym (named_front texts bytes i low)) (so_far i low)
    by (inr high) =
        let size : length (texts ++ bytes ∷ []) ≡ length texts + 1 = length_push texts bytes in
        let last : length texts ≡ i = omega (arith, below, high, size) in
        subst (λ n. P n (named (texts ++ bytes ∷ []) n)) last (subst (P (length texts)) (sym (named_last texts bytes)) here)

-- ---- the encoding of the files

file_utf8 : (file : ℕ) (bytes : List ℕ) (finding : Option Finding) → KeepsEncoding finding → IsFileFinding file bytes finding → IsUtf8 bytes
file_utf8 file bytes None encoded is = is.utf8
file_utf8 file bytes (Some (Encoding place)) encoded is = absurd encoded
file_utf8 file bytes (Some (Syntax place)) encoded is = is.utf8
file_utf8 file bytes (Some (Deep place)) encoded is = is.utf8

all_utf8 : (texts : List (List ℕ)) (found : Option Finding) → KeepsEncoding found → IsFoundIn texts found → EachIndex texts (λ i. IsUtf8 (named texts i))
all_utf8 texts None encoded is i below = (is i below).utf8
all_utf8 texts (Some (Encoding place)) encoded is i below = absurd encoded
all_utf8 texts (Some (Syntax place)) encoded is i below = is.encoded i below
all_utf8 texts (Some (Deep place)) encoded is i below = is.encoded i below

-- ---- one file more was looked at

first_fault : (texts : List (List ℕ)) (bytes : List ℕ) (fault : SyntaxFault) → EachIndex texts (λ i. IsWellFormed i (named texts i)) → HasSyntaxFault (length texts) bytes fault
    → IsFirstSyntaxFault (texts ++ bytes ∷ []) fault
first_fault texts bytes fault before here = record {
  encoded = each_more (λ i text. IsUtf8 text) texts bytes (λ i below. (before i below).utf8) here.utf8;
  file = length texts;
  within = (let size : length (texts ++ bytes ∷ []) ≡ length texts + 1 = length_push texts bytes in omega (arith, size));
  before = λ i below. subst (IsWellFormed i) (sym (named_front texts bytes i below)) (before i below);
  here = subst (λ text. HasSyntaxFault (length texts) text fault) (sym (named_last texts bytes)) here;
}

still_first : (texts : List (List ℕ)) (bytes : List ℕ) (fault : SyntaxFault) → IsFirstSyntaxFault texts fault → IsUtf8 bytes → IsFirstSyntaxFault (texts ++ bytes ∷ []) fault
still_first texts bytes fault is utf8 =
    let within = is.within in record {
      encoded = each_more (λ i text. IsUtf8 text) texts bytes is.encoded utf8;
      file = is.file;
      within = (let size : length (texts ++ bytes ∷ []) ≡ length texts + 1 = length_push texts bytes in omega (arith, size, within));
      before = λ i below. subst (IsWellFormed i) (sym (named_front texts bytes i (omega (arith, below, within)))) (is.before i below);
      here = subst (λ text. HasSyntaxFault is.file text fault) (sym (named_front texts bytes is.file within)) is.here;
    }

one_found : (texts : List (List ℕ)) (bytes : List ℕ) (found finding : Option Finding) → KeepsEncoding found → KeepsEncoding finding → IsFoundIn texts found
    → IsFileFinding (length texts) bytes finding → IsFoundIn (texts ++ bytes ∷ []) (option_or found finding)
one_found texts bytes None None encoded clean is here = each_more IsWellFormed texts bytes is here
one_found texts bytes None (Some (Encoding place)) encoded clean is here = absurd clean
one_found texts bytes None (Some (Syntax place)) encoded clean is here = first_fault texts bytes _ is here
one_found texts bytes None (Some (Deep place)) encoded clean is here = first_fault texts bytes _ is here
one_found texts bytes (Some (Encoding place)) finding encoded clean is here = absurd encoded
one_found texts bytes (Some (Syntax place)) finding encoded clean is here = still_first texts bytes _ is (file_utf8 _ _ finding clean here)
one_found texts bytes (Some (Deep place)) finding encoded clean is here = still_first texts bytes _ is (file_utf8 _ _ finding clean here)

still_encoded : (found finding : Option Finding) → KeepsEncoding found → KeepsEncoding finding → KeepsEncoding (option_or found finding)
still_encoded None finding encoded clean = clean
still_encoded (Some found) finding encoded clean = encoded

-- ---- at a place of the list of all texts

pub size_before : (texts : List (List ℕ)) (file : ℕ) → file < length texts → length (take file texts) ≡ file
size_before texts file within = length-take-le file texts (omega (arith, within))

-- a file that isn't UTF-8, after files that are
encoding_found : (texts : List (List ℕ)) (file : ℕ) (found : Option Finding) (place : Place) → file < length texts → KeepsEncoding found → IsFoundIn (take file texts) found
    → IsLexFault file (named texts file) (NotUtf8 place) → IsFirstEncodingFault texts place
encoding_found texts file found place within encoded is here =
    let same : place.file ≡ file = here.0 in
    let size : length (take file texts) ≡ file = size_before texts file within in
    record {
      within = subst (λ n. n < length texts) (sym same) within;
      before = λ i below. (let low : i < file = subst (λ n. i < n) same below in
          subst IsUtf8 (get_or-take file texts i [] low) (all_utf8 (take file texts) found encoded is i (omega (arith, low, size))));
      here = subst (λ n. IsLexFault n (named texts n) (NotUtf8 place)) (sym same) here;
    }

pub broken_found : (texts : List (List ℕ)) (file : ℕ) (found finding : Option Finding) (bytes : List ℕ) → file < length texts → KeepsEncoding found → IsFoundIn (take file texts) found
    → bytes ≡ named texts file → IsFileFinding file bytes finding → BreaksEncoding finding → IsFoundIn texts finding
broken_found texts file found None bytes within encoded is same here breaks = absurd breaks
broken_found texts file found (Some (Encoding place)) bytes within encoded is same here breaks =
    encoding_found texts file found place within encoded is (subst (λ b. IsFileFinding file b (Some (Encoding place))) same here)
broken_found texts file found (Some (Syntax place)) bytes within encoded is same here breaks = absurd breaks
broken_found texts file found (Some (Deep place)) bytes within encoded is same here breaks = absurd breaks

-- one file more that is UTF-8
pub kept_found : (texts : List (List ℕ)) (file : ℕ) (found finding now : Option Finding) (bytes : List ℕ) → file < length texts → KeepsEncoding found → IsFoundIn (take file texts) found
    → bytes ≡ named texts file → IsFileFinding file bytes finding → KeepsEncoding finding → now ≡ option_or found finding
    → IsFoundIn (take (file + 1) texts) now × KeepsEncoding now
kept_found texts file found finding now bytes within encoded is same here keeps joined =
    let size : length (take file texts) ≡ file = size_before texts file within in
    let placed = subst (λ n. IsFileFinding n (named texts file) finding) (sym size) (subst (λ b. IsFileFinding file b finding) same here) in
    let one = one_found (take file texts) (named texts file) found finding encoded keeps is placed in (
      subst (λ l. IsFoundIn l now) (sym (take_more texts file [] within)) (subst (IsFoundIn (take file texts ++ named texts file ∷ [])) (sym joined) one),
      subst KeepsEncoding (sym joined) (still_encoded found finding encoded keeps),
    )
