-- Lemmas: a set of files has at most one first fault.
use Rattle.std.proofs.Common.{◌≡◌, ℕ, ◌+◌, ◌<◌, ◌≤◌, ◌⊎◌, inl, inr, List, ◌++◌, length, take, drop, refl, sym, ap, ◌∙◌, subst, arith, append_assoc, take-append-drop}
use Rattle.std.specs.Prelude.{Option, Some, None, IsUtf8}
use Rattle.std.proofs.lemmas.Bool.{cases_lt}
use Rattle.std.proofs.lemmas.List.{take-take}
use Rattle.widl_text.specs.declared.place.Place.{Place}
use Rattle.widl_lex.specs.Cut.{HasOneCut}
use Rattle.widl_lex.specs.Faults.{IsLexFault}
use Rattle.widl_lex.specs.Tokens.{TokenList, AreTokensOf, tokens_from}
use Rattle.widl_lex.specs.Utf8.{BeginsUtf8, IsUtf8Fault}
use Rattle.widl_lex.specs.declared.fault.LexFault.TheVariants.{NotUtf8}
use Rattle.widl_predictive.specs.Grammar.{IsAccepted, IsFault}
use Rattle.widl_predictive.specs.declared.fault.Fault.{Fault}
use Rattle.widl_predictive.specs.declared.fault.Fault.TheVariants as machine
use Rattle.widl_grammar.specs.Rows.{grammar}
use Rattle.widl_grammar.specs.Source.{place_of, IsFaultOf}
use Rattle.widl_grammar.specs.declared.rule.Rule.TheVariants.{Definitions}
use Rattle.widl_grammar.specs.declared.terminal.Terminal.{Terminal}
use Rattle.widl_grammar.specs.declared.fault.SyntaxFault.{SyntaxFault}
use Rattle.widl_grammar.specs.declared.fault.SyntaxFault.TheVariants as faults
use Rattle.widl_front.specs.Findings.{IsWellFormed, HasSyntaxFault, IsFirstEncodingFault, IsFirstSyntaxFault, IsFoundIn}
use Rattle.widl_front.specs.Texts.{named}
use Rattle.widl_front.specs.declared.finding.Finding.{Finding}
use Rattle.widl_front.specs.declared.finding.Finding.TheVariants.{Encoding, Syntax, Deep}

-- ---- the encoding

-- what a longer text begins with begins a text
begins_shorter : (bytes : List ℕ) (n m : ℕ) → n ≤ m → BeginsUtf8 (take m bytes) → BeginsUtf8 (take n bytes)
begins_shorter bytes n m below begins =
    let same : take n (take m bytes) ≡ take n bytes = take-take n m bytes below in
    let whole : take n bytes ++ (drop n (take m bytes) ++ begins.0) ≡ take m bytes ++ begins.0 =
    ap (λ l. l ++ (drop n (take m bytes) ++ begins.0)) (sym same)
    ∙ sym (append_assoc (take n (take m bytes)) (drop n (take m bytes)) begins.0)
    ∙ ap (λ l. l ++ begins.0) (take-append-drop n (take m bytes)) in
    (drop n (take m bytes) ++ begins.0, subst IsUtf8 (sym whole) begins.1)

utf8_begins : (bytes : List ℕ) (n : ℕ) → IsUtf8 bytes → BeginsUtf8 (take n bytes)
utf8_begins bytes n utf8 = (drop n bytes, subst IsUtf8 (sym (take-append-drop n bytes)) utf8)

-- a UTF-8 text has no fault
no_fault : (bytes : List ℕ) (place : ℕ) → IsUtf8 bytes → IsUtf8Fault bytes place → ⊥
no_fault bytes place utf8 is = by (cases_lt place (length bytes))
  where
    by : (place < length bytes) ⊎ (length bytes ≤ place) → ⊥
    by (inl below) = is.fault below (utf8_begins bytes (place + 1) utf8)
    by (inr past) = is.at_end (let within = is.within in omega (arith, past, within)) utf8

not_before : (bytes : List ℕ) (p q : ℕ) → IsUtf8Fault bytes p → IsUtf8Fault bytes q → p < q → ⊥
not_before bytes p q is other below =
    let within = other.within in
    is.fault (omega (arith, below, within)) (begins_shorter bytes (p + 1) q (omega (arith, below)) other.before)

-- two numbers of which neither is below the other
neither_below : (p q : ℕ) → (p < q → ⊥) → (q < p → ⊥) → p ≡ q
neither_below p q n m = by (cases_lt p q) (cases_lt q p)
  where
    by : (p < q) ⊎ (q ≤ p) → (q < p) ⊎ (p ≤ q) → p ≡ q
    by (inl below) other = absurd (n below)
    by (inr above) (inl below) = absurd (m below)
    by (inr above) (inr earliest) = omega (arith, above, earliest)

same_place : (a b : Place) → a.file ≡ b.file → a.at ≡ b.at → a ≡ b
same_place a b file at = ap (λ n. record { file = n; at = a.at }) file ∙ ap (λ n. record { file = b.file; at = n }) at

one_encoding : (file : ℕ) (bytes : List ℕ) (a b : Place) → IsLexFault file bytes (NotUtf8 a) → IsLexFault file bytes (NotUtf8 b) → a ≡ b
one_encoding file bytes a b is other =
    same_place a b (is.0 ∙ sym other.0) (neither_below a.at b.at (not_before bytes a.at b.at is.1 other.1) (not_before bytes b.at a.at other.1 is.1))

-- ---- the grammar

-- what is known of cuts and of the grammar
abbrev pub OneCuts : Type 0
OneCuts = (text : List ℕ) → IsUtf8 text → HasOneCut text

abbrev pub OneFaults : Type 0
OneFaults = (terminals : List Terminal) (e f : Fault) → IsFault grammar Definitions terminals e → IsFault grammar Definitions terminals f → e ≡ f

abbrev pub NoFaults : Type 0
NoFaults = (terminals : List Terminal) (e : Fault) → IsAccepted grammar Definitions terminals → IsFault grammar Definitions terminals e → ⊥

pub one_tokens : OneCuts → (file : ℕ) (bytes : List ℕ) (a b : TokenList) → IsUtf8 bytes → AreTokensOf file bytes a → AreTokensOf file bytes b → a ≡ b
one_tokens cuts file bytes a b utf8 is other =
    let one = cuts bytes utf8 in
    let pieces = one.only is.cut.pieces is.cut.cut ∙ sym (one.only other.cut.pieces other.cut.cut) in
    let lexemes = is.cut.tokens_are ∙ ap (tokens_from file 0) pieces ∙ sym other.cut.tokens_are in
    ap (λ n. record { file = n; end = a.end; lexemes = a.lexemes }) (is.file_is ∙ sym other.file_is)
    ∙ ap (λ n. record { file = b.file; end = n; lexemes = a.lexemes }) (is.end_is ∙ sym other.end_is)
    ∙ ap (λ l. record { file = b.file; end = b.end; lexemes = l }) lexemes

-- a well-formed file has no fault
formed_no_fault : OneCuts → NoFaults → (file : ℕ) (bytes : List ℕ) (fault : SyntaxFault) → IsWellFormed file bytes → HasSyntaxFault file bytes fault → ⊥
formed_no_fault cuts none file bytes (faults.Syntax place) formed has =
    let same = one_tokens cuts file bytes has.tokens formed.tokens formed.utf8 has.tokens_are formed.tokens_are in
    let f = subst (λ t. IsFaultOf t (faults.Syntax place)) same has.fault_is in
    none _ (machine.Syntax f.0) formed.accepted f.1
formed_no_fault cuts none file bytes (faults.TooDeep place) formed has =
    let same = one_tokens cuts file bytes has.tokens formed.tokens formed.utf8 has.tokens_are formed.tokens_are in
    let f = subst (λ t. IsFaultOf t (faults.TooDeep place)) same has.fault_is in
    none _ (machine.TooDeep f.0) formed.accepted f.1
formed_no_fault cuts none file bytes faults.Memory formed has = absurd has.fault_is

same_syntax : (j k : ℕ) → ◌≡◌ {A = Fault} (machine.Syntax j) (machine.Syntax k) → j ≡ k
same_syntax j k e = (cc)

same_deep : (j k : ℕ) → ◌≡◌ {A = Fault} (machine.TooDeep j) (machine.TooDeep k) → j ≡ k
same_deep j k e = (cc)

syntax_not_deep : (j k : ℕ) → ◌≡◌ {A = Fault} (machine.Syntax j) (machine.TooDeep k) → ⊥
syntax_not_deep j k e = (cc)

-- the faults of equal token lists are equal
one_of_tokens : OneFaults → (tokens : TokenList) (e f : SyntaxFault) → IsFaultOf tokens e → IsFaultOf tokens f → e ≡ f
one_of_tokens one tokens (faults.Syntax p) (faults.Syntax q) is other =
    let k = same_syntax is.0 other.0 (one _ _ _ is.1 other.1) in ap faults.Syntax (is.2 ∙ ap (place_of tokens) k ∙ sym other.2)
one_of_tokens one tokens (faults.TooDeep p) (faults.TooDeep q) is other =
    let k = same_deep is.0 other.0 (one _ _ _ is.1 other.1) in ap faults.TooDeep (is.2 ∙ ap (place_of tokens) k ∙ sym other.2)
one_of_tokens one tokens (faults.Syntax p) (faults.TooDeep q) is other = absurd (syntax_not_deep is.0 other.0 (one _ _ _ is.1 other.1))
one_of_tokens one tokens (faults.TooDeep p) (faults.Syntax q) is other = absurd (syntax_not_deep other.0 is.0 (one _ _ _ other.1 is.1))
one_of_tokens one tokens faults.Memory f is other = absurd is
one_of_tokens one tokens (faults.Syntax p) faults.Memory is other = absurd other
one_of_tokens one tokens (faults.TooDeep p) faults.Memory is other = absurd other

one_syntax : OneCuts → OneFaults → (file : ℕ) (bytes : List ℕ) (e f : SyntaxFault) → HasSyntaxFault file bytes e → HasSyntaxFault file bytes f → e ≡ f
one_syntax cuts one file bytes e f is other =
    let same = one_tokens cuts file bytes is.tokens other.tokens is.utf8 is.tokens_are other.tokens_are in
    one_of_tokens one other.tokens e f (subst (λ t. IsFaultOf t e) same is.fault_is) other.fault_is

-- ---- a set of files

-- a file that isn't UTF-8 stands in no set whose files up to it are
encoded_no_fault : (texts : List (List ℕ)) (place : Place) → IsLexFault place.file (named texts place.file) (NotUtf8 place) → IsUtf8 (named texts place.file) → ⊥
encoded_no_fault texts place is utf8 = no_fault (named texts place.file) place.at utf8 is.1

one_encoded : (texts : List (List ℕ)) (p q : Place) → IsFirstEncodingFault texts p → IsFirstEncodingFault texts q → p ≡ q
one_encoded texts p q is other =
    let file : p.file ≡ q.file = neither_below p.file q.file
    (λ below. encoded_no_fault texts p is.here (other.before p.file below)) (λ below. encoded_no_fault texts q other.here (is.before q.file below)) in
    one_encoding q.file (named texts q.file) p q (subst (λ n. IsLexFault n (named texts n) (NotUtf8 p)) file is.here) other.here

one_first : OneCuts → OneFaults → NoFaults → (texts : List (List ℕ)) (e f : SyntaxFault) → IsFirstSyntaxFault texts e → IsFirstSyntaxFault texts f → e ≡ f
one_first cuts one none texts e f is other =
    let file : is.file ≡ other.file = neither_below is.file other.file
    (λ below. formed_no_fault cuts none is.file _ e (other.before is.file below) is.here) (λ below. formed_no_fault cuts none other.file _ f (is.before other.file below) other.here) in
    one_syntax cuts one other.file (named texts other.file) e f (subst (λ n. HasSyntaxFault n (named texts n) e) file is.here) other.here

place_of_syntax : (p q : Place) → ◌≡◌ {A = SyntaxFault} (faults.Syntax p) (faults.Syntax q) → ◌≡◌ {A = Option Finding} (Some (Syntax p)) (Some (Syntax q))
place_of_syntax p q e = (cc)

place_of_deep : (p q : Place) → ◌≡◌ {A = SyntaxFault} (faults.TooDeep p) (faults.TooDeep q) → ◌≡◌ {A = Option Finding} (Some (Deep p)) (Some (Deep q))
place_of_deep p q e = (cc)

never_both : (p q : Place) → ◌≡◌ {A = SyntaxFault} (faults.Syntax p) (faults.TooDeep q) → ⊥
never_both p q e = (cc)

-- what is found is determined
pub one_finding : OneCuts → OneFaults → NoFaults → (texts : List (List ℕ)) (a b : Option Finding) → IsFoundIn texts a → IsFoundIn texts b → a ≡ b
one_finding cuts one none texts None None is other = refl
one_finding cuts one none texts None (Some (Encoding q)) is other = absurd (encoded_no_fault texts q other.here (is q.file other.within).utf8)
one_finding cuts one none texts None (Some (Syntax q)) is other = absurd (formed_no_fault cuts none other.file _ (faults.Syntax q) (is other.file other.within) other.here)
one_finding cuts one none texts None (Some (Deep q)) is other = absurd (formed_no_fault cuts none other.file _ (faults.TooDeep q) (is other.file other.within) other.here)
one_finding cuts one none texts (Some (Encoding p)) None is other = absurd (encoded_no_fault texts p is.here (other p.file is.within).utf8)
one_finding cuts one none texts (Some (Encoding p)) (Some (Encoding q)) is other = ap (λ x. Some (Encoding x)) (one_encoded texts p q is other)
one_finding cuts one none texts (Some (Encoding p)) (Some (Syntax q)) is other = absurd (encoded_no_fault texts p is.here (other.encoded p.file is.within))
one_finding cuts one none texts (Some (Encoding p)) (Some (Deep q)) is other = absurd (encoded_no_fault texts p is.here (other.encoded p.file is.within))
one_finding cuts one none texts (Some (Syntax p)) None is other = absurd (formed_no_fault cuts none is.file _ (faults.Syntax p) (other is.file is.within) is.here)
one_finding cuts one none texts (Some (Syntax p)) (Some (Encoding q)) is other = absurd (encoded_no_fault texts q other.here (is.encoded q.file other.within))
one_finding cuts one none texts (Some (Syntax p)) (Some (Syntax q)) is other = place_of_syntax p q (one_first cuts one none texts _ _ is other)
one_finding cuts one none texts (Some (Syntax p)) (Some (Deep q)) is other = absurd (never_both p q (one_first cuts one none texts _ _ is other))
one_finding cuts one none texts (Some (Deep p)) None is other = absurd (formed_no_fault cuts none is.file _ (faults.TooDeep p) (other is.file is.within) is.here)
one_finding cuts one none texts (Some (Deep p)) (Some (Encoding q)) is other = absurd (encoded_no_fault texts q other.here (is.encoded q.file other.within))
one_finding cuts one none texts (Some (Deep p)) (Some (Syntax q)) is other = absurd (never_both q p (one_first cuts one none texts _ _ other is))
one_finding cuts one none texts (Some (Deep p)) (Some (Deep q)) is other = place_of_deep p q (one_first cuts one none texts _ _ is other)
