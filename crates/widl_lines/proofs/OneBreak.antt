-- A script has at most one first break.
use Rattle.std.proofs.Common.{◌≡◌, ℕ, zero, suc, ◌+◌, ◌<◌, ◌≤◌, List, [], ◌∷◌, ◌++◌, length, take, Option, Some, None, refl, sym, ◌∙◌, ap, subst, arith, append_assoc, append-nil, inl, inr}
use Rattle.std.proofs.lemmas.Bool.{cases_order}
use Rattle.std.specs.Prelude.{IsUtf8, Result, Ok, Err, IfErr, OnOk, IsOkUnless}
use Rattle.widl_first.specs.Keys.{IsFirst}
use Rattle.widl_lex.specs.Utf8.{IsUtf8Fault, BeginsUtf8}
use Rattle.widl_lines.specs.declared.blocks.Block.{Block}
use Rattle.widl_lines.specs.declared.line_break.LineBreak.{LineBreak}
use Rattle.widl_lines.specs.declared.script_place.ScriptPlace.{ScriptPlace}
use Rattle.widl_lines.specs.declared.script_place.ScriptFault.{ScriptFault}
use Rattle.widl_lines.specs.declared.script_place.ScriptFault.TheVariants.{Refused, Memory}
use Rattle.widl_lines.specs.Refusals.{IsRefusal, IsErrWith}
use Rattle.widl_lines.specs.Blocks.{blocks_after}
use Rattle.widl_lines.specs.Breaks.{Breaks, LineBreaks, break_key}
use Rattle.widl_lines.specs.TextBreaks.{Line, place_in, TextBreak, here, later, unclosed, closed, ScriptBreak, not_utf8, in_lines, utf8_place}
use Rattle.widl_lines.proofs.BreakOrder.{one_first}

nothing : (k : ℕ) → take {A = ℕ} k [] ≡ []
nothing zero = refl
nothing (suc k) = refl

take_below : (text : List ℕ) (j k : ℕ) → j ≤ k → (v : List ℕ) × (take k text ≡ take j text ++ v)
take_below [] j k le = ([], nothing k ∙ sym (append-nil (take j []) ∙ nothing j))
take_below (x ∷ text) zero k le = (take k (x ∷ text), refl)
take_below (x ∷ text) (suc j) zero le = absurd (omega arith)
take_below (x ∷ text) (suc j) (suc k) le = let r = take_below text j k (omega arith) in (r.0, ap (λ u. x ∷ u) r.1)

-- what begins a text begins with what begins one
begins_less : (text : List ℕ) (j k : ℕ) → j ≤ k → BeginsUtf8 (take k text) → BeginsUtf8 (take j text)
begins_less text j k le b =
    let t = take_below text j k le in
    (t.0 ++ b.0, subst IsUtf8 (ap (λ x. x ++ b.0) t.1 ∙ append_assoc (take j text) t.0 b.0) b.1)

take_all : (text : List ℕ) → take (length text) text ≡ text
take_all [] = refl
take_all (x ∷ text) = ap (λ u. x ∷ u) (take_all text)

not_before : (text : List ℕ) (j k : ℕ) → IsUtf8Fault text j → IsUtf8Fault text k → j < k → ⊥
not_before text j k a b lt = a.fault (omega (arith, lt, b.within)) (begins_less text (j + 1) k (omega (arith, lt)) b.before)

one_fault : (text : List ℕ) (j k : ℕ) → IsUtf8Fault text j → IsUtf8Fault text k → j ≡ k
one_fault text j k a b = elim (cases_order j k) [ inl same ↦ same | inr (inl below) ↦ absurd (not_before text j k a b below) | inr (inr above) ↦ absurd (not_before text k j b a above) ]

no_fault : (text : List ℕ) (k : ℕ) → IsUtf8 text → IsUtf8Fault text k → ⊥
no_fault text k utf8 f = elim (cases_order k (length text)) [
  | inl end ↦ f.at_end end utf8
  | inr (inl below) ↦ f.fault below (begins_less text (k + 1) (length text) (omega (arith, below)) ([], subst IsUtf8 (sym (append-nil (take (length text) text) ∙ take_all text)) utf8))
  | inr (inr above) ↦ (let within : k ≤ length text = f.within in omega (arith, above, within))
]

as_first : (blocks : List Block) (line : Line) (found : Option LineBreak) → LineBreaks blocks line.words found → IsFirst break_key (Breaks blocks line.words) found
as_first blocks line None h = h.0
as_first blocks line (Some b) h = h

one_line_break : (blocks : List Block) (line : Line) (a b : Option LineBreak) → LineBreaks blocks line.words a → LineBreaks blocks line.words b → a ≡ b
one_line_break blocks line a b f g = one_first (Breaks blocks line.words) a b (as_first blocks line a f) (as_first blocks line b g)

pub one_text_break : (last : ℕ) (blocks : List Block) (lines : List Line) (p q : Option ScriptPlace) → TextBreak last blocks lines p → TextBreak last blocks lines q → p ≡ q
one_text_break last blocks (line ∷ lines) p q (here b f) (here c g) = let e : Some b ≡ Some c = one_line_break blocks line (Some b) (Some c) f g in let d : b ≡ c = cc in ap (λ x. Some (place_in line x)) d
one_text_break last blocks (line ∷ lines) p q (here b f) (later g h) = let e : Some b ≡ None = one_line_break blocks line (Some b) None f g in cc
one_text_break last blocks (line ∷ lines) p q (later f h) (here c g) = let e : None ≡ Some c = one_line_break blocks line None (Some c) f g in cc
one_text_break last blocks (line ∷ lines) p q (later f h) (later g k) = one_text_break line.number (blocks_after line.words blocks) lines p q h k
one_text_break last (block ∷ blocks) [] p q unclosed unclosed = refl
one_text_break last [] [] p q closed closed = refl

pub one_break : (text : List ℕ) (p q : Option ScriptPlace) → ScriptBreak text p → ScriptBreak text q → p ≡ q
one_break text p q (not_utf8 j f) (not_utf8 k g) = ap (λ at. Some (utf8_place text at)) (one_fault text j k f g)
one_break text p q (not_utf8 j f) (in_lines utf8 h) = absurd (no_fault text j utf8 f)
one_break text p q (in_lines utf8 h) (not_utf8 k g) = absurd (no_fault text k utf8 g)
one_break text p q (in_lines utf8 h) (in_lines utf8' k) = one_text_break 1 [] _ p q h k

pub none_broken : (text : List ℕ) (place : ScriptPlace) → ScriptBreak text None → ScriptBreak text (Some place) → ⊥
none_broken text place a b = let e : None ≡ Some place = one_break text None (Some place) a b in cc

pub complete_of : {X : Type 0} (text : List ℕ) (r : Result X ScriptFault) → IfErr r (IsRefusal text) → ScriptBreak text None → IsOkUnless r Memory
complete_of text (Ok x) h none = tt
complete_of text (Err (Refused place)) h none = absurd (none_broken text place none h)
complete_of text (Err Memory) h none = refl

pub exact_of : {X : Type 0} (text : List ℕ) (r : Result X ScriptFault) → OnOk r (ScriptBreak text None) → IfErr r (IsRefusal text) → (place : ScriptPlace) → ScriptBreak text (Some place) → IsErrWith r (Refused place) Memory
exact_of text (Ok x) ok h place broken = none_broken text place ok broken
exact_of text (Err (Refused other)) ok h place broken = inl (let e : Some other ≡ Some place = one_break text (Some other) (Some place) h broken in cc)
exact_of text (Err Memory) ok h place broken = inr refl
