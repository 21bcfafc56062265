-- The tokens of a part of the grammar end at one place, where what follows them may follow the part.
use Rattle.std.proofs.Common.{◌≡◌, List, [], ◌∷◌, ◌++◌, length, refl, sym, ◌∙◌, ap, subst, append_assoc, arith}
use Rattle.std.specs.Prelude.{map}
use Rattle.std.proofs.lemmas.List.{length-map}
use Rattle.widl_lex.specs.Tokens.{Lexeme}
use Rattle.widl_grammar.specs.declared.rule.Rule.{Rule}
use Rattle.widl_grammar.specs.Source.{terminal_of}
use Rattle.widl_syntax.specs.Signs.{Text, AreTexts, OfPart}
use Rattle.widl_syntax.proofs.Derived.{Follows, ends_once}
use Rattle.widl_syntax.proofs.Lists.{texts_left}
use Rattle.widl_syntax.proofs.Unique.Tells.{Tells, same_tokens}

same_length : (m n : List Lexeme) → map terminal_of m ≡ map terminal_of n → length m ≡ length n
same_length m n e = sym (length-map m terminal_of) ∙ ap length e ∙ length-map n terminal_of

same_texts : (xs ys : List Text) (w m n : List Lexeme) → AreTexts xs w m → AreTexts ys w n → length m ≡ length n → (xs ≡ ys) × (m ≡ n)
same_texts [] [] w m n s r e = (refl, sym s ∙ r)
same_texts [] (y ∷ ys) w m n s r e =
    let one : length w ≡ length (r.0 ∷ r.1) = ap length r.2 in
    let two : length w ≡ length m = ap length s in
    let le = texts_left ys r.1 n r.5 in
    absurd (omega arith)
same_texts (x ∷ xs) [] w m n s r e =
    let one : length w ≡ length (s.0 ∷ s.1) = ap length s.2 in
    let two : length w ≡ length n = ap length r in
    let le = texts_left xs s.1 m s.5 in
    absurd (omega arith)
same_texts (x ∷ xs) (y ∷ ys) w m n s r e =
    let same = same_tokens s.0 r.0 s.1 r.1 w s.2 r.2 in
    let rest = same_texts xs ys s.1 m n s.5 (subst (λ v. AreTexts ys v n) (sym same.1) r.5) e in
    let places : x.at ≡ y.at = sym s.3 ∙ ap (λ l. l.at) same.0 ∙ r.3 in
    let bytes : x.bytes ≡ y.bytes = sym s.4 ∙ ap (λ l. l.text) same.0 ∙ r.4 in
    (λ i. record { at = places i; bytes = bytes i } ∷ rest.0 i, rest.1)

pub part_tells : (rule : Rule) (xs ys : List Text) → Tells (xs ≡ ys) (Follows rule) (OfPart rule xs ∷ []) (OfPart rule ys ∷ [])
part_tells rule xs ys = record {
  tells = λ w m n s r em en.
      let a = s.1 in
      let b = r.1 in
      let ends = ends_once rule xs ys w s.0 r.0 a.0 a.1 (subst (Follows rule) (sym s.2) em) b.0 b.1 (subst (Follows rule) (sym r.2) en) in
      let same = same_texts xs ys w s.0 r.0 a.0 b.0 (same_length s.0 r.0 ends) in
      (same.0, sym s.2 ∙ same.1 ∙ r.2);
}
