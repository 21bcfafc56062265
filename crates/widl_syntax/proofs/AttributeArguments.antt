-- The tokens of an extended attribute after its name, which the machine of the grammar reads.
use Rattle.std.proofs.Common.{◌≡◌, ℕ, ◌+◌, ◌<◌, ◌≤◌, Bool, true, false, Option, None, Some, List, [], ◌∷◌, ◌++◌, length, refl, sym, ◌∙◌, ap, subst, arith}
use Rattle.std.specs.Prelude.{map}
use Rattle.widl_idl.specs.declared.tree.extended_attributes.SourceToken.{SourceToken}
use Rattle.widl_lex.specs.Tokens.{Lexeme}
use Rattle.widl_predictive.specs.Derivation.{Terminal as Token}
use Rattle.widl_predictive.specs.Lookahead.{choice}
use Rattle.widl_predictive.specs.Predictive.{ahead}
use Rattle.widl_predictive.specs.Runs as runs
use Rattle.widl_predictive.specs.Runs.{Takes, plain, stripped}
use Rattle.widl_predictive.proofs.Inversion.{runs_nonterminal}
use Rattle.widl_grammar.specs.declared.rule.Rule.TheVariants as rule
use Rattle.widl_grammar.specs.declared.terminal.Terminal.{Terminal}
use Rattle.widl_grammar.specs.Rows.{grammar}
use Rattle.widl_grammar.specs.Tables.{sets}
use Rattle.widl_grammar.specs.Source.{terminal_of}
use Rattle.widl_syntax.specs.Signs.{Sign, UnparsesTo, AreTexts, OfText, all_signs, at, ◌⧺◌}
use Rattle.widl_syntax.specs.UnparsedNames.{text_of, attribute_rest}
use Rattle.widl_syntax.specs.Deriving.{AnyRuns}
use Rattle.widl_syntax.specs.Reading.{Symbols, RunsOf, Reads, part, terminal_ahead, IfAhead, IsTaken}
use Rattle.widl_syntax.proofs.Derived.{read_sentence}
use Rattle.widl_syntax.proofs.Leveling.{AnyReads, leveled, any_levels, as_stack, reads_itself, reads_only, runs_taken}
use Rattle.widl_syntax.proofs.Reading.{ahead_is, is_other, spells_append, took_text}
use Rattle.widl_syntax.proofs.Words.{taken_shorter}
use Rattle.widl_syntax.proofs.Lists.{fewer_left, all_signs_more}

-- the signs of a token that was taken as it stands
abbrev source_token : SourceToken → List Sign
source_token t = at t.at ⧺ OfText (λ terminal. true) t.text ∷ []

same_rest : (l m : Lexeme) (rest u w n : List Lexeme) → w ≡ l ∷ rest → n ≡ w → n ≡ m ∷ u → (l ≡ m) × (rest ≡ u)
same_rest l m rest u w n e f g = (cc, cc)

as_texts : (ts : List SourceToken) (w v : List Lexeme) → UnparsesTo (all_signs source_token ts) w v → AreTexts (map text_of ts) w v
as_texts [] w v s = s
as_texts (t ∷ ts) w v s =
    let place = s.1 in
    let token = s.2.1 in
    let same = same_rest place.0 token.0 place.1 s.2.0 w s.0 place.2 place.4 token.1 in
    (token.0, s.2.0, sym place.4 ∙ token.1, ap (λ l. l.at) (sym same.0) ∙ place.3, token.3, as_texts ts s.2.0 v s.2.2)

-- the rows of the rule derive them
as_part : (tokens : List SourceToken) (start now : List Lexeme) → AnyReads (part rule.ExtendedAttributeRest) (all_signs source_token tokens) start now → Reads (part rule.ExtendedAttributeRest) (attribute_rest tokens) start now
as_part tokens start now f = leveled (record {
  reads = λ others r.
      let g = f.reads others r in
      let texts = as_texts tokens start now g.0 in
      ((now, (texts, read_sentence f others r (map text_of tokens) texts), refl), g.1);
})

-- no tokens stand before one that picks the row of none
pub no_tokens : (t : Terminal) {now : List Lexeme} → terminal_ahead now ≡ t → is_other t ≡ false → choice grammar sets rule.ExtendedAttributeRest (Some t) ≡ Some [] → Reads (part rule.ExtendedAttributeRest) (attribute_rest []) now now
no_tokens t {now} is other none = as_part [] now now (record {
  reads = λ others r.
      let step = runs_nonterminal grammar sets r in
      let row : Some step.0 ≡ Some [] = sym step.1 ∙ ap (choice grammar sets rule.ExtendedAttributeRest) (ahead_is t now other is) ∙ none in
      let nothing : step.0 ≡ [] = cc in
      (refl, subst (λ α. AnyRuns (plain α ++ others) now) nothing step.2);
})

-- the tokens so far stand between two tokens of the file, the stack is what is still to be read from the second on, and each turn took a token
pub record InMachine (start now : List Lexeme) (tokens : List SourceToken) (stack : Symbols) (turns : ℕ) : Type 0 where
  pub so_far : (others : Symbols) → AnyRuns (part rule.ExtendedAttributeRest ++ others) start → UnparsesTo (all_signs source_token tokens) start now × AnyRuns (stack ++ others) now × (turns + length now ≤ length start)
  pub shorter : length now ≤ length start

pub machine_begins : (start : List Lexeme) (tokens : List SourceToken) (stack : Symbols) → tokens ≡ [] → stack ≡ part rule.ExtendedAttributeRest → InMachine start start tokens stack 0
machine_begins start tokens stack none is = record {
  so_far = λ others r. (subst (λ ts. UnparsesTo (all_signs source_token ts) start start) (sym none) refl, subst (λ s. AnyRuns (s ++ others) start) (sym is) r, omega arith);
  shorter = omega arith;
}

taken_first : (token : SourceToken) (after others : Symbols) (now next : List Lexeme) (a : Terminal) (v : List Terminal) → map terminal_of now ≡ a ∷ v → runs.Runs grammar sets (after ++ others) v → IsTaken token.at now next → IfAhead now (λ l. token.text ≡ l.text) → UnparsesTo (source_token token) now next × AnyRuns (after ++ others) next
taken_first token after others now next a v e r t b =
    let rest = stripped (as_stack v) in
    let k = (took_text a (λ terminal. true) token.text refl t b).reads rest (subst (RunsOf (Token a ∷ rest)) (sym e) (runs_taken (as_stack v, refl, reads_itself v))) in
    let left = subst (λ s. runs.Runs grammar sets s (map terminal_of next)) k.1.1 (any_levels k.1.2) in
    (k.0, subst (runs.Runs grammar sets (after ++ others)) (sym (reads_only v (map terminal_of next) left)) r)

-- one token more
pub machine_goes_on : {start now next : List Lexeme} {tokens : List SourceToken} {stack after : Symbols} {turns : ℕ} (ahead_is : Option Terminal) (goes : Bool) (token : SourceToken) → InMachine start now tokens stack turns → ahead_is ≡ ahead (map terminal_of now) → Takes grammar sets ahead_is stack after goes → goes ≡ true → IsTaken token.at now next → IfAhead now (λ l. token.text ≡ l.text) → InMachine start next (tokens ++ token ∷ []) after (turns + 1)
machine_goes_on l false token m is takes e t b = cc
machine_goes_on {start} {now} {next} {tokens} {stack} {after} {turns} l true token m is takes e t b = record {
  so_far = λ others r.
      let g = m.so_far others r in
      let k = takes others (map terminal_of now) (sym is) g.1 in
      let one = taken_first token after others now next k.0 k.1 k.2 k.3 t b in
      let fewer : length next < length now = fewer_left (source_token token) now next refl one.0 in
      let le = g.2 in
      (subst (λ signs. UnparsesTo signs start next) (sym (all_signs_more source_token tokens token)) (spells_append (all_signs source_token tokens) (source_token token) start now next g.0 one.0), one.1, omega arith);
  shorter = taken_shorter (length start) t m.shorter;
}

-- nothing is left on the stack
pub machine_over : {start now : List Lexeme} {tokens : List SourceToken} {stack : Symbols} {turns : ℕ} (after : Symbols) (ahead_is : Option Terminal) (goes : Bool) → InMachine start now tokens stack turns → ahead_is ≡ ahead (map terminal_of now) → Takes grammar sets ahead_is stack after goes → goes ≡ false → Reads (part rule.ExtendedAttributeRest) (attribute_rest tokens) start now
machine_over after l true m is takes e = cc
machine_over {start} {now} {tokens} after l false m is takes e = as_part tokens start now (record {
  reads = λ others r. let g = m.so_far others r in (g.0, takes others (map terminal_of now) (sym is) g.1);
})

-- the tokens have come to their end
none_left : (now : List Lexeme) (turns all : ℕ) → turns + length now ≤ all → all ≤ turns → now ≡ []
none_left [] turns all le used = refl
none_left (l ∷ now) turns all le used = absurd (omega arith)

takes_none : (stack after others : Symbols) (goes : Bool) → Takes grammar sets None stack after goes → AnyRuns (stack ++ others) [] → AnyRuns others []
takes_none stack after others false takes r = takes others [] refl r
takes_none stack after others true takes r = let k = takes others [] refl r in let bad : [] ≡ k.0 ∷ k.1 = k.2 in cc

pub machine_used_up : {start now : List Lexeme} {tokens : List SourceToken} {stack : Symbols} {turns : ℕ} (after : Symbols) (goes : Bool) → InMachine start now tokens stack turns → Takes grammar sets None stack after goes → length start ≤ turns → Reads (part rule.ExtendedAttributeRest) (attribute_rest tokens) start now
machine_used_up {start} {now} {tokens} {stack} {turns} after goes m takes used = as_part tokens start now (record {
  reads = λ others r.
      let g = m.so_far others r in
      let none = none_left now turns (length start) g.2 used in
      (g.0, subst (λ w. AnyRuns others w) (sym none) (takes_none stack after others goes takes (subst (λ w. AnyRuns (stack ++ others) w) none g.1)));
})
