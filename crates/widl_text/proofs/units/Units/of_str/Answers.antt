use Rattle.std.proofs.Common.{◌≡◌, ℕ, ◌+◌, ◌<◌, List, [], ◌++◌, length, get_or, drop, sym, ap, subst, ◌∙◌, arith, append_assoc, append-nil}
use Rattle.std.proofs.lemmas.Iterator.{YieldsList-from_chars}
use Rattle.std.proofs.lemmas.List.{at_drop_more, at_drop_all, length_push}
use Rattle.std.proofs.lemmas.Iterator.Consumers.{YieldsList-turn, YieldsList-end}
use Rattle.std.specs.Prelude.{MatchBool}
use Rattle.std.specs.Str.{chars, IsAscii, IsNotAscii}
use Rattle.std.specs.Char.Escape.{encode_utf16}
use Rattle.widl_text.specs.Utf16.{utf16_of}
use Rattle.widl_text.proofs.AsciiTexts.{units_of_ascii}
use Rattle.widl_text.proofs.units.Units.of_str.Goals as goal

utf16_of-drop : (cs : List ℕ) (n c : ℕ) → (n < length cs) × (c ≡ get_or cs n c) → utf16_of (drop n cs) ≡ encode_utf16 c ++ utf16_of (drop (n + 1) cs)
utf16_of-drop cs n c h = at_drop_more utf16_of cs n c h.0 ∙ ap (λ x. encode_utf16 x ++ utf16_of (drop (n + 1) cs)) (sym h.1)

-- one character more is done
one_more : (cs done now : List ℕ) (n m c : ℕ) → (n < length cs) × (c ≡ get_or cs n c) → m ≡ n + 1 → now ≡ done ++ encode_utf16 c
    → done ++ utf16_of (drop n cs) ≡ utf16_of cs → now ++ utf16_of (drop m cs) ≡ utf16_of cs
one_more cs done now n m c h next added whole =
    ap (λ k. now ++ utf16_of (drop k cs)) next
    ∙ ap (λ l. l ++ utf16_of (drop (n + 1) cs)) added
    ∙ append_assoc done (encode_utf16 c) (utf16_of (drop (n + 1) cs))
    ∙ ap (λ l. done ++ l) (sym (utf16_of-drop cs n c h))
    ∙ whole

all_done : (cs done : List ℕ) (n : ℕ) → utf16_of (drop n cs) ≡ [] → done ++ utf16_of (drop n cs) ≡ utf16_of cs → done ≡ utf16_of cs
all_done cs done n none whole = sym (append-nil done) ∙ ap (λ l. done ++ l) (sym none) ∙ whole

pub returns-then-is_ascii : goal.returns-then-is_ascii
returns-then-is_ascii c =
    let are = subst (λ b. MatchBool b (IsAscii c.args.text.now) (IsNotAscii c.args.text.now)) c.if-is_ascii.true c.is_ascii.ensures.cases in
    c.in_ok-ascii.ensures ∙ sym (units_of_ascii c.args.text.now are)

pub loop-character-preserved : goal.loop-character-preserved
loop-character-preserved c =
    let turn = YieldsList-turn (YieldsList-from_chars c.args.text.now c.utf8.text cc) c.loop-character.yielded _ c.loop-character.yielded_by _ _ c.in-Some.character c.in-Some.is c.next.ensures.steps in
    one_more (chars c.args.text.now) c.loop-character.items.items c.push_character.new.items.items (length c.loop-character.yielded) _ c.in-Some.character turn (length_push c.loop-character.yielded c.in-Some.character) c.in_ok-push_character.ensures c.loop-character.invariant

pub returns : goal.returns
returns c =
    let turn = YieldsList-end (YieldsList-from_chars c.args.text.now c.utf8.text cc) c.loop-character.yielded _ c.loop-character.yielded_by _ _ c.in-None.is c.next.ensures.steps in
    c.in_ok-units.ensures ∙ all_done (chars c.args.text.now) _ (length c.loop-character.yielded) (at_drop_all utf16_of (chars c.args.text.now) (length c.loop-character.yielded) (omega (arith, turn))) c.loop-character.invariant
