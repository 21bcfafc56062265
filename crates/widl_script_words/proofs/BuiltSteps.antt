-- For proofs alone. Constants, sources, step lines and targets are built.
use Rattle.std.proofs.Common.{◌≡◌, ℕ, ◌-◌, ◌^◌, Bool, true, false, List, [], ◌∷◌, ◌++◌, drop, refl, sym, ◌∙◌, ap, subst, append_assoc, append-nil}
use Rattle.std.specs.Prelude.{◌||◌, not, unwrap_or, min, ℤ, pos, negsuc}
use Rattle.widl_text.specs.IntegerTokens.{integer_of, magnitude}
use Rattle.widl_idl.specs.declared.literal.Literal.{Literal}
use Rattle.widl_value.specs.declared.number.Number.{Number}
use Rattle.widl_value.specs.declared.value.Value.{Value}
use Rattle.widl_value.specs.declared.value.Value.TheVariants as value
use Rattle.widl_value.specs.Rounding.{nearest_of}
use Rattle.widl_lines.specs.declared.grammar.Rule.TheVariants as rule
use Rattle.widl_lines.specs.declared.grammar.Terminal.{Terminal}
use Rattle.widl_lines.specs.declared.grammar.Terminal.TheVariants as t
use Rattle.widl_lines.specs.declared.word_form.WordForm.{WordForm}
use Rattle.widl_lines.specs.Texts.{units_of}
use Rattle.widl_lines.specs.Words.{Lexeme}
use Rattle.widl_script_tree.specs.declared.steps.Source.{Source}
use Rattle.widl_script_tree.specs.declared.steps.Source.TheVariants as source
use Rattle.widl_script_tree.specs.declared.steps.Invoke.{Invoke}
use Rattle.widl_script_tree.specs.declared.steps.Target.{Target}
use Rattle.widl_script_tree.specs.declared.steps.Target.TheVariants as target
use Rattle.widl_script_tree.specs.Trees.{Text}
use Rattle.widl_script_words.specs.Words.{is_target_name, is_operation_name, is_whole, is_integer, within_bound}
use Rattle.widl_script_words.specs.Signs.{Sign, OfTargetName, OfOperationName, OfNumber, OfUnits, OfInteger, OfIndex, Stands, word, ◌⧺◌}
use Rattle.widl_script_words.specs.SpelledExpressions.{number_signs}
use Rattle.widl_script_words.specs.SpelledTargets.{target_name, overload_signs, owner_of, part_signs, target_signs}
use Rattle.widl_script_words.specs.SpelledSteps.{literal_signs, value_signs, source_signs, slot_source_signs, more_sources, source_list, called_signs}
use Rattle.widl_script_words.specs.Reading.{Symbols, token, part, Reads, terminal_ahead, IfAhead}
use Rattle.widl_script_words.specs.StepReading.{is_plain_literal, IsPlainLiteral, is_plain_value, IsPlainValue, is_step_word, is_block_word, IsTextAhead, HoldsPart, HoldsOperation}
use Rattle.widl_script_words.proofs.Parts.{follow, before, nothing, of_signs, took, took_as, took_word, took_nested, by_row, by_only, by_test, by_none, if_ahead}

-- 1. Words

-- the number of an argument or an overload
index_took : (k : ℕ) (text : List ℕ) (b : Symbols) (from to : List Lexeme) → k ≡ min (magnitude text) (2 ^ 32 - 1) → IfAhead from (λ w. text ≡ w.text) → to ≡ drop 1 from → Reads (token t.Natural ++ b) b (OfIndex k ∷ []) from to
index_took k text b from to same held rest = took_as t.Natural b (OfIndex k) rest (if_ahead from (λ w. text ≡ w.text) (λ w. w.terminal ≡ t.Natural → Stands (OfIndex k) w) held (λ w s h. (h, ap (λ (x : List ℕ). min (magnitude x) (2 ^ 32 - 1)) (sym s) ∙ sym same)))

-- a name in a target or after `slot`
name_took : (text : Text) (b : Symbols) (from to : List Lexeme) → IsTextAhead text from to → Reads (part rule.TargetName ++ b) b (target_name text) from to
name_took text b from to h = took_nested rule.TargetName is_target_name b (OfTargetName text) refl h.rest (if_ahead from (λ w. text ≡ w.text) (λ w. is_target_name w.terminal ≡ true → Stands (OfTargetName text) w) h.held (λ w s k. (k, sym s)))

both_ahead : (from : List Lexeme) (P Q R : Lexeme → Type 0) → IfAhead from P → IfAhead from Q → ((w : Lexeme) → P w → Q w → R w) → IfAhead from R
both_ahead [] P Q R h k f = tt
both_ahead (w ∷ words) P Q R h k f = f w h k

text_took : (units text : List ℕ) (form : WordForm) (from to : List Lexeme) → units ≡ unwrap_or (units_of form text) [] → IfAhead from (λ w. form ≡ w.form) → IfAhead from (λ w. text ≡ w.text) → to ≡ drop 1 from → Reads (token t.Text) [] (OfUnits units ∷ []) from to
text_took units text form from to same formed held rest = took_as t.Text [] (OfUnits units) rest
    (both_ahead from (λ w. form ≡ w.form) (λ w. text ≡ w.text) (λ w. w.terminal ≡ t.Text → Stands (OfUnits units) w) formed held
    (λ w f s h. (h, (let e : unwrap_or (units_of w.form w.text) [] ≡ unwrap_or (units_of form text) [] = cc in e) ∙ sym same)))

-- 2. Constants

number_word : (v : ℤ) → number_signs (nearest_of v) ≡ OfNumber (nearest_of v) ∷ []
number_word (pos n) = refl
number_word (negsuc n) = refl

number_took : (a : Terminal) (n : Number) (text : List ℕ) (from to : List Lexeme) → is_whole a ≡ true → n ≡ nearest_of (within_bound (integer_of text)) → IfAhead from (λ w. text ≡ w.text) → to ≡ drop 1 from → Reads (token a) [] (number_signs n) from to
number_took a n text from to whole same held rest =
    let spelled : number_signs n ≡ OfNumber n ∷ [] = subst (λ (m : Number). number_signs m ≡ OfNumber m ∷ []) (sym same) (number_word (within_bound (integer_of text))) in
    of_signs spelled (took_as a [] (OfNumber n) rest (if_ahead from (λ w. text ≡ w.text) (λ w. w.terminal ≡ a → Stands (OfNumber n) w) held (λ w s h. (ap is_whole h ∙ whole, ap (λ (x : List ℕ). nearest_of (within_bound (integer_of x))) (sym s) ∙ sym same))))

integer_took : (a : Terminal) (n : ℤ) (text : List ℕ) (from to : List Lexeme) → is_integer a ≡ true → n ≡ integer_of text → IfAhead from (λ w. text ≡ w.text) → to ≡ drop 1 from → Reads (token a) [] (OfInteger n ∷ []) from to
integer_took a n text from to whole same held rest = took_as a [] (OfInteger n) rest (if_ahead from (λ w. text ≡ w.text) (λ w. w.terminal ≡ a → Stands (OfInteger n) w) held (λ w s h. (ap is_integer h ∙ whole, ap (λ (x : List ℕ). integer_of x) (sym s) ∙ sym same)))

pub plain_thrown : (a : Terminal) (v : Value) (from to : List Lexeme) → a ≡ terminal_ahead from → IsPlainValue a v → to ≡ drop 1 from → Reads (part rule.StepThrown) [] (value_signs v) from to
plain_thrown a v from to at p rest = of_signs p.1 (go a (sym at) p.0)
  where
    go : (b : Terminal) → terminal_ahead from ≡ b → is_plain_value b ≡ true → Reads (part rule.StepThrown) [] (word b) from to
    go t.Undefined h k = by_row rule.StepThrown t.Undefined h refl refl (by_row rule.Constant t.Undefined h refl refl (took t.Undefined [] rest))
    go t.Null h k = by_row rule.StepThrown t.Null h refl refl (by_row rule.Constant t.Null h refl refl (took t.Null [] rest))
    go t.True h k = by_row rule.StepThrown t.True h refl refl (by_row rule.Constant t.True h refl refl (took t.True [] rest))
    go t.False h k = by_row rule.StepThrown t.False h refl refl (by_row rule.Constant t.False h refl refl (took t.False [] rest))
    go t.Nan h k = by_row rule.StepThrown t.Nan h refl refl (took t.Nan [] rest)
    go t.Infinity h k = by_row rule.StepThrown t.Infinity h refl refl (took t.Infinity [] rest)
    go t.MinusInfinity h k = by_row rule.StepThrown t.MinusInfinity h refl refl (took t.MinusInfinity [] rest)
    go _ h k = absurd (let bad : false ≡ true = k in cc)

pub text_thrown : (units text : List ℕ) (form : WordForm) (from to : List Lexeme) → terminal_ahead from ≡ t.Text → units ≡ unwrap_or (units_of form text) [] → IfAhead from (λ w. form ≡ w.form) → IfAhead from (λ w. text ≡ w.text) → to ≡ drop 1 from → Reads (part rule.StepThrown) [] (OfUnits units ∷ []) from to
text_thrown units text form from to begins same formed held rest = by_row rule.StepThrown t.Text begins refl refl (by_row rule.Constant t.Text begins refl refl (text_took units text form from to same formed held rest))

-- no constant that is thrown begins with the word
abbrev is_none_thrown : Terminal → Bool
is_none_thrown t.Text = false
is_none_thrown a = not (is_plain_value a || is_whole a)

pub number_thrown : (n : Number) (text : List ℕ) (from to : List Lexeme) → is_plain_value (terminal_ahead from) ≡ false → (terminal_ahead from ≡ t.Text → ⊥) → n ≡ nearest_of (within_bound (integer_of text)) → IfAhead from (λ w. text ≡ w.text) → to ≡ drop 1 from → Reads (part rule.StepThrown) [] (number_signs n) from to
number_thrown n text from to plain other same held rest = go (terminal_ahead from) refl plain other
  where
    go : (b : Terminal) → terminal_ahead from ≡ b → is_plain_value b ≡ false → (b ≡ t.Text → ⊥) → Reads (part rule.StepThrown) [] (number_signs n) from to
    go t.Natural h k f = by_row rule.StepThrown t.Natural h refl refl (by_row rule.Constant t.Natural h refl refl (number_took t.Natural n text from to refl same held rest))
    go t.Negative h k f = by_row rule.StepThrown t.Negative h refl refl (by_row rule.Constant t.Negative h refl refl (number_took t.Negative n text from to refl same held rest))
    go t.Text h k f = absurd (f refl)
    go t.Undefined h k f = absurd (let bad : true ≡ false = k in cc)
    go t.Null h k f = absurd (let bad : true ≡ false = k in cc)
    go t.True h k f = absurd (let bad : true ≡ false = k in cc)
    go t.False h k f = absurd (let bad : true ≡ false = k in cc)
    go t.Nan h k f = absurd (let bad : true ≡ false = k in cc)
    go t.Infinity h k f = absurd (let bad : true ≡ false = k in cc)
    go t.MinusInfinity h k f = absurd (let bad : true ≡ false = k in cc)
    go _ h k f = by_none rule.StepThrown is_none_thrown refl (ap is_none_thrown h)

pub plain_read : (a : Terminal) (l : Literal) (from to : List Lexeme) → a ≡ terminal_ahead from → IsPlainLiteral a l → to ≡ drop 1 from → Reads (part rule.Literal) [] (literal_signs l) from to
plain_read a l from to at p rest = of_signs p.1 (go a (sym at) p.0)
  where
    go : (b : Terminal) → terminal_ahead from ≡ b → is_plain_literal b ≡ true → Reads (part rule.Literal) [] (word b) from to
    go t.Undefined h k = by_row rule.Literal t.Undefined h refl refl (by_row rule.Constant t.Undefined h refl refl (took t.Undefined [] rest))
    go t.Null h k = by_row rule.Literal t.Null h refl refl (by_row rule.Constant t.Null h refl refl (took t.Null [] rest))
    go t.True h k = by_row rule.Literal t.True h refl refl (by_row rule.Constant t.True h refl refl (took t.True [] rest))
    go t.False h k = by_row rule.Literal t.False h refl refl (by_row rule.Constant t.False h refl refl (took t.False [] rest))
    go _ h k = absurd (let bad : false ≡ true = k in cc)

pub text_read : (units text : List ℕ) (form : WordForm) (from to : List Lexeme) → terminal_ahead from ≡ t.Text → units ≡ unwrap_or (units_of form text) [] → IfAhead from (λ w. form ≡ w.form) → IfAhead from (λ w. text ≡ w.text) → to ≡ drop 1 from → Reads (part rule.Literal) [] (OfUnits units ∷ []) from to
text_read units text form from to begins same formed held rest = by_row rule.Literal t.Text begins refl refl (by_row rule.Constant t.Text begins refl refl (text_took units text form from to same formed held rest))

pub list_read : (from mid to : List Lexeme) → terminal_ahead from ≡ t.OpenBracket → mid ≡ drop 1 from → to ≡ drop 1 mid → Reads (part rule.Literal) [] (word t.OpenBracket ⧺ word t.CloseBracket) from to
list_read from mid to begins e f = by_row rule.Literal t.OpenBracket begins refl refl (by_only rule.EmptyList refl (follow (took t.OpenBracket _ e) (took t.CloseBracket [] f)))

pub dictionary_read : (from mid to : List Lexeme) → terminal_ahead from ≡ t.OpenBrace → mid ≡ drop 1 from → to ≡ drop 1 mid → Reads (part rule.Literal) [] (word t.OpenBrace ⧺ word t.CloseBrace) from to
dictionary_read from mid to begins e f = by_row rule.Literal t.OpenBrace begins refl refl (follow (took t.OpenBrace _ e) (took t.CloseBrace [] f))

-- no literal begins with the word
abbrev is_none_literal : Terminal → Bool
is_none_literal t.Text = false
is_none_literal t.OpenBracket = false
is_none_literal t.OpenBrace = false
is_none_literal a = not (is_plain_literal a || is_integer a)

pub integer_read : (n : ℤ) (text : List ℕ) (from to : List Lexeme) → is_plain_literal (terminal_ahead from) ≡ false → (terminal_ahead from ≡ t.Text → ⊥) → (terminal_ahead from ≡ t.OpenBracket → ⊥) → (terminal_ahead from ≡ t.OpenBrace → ⊥) → n ≡ integer_of text → IfAhead from (λ w. text ≡ w.text) → to ≡ drop 1 from → Reads (part rule.Literal) [] (OfInteger n ∷ []) from to
integer_read n text from to plain no_text no_list no_dictionary same held rest = go (terminal_ahead from) refl plain no_text no_list no_dictionary
  where
    go : (b : Terminal) → terminal_ahead from ≡ b → is_plain_literal b ≡ false → (b ≡ t.Text → ⊥) → (b ≡ t.OpenBracket → ⊥) → (b ≡ t.OpenBrace → ⊥) → Reads (part rule.Literal) [] (OfInteger n ∷ []) from to
    go t.Natural h k f g i = by_row rule.Literal t.Natural h refl refl (by_row rule.Constant t.Natural h refl refl (integer_took t.Natural n text from to refl same held rest))
    go t.Negative h k f g i = by_row rule.Literal t.Negative h refl refl (by_row rule.Constant t.Negative h refl refl (integer_took t.Negative n text from to refl same held rest))
    go t.OtherInteger h k f g i = by_row rule.Literal t.OtherInteger h refl refl (integer_took t.OtherInteger n text from to refl same held rest)
    go t.Text h k f g i = absurd (f refl)
    go t.OpenBracket h k f g i = absurd (g refl)
    go t.OpenBrace h k f g i = absurd (i refl)
    go t.Undefined h k f g i = absurd (let bad : true ≡ false = k in cc)
    go t.Null h k f g i = absurd (let bad : true ≡ false = k in cc)
    go t.True h k f g i = absurd (let bad : true ≡ false = k in cc)
    go t.False h k f g i = absurd (let bad : true ≡ false = k in cc)
    go _ h k f g i = by_none rule.Literal is_none_literal refl (ap is_none_literal h)

-- 3. Sources

pub arg_read : (k : ℕ) (text : List ℕ) (from mid to : List Lexeme) → terminal_ahead from ≡ t.Arg → mid ≡ drop 1 from → k ≡ min (magnitude text) (2 ^ 32 - 1) → IfAhead mid (λ w. text ≡ w.text) → to ≡ drop 1 mid → Reads (part rule.SlotSource) [] (source_signs (source.Arg k)) from to
arg_read k text from mid to begins e same held rest = by_row rule.SlotSource t.Arg begins refl refl (follow (took t.Arg _ e) (index_took k text [] mid to same held rest))

abbrev is_none_slot_source : Terminal → Bool
is_none_slot_source t.Arg = false
is_none_slot_source t.Literal = false
is_none_slot_source _ = true

pub literal_source : (l : Literal) (from mid to : List Lexeme) → (terminal_ahead from ≡ t.Arg → ⊥) → mid ≡ drop 1 from → Reads (part rule.Literal) [] (literal_signs l) mid to → Reads (part rule.SlotSource) [] (source_signs (source.Literal l)) from to
literal_source l from mid to other e read = go (terminal_ahead from) refl other
  where
    go : (b : Terminal) → terminal_ahead from ≡ b → (b ≡ t.Arg → ⊥) → Reads (part rule.SlotSource) [] (source_signs (source.Literal l)) from to
    go t.Literal h f = by_row rule.SlotSource t.Literal h refl refl (follow (took t.Literal _ e) read)
    go t.Arg h f = absurd (f refl)
    go _ h f = by_none rule.SlotSource is_none_slot_source refl (ap is_none_slot_source h)

pub this_read : (from to : List Lexeme) → terminal_ahead from ≡ t.This → to ≡ drop 1 from → Reads (part rule.Source) [] (word t.This) from to
this_read from to begins e = by_row rule.Source t.This begins refl refl (took t.This [] e)

pub slot_read : (text : Text) (from mid to : List Lexeme) → terminal_ahead from ≡ t.Slot → mid ≡ drop 1 from → IsTextAhead text mid to → Reads (part rule.Source) [] (source_signs (source.Slot text)) from to
slot_read text from mid to begins e h = by_row rule.Source t.Slot begins refl refl (follow (took t.Slot _ e) (name_took text [] mid to h))

-- as any source
any_source : (s : Source) (from to : List Lexeme) → Reads (part rule.SlotSource) [] (slot_source_signs s) from to → Reads (part rule.SlotSource) [] (source_signs s) from to
any_source (source.Arg k) from to read = read
any_source source.This from to read = record { reads = λ z d. absurd (read.reads z d).0.3 }
any_source (source.Slot text) from to read = record { reads = λ z d. absurd (read.reads z d).0.3 }
any_source (source.Literal l) from to read = read

-- neither `this` nor `slot` begins the source
abbrev is_other_source : Terminal → Bool
is_other_source t.This = false
is_other_source t.Slot = false
is_other_source _ = true

other_source : (a : Terminal) → (a ≡ t.This → ⊥) → (a ≡ t.Slot → ⊥) → is_other_source a ≡ true
other_source t.This f g = absurd (f refl)
other_source t.Slot f g = absurd (g refl)
other_source _ f g = refl

pub slot_source_read : (s : Source) (from to : List Lexeme) → (terminal_ahead from ≡ t.This → ⊥) → (terminal_ahead from ≡ t.Slot → ⊥) → Reads (part rule.SlotSource) [] (slot_source_signs s) from to → Reads (part rule.Source) [] (source_signs s) from to
slot_source_read s from to f g read = by_test rule.Source is_other_source 0 refl refl (other_source (terminal_ahead from) f g) (any_source s from to read)

-- the sources of a call that were read, one at least
pub record Listed (sources : List Source) (from to : List Lexeme) : Type 0 where
  pub first : Source
  pub more : List Source
  pub is : sources ≡ first ∷ more
  pub reads : Reads (part rule.SourceList) (part rule.MoreSources) (source_signs first ⧺ more_sources more) from to

abbrev is_close : Terminal → Bool
is_close t.CloseParen = true
is_close _ = false

not_close : (a : Terminal) → (a ≡ t.CloseParen → ⊥) → not (is_close a) ≡ true
not_close t.CloseParen f = absurd (f refl)
not_close _ f = refl

abbrev is_comma : Terminal → Bool
is_comma t.Comma = true
is_comma _ = false

not_comma : (a : Terminal) → (a ≡ t.Comma → ⊥) → not (is_comma a) ≡ true
not_comma t.Comma f = absurd (f refl)
not_comma _ f = refl

pub no_sources : (from : List Lexeme) → terminal_ahead from ≡ t.CloseParen → Reads (part rule.SourceList) [] [] from from
no_sources from e = by_row rule.SourceList t.CloseParen e refl refl nothing

pub first_source : (s : Source) (none sources : List Source) (from to : List Lexeme) → (terminal_ahead from ≡ t.CloseParen → ⊥) → none ≡ [] → sources ≡ none ++ s ∷ [] → Reads (part rule.Source) [] (source_signs s) from to → Listed sources from to
first_source s none sources from to other nil put read = record {
  first = s;
  more = [];
  is = put ∙ ap (λ x. x ++ s ∷ []) nil;
  reads = by_test rule.SourceList (λ a. not (is_close a)) 0 refl refl (not_close (terminal_ahead from) other) (of_signs (append-nil (source_signs s)) (before (part rule.MoreSources) read));
}

more_put : (more : List Source) (s : Source) → more_sources (more ++ s ∷ []) ≡ more_sources more ⧺ (word t.Comma ⧺ source_signs s)
more_put [] s = ap (λ x. word t.Comma ⧺ x) (append-nil (source_signs s))
more_put (a ∷ more) s = ap (λ x. word t.Comma ⧺ source_signs a ⧺ x) (more_put more s) ∙ ap (λ x. word t.Comma ⧺ x) (sym (append_assoc (source_signs a) (more_sources more) (word t.Comma ⧺ source_signs s)))

pub next_source : (s : Source) (old new : List Source) (from at mid to : List Lexeme) → Listed old from at → terminal_ahead at ≡ t.Comma → mid ≡ drop 1 at → Reads (part rule.Source) [] (source_signs s) mid to → new ≡ old ++ s ∷ [] → Listed new from to
next_source s old new from at mid to h comma e read put = record {
  first = h.first;
  more = h.more ++ s ∷ [];
  is = put ∙ ap (λ x. x ++ s ∷ []) h.is;
  reads = of_signs
      (ap (λ x. source_signs h.first ⧺ x) (more_put h.more s) ∙ sym (append_assoc (source_signs h.first) (more_sources h.more) (word t.Comma ⧺ source_signs s)))
      (follow h.reads (by_row rule.MoreSources t.Comma comma refl refl (follow (took t.Comma _ e) (before (part rule.MoreSources) read))));
}

pub all_sources : (sources : List Source) (from to : List Lexeme) → Listed sources from to → (terminal_ahead to ≡ t.Comma → ⊥) → Reads (part rule.SourceList) [] (source_list sources) from to
all_sources sources from to h other =
    let ended : Reads (part rule.MoreSources) [] [] to to = by_test rule.MoreSources (λ a. not (is_comma a)) 1 refl refl (not_comma (terminal_ahead to) other) nothing in
    of_signs (ap source_list h.is ∙ sym (append-nil (source_list (h.first ∷ h.more)))) (follow h.reads ended)

pub invoke_read : (i : Invoke) (text : List ℕ) (from one two three four to : List Lexeme) → one ≡ drop 1 from → i.arg ≡ min (magnitude text) (2 ^ 32 - 1) → IfAhead one (λ w. text ≡ w.text) → two ≡ drop 1 one → three ≡ drop 1 two → Reads (part rule.SourceList) [] (source_list i.sources) three four → to ≡ drop 1 four → Reads (part rule.Invoke) [] (called_signs i) from to
invoke_read i text from one two three four to e same held f g read h =
    by_only rule.Invoke refl (follow (took t.Arg _ e) (follow (index_took i.arg text _ one two same held f) (by_only rule.Sources refl (follow (took t.OpenParen _ g) (follow (before (token t.CloseParen) read) (took t.CloseParen [] h))))))

-- 4. Step lines

pub return_invoke_read : (i : Invoke) (from one two to : List Lexeme) → terminal_ahead from ≡ t.Return → one ≡ drop 1 from → terminal_ahead one ≡ t.Invoke → two ≡ drop 1 one → Reads (part rule.Invoke) [] (called_signs i) two to → Reads (part rule.StepLine) [] (word t.Return ⧺ word t.Invoke ⧺ called_signs i) from to
return_invoke_read i from one two to begins e second f read = by_row rule.StepLine t.Return begins refl refl (follow (took t.Return _ e) (by_row rule.StepReturn t.Invoke second refl refl (follow (took t.Invoke _ f) read)))

abbrev is_invoke : Terminal → Bool
is_invoke t.Invoke = true
is_invoke _ = false

not_invoke : (a : Terminal) → (a ≡ t.Invoke → ⊥) → not (is_invoke a) ≡ true
not_invoke t.Invoke f = absurd (f refl)
not_invoke _ f = refl

pub return_read : (s : Source) (from one to : List Lexeme) → terminal_ahead from ≡ t.Return → one ≡ drop 1 from → (terminal_ahead one ≡ t.Invoke → ⊥) → Reads (part rule.Source) [] (source_signs s) one to → Reads (part rule.StepLine) [] (word t.Return ⧺ source_signs s) from to
return_read s from one to begins e other read = by_row rule.StepLine t.Return begins refl refl (follow (took t.Return _ e) (by_test rule.StepReturn (λ a. not (is_invoke a)) 0 refl refl (not_invoke (terminal_ahead one) other) read))

pub set_slot_read : (slot : Text) (s : Source) (from one two three to : List Lexeme) → terminal_ahead from ≡ t.Slot → one ≡ drop 1 from → IsTextAhead slot one two → three ≡ drop 1 two → Reads (part rule.SlotSource) [] (slot_source_signs s) three to → Reads (part rule.StepLine) [] (word t.Slot ⧺ target_name slot ⧺ word t.Equals ⧺ slot_source_signs s) from to
set_slot_read slot s from one two three to begins e h f read = by_row rule.StepLine t.Slot begins refl refl (follow (took t.Slot _ e) (follow (name_took slot _ one two h) (follow (took t.Equals _ f) read)))

pub append_read : (key s : Source) (from one two to : List Lexeme) → terminal_ahead from ≡ t.Append → one ≡ drop 1 from → Reads (part rule.Source) [] (source_signs key) one two → Reads (part rule.Source) [] (source_signs s) two to → Reads (part rule.StepLine) [] (word t.Append ⧺ source_signs key ⧺ source_signs s) from to
append_read key s from one two to begins e f g = by_row rule.StepLine t.Append begins refl refl (follow (took t.Append _ e) (follow (before (part rule.Source) f) g))

pub throw_read : (v : Value) (from one to : List Lexeme) → terminal_ahead from ≡ t.Throw → one ≡ drop 1 from → Reads (part rule.StepThrown) [] (value_signs v) one to → Reads (part rule.StepLine) [] (word t.Throw ⧺ value_signs v) from to
throw_read v from one to begins e read = by_row rule.StepLine t.Throw begins refl refl (follow (took t.Throw _ e) read)

pub clear_read : (from to : List Lexeme) → terminal_ahead from ≡ t.Clear → to ≡ drop 1 from → Reads (part rule.StepLine) [] (word t.Clear) from to
clear_read from to begins e = by_row rule.StepLine t.Clear begins refl refl (took t.Clear [] e)

-- no step line begins with the word
abbrev is_no_step : Terminal → Bool
is_no_step a = not (is_step_word a || is_block_word a)

-- a step line that begins with none of the other words
pub invoke_line_read : (i : Invoke) (from one to : List Lexeme) → (terminal_ahead from ≡ t.Return → ⊥) → (terminal_ahead from ≡ t.Slot → ⊥) → (terminal_ahead from ≡ t.Append → ⊥) → (terminal_ahead from ≡ t.Throw → ⊥) → (terminal_ahead from ≡ t.Clear → ⊥) → is_block_word (terminal_ahead from) ≡ false → one ≡ drop 1 from → Reads (part rule.Invoke) [] (called_signs i) one to → Reads (part rule.StepLine) [] (word t.Invoke ⧺ called_signs i) from to
invoke_line_read i from one to a b c d f block e read = go (terminal_ahead from) refl a b c d f block
  where
    go : (x : Terminal) → terminal_ahead from ≡ x → (x ≡ t.Return → ⊥) → (x ≡ t.Slot → ⊥) → (x ≡ t.Append → ⊥) → (x ≡ t.Throw → ⊥) → (x ≡ t.Clear → ⊥) → is_block_word x ≡ false → Reads (part rule.StepLine) [] (word t.Invoke ⧺ called_signs i) from to
    go t.Invoke h a b c d f block = by_row rule.StepLine t.Invoke h refl refl (follow (took t.Invoke _ e) read)
    go t.Return h a b c d f block = absurd (a refl)
    go t.Slot h a b c d f block = absurd (b refl)
    go t.Append h a b c d f block = absurd (c refl)
    go t.Throw h a b c d f block = absurd (d refl)
    go t.Clear h a b c d f block = absurd (f refl)
    go t.End h a b c d f block = absurd (let bad : true ≡ false = block in cc)
    go t.Catch h a b c d f block = absurd (let bad : true ≡ false = block in cc)
    go t.Else h a b c d f block = absurd (let bad : true ≡ false = block in cc)
    go t.Function h a b c d f block = absurd (let bad : true ≡ false = block in cc)
    go t.Steps h a b c d f block = absurd (let bad : true ≡ false = block in cc)
    go t.Try h a b c d f block = absurd (let bad : true ≡ false = block in cc)
    go t.If h a b c d f block = absurd (let bad : true ≡ false = block in cc)
    go _ h a b c d f block = by_none rule.StepLine is_no_step refl (ap is_no_step h)

-- 5. Targets

pub overload_read : (k : ℕ) (text : List ℕ) (from mid to : List Lexeme) → mid ≡ drop 1 from → k ≡ min (magnitude text) (2 ^ 32 - 1) → IfAhead mid (λ w. text ≡ w.text) → to ≡ drop 1 mid → Reads (part rule.OverloadNumber) [] (overload_signs k) from to
overload_read k text from mid to e same held f = by_only rule.OverloadNumber refl (follow (took t.NumberSign _ e) (index_took k text [] mid to same held f))

pub by_operation : (owner text : Text) (fixed : Bool) (t : Target) (start from to : List Lexeme) → HoldsOperation owner text fixed t from to → ((k : ℕ) → Reads (part rule.OverloadNumber) [] (overload_signs k) from to → HoldsPart owner (target.Operation owner text fixed k) start to) → HoldsPart owner t start to
by_operation owner text fixed t start from to h f = subst (λ (x : Target). HoldsPart owner x start to) (sym h.is) (f h.overload h.reads)

pub constructor_holds : (owner : Text) (k : ℕ) (from mid to : List Lexeme) → terminal_ahead from ≡ t.Constructor → mid ≡ drop 1 from → Reads (part rule.OverloadNumber) [] (overload_signs k) mid to → HoldsPart owner (target.Constructor owner k) from to
constructor_holds owner k from mid to begins e read = record { owner_is = refl; reads = by_row rule.TargetRest t.Constructor begins refl refl (follow (by_row rule.PlainTargetName t.Constructor begins refl refl (took t.Constructor _ e)) read) }

abbrev is_plain_part : Terminal → Bool
is_plain_part t.Static = false
is_plain_part t.Get = false
is_plain_part t.Set = false
is_plain_part t.ToString = false
is_plain_part _ = true

plain_is : (a : Terminal) → (a ≡ t.Static → ⊥) → (a ≡ t.Get → ⊥) → (a ≡ t.Set → ⊥) → (a ≡ t.ToString → ⊥) → is_plain_part a ≡ true
plain_is t.Static f g h i = absurd (f refl)
plain_is t.Get f g h i = absurd (g refl)
plain_is t.Set f g h i = absurd (h refl)
plain_is t.ToString f g h i = absurd (i refl)
plain_is _ f g h i = refl

-- a name of an operation: `constructor` is none
operation_is : (a : Terminal) → (a ≡ t.Constructor → ⊥) → is_target_name a ≡ true → is_operation_name a ≡ true
operation_is t.Constructor f e = absurd (f refl)
operation_is _ f e = e

ahead_too : (from : List Lexeme) (P : Lexeme → Type 0) → IfAhead from P → IfAhead from (λ w. (w.terminal ≡ terminal_ahead from) × P w)
ahead_too [] P h = tt
ahead_too (w ∷ words) P h = (refl, h)

pub operation_holds : (owner text : Text) (k : ℕ) (from mid to : List Lexeme) → (terminal_ahead from ≡ t.Static → ⊥) → (terminal_ahead from ≡ t.Get → ⊥) → (terminal_ahead from ≡ t.Set → ⊥) → (terminal_ahead from ≡ t.ToString → ⊥) → (terminal_ahead from ≡ t.Constructor → ⊥) → IsTextAhead text from mid → Reads (part rule.OverloadNumber) [] (overload_signs k) mid to → HoldsPart owner (target.Operation owner text false k) from to
operation_holds owner text k from mid to a b c d other n read = record {
  owner_is = refl;
  reads = by_test rule.TargetRest is_plain_part 4 refl refl (plain_is (terminal_ahead from) a b c d)
      (follow (took_word rule.PlainTargetName is_target_name _ (OfOperationName text) refl n.rest
      (if_ahead from (λ w. (w.terminal ≡ terminal_ahead from) × (text ≡ w.text)) (λ w. is_target_name w.terminal ≡ true → Stands (OfOperationName text) w) (ahead_too from (λ w. text ≡ w.text) n.held)
      (λ w s h. (operation_is w.terminal (λ e. other (sym s.0 ∙ e)) h, sym s.1)))) read);
}

-- the word of a target as the name of an operation
word_took : (a : Terminal) (text : Text) (b : Symbols) (from to : List Lexeme) → is_operation_name a ≡ true → IsTextAhead text from to → Reads (token a ++ b) b (OfOperationName text ∷ []) from to
word_took a text b from to e n = took_as a b (OfOperationName text) n.rest (if_ahead from (λ w. text ≡ w.text) (λ w. w.terminal ≡ a → Stands (OfOperationName text) w) n.held (λ w s h. (ap is_operation_name h ∙ e, sym s)))

pub static_named : (owner text : Text) (k : ℕ) (from mid to : List Lexeme) → terminal_ahead from ≡ t.Static → IsTextAhead text from mid → terminal_ahead mid ≡ t.NumberSign → Reads (part rule.OverloadNumber) [] (overload_signs k) mid to → HoldsPart owner (target.Operation owner text false k) from to
static_named owner text k from mid to begins n second read = record { owner_is = refl; reads = by_row rule.TargetRest t.Static begins refl refl (follow (word_took t.Static text _ from mid refl n) (by_row rule.StaticRest t.NumberSign second refl refl read)) }

pub get_named : (owner text : Text) (k : ℕ) (from mid to : List Lexeme) → terminal_ahead from ≡ t.Get → IsTextAhead text from mid → terminal_ahead mid ≡ t.NumberSign → Reads (part rule.OverloadNumber) [] (overload_signs k) mid to → HoldsPart owner (target.Operation owner text false k) from to
get_named owner text k from mid to begins n second read = record { owner_is = refl; reads = by_row rule.TargetRest t.Get begins refl refl (follow (word_took t.Get text _ from mid refl n) (by_row rule.AccessorRest t.NumberSign second refl refl read)) }

pub set_named : (owner text : Text) (k : ℕ) (from mid to : List Lexeme) → terminal_ahead from ≡ t.Set → IsTextAhead text from mid → terminal_ahead mid ≡ t.NumberSign → Reads (part rule.OverloadNumber) [] (overload_signs k) mid to → HoldsPart owner (target.Operation owner text false k) from to
set_named owner text k from mid to begins n second read = record { owner_is = refl; reads = by_row rule.TargetRest t.Set begins refl refl (follow (word_took t.Set text _ from mid refl n) (by_row rule.AccessorRest t.NumberSign second refl refl read)) }

pub string_named : (owner text : Text) (k : ℕ) (from mid to : List Lexeme) → terminal_ahead from ≡ t.ToString → IsTextAhead text from mid → terminal_ahead mid ≡ t.NumberSign → Reads (part rule.OverloadNumber) [] (overload_signs k) mid to → HoldsPart owner (target.Operation owner text false k) from to
string_named owner text k from mid to begins n second read = record { owner_is = refl; reads = by_row rule.TargetRest t.ToString begins refl refl (follow (word_took t.ToString text _ from mid refl n) (by_row rule.StringRest t.NumberSign second refl refl read)) }

abbrev is_sharp : Terminal → Bool
is_sharp t.NumberSign = true
is_sharp _ = false

not_sharp : (a : Terminal) → (a ≡ t.NumberSign → ⊥) → not (is_sharp a) ≡ true
not_sharp t.NumberSign f = absurd (f refl)
not_sharp _ f = refl

pub static_holds : (owner old text : Text) (k : ℕ) (from mid next to : List Lexeme) → terminal_ahead from ≡ t.Static → IsTextAhead old from mid → (terminal_ahead mid ≡ t.NumberSign → ⊥) → IsTextAhead text mid next → Reads (part rule.OverloadNumber) [] (overload_signs k) next to → HoldsPart owner (target.Operation owner text true k) from to
static_holds owner old text k from mid next to begins n other m read = record { owner_is = refl; reads = by_row rule.TargetRest t.Static begins refl refl (follow (took t.Static _ n.rest) (by_test rule.StaticRest (λ a. not (is_sharp a)) 0 refl refl (not_sharp (terminal_ahead mid) other) (follow (name_took text _ mid next m) read))) }

pub getter_holds : (owner old text : Text) (from mid to : List Lexeme) → terminal_ahead from ≡ t.Get → IsTextAhead old from mid → (terminal_ahead mid ≡ t.NumberSign → ⊥) → IsTextAhead text mid to → HoldsPart owner (target.Getter owner text) from to
getter_holds owner old text from mid to begins n other m = record { owner_is = refl; reads = by_row rule.TargetRest t.Get begins refl refl (follow (took t.Get _ n.rest) (by_test rule.AccessorRest (λ a. not (is_sharp a)) 0 refl refl (not_sharp (terminal_ahead mid) other) (name_took text [] mid to m))) }

pub setter_holds : (owner old text : Text) (from mid to : List Lexeme) → terminal_ahead from ≡ t.Set → IsTextAhead old from mid → (terminal_ahead mid ≡ t.NumberSign → ⊥) → IsTextAhead text mid to → HoldsPart owner (target.Setter owner text) from to
setter_holds owner old text from mid to begins n other m = record { owner_is = refl; reads = by_row rule.TargetRest t.Set begins refl refl (follow (took t.Set _ n.rest) (by_test rule.AccessorRest (λ a. not (is_sharp a)) 0 refl refl (not_sharp (terminal_ahead mid) other) (name_took text [] mid to m))) }

pub stringifier_holds : (owner old : Text) (from to : List Lexeme) → terminal_ahead from ≡ t.ToString → IsTextAhead old from to → (terminal_ahead to ≡ t.NumberSign → ⊥) → HoldsPart owner (target.Stringifier owner) from to
stringifier_holds owner old from to begins n other = record { owner_is = refl; reads = by_row rule.TargetRest t.ToString begins refl refl (follow (took t.ToString _ n.rest) (by_test rule.StringRest (λ a. not (is_sharp a)) 1 refl refl (not_sharp (terminal_ahead to) other) nothing)) }

pub target_read : (owner : Text) (target_ : Target) (from one two to : List Lexeme) → IsTextAhead owner from one → two ≡ drop 1 one → HoldsPart owner target_ two to → Reads (part rule.Target) [] (target_signs target_) from to
target_read owner target_ from one two to n e h = of_signs (ap (λ (x : Text). target_name x ⧺ word t.Dot ⧺ part_signs target_) h.owner_is) (by_only rule.Target refl (follow (name_took owner _ from one n) (follow (took t.Dot _ e) h.reads)))
