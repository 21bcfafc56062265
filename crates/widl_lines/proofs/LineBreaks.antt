-- The first rule that a line breaks, from what the machine answers.
use Rattle.std.proofs.Common.{◌≡◌, ℕ, zero, suc, ◌<◌, ◌≤◌, ◌⊎◌, inl, inr, Bool, true, false, List, [], ◌∷◌, length, get_or, Option, Some, None, refl, sym, ◌∙◌, ap, arith, lit≤}
use Rattle.std.proofs.lemmas.Bool.{cases_order}
use Rattle.std.specs.Prelude.{is_some, not}
use Rattle.widl_text.specs.Limits.{most_nested_blocks}
use Rattle.widl_first.specs.Keys.{IsFirst, Precedes, first_of}
use Rattle.widl_first.proofs.KeyFirsts.{first_either, first_same}
use Rattle.widl_predictive.specs.Grammar.{SyntaxPlace, DeepPlace, IsFault, IsAccepted}
use Rattle.widl_predictive.specs.declared.fault.Fault.TheVariants.{Syntax, TooDeep as Deep}
use Rattle.widl_predictive.proofs.Unique.{one_place, no_place}
use Rattle.widl_lines.specs.declared.grammar.Rule.{Rule}
use Rattle.widl_lines.specs.declared.line_break.LineRule.{LineRule}
use Rattle.widl_lines.specs.declared.line_break.LineRule.TheVariants.{NoForm, TooDeep, TooLarge, NoBlock}
use Rattle.widl_lines.specs.declared.line_break.LineBreak.{LineBreak}
use Rattle.widl_lines.specs.declared.blocks.Block.{Block}
use Rattle.widl_lines.specs.declared.blocks.Change.{Change}
use Rattle.widl_lines.specs.Grammar.{grammar}
use Rattle.widl_lines.specs.Words.{Lexeme}
use Rattle.widl_lines.specs.Blocks.{innermost, start_of, change_by, is_opening}
use Rattle.widl_lines.specs.Breaks.{terminals_of, large_of, NoneLarge, break_key, Breaks, ByWords, ByBlocks, WordsAt, BlocksAt, BreaksAt}
use Rattle.widl_lines.proofs.BreakOrder.{comes_first}

abbrev pub broken_at : LineRule → ℕ → LineBreak
broken_at rule word = record { rule = rule; word = word }

large_within : (words : List Lexeme) (k : ℕ) → get_or (large_of words) k false ≡ true → k < length words
large_within [] k e = cc
large_within (word ∷ words) zero e = omega arith
large_within (word ∷ words) (suc k) e = let r = large_within words k e in omega (arith, r)

module _ (start : Rule) (words : List Lexeme) where
  one_deep : (j k : ℕ) → DeepPlace grammar start (terminals_of words) j → DeepPlace grammar start (terminals_of words) k → j ≡ k
  one_deep j k a b = elim (cases_order j k) [ inl same ↦ same | inr (inl below) ↦ absurd (b.least j below a.deep) | inr (inr above) ↦ absurd (a.least k above b.deep) ]

  pub form_first : (k : ℕ) → IsFault grammar start (terminals_of words) (Syntax k) → NoneLarge words k → IsFirst break_key (ByWords start words) (Some (broken_at NoForm k))
  form_first k fault none = record { holds = fault.0; first = λ b h. least b.rule b.word h }
    where
      least : (rule : LineRule) (j : ℕ) → WordsAt start words rule j → Precedes break_key (broken_at rule j) (broken_at NoForm k) → ⊥
      least NoForm j h = let e : k ≡ j = one_place grammar start (terminals_of words) k j fault.0 h in comes_first (broken_at NoForm k) (broken_at NoForm j) (λ lt. omega (arith, lt, e)) (λ e. lit≤ tt)
      least TooDeep j h = let lt : k < j = fault.1 j h in comes_first (broken_at NoForm k) (broken_at TooDeep j) (λ gt. omega (arith, lt, gt)) (λ e. lit≤ tt)
      least TooLarge j h = comes_first (broken_at NoForm k) (broken_at TooLarge j) (λ lt. none j lt h) (λ e. lit≤ tt)
      least NoBlock j h = absurd h

  pub deep_first : (k : ℕ) → IsFault grammar start (terminals_of words) (Deep k) → NoneLarge words k → IsFirst break_key (ByWords start words) (Some (broken_at TooDeep k))
  deep_first k fault none = record { holds = fault.0; first = λ b h. least b.rule b.word h }
    where
      least : (rule : LineRule) (j : ℕ) → WordsAt start words rule j → Precedes break_key (broken_at rule j) (broken_at TooDeep k) → ⊥
      least NoForm j h = let lt : k < j = fault.1 j h in comes_first (broken_at TooDeep k) (broken_at NoForm j) (λ gt. omega (arith, lt, gt)) (λ e. absurd (omega (arith, e, lt)))
      least TooDeep j h = let e : k ≡ j = one_deep k j fault.0 h in comes_first (broken_at TooDeep k) (broken_at TooDeep j) (λ lt. omega (arith, lt, e)) (λ e. lit≤ tt)
      least TooLarge j h = comes_first (broken_at TooDeep k) (broken_at TooLarge j) (λ lt. none j lt h) (λ e. lit≤ tt)
      least NoBlock j h = absurd h

  large_first : (k : ℕ) → get_or (large_of words) k false ≡ true → NoneLarge words k → ((j : ℕ) → SyntaxPlace grammar start (terminals_of words) j → k < j) → ((j : ℕ) → DeepPlace grammar start (terminals_of words) j → k < j) → IsFirst break_key (ByWords start words) (Some (broken_at TooLarge k))
  large_first k large none before_form before_deep = record { holds = large; first = λ b h. least b.rule b.word h }
    where
      least : (rule : LineRule) (j : ℕ) → WordsAt start words rule j → Precedes break_key (broken_at rule j) (broken_at TooLarge k) → ⊥
      least NoForm j h = let lt : k < j = before_form j h in comes_first (broken_at TooLarge k) (broken_at NoForm j) (λ gt. omega (arith, lt, gt)) (λ e. absurd (omega (arith, e, lt)))
      least TooDeep j h = let lt : k < j = before_deep j h in comes_first (broken_at TooLarge k) (broken_at TooDeep j) (λ gt. omega (arith, lt, gt)) (λ e. absurd (omega (arith, e, lt)))
      least TooLarge j h = comes_first (broken_at TooLarge k) (broken_at TooLarge j) (λ lt. none j lt h) (λ e. lit≤ tt)
      least NoBlock j h = absurd h

  pub large_before_form : (k place : ℕ) → IsFault grammar start (terminals_of words) (Syntax place) → k < place → get_or (large_of words) k false ≡ true → NoneLarge words k → IsFirst break_key (ByWords start words) (Some (broken_at TooLarge k))
  large_before_form k place fault lt large none =
      large_first k large none
      (λ j h. let e : place ≡ j = one_place grammar start (terminals_of words) place j fault.0 h in omega (arith, lt, e))
      (λ j h. let after : place < j = fault.1 j h in omega (arith, lt, after))

  pub large_before_deep : (k place : ℕ) → IsFault grammar start (terminals_of words) (Deep place) → k < place → get_or (large_of words) k false ≡ true → NoneLarge words k → IsFirst break_key (ByWords start words) (Some (broken_at TooLarge k))
  large_before_deep k place fault lt large none =
      large_first k large none
      (λ j h. let after : place < j = fault.1 j h in omega (arith, lt, after))
      (λ j h. let e : place ≡ j = one_deep place j fault.0 h in omega (arith, lt, e))

  pub large_in_line : (k : ℕ) → IsAccepted grammar start (terminals_of words) → get_or (large_of words) k false ≡ true → NoneLarge words k → IsFirst break_key (ByWords start words) (Some (broken_at TooLarge k))
  large_in_line k accepted large none =
      large_first k large none
      (λ j h. absurd (no_place grammar start (terminals_of words) j accepted.sentence h))
      (λ j h. absurd (accepted.no_deep j h))

  pub none_first : (n : ℕ) → IsAccepted grammar start (terminals_of words) → length words ≤ n → NoneLarge words n → IsFirst break_key (ByWords start words) None
  none_first n accepted le none = λ b h. nothing b.rule b.word h
    where
      nothing : (rule : LineRule) (j : ℕ) → WordsAt start words rule j → ⊥
      nothing NoForm j h = no_place grammar start (terminals_of words) j accepted.sentence h
      nothing TooDeep j h = accepted.no_deep j h
      nothing TooLarge j h = none j (omega (arith, le, large_within words j h)) h
      nothing NoBlock j h = h

module _ (blocks : List Block) (words : List Lexeme) where
  there : (rule : LineRule) (k : ℕ) → WordsAt (start_of (innermost blocks)) words rule k ⊎ BlocksAt blocks words rule k → BreaksAt blocks words rule k
  there NoForm k (inl h) = h
  there NoForm k (inr h) = absurd h
  there TooDeep k h = h
  there TooLarge k (inl h) = h
  there TooLarge k (inr h) = absurd h
  there NoBlock k (inl h) = absurd h
  there NoBlock k (inr h) = h

  back : (rule : LineRule) (k : ℕ) → BreaksAt blocks words rule k → WordsAt (start_of (innermost blocks)) words rule k ⊎ BlocksAt blocks words rule k
  back NoForm k h = inl h
  back TooDeep k h = h
  back TooLarge k h = inl h
  back NoBlock k h = inr h

  -- what a line breaks by its words, and what among blocks
  pub both : (a b : Option LineBreak) → IsFirst break_key (ByWords (start_of (innermost blocks)) words) a → IsFirst break_key (ByBlocks blocks words) b → IsFirst break_key (Breaks blocks words) (first_of break_key a b)
  both a b f g = first_same break_key (λ x. ByWords (start_of (innermost blocks)) words x ⊎ ByBlocks blocks words x) (Breaks blocks words) (first_of break_key a b) (λ x h. there x.rule x.word h) (λ x h. back x.rule x.word h) (first_either break_key (ByWords (start_of (innermost blocks)) words) (ByBlocks blocks words) a b f g)

  pub no_block : change_by words blocks ≡ None → IsFirst break_key (ByBlocks blocks words) (Some (broken_at NoBlock 0))
  no_block e = record { holds = (refl, e); first = λ b h. least b.rule b.word h }
    where
      least : (rule : LineRule) (j : ℕ) → BlocksAt blocks words rule j → Precedes break_key (broken_at rule j) (broken_at NoBlock 0) → ⊥
      least NoForm j h = absurd h
      least TooDeep j h = let f : is_opening (change_by words blocks) ≡ false = ap is_opening e in let g : is_opening (change_by words blocks) ≡ true = h.1 in cc
      least TooLarge j h = absurd h
      least NoBlock j h = comes_first (broken_at NoBlock 0) (broken_at NoBlock j) (λ lt. omega (arith, lt)) (λ e. lit≤ tt)

  pub too_deep : is_opening (change_by words blocks) ≡ true → most_nested_blocks ≤ length blocks → IsFirst break_key (ByBlocks blocks words) (Some (broken_at TooDeep 0))
  too_deep e le = record { holds = (refl, e, le); first = λ b h. least b.rule b.word h }
    where
      least : (rule : LineRule) (j : ℕ) → BlocksAt blocks words rule j → Precedes break_key (broken_at rule j) (broken_at TooDeep 0) → ⊥
      least NoForm j h = absurd h
      least TooDeep j h = comes_first (broken_at TooDeep 0) (broken_at TooDeep j) (λ lt. omega (arith, lt)) (λ e. lit≤ tt)
      least TooLarge j h = absurd h
      least NoBlock j h = comes_first (broken_at TooDeep 0) (broken_at NoBlock j) (λ lt. omega (arith, lt)) (λ e. lit≤ tt)

  pub not_by_blocks : (change_by words blocks ≡ None → ⊥) → (is_opening (change_by words blocks) ≡ true → most_nested_blocks ≤ length blocks → ⊥) → IsFirst break_key (ByBlocks blocks words) None
  not_by_blocks there shallow = λ b h. nothing b.rule b.word h
    where
      nothing : (rule : LineRule) (j : ℕ) → BlocksAt blocks words rule j → ⊥
      nothing NoForm j h = h
      nothing TooDeep j h = shallow h.1 h.2
      nothing TooLarge j h = h
      nothing NoBlock j h = there h.1

-- what the tests of the code rule out
pub never_none : (change other : Option Change) (flag : Bool) → change ≡ other → is_some change ≡ not flag → flag ≡ false → other ≡ None → ⊥
never_none change other flag e f g h = let x : is_some change ≡ false = ap is_some (e ∙ h) in let y : is_some change ≡ true = f ∙ ap not g in let z : false ≡ true = sym x ∙ y in cc

pub not_opening : (opens result : Bool) → result ≡ opens → opens ≡ true → result ≡ false → ⊥
not_opening opens result e f g = let z : true ≡ false = sym (e ∙ f) ∙ g in cc
