-- The first place at which the lines of steps blocks break a rule.
use Rattle.std.proofs.Common.{◌≡◌, ℕ, ◌≤◌, true, false, List, ◌∷◌, length, slice_get, Option, Some, None, option_map, is_some, refl, sym, ◌∙◌, ap, subst, arith, if◌then◌else◌, inl, inr}
use Rattle.std.specs.Prelude.{MatchOption}
use Rattle.std.proofs.lemmas.Option.{slice_get_within}
use Rattle.widl_first.specs.Keys.{IsFirst}
use Rattle.widl_first.proofs.KeyFirsts.{first_same}
use Rattle.widl_idl.specs.DefinitionTerms.{DefsTerm}
use Rattle.widl_lines.specs.declared.grammar.Rule.TheVariants as rule
use Rattle.widl_lines.specs.declared.grammar.Terminal.{Terminal}
use Rattle.widl_lines.specs.declared.script_place.ScriptPlace.{ScriptPlace}
use Rattle.widl_lines.specs.Blocks.{first_word}
use Rattle.widl_lines.specs.TextBreaks.{Line}
use Rattle.widl_script_tree.specs.declared.steps.StepLine.{StepLine}
use Rattle.widl_script_tree.specs.declared.steps.Target.{Target}
use Rattle.widl_script_words.specs.declared.block_words.BlockWord.{BlockWord}
use Rattle.widl_script_words.specs.declared.block_words.BlockWord.TheVariants as block
use Rattle.widl_script_rules.specs.declared.standings.Around.{Around}
use Rattle.widl_script_rules.specs.declared.overloads.Overload.{Overload as Found}
use Rattle.widl_script_rules.specs.declared.targets.Opening.{Opening}
use Rattle.widl_script_words.specs.Signs.{SpellsLine}
use Rattle.widl_script_words.specs.SpelledSteps.{step_signs}
use Rattle.widl_script_words.specs.Reading.{Runs, part}
use Rattle.widl_script_words.specs.StepReading.{block_terminal}
use Rattle.widl_script_words.specs.StepReading.{is_block_word}
use Rattle.widl_script_rules.specs.BrokenRules.{BreaksSteps}
use Rattle.widl_script_rules.specs.LeastBreak.{place_key}
use Rattle.widl_script_rules.specs.Standings.{Standing, is_in_steps, is_steps_word, standings}
use Rattle.widl_script_rules.specs.Surroundings.{around_at, IsAround, IsBlock}
use Rattle.widl_script_rules.specs.FormedLines.{IsFormed}
use Rattle.widl_script_rules.specs.Targets.{Overload, Opens, overload_of}
use Rattle.widl_script_rules.specs.Lookups.{AreOpenings, IsOpened, overload_term}
use Rattle.widl_script_rules.specs.StepWalks.{InLine, InScript, InStep, IsFor, IsForOne}
use Rattle.widl_script_rules.proofs.FormedLines.{one_step, one_target, opens_by_word, steps_by_word}
use Rattle.widl_script_rules.proofs.LineWalks.{Below, Placed, listed_at, placed_in}

-- 1. The overload of the innermost block

pub told_block : (word : Terminal) (o : Option BlockWord) → MatchOption o (is_block_word word ≡ false) (λ b. word ≡ block_terminal b) → is_some o ≡ is_block_word word
told_block word None h = sym h
told_block word (Some b) h = sym (ap is_block_word h ∙ all b)
  where
    all : (b : BlockWord) → is_block_word (block_terminal b) ≡ true
    all block.Try = refl
    all block.Catch = refl
    all block.If = refl
    all block.Else = refl
    all block.Function = refl
    all block.Steps = refl
    all block.End = refl

module _ (list : DefsTerm) where
  -- of a line that opens no steps block
  closed : (opening : Line) (outer : List Line) → ((t : Target) → Opens opening t → ⊥) → IsForOne list (opening ∷ outer) None
  closed opening outer h v f =
      let same : opening ≡ f.opening = (let e : opening ∷ outer ≡ f.opening ∷ f.outer = f.around_is in cc) in
      h f.target (subst (λ (l : Line). Opens l f.target) (sym same) f.opens)

  opened : (opening : Line) (outer : List Line) (b : Opening) → IsOpened list opening b → (o : Option Overload) → option_map overload_term b.overload ≡ o → IsForOne list (opening ∷ outer) o
  opened opening outer b h (Some v) e = record { opening = opening; outer = outer; around_is = refl; target = b.target.value; opens = h.opens; there = sym h.overload_is ∙ e }
  opened opening outer b h None e = λ v f.
      let same : opening ≡ f.opening = (let e : opening ∷ outer ≡ f.opening ∷ f.outer = f.around_is in cc) in
      let one : b.target.value ≡ f.target = one_target f.opening b.target.value f.target (subst (λ (l : Line). Opens l b.target.value) same h.opens) f.opens in
      absurd (let bad : None ≡ Some v = sym e ∙ h.overload_is ∙ ap (overload_of list) one ∙ f.there in cc)

  -- of the line at the place
  pub record BlockAt (lines : List Line) (place : ℕ) (around : List Line) : Type 0 where
    pub opening : Line
    pub is : slice_get lines place ≡ Some opening
    pub around_is : around ≡ opening ∷ around_at lines place

  pub block_at : (lines : List Line) (limit place : ℕ) (a : Around) (around : List Line) → a.block ≡ Some place → IsAround lines limit a around → BlockAt lines place around
  block_at lines limit place a around e h = by a.block e h.block
    where
      by : (b : Option ℕ) → b ≡ Some place → IsBlock lines limit b around → BlockAt lines place around
      by None e h = absurd (let bad : None ≡ Some place = e in cc)
      by (Some other) e h =
          let same : other ≡ place = cc in
          record { opening = h.1.0; is = subst (λ k. slice_get lines k ≡ Some h.1.0) same h.1.1; around_is = h.1.2 ∙ ap (λ k. h.1.0 ∷ around_at lines k) same }

  pub for_some : (lines : List Line) (all : List (Option Opening)) (limit place : ℕ) (a : Around) (around : List Line) (b : Opening) (o : Option Found) → AreOpenings list lines all → a.block ≡ Some place → slice_get all place ≡ Some (Some b) → o ≡ b.overload →
      IsAround lines limit a around → IsForOne list around (option_map overload_term o)
  for_some lines all limit place a around b o known e there same h =
      let at : BlockAt lines place around = block_at lines limit place a around e h in
      subst (λ (x : List Line). IsForOne list x (option_map overload_term o)) (sym at.around_is)
      (opened at.opening (around_at lines place) b (known place at.opening (Some b) at.is there) (option_map overload_term o) (ap (option_map overload_term) (sym same)))

  pub for_other : (lines : List Line) (all : List (Option Opening)) (limit place : ℕ) (a : Around) (around : List Line) → AreOpenings list lines all → a.block ≡ Some place → slice_get all place ≡ Some None →
      IsAround lines limit a around → IsForOne list around None
  for_other lines all limit place a around known e there h =
      let at : BlockAt lines place around = block_at lines limit place a around e h in
      subst (λ (x : List Line). IsForOne list x None) (sym at.around_is) (closed at.opening (around_at lines place) (known place at.opening None at.is there))

  pub for_missing : (lines : List Line) (all : List (Option Opening)) (limit place : ℕ) (a : Around) (around : List Line) → length all ≡ length lines → a.block ≡ Some place → length all ≤ place → IsAround lines limit a around → IsForOne list around None
  for_missing lines all limit place a around count e past h =
      let at : BlockAt lines place around = block_at lines limit place a around e h in
      absurd (omega (arith, count, past, slice_get_within lines place at.opening at.is))

  -- 2. One line

  pub no_step : (around : List Line) (line : Line) → IsForOne list around None → IsFirst place_key (InLine list around line) None
  no_step around line h p b = h b.overload b.is_for

  pub block_line : (around : List Line) (line : Line) → is_block_word (first_word line.words) ≡ true → IsFirst place_key (InLine list around line) None
  block_line around line e p b = absurd (let bad : true ≡ false = sym e ∙ steps_by_word line.words b.step b.spelled in cc)

  -- a line of the block is one of the step lines
  pub step_runs : (around : List Line) (line : Line) (v : Overload) → IsFor list around v → IsFormed around line → Runs (part rule.StepLine) line.words
  step_runs around line v f formed =
      let inside : is_in_steps around ≡ true = ap is_in_steps f.around_is ∙ ap is_steps_word (opens_by_word f.opening f.target f.opens) in
      subst (λ b. Runs (part (if b then rule.StepLine else rule.Line)) line.words) inside formed

  same_overload : (around : List Line) (v w : Overload) → IsFor list around v → IsFor list around w → v ≡ w
  same_overload around v w f g =
      let same : f.opening ≡ g.opening = (let e : f.opening ∷ f.outer ≡ g.opening ∷ g.outer = sym f.around_is ∙ g.around_is in cc) in
      let one : f.target ≡ g.target = one_target g.opening f.target g.target (subst (λ (l : Line). Opens l f.target) same f.opens) g.opens in
      let both : Some v ≡ Some w = sym f.there ∙ ap (overload_of list) one ∙ g.there in cc

  pub step_line : (around : List Line) (line : Line) (v : Overload) (step : StepLine) (p : Option ScriptPlace) → IsFor list around v → SpellsLine (step_signs step) line.words → IsFirst place_key (InStep list v line step) p → IsFirst place_key (InLine list around line) p
  step_line around line v step p f spelled h =
      first_same place_key (InStep list v line step) (InLine list around line) p
      (λ q b. record { overload = v; is_for = f; step = step; spelled = spelled; breaks = b })
      (λ q b.
      let said : b.step ≡ step = one_step line.words b.step step b.spelled spelled in
      subst (λ (s : StepLine). InStep list v line s q) said (subst (λ (w : Overload). InStep list w line b.step q) (same_overload around b.overload v b.is_for f) b.breaks))
      h

  -- 3. All lines

  pub in_script : (lines : List Line) (n : ℕ) (p : ScriptPlace) → Below lines (λ k line q. InLine list (around_at lines k) line q) n p → InScript list (standings lines) p
  in_script lines n p h = record {
    overload = h.holds.overload;
    line = h.line;
    step = h.holds.step;
    is_step = record {
      standing = record { around = around_at lines h.place; line = h.line };
      listed = listed_at lines h.place h.line h.is;
      is_line = refl;
      opening = h.holds.is_for.opening;
      outer = h.holds.is_for.outer;
      around = h.holds.is_for.around_is;
      target = h.holds.is_for.target;
      opens = h.holds.is_for.opens;
      there = h.holds.is_for.there;
      spelled = h.holds.spelled;
    };
    breaks = h.holds.breaks;
  }

  pub in_lines : (lines : List Line) (p : ScriptPlace) → InScript list (standings lines) p → (k : ℕ) × (line : Line) × (slice_get lines k ≡ Some line) × InLine list (around_at lines k) line p
  in_lines lines p h =
      let s = h.is_step in
      let at : Placed lines s.standing = placed_in lines s.standing s.listed in
      let line_is : at.line ≡ h.line = sym (ap (λ x. x.line) at.standing) ∙ s.is_line in
      let around_is : around_at lines at.place ≡ s.opening ∷ s.outer = sym (ap (λ x. x.around) at.standing) ∙ s.around in (
        at.place,
        h.line,
        at.is ∙ ap Some line_is,
        record {
          overload = h.overload;
          is_for = record { opening = s.opening; outer = s.outer; around_is = around_is; target = s.target; opens = s.opens; there = s.there };
          step = h.step;
          spelled = s.spelled;
          breaks = h.breaks;
        },
      )

  -- 4. Rule by rule

  to_rules : (script : List Standing) (p : ScriptPlace) → InScript list script p → BreaksSteps list script p
  to_rules script p h = by h.breaks
    where
      by : InStep list h.overload h.line h.step p → BreaksSteps list script p
      by (inl (inl (inl b))) = inl (inl (inl (record { overload = h.overload; line = h.line; step = h.step; is_step = h.is_step; word = b.word; lost = b.breaks; at = b.at })))
      by (inl (inl (inr b))) = inl (inl (inr (record { overload = h.overload; line = h.line; step = h.step; is_step = h.is_step; word = b.word; lost = b.breaks; at = b.at })))
      by (inl (inr b)) = inl (inr (record { overload = h.overload; line = h.line; step = h.step; is_step = h.is_step; word = b.word; refused = b.breaks; at = b.at }))
      by (inr b) = inr (record { overload = h.overload; line = h.line; step = h.step; is_step = h.is_step; word = b.word; misfits = b.breaks; at = b.at })

  from_rules : (script : List Standing) (p : ScriptPlace) → BreaksSteps list script p → InScript list script p
  from_rules script p (inl (inl (inl b))) = record { overload = b.overload; line = b.line; step = b.step; is_step = b.is_step; breaks = inl (inl (inl (record { word = b.word; breaks = b.lost; at = b.at }))) }
  from_rules script p (inl (inl (inr b))) = record { overload = b.overload; line = b.line; step = b.step; is_step = b.is_step; breaks = inl (inl (inr (record { word = b.word; breaks = b.lost; at = b.at }))) }
  from_rules script p (inl (inr b)) = record { overload = b.overload; line = b.line; step = b.step; is_step = b.is_step; breaks = inl (inr (record { word = b.word; breaks = b.refused; at = b.at })) }
  from_rules script p (inr b) = record { overload = b.overload; line = b.line; step = b.step; is_step = b.is_step; breaks = inr (record { word = b.word; breaks = b.misfits; at = b.at }) }

  pub each_rule : (script : List Standing) (a : Option ScriptPlace) → IsFirst place_key (InScript list script) a → IsFirst place_key (BreaksSteps list script) a
  each_rule script a h = first_same place_key (InScript list script) (BreaksSteps list script) a (to_rules script) (from_rules script) h
