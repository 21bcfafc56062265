-- For proofs alone. Lines that close blocks.
use Rattle.std.proofs.Common.{◌≡◌, ℕ, suc, ◌+◌, ◌-◌, ◌<◌, ◌≤◌, Bool, true, false, Option, Some, None, List, [], ◌∷◌, ◌++◌, length, drop, take, refl, sym, ◌∙◌, ap, subst, arith, append-nil}
use Rattle.std.specs.Prelude.{map, All}
use Rattle.std.proofs.lemmas.List.Elements.{All-push, All-same}
use Rattle.widl_lines.specs.declared.blocks.Block.{Block}
use Rattle.widl_lines.specs.declared.blocks.Block.TheVariants as kind
use Rattle.widl_lines.specs.declared.blocks.Change.{Change}
use Rattle.widl_lines.specs.declared.blocks.Change.TheVariants as change
use Rattle.widl_lines.specs.declared.grammar.Rule.TheVariants as rule
use Rattle.widl_lines.specs.declared.grammar.Terminal.TheVariants as t
use Rattle.widl_lines.specs.Blocks.{innermost, outer, after_change, change_of, change_by, blocks_after}
use Rattle.widl_lines.specs.Breaks.{LineBreaks}
use Rattle.widl_lines.specs.Words.{Lexeme}
use Rattle.widl_script_tree.specs.declared.row.Row.{Row}
use Rattle.widl_script_tree.specs.declared.function.Function.{Function}
use Rattle.widl_script_tree.specs.declared.steps.Target.{Target}
use Rattle.widl_script_tree.specs.declared.steps.StepLine.{StepLine}
use Rattle.widl_script_tree.specs.Trees.{Text, StatementTree, StatementTrees, no_statements, then_more, FunctionTree}
use Rattle.widl_script_tree.specs.Tables.{Tables, name_at, expression_tree, function_tree, statement_tree, statements_tree}
use Rattle.widl_script_tree.specs.Parts.{IsName}
use Rattle.widl_script_tree.specs.Growth.{Grown}
use Rattle.widl_script_reader.specs.declared.frames.OpenBlock.{OpenBlock}
use Rattle.widl_script_reader.specs.declared.frames.OpenBlock.TheVariants as block
use Rattle.widl_script_reader.specs.declared.frames.Frame.{Frame}
use Rattle.widl_script_reader.specs.declared.frames.Builder.{Builder}
use Rattle.widl_script_reader.specs.declared.functions.FunctionHead.{FunctionHead}
use Rattle.widl_script_words.specs.Signs.{SpellsLine, word}
use Rattle.widl_script_words.specs.SpelledStatements.{Lines, end_signs, followed_by}
use Rattle.widl_script_reader.specs.OpenBlocks.{Open, Standing}
use Rattle.widl_script_words.specs.Reading.{terminal_ahead}
use Rattle.widl_script_reader.specs.ReadExpressions.{Distinct}
use Rattle.widl_script_reader.specs.StatementPuts.{statements_at, AllStatements}
use Rattle.widl_script_reader.specs.Building.{opens_of, kind_of, stack_of, kinds_of, IsSoundBlock, IsSoundFrame, Sound, kept_of, Stood, is_in_steps, AllOutside, StandsAt, LineRead}
use Rattle.widl_script_reader.specs.BuilderSteps.{IsClosed, IsFunctionClosed, FrameClosed, IsDone, tried_tree, then_tree, else_tree, steps_tree}
use Rattle.widl_script_reader.proofs.Growing.{grown_same}
use Rattle.widl_script_words.proofs.Parts.{by_row, took}
use Rattle.widl_script_words.proofs.PlainLines.{has_change}
use Rattle.widl_script_reader.proofs.BlockLines.{pushed, same_stack, outside_is, spelled_either, change_is, statements_up, names_up, frames_up, standing_at, statements_snoc}
use Rattle.widl_script_reader.proofs.Standing.{stands_try_closed, stands_if_closed, stands_else_closed, stands_function_closed, stands_steps_closed}

closed_sound : (tree : Tables → StatementTree) (before : List ℕ) (old new : Builder) → Sound old → AllStatements old.nodes before → IsClosed tree before old new → Sound new
closed_sound tree before old new sound there c = record {
  differ = subst Distinct (sym c.table_names) sound.differ;
  places = subst (AllStatements new.nodes) (sym c.places) (All-push (λ place. place < length new.nodes.statements) before c.place (statements_up old.nodes new.nodes c.grown before there) c.within);
  names = subst (All (IsName new.nodes)) (sym c.names) (names_up old.nodes new.nodes c.grown old.names sound.names);
  frames = subst (All (IsSoundFrame new.nodes)) (sym c.frames) (frames_up old.nodes new.nodes c.grown old.frames.items sound.frames);
}

closed_stands : (tree : Tables → StatementTree) (before : List ℕ) (old new : Builder) (all rest : Lines) (u : Tables) → Grown new.nodes u → IsClosed tree before old new → Standing all (opens_of u (stack_of old)) (kept_of u (stack_of old)) (followed_by (statements_at u before) (then_more (tree u) no_statements)) (length old.nodes.functions) (map (function_tree u) old.nodes.functions) (map (name_at u) old.names) rest → Stood all u new.nodes (stack_of new) new.places.items new.names rest
closed_stands tree before old new all rest u g c h =
    let stack : stack_of new ≡ stack_of old = same_stack old new c.frames in
    standing_at all _ _ _ _ _ _ _ _ _ _ _ _ rest (ap (opens_of u) stack) (ap (kept_of u) stack)
    (ap (statements_at u) c.places ∙ statements_snoc u before c.place ∙ ap (λ (x : StatementTree). followed_by (statements_at u before) (then_more x no_statements)) (c.is u g))
    (ap (λ (x : List Function). length x) c.functions) (ap (map (function_tree u)) c.functions) (ap (map (name_at u)) c.names) h

pub catch_frame : (body : Row) (name : ℕ) (frame : Frame) (old new : Builder) → frame.block ≡ block.Catch body name → Sound old → IsSoundFrame old.nodes frame → IsClosed (tried_tree body name old.places.items) frame.before.items old new → FrameClosed frame old new
catch_frame body name frame old new is sound f c = subst (λ (b : OpenBlock). FrameClosed (record frame { block = b }) old new) (sym is) (record {
  sound = closed_sound _ frame.before.items old new sound f.before c;
  grown = c.grown;
  frames = c.frames;
  stands = λ other all words rest u g spells out h. closed_stands _ frame.before.items old new all rest u g c
      (stands_try_closed all (opens_of u (stack_of old)) (kept_of u (stack_of old)) (statements_at u frame.before.items) (statements_tree u body) (statements_at u old.places.items) (name_at u name) _ _ _ words rest (outside_is u (stack_of old) out.0) spells h);
})

pub then_frame : (left right : ℕ) (frame : Frame) (old new : Builder) → frame.block ≡ block.Then left right → Sound old → IsSoundFrame old.nodes frame → IsClosed (then_tree left right old.places.items) frame.before.items old new → FrameClosed frame old new
then_frame left right frame old new is sound f c = subst (λ (b : OpenBlock). FrameClosed (record frame { block = b }) old new) (sym is) (record {
  sound = closed_sound _ frame.before.items old new sound f.before c;
  grown = c.grown;
  frames = c.frames;
  stands = λ other all words rest u g spells out h. closed_stands _ frame.before.items old new all rest u g c
      (stands_if_closed all (opens_of u (stack_of old)) (kept_of u (stack_of old)) (statements_at u frame.before.items) (statements_at u old.places.items) (expression_tree u left) (expression_tree u right) _ _ _ words rest (outside_is u (stack_of old) out.0) spells h);
})

pub else_frame : (left right : ℕ) (met : Row) (frame : Frame) (old new : Builder) → frame.block ≡ block.Else left right met → Sound old → IsSoundFrame old.nodes frame → IsClosed (else_tree left right met old.places.items) frame.before.items old new → FrameClosed frame old new
else_frame left right met frame old new is sound f c = subst (λ (b : OpenBlock). FrameClosed (record frame { block = b }) old new) (sym is) (record {
  sound = closed_sound _ frame.before.items old new sound f.before c;
  grown = c.grown;
  frames = c.frames;
  stands = λ other all words rest u g spells out h. closed_stands _ frame.before.items old new all rest u g c
      (stands_else_closed all (opens_of u (stack_of old)) (kept_of u (stack_of old)) (statements_at u frame.before.items) (statements_tree u met) (statements_at u old.places.items) (expression_tree u left) (expression_tree u right) _ _ _ words rest (outside_is u (stack_of old) out.0) spells h);
})

pub steps_frame : (target : Target) (lines : List StepLine) (frame : Frame) (old new : Builder) → frame.block ≡ block.Steps target lines → Sound old → IsClosed (steps_tree target lines) old.places.items old new → FrameClosed frame old new
steps_frame target lines frame old new is sound c = subst (λ (b : OpenBlock). FrameClosed (record frame { block = b }) old new) (sym is) (record {
  sound = closed_sound _ old.places.items old new sound sound.places c;
  grown = c.grown;
  frames = c.frames;
  stands = λ other all words rest u g spells out h. closed_stands _ old.places.items old new all rest u g c
      (stands_steps_closed all (opens_of u (stack_of old)) (kept_of u (stack_of old)) target lines (statements_at u old.places.items) _ _ _ words rest spells h);
})

pub function_frame : (head : FunctionHead) (outers : List ℕ) (frame : Frame) (old new : Builder) → frame.block ≡ block.Function head outers → Sound old → IsSoundFrame old.nodes frame → IsFunctionClosed head outers frame.before.items old new → FrameClosed frame old new
function_frame head outers frame old new is sound f c = let all_outer : All (IsName old.nodes) outers = (subst (IsSoundBlock old.nodes) is f.sound).2 in subst (λ (b : OpenBlock). FrameClosed (record frame { block = b }) old new) (sym is) (record {
  sound = record {
    differ = subst Distinct (sym c.table_names) sound.differ;
    places = subst (AllStatements new.nodes) (sym c.places) (All-push (λ place. place < length new.nodes.statements) frame.before.items c.place (statements_up old.nodes new.nodes c.grown frame.before.items f.before) c.within);
    names = subst (All (IsName new.nodes)) (sym c.names) (names_up old.nodes new.nodes c.grown outers all_outer);
    frames = subst (All (IsSoundFrame new.nodes)) (sym c.frames) (frames_up old.nodes new.nodes c.grown old.frames.items sound.frames);
  };
  grown = c.grown;
  frames = c.frames;
  stands = λ other all words rest u g spells out h.
      let stack : stack_of new ≡ stack_of old = same_stack old new c.frames in
      let count : length new.nodes.functions ≡ suc (length old.nodes.functions) = omega (arith, c.count) in
      standing_at all _ _ _ _ _ _ _ _ _ _ _ _ rest (ap (opens_of u) stack) (ap (kept_of u) stack)
      (ap (statements_at u) c.places ∙ statements_snoc u frame.before.items c.place ∙ ap (λ (x : StatementTree). followed_by (statements_at u frame.before.items) (then_more x no_statements)) (c.is u g))
      count (c.functions u g) (ap (map (name_at u)) c.names)
      (stands_function_closed all (opens_of u (stack_of old)) (map (name_at u) outers) (kept_of u (stack_of old)) (statements_at u frame.before.items) (statements_at u old.places.items) (name_at u head.name) (map (name_at u) head.params) _ _ _ words rest spells h);
})

-- a `try` has no end before its `catch`
pub try_frame : (frame : Frame) (old new : Builder) → frame.block ≡ block.Try → Sound old → IsSoundFrame old.nodes frame → new.nodes ≡ old.nodes → new.frames.items ≡ old.frames.items → new.places.items ≡ frame.before.items → new.names ≡ old.names → FrameClosed frame old new
try_frame frame old new is sound f nodes frames places names = record {
  sound = record {
    differ = subst (λ (v : Tables). Distinct v.names) (sym nodes) sound.differ;
    places = subst (AllStatements new.nodes) (sym places) (subst (λ (v : Tables). AllStatements v frame.before.items) (sym nodes) f.before);
    names = subst (All (IsName new.nodes)) (sym names) (subst (λ (v : Tables). All (IsName v) old.names) (sym nodes) sound.names);
    frames = subst (All (IsSoundFrame new.nodes)) (sym frames) (subst (λ (v : Tables). All (IsSoundFrame v) old.frames.items) (sym nodes) sound.frames);
  };
  grown = subst (Grown old.nodes) (sym nodes) (grown_same old.nodes);
  frames = frames;
  stands = λ other all words rest u g spells out h. absurd (other is);
}

closes : (b : OpenBlock) → (b ≡ block.Try → ⊥) → change_of t.End (Some (kind_of b)) ≡ Some change.Close
closes block.Try f = absurd (f refl)
closes (block.Catch body name) f = refl
closes (block.Then left right) f = refl
closes (block.Else left right met) f = refl
closes (block.Function head outers) f = refl
closes (block.Steps target lines) f = refl

-- an `end` closes the block of the frame that was taken off the stack
pub end_done : (old mid new : Builder) (frame : Frame) (words : List Lexeme) → terminal_ahead words ≡ t.End → old.frames.items ≡ mid.frames.items ++ frame ∷ [] → mid.nodes ≡ old.nodes → mid.places.items ≡ old.places.items → mid.names ≡ old.names → FrameClosed frame mid new → IsDone old new words
end_done old mid new frame words e popped nodes places names c = record {
  sound = c.sound;
  grown = subst (λ (v : Tables). Grown v new.nodes) nodes c.grown;
  read = record {
    kinds = λ h.
        ap kinds_of (same_stack mid new c.frames)
        ∙ sym (ap (λ (x : Option Change). after_change x (kinds_of (stack_of old))) (change_at ∙ closes frame.block (no_try h)) ∙ ap (λ (x : List Frame). outer (kinds_of x)) stack);
    stands = λ h all rest u g stood. record {
      standing = c.stands (no_try h) all words rest u g
          (spelled_either (stack_of old) end_signs words (drop 1 words) h (by_row rule.Line t.End e refl refl (took t.End [] refl)) (by_row rule.StepLine t.End e refl refl (took t.End [] refl)))
          (subst AllOutside stack stood.outside)
          (before u all rest stood.standing);
      outside = subst AllOutside (sym (same_stack mid new c.frames)) (subst AllOutside stack stood.outside).1;
    };
  };
}
  where
    stack : stack_of old ≡ frame ∷ stack_of mid
    stack = pushed mid.frames.items old.frames.items frame popped

    change_at : change_by words (kinds_of (stack_of old)) ≡ change_of t.End (Some (kind_of frame.block))
    change_at = change_is words (kinds_of (stack_of old)) t.End e (λ bad. cc) ∙ ap (λ (x : List Frame). change_of t.End (innermost (kinds_of x))) stack

    no_try : LineBreaks (kinds_of (stack_of old)) words None → frame.block ≡ block.Try → ⊥
    no_try h is = has_change (kinds_of (stack_of old)) words h (change_at ∙ ap (λ (b : OpenBlock). change_of t.End (Some (kind_of b))) is)

    before : (u : Tables) (all rest : Lines) → Stood all u old.nodes (stack_of old) old.places.items old.names (words ∷ rest) → Stood all u mid.nodes (frame ∷ stack_of mid) mid.places.items mid.names (words ∷ rest)
    before u all rest h =
        subst (λ (v : Tables). Stood all u v (frame ∷ stack_of mid) mid.places.items mid.names (words ∷ rest)) (sym nodes)
        (subst (λ (x : List Frame). Stood all u old.nodes x mid.places.items mid.names (words ∷ rest)) stack
        (subst (λ (x : List ℕ). Stood all u old.nodes (stack_of old) x mid.names (words ∷ rest)) (sym places)
        (subst (λ (x : List ℕ). Stood all u old.nodes (stack_of old) old.places.items x (words ∷ rest)) (sym names) h)))

-- no block is open
pub no_end_done : (old new : Builder) (words : List Lexeme) → Sound old → terminal_ahead words ≡ t.End → old.frames.items ≡ new.frames.items ++ [] → old.frames.items ≡ [] → new.nodes ≡ old.nodes → new.places.items ≡ old.places.items → new.names ≡ old.names → IsDone old new words
no_end_done old new words sound e popped empty nodes places names = record {
  sound = record {
    differ = subst (λ (v : Tables). Distinct v.names) (sym nodes) sound.differ;
    places = subst (AllStatements new.nodes) (sym places) (subst (λ (v : Tables). AllStatements v old.places.items) (sym nodes) sound.places);
    names = subst (All (IsName new.nodes)) (sym names) (subst (λ (v : Tables). All (IsName v) old.names) (sym nodes) sound.names);
    frames = subst (All (IsSoundFrame new.nodes)) (popped ∙ append-nil new.frames.items) (subst (λ (v : Tables). All (IsSoundFrame v) old.frames.items) (sym nodes) sound.frames);
  };
  grown = subst (Grown old.nodes) (sym nodes) (grown_same old.nodes);
  read = record { kinds = λ h. absurd (none h); stands = λ h all rest u g stood. absurd (none h) };
}
  where
    stack : stack_of old ≡ []
    stack = ap (λ (x : List Frame). Rattle.std.specs.Prelude.reverse x) empty

    none : LineBreaks (kinds_of (stack_of old)) words None → ⊥
    none h = has_change (kinds_of (stack_of old)) words h (change_is words (kinds_of (stack_of old)) t.End e (λ bad. cc) ∙ ap (λ (x : List Frame). change_of t.End (innermost (kinds_of x))) stack)

pub none_there : (frames rest : List Frame) (n : ℕ) → frames ≡ rest ++ [] → rest ≡ take (n - 1) frames → n ≡ 0 → frames ≡ []
none_there frames rest n items is e =
    let zero_is : n - 1 ≡ 0 = omega arith in
    items ∙ append-nil rest ∙ is ∙ ap (λ (k : ℕ). take k frames) zero_is ∙ nothing_taken frames
  where
    nothing_taken : (xs : List Frame) → take 0 xs ≡ []
    nothing_taken [] = refl
    nothing_taken (x ∷ xs) = refl
