-- For proofs alone. Lines that open blocks.
use Rattle.std.proofs.Common.{◌≡◌, ℕ, suc, ◌+◌, ◌<◌, ◌≤◌, Bool, true, false, Option, Some, None, List, [], ◌∷◌, ◌++◌, length, drop, refl, sym, ◌∙◌, ap, subst, arith, nat_eq}
use Rattle.std.specs.Prelude.{map, All, fold}
use Rattle.std.proofs.lemmas.List.Elements.{All-nil, All-push}
use Rattle.indexmap.specs.IndexSet.{insert_key}
use Rattle.widl_lines.specs.declared.blocks.Block.{Block}
use Rattle.widl_lines.specs.declared.blocks.Change.{Change}
use Rattle.widl_lines.specs.declared.grammar.Rule.{Rule}
use Rattle.widl_lines.specs.declared.grammar.Rule.TheVariants as rule
use Rattle.widl_lines.specs.declared.grammar.Terminal.{Terminal}
use Rattle.widl_lines.specs.declared.grammar.Terminal.TheVariants as t
use Rattle.widl_lines.specs.Blocks.{after_change, blocks_after}
use Rattle.widl_lines.specs.Breaks.{LineBreaks}
use Rattle.widl_lines.specs.Words.{Lexeme}
use Rattle.widl_script_tree.specs.declared.function.Function.{Function}
use Rattle.widl_script_tree.specs.Trees.{Text, StatementTrees, no_statements}
use Rattle.widl_script_tree.specs.Tables.{Tables, name_at, expression_tree, function_tree}
use Rattle.widl_script_tree.specs.Parts.{IsName}
use Rattle.widl_script_tree.specs.Growth.{Grown}
use Rattle.widl_script_reader.specs.declared.frames.OpenBlock.{OpenBlock}
use Rattle.widl_script_reader.specs.declared.frames.OpenBlock.TheVariants as block
use Rattle.widl_script_reader.specs.declared.frames.Frame.{Frame}
use Rattle.widl_script_reader.specs.declared.frames.Builder.{Builder}
use Rattle.widl_script_reader.specs.declared.functions.FunctionHead.{FunctionHead}
use Rattle.widl_script_words.specs.Signs.{Sign, Nowhere, SpellsLine, word}
use Rattle.widl_script_words.specs.Functions.{with_name}
use Rattle.widl_script_words.specs.SpelledStatements.{Lines, try_signs, if_signs, function_signs}
use Rattle.widl_script_reader.specs.OpenBlocks.{Open, Standing}
use Rattle.widl_script_words.specs.Reading.{Runs, Reads, part, terminal_ahead}
use Rattle.widl_script_reader.specs.ReadExpressions.{Distinct, Widens}
use Rattle.widl_script_reader.specs.ReadLines.{HoldsIf, HoldsFunction}
use Rattle.widl_script_reader.specs.StatementPuts.{statements_at, AllStatements}
use Rattle.widl_script_reader.specs.Building.{block_open, opens_of, kind_of, stack_of, kinds_of, IsSoundBlock, IsSoundFrame, Sound, kept_by, kept_of, Stood, is_in_steps, StandsOutside, AllOutside, StandsAt}
use Rattle.widl_script_reader.specs.BuilderSteps.{IsOpened, IsDone}
use Rattle.widl_script_reader.proofs.Growing.{grown_same}
use Rattle.widl_script_reader.proofs.Locals.{locals_put, all_locals}
use Rattle.widl_script_words.proofs.Parts.{follow, by_row, by_none, took}
use Rattle.widl_script_words.proofs.PlainLines.{line_runs}
use Rattle.widl_script_reader.proofs.BlockLines.{pushed, same_stack, step_rule, spelled_line, spelled_either, change_is, statements_up, names_up, frame_up, frames_up, standing_at}
use Rattle.widl_script_reader.proofs.Standing.{stands_try_opened, stands_if_opened, stands_function_opened}

abbrev pub is_plain_opening : Terminal → Bool
is_plain_opening t.Try = true
is_plain_opening t.If = true
is_plain_opening _ = false

-- no step line begins with these
pub opens_outside : (stack : List Frame) (words : List Lexeme) → is_plain_opening (terminal_ahead words) ≡ true → LineBreaks (kinds_of stack) words None → is_in_steps stack ≡ false
opens_outside stack words e h = go (is_in_steps stack) refl
  where
    go : (b : Bool) → is_in_steps stack ≡ b → is_in_steps stack ≡ false
    go false is = is
    go true is =
        let runs : Runs (part rule.StepLine) words = subst (λ (r : Rule). Runs (part r) words) (step_rule stack is) (line_runs (kinds_of stack) words h) in
        let bad : Reads (part rule.StepLine) [] (Nowhere ∷ []) words words = by_none rule.StepLine is_plain_opening refl e in
        absurd (bad.reads [] runs).0.3

pub opened_done : (old start new : Builder) (x : OpenBlock) (words : List Lexeme) → Sound old → Grown old.nodes start.nodes → Distinct start.nodes.names → start.nodes.functions ≡ old.nodes.functions → start.frames.items ≡ old.frames.items → start.places.items ≡ old.places.items → All (IsName start.nodes) start.names → IsSoundBlock start.nodes x → IsOpened x start new →
    ((blocks : List Block) → blocks_after words blocks ≡ kind_of x ∷ blocks) →
    (LineBreaks (kinds_of (stack_of old)) words None → StandsOutside x (stack_of old)) →
    (LineBreaks (kinds_of (stack_of old)) words None → (all rest : Lines) (u : Tables) → Grown start.nodes u → Stood all u old.nodes (stack_of old) old.places.items old.names (words ∷ rest) → Standing all (block_open u (statements_at u old.places.items) x ∷ opens_of u (stack_of old)) (kept_by u x (kept_of u (stack_of old))) no_statements (length old.nodes.functions) (map (function_tree u) old.nodes.functions) (map (name_at u) start.names) rest) →
    IsDone old new words
opened_done old start new x words sound g differ functions frames places all_names sound_block o kinds outside stands = record {
  sound = record {
    differ = subst (λ (v : Tables). Distinct v.names) (sym o.nodes) differ;
    places = subst (AllStatements new.nodes) (sym o.places) (All-nil (λ place. place < length new.nodes.statements));
    names = subst (All (IsName new.nodes)) (sym o.names) (subst (λ (v : Tables). All (IsName v) start.names) (sym o.nodes) all_names);
    frames = subst (All (IsSoundFrame new.nodes)) (sym (o.frames ∙ ap (λ v. v ++ o.frame ∷ []) frames)) (All-push (IsSoundFrame new.nodes) old.frames.items o.frame (frames_up old.nodes new.nodes grown old.frames.items sound.frames) sound_frame);
  };
  grown = grown;
  read = record {
    kinds = λ h. ap kinds_of stack ∙ ap (λ (b : OpenBlock). kind_of b ∷ kinds_of (stack_of old)) o.block_is ∙ sym (kinds (kinds_of (stack_of old)));
    stands = λ h all rest u later stood. record {
      standing = standing_at all _ _ _ _ _ _ _ _ _ _ _ _ rest
          (ap (opens_of u) stack ∙ ap (λ (b : OpenBlock). block_open u (statements_at u o.frame.before.items) b ∷ opens_of u (stack_of old)) o.block_is ∙ ap (λ (v : List ℕ). block_open u (statements_at u v) x ∷ opens_of u (stack_of old)) before)
          (ap (kept_of u) stack ∙ ap (λ (b : OpenBlock). kept_by u b (kept_of u (stack_of old))) o.block_is)
          (ap (statements_at u) o.places)
          (ap (λ (v : List Function). length v) same_functions) (ap (map (function_tree u)) same_functions) (ap (map (name_at u)) o.names)
          (stands h all rest u (subst (λ (v : Tables). Grown v u) o.nodes later) stood.standing);
      outside = subst AllOutside (sym stack) (subst (λ (b : OpenBlock). StandsOutside b (stack_of old)) (sym o.block_is) (outside h), stood.outside);
    };
  };
}
  where
    grown : Grown old.nodes new.nodes
    grown = subst (Grown old.nodes) (sym o.nodes) g

    before : o.frame.before.items ≡ old.places.items
    before = o.before_is ∙ places

    stack : stack_of new ≡ o.frame ∷ stack_of old
    stack = pushed old.frames.items new.frames.items o.frame (o.frames ∙ ap (λ v. v ++ o.frame ∷ []) frames)

    same_functions : new.nodes.functions ≡ old.nodes.functions
    same_functions = ap (λ (v : Tables). v.functions) o.nodes ∙ functions

    sound_frame : IsSoundFrame new.nodes o.frame
    sound_frame = record {
      sound = subst (IsSoundBlock new.nodes) (sym o.block_is) (subst (λ (v : Tables). IsSoundBlock v x) (sym o.nodes) sound_block);
      before = subst (AllStatements new.nodes) (sym before) (statements_up old.nodes new.nodes grown old.places.items sound.places);
    }

opens : (words : List Lexeme) (a : Terminal) (c : Option Change) (blocks : List Block) → ((inside : Option Block) → Rattle.widl_lines.specs.Blocks.change_of a inside ≡ c) → terminal_ahead words ≡ a → (a ≡ t.Unknown → ⊥) → blocks_after words blocks ≡ after_change c blocks
opens words a c blocks is e other = ap (λ (x : Option Change). after_change x blocks) (change_is words blocks a e other ∙ is (Rattle.widl_lines.specs.Blocks.innermost blocks))

pub try_done : (old new : Builder) (words : List Lexeme) → Sound old → terminal_ahead words ≡ t.Try → IsOpened block.Try old new → IsDone old new words
try_done old new words sound e o = opened_done old old new block.Try words sound (grown_same old.nodes) sound.differ refl refl refl sound.names tt o
    (λ blocks. opens words t.Try _ blocks (λ inside. refl) e (λ bad. cc))
    (λ h. out h)
    (λ h all rest u g stood. stands_try_opened all (opens_of u (stack_of old)) (kept_of u (stack_of old)) (statements_at u old.places.items) _ _ _ words rest (spelled_line (stack_of old) try_signs words (drop 1 words) (out h) h (by_row rule.Line t.Try e refl refl (took t.Try [] refl))) stood)
  where
    out : LineBreaks (kinds_of (stack_of old)) words None → is_in_steps (stack_of old) ≡ false
    out h = opens_outside (stack_of old) words (ap is_plain_opening e) h

pub if_done : (old start new : Builder) (left right : ℕ) (words one to : List Lexeme) → Sound old → terminal_ahead words ≡ t.If → one ≡ drop 1 words → HoldsIf start.nodes left right one to → Widens old.nodes start.nodes → start.frames.items ≡ old.frames.items → start.places.items ≡ old.places.items → start.names ≡ old.names → IsOpened (block.Then left right) start new → IsDone old new words
if_done old start new left right words one to sound e taken holds w frames places names o = opened_done old start new (block.Then left right) words sound w.grown (w.differ sound.differ) w.functions frames places (subst (All (IsName start.nodes)) (sym names) (names_up old.nodes start.nodes w.grown old.names sound.names)) (holds.is_left, holds.is_right) o
    (λ blocks. opens words t.If _ blocks (λ inside. refl) e (λ bad. cc))
    (λ h. out h)
    (λ h all rest u g stood. subst (λ (x : List ℕ). Standing all (block_open u (statements_at u old.places.items) (block.Then left right) ∷ opens_of u (stack_of old)) (kept_of u (stack_of old)) no_statements (length old.nodes.functions) (map (function_tree u) old.nodes.functions) (map (name_at u) x) rest) (sym names)
    (stands_if_opened all (opens_of u (stack_of old)) (kept_of u (stack_of old)) (expression_tree u left) (expression_tree u right) (statements_at u old.places.items) _ _ _ words rest
    (spelled_line (stack_of old) (if_signs (expression_tree u left) (expression_tree u right)) words to (out h) h (by_row rule.Line t.If e refl refl (follow (took t.If _ taken) (holds.reads u g)))) stood))
  where
    out : LineBreaks (kinds_of (stack_of old)) words None → is_in_steps (stack_of old) ≡ false
    out h = opens_outside (stack_of old) words (ap is_plain_opening e) h

pub function_done : (old start new : Builder) (head : FunctionHead) (outer : List ℕ) (words one to : List Lexeme) → Sound old → terminal_ahead words ≡ t.Function → one ≡ drop 1 words → HoldsFunction start.nodes head.name head.params one to → Widens old.nodes start.nodes → start.frames.items ≡ old.frames.items → start.places.items ≡ old.places.items → outer ≡ old.names → start.names ≡ fold (insert_key nat_eq) [] head.params → IsOpened (block.Function head outer) start new → IsDone old new words
function_done old start new head outer words one to sound e taken holds w frames places kept names o = opened_done old start new (block.Function head outer) words sound w.grown differ w.functions frames places
    (subst (All (IsName start.nodes)) (sym names) (all_locals start.nodes start.nodes (grown_same start.nodes) differ [] head.params (All-nil (IsName start.nodes)) holds.are_names))
    (holds.is_name, holds.are_names, subst (All (IsName start.nodes)) (sym kept) (names_up old.nodes start.nodes w.grown old.names sound.names)) o
    (λ blocks. opens words t.Function _ blocks (λ inside. refl) e (λ bad. cc))
    (λ h. tt)
    (λ h all rest u g stood.
    let texts : map (name_at u) start.names ≡ fold with_name [] (map (name_at u) head.params) = ap (map (name_at u)) names ∙ locals_put start.nodes u g differ [] head.params (All-nil (IsName start.nodes)) holds.are_names in
    let outers : map (name_at u) outer ≡ map (name_at u) old.names = ap (map (name_at u)) kept in
    let opening = block_open u (statements_at u old.places.items) (block.Function head outer) ∷ opens_of u (stack_of old) in
    subst (λ (x : List Text). Standing all opening (map (name_at u) outer ∷ kept_of u (stack_of old)) no_statements (length old.nodes.functions) (map (function_tree u) old.nodes.functions) x rest) (sym texts)
    (subst (λ (x : List Text). Standing all opening (x ∷ kept_of u (stack_of old)) no_statements (length old.nodes.functions) (map (function_tree u) old.nodes.functions) (fold with_name [] (map (name_at u) head.params)) rest) (sym outers)
    (stands_function_opened all (opens_of u (stack_of old)) (kept_of u (stack_of old)) (name_at u head.name) (map (name_at u) head.params) (statements_at u old.places.items) _ _ _ words rest
    (spelled_either (stack_of old) (function_signs (name_at u head.name) (map (name_at u) head.params)) words to h
    (by_row rule.Line t.Function e refl refl (follow (took t.Function _ taken) (holds.reads u g)))
    (by_row rule.StepLine t.Function e refl refl (follow (took t.Function _ taken) (holds.reads u g)))) stood)))
  where
    differ : Distinct start.nodes.names
    differ = w.differ sound.differ
