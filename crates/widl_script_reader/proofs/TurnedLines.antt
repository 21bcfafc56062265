-- For proofs alone. What `catch`, `else`, `steps` and step lines do to the builder.
use Rattle.std.proofs.Common.{◌≡◌, ℕ, ◌<◌, ◌≤◌, Bool, true, false, Option, Some, None, List, [], ◌∷◌, ◌++◌, length, drop, refl, sym, ◌∙◌, ap, subst, arith}
use Rattle.std.specs.Prelude.{map, reverse, All, nat_eq}
use Rattle.std.proofs.lemmas.List.Elements.{All-nil, All-cons, All-push, All-head, All-tail}
use Rattle.indexmap.specs.IndexSet.{insert_key}
use Rattle.widl_lines.specs.declared.blocks.Block.{Block}
use Rattle.widl_lines.specs.declared.blocks.Block.TheVariants as kind
use Rattle.widl_lines.specs.declared.grammar.Rule.TheVariants as rule
use Rattle.widl_lines.specs.declared.grammar.Terminal.{Terminal}
use Rattle.widl_lines.specs.declared.grammar.Terminal.TheVariants as t
use Rattle.widl_lines.specs.Blocks.{innermost, after_change, change_of, change_by, blocks_after}
use Rattle.widl_lines.specs.Breaks.{LineBreaks}
use Rattle.widl_lines.specs.Words.{Lexeme}
use Rattle.widl_script_tree.specs.declared.row.Row.{Row}
use Rattle.widl_script_tree.specs.declared.steps.Target.{Target}
use Rattle.widl_script_tree.specs.declared.steps.StepLine.{StepLine}
use Rattle.widl_script_tree.specs.Trees.{Text, ExpressionTree, StatementTrees, no_statements, FunctionTree}
use Rattle.widl_script_tree.specs.Tables.{Tables, name_at, expression_tree, statements_tree, function_tree}
use Rattle.widl_script_tree.specs.Parts.{IsName, IsLowerRow}
use Rattle.widl_script_tree.specs.Growth.{Grown}
use Rattle.widl_script_tree.proofs.Growing.{extends_length}
use Rattle.widl_script_reader.specs.declared.frames.OpenBlock.{OpenBlock}
use Rattle.widl_script_reader.specs.declared.frames.OpenBlock.TheVariants as block
use Rattle.widl_script_reader.specs.declared.frames.Frame.{Frame}
use Rattle.widl_script_reader.specs.declared.frames.Builder.{Builder}
use Rattle.widl_script_words.specs.Signs.{SpellsLine, word, ◌⧺◌, name}
use Rattle.widl_script_words.specs.SpelledTargets.{target_signs}
use Rattle.widl_script_words.specs.SpelledSteps.{step_signs}
use Rattle.widl_script_words.specs.SpelledStatements.{Lines, catch_signs, else_signs, steps_signs}
use Rattle.widl_script_reader.specs.OpenBlocks.{Open, InTry, InCatch, InThen, InElse, InSteps, Standing}
use Rattle.widl_script_words.specs.StepReading.{is_block_word}
use Rattle.widl_script_words.specs.Reading.{Reads, part, terminal_ahead}
use Rattle.widl_script_reader.specs.ReadExpressions.{Distinct, Widens, IsNameAhead}
use Rattle.widl_script_reader.specs.StatementPuts.{statements_at, AllStatements, IsStatementRow}
use Rattle.widl_script_reader.specs.Building.{open_of, opens_of, block_open, kind_of, stack_of, kinds_of, IsSoundBlock, IsSoundFrame, Sound, kept_by, kept_of, Stood, is_steps, is_in_steps, StandsOutside, AllOutside, StandsAt, LineRead}
use Rattle.widl_script_reader.specs.BuilderSteps.{IsDone, with_catch, with_else, StepAdded}
use Rattle.widl_script_reader.proofs.Growing.{grown_same, grown_then, name_kept}
use Rattle.widl_script_reader.proofs.Locals.{local_put, all_put}
use Rattle.widl_script_words.proofs.Parts.{follow, by_row, took}
use Rattle.widl_script_reader.proofs.BuiltExpressions.{took_name}
use Rattle.widl_script_words.proofs.PlainLines.{has_change}
use Rattle.widl_script_reader.proofs.Standing.{stands_step, stands_steps_opened, stands_try_turned, stands_if_turned}
use Rattle.widl_script_reader.proofs.BlockLines.{pushed, spelled_line, spelled_step, spelled_either, change_is, stay_is, statements_up, names_up, frame_up, frames_up, standing_at}

-- 1. A line whose block isn't there breaks a rule

cant_be : (old new : Builder) (words : List Lexeme) → Sound new → Grown old.nodes new.nodes → (LineBreaks (kinds_of (stack_of old)) words None → ⊥) → IsDone old new words
cant_be old new words sound grown never = record { sound = sound; grown = grown; read = record { kinds = λ h. absurd (never h); stands = λ h all rest u g s. absurd (never h) } }

-- 2. The frame on top

all_but_last : (P : Frame → Type 0) (xs : List Frame) (x : Frame) → All P (xs ++ x ∷ []) → All P xs
all_but_last P [] x h = All-nil P
all_but_last P (y ∷ xs) x h = All-cons P y xs (All-head P y (xs ++ x ∷ []) h) (all_but_last P xs x (All-tail P y (xs ++ x ∷ []) h))

last_of : (P : Frame → Type 0) (xs : List Frame) (x : Frame) → All P (xs ++ x ∷ []) → P x
last_of P [] x h = All-head P x [] h
last_of P (y ∷ xs) x h = last_of P xs x (All-tail P y (xs ++ x ∷ []) h)

-- another frame for the one on top
frames_turned : (a b : Tables) (xs ys zs : List Frame) (x y : Frame) → Grown a b → ys ≡ xs ++ x ∷ [] → zs ≡ xs ++ y ∷ [] → (IsSoundFrame b x → IsSoundFrame b y) → All (IsSoundFrame a) ys → All (IsSoundFrame b) zs
frames_turned a b xs ys zs x y g e f turn all =
    let here : All (IsSoundFrame b) (xs ++ x ∷ []) = subst (All (IsSoundFrame b)) e (frames_up a b g ys all) in
    subst (All (IsSoundFrame b)) (sym f) (All-push (IsSoundFrame b) xs y (all_but_last (IsSoundFrame b) xs x here) (turn (last_of (IsSoundFrame b) xs x here)))

top_is : (b : Builder) (popped : List Frame) (frame : Frame) (x : OpenBlock) → b.frames.items ≡ popped ++ frame ∷ [] → frame.block ≡ x → kinds_of (stack_of b) ≡ kind_of x ∷ kinds_of (reverse popped)
top_is b popped frame x was e = ap kinds_of (pushed popped b.frames.items frame was) ∙ ap (λ y. kind_of y ∷ kinds_of (reverse popped)) e

empty_is : (b : Builder) → b.frames.items ≡ [] → kinds_of (stack_of b) ≡ []
empty_is b e = ap (λ (x : List Frame). kinds_of (reverse x)) e

-- 3. `else`

no_else : (kinds : List Block) (words : List Lexeme) → terminal_ahead words ≡ t.Else → change_of t.Else (innermost kinds) ≡ None → LineBreaks kinds words None → ⊥
no_else kinds words begins none h = has_change kinds words h (change_is words kinds t.Else begins (λ e. let bad : t.Else ≡ t.Unknown = e in cc) ∙ none)

else_sound : (b : Tables) (row : Row) (x : OpenBlock) → IsLowerRow (length b.statements) row → IsSoundBlock b x → IsSoundBlock b (with_else x row)
else_sound b row (block.Then left right) lower s = (s.0, s.1, lower)
else_sound b row block.Try lower s = s
else_sound b row (block.Catch body name) lower s = s
else_sound b row (block.Else left right met) lower s = s
else_sound b row (block.Function head outer) lower s = s
else_sound b row (block.Steps target lines) lower s = s

pub else_done : (old new : Builder) (frame other : Frame) (popped : List Frame) (row : Row) (places : List ℕ) (words to : List Lexeme) → Sound old → terminal_ahead words ≡ t.Else → to ≡ drop 1 words → places ≡ old.places.items → IsStatementRow row places old.nodes new.nodes → old.frames.items ≡ popped ++ frame ∷ [] → new.frames.items ≡ popped ++ other ∷ [] → other.block ≡ with_else frame.block row → other.before.items ≡ frame.before.items → new.places.items ≡ [] → new.names ≡ old.names → IsDone old new words
else_done old new frame other popped row places words to sound begins rest at put was is turned before empty names = go frame.block refl
  where
    new_sound : Sound new
    new_sound = record {
      differ = subst Distinct (sym put.names) sound.differ;
      places = subst (AllStatements new.nodes) (sym empty) (All-nil _);
      names = subst (All (IsName new.nodes)) (sym names) (names_up old.nodes new.nodes put.grown old.names sound.names);
      frames = frames_turned old.nodes new.nodes popped old.frames.items new.frames.items frame other put.grown was is (λ s. record { sound = subst (IsSoundBlock new.nodes) (sym turned) (else_sound new.nodes row frame.block put.lower s.sound); before = subst (AllStatements new.nodes) (sym before) s.before }) sound.frames;
    }

    none : (x : OpenBlock) → frame.block ≡ x → change_of t.Else (Some (kind_of x)) ≡ None → IsDone old new words
    none x e missing = cant_be old new words new_sound put.grown (λ h. no_else (kind_of x ∷ kinds_of (reverse popped)) words begins missing (subst (λ (v : List Block). LineBreaks v words None) (top_is old popped frame x was e) h))

    then_read : (left right : ℕ) → frame.block ≡ block.Then left right → IsDone old new words
    then_read left right e = record {
      sound = new_sound;
      grown = put.grown;
      read = record {
        kinds = λ h. top_is new popped other (block.Else left right row) is block_is
            ∙ sym (ap (blocks_after words) (top_is old popped frame (block.Then left right) was e) ∙ ap (λ c. after_change c (kind.If ∷ kinds_of (reverse popped))) (change_is words (kind.If ∷ kinds_of (reverse popped)) t.Else begins (λ f. let bad : t.Else ≡ t.Unknown = f in cc)));
        stands = λ h all lines u g s. record {
          standing = stood u g all lines h s.standing;
          outside = subst AllOutside (sym new_stack) (outside s.outside);
        };
      };
    }
      where
        block_is : other.block ≡ block.Else left right row
        block_is = turned ∙ ap (λ x. with_else x row) e

        old_stack : stack_of old ≡ frame ∷ reverse popped
        old_stack = pushed popped old.frames.items frame was

        new_stack : stack_of new ≡ other ∷ reverse popped
        new_stack = pushed popped new.frames.items other is

        not_steps : is_in_steps (stack_of old) ≡ false
        not_steps = ap is_in_steps old_stack ∙ ap is_steps e

        outside : AllOutside (stack_of old) → AllOutside (other ∷ reverse popped)
        outside o =
            let p : AllOutside (frame ∷ reverse popped) = subst AllOutside old_stack o in
            let q : StandsOutside (block.Then left right) (reverse popped) = subst (λ x. StandsOutside x (reverse popped)) e p.0 in
            (subst (λ x. StandsOutside x (reverse popped)) (sym block_is) q, p.1)

        stood : (u : Tables) → Grown new.nodes u → (all lines : Lines) → LineBreaks (kinds_of (stack_of old)) words None → Stood all u old.nodes (stack_of old) old.places.items old.names (words ∷ lines) → Stood all u new.nodes (stack_of new) new.places.items new.names lines
        stood u g all lines h s =
            let former : StatementTrees = statements_at u frame.before.items in
            let done : StatementTrees = statements_at u old.places.items in
            let opens : List Open = opens_of u (reverse popped) in
            let kept : List (List Text) = kept_of u (reverse popped) in
            let l : ExpressionTree = expression_tree u left in
            let r : ExpressionTree = expression_tree u right in
            let spelled : SpellsLine else_signs words = spelled_line (stack_of old) else_signs words to not_steps h (by_row rule.Line t.Else begins refl refl (took t.Else [] rest)) in
            let here : Standing all (InThen former l r ∷ opens) kept done (length old.nodes.functions) (map (function_tree u) old.nodes.functions) (map (name_at u) old.names) (words ∷ lines) =
            standing_at all _ _ _ _ _ _ _ _ _ _ _ _ (words ∷ lines)
            (sym (ap (opens_of u) old_stack ∙ ap (λ x. block_open u former x ∷ opens) e))
            (sym (ap (kept_of u) old_stack ∙ ap (λ x. kept_by u x kept) e))
            refl refl refl refl s in
            let row_is : statements_tree u row ≡ done = put.trees u g ∙ ap (statements_at u) at in
            standing_at all _ _ _ _ _ _ _ _ _ _ _ _ lines
            (ap (opens_of u) new_stack ∙ ap (λ (x : List ℕ). block_open u (statements_at u x) other.block ∷ opens) before ∙ ap (λ x. block_open u former x ∷ opens) block_is ∙ ap (λ x. InElse former l r x ∷ opens) row_is)
            (ap (kept_of u) new_stack ∙ ap (λ x. kept_by u x kept) block_is)
            (ap (statements_at u) empty)
            (ap (λ (x : List Rattle.widl_script_tree.specs.declared.function.Function.Function). length x) put.functions)
            (ap (map (function_tree u)) put.functions)
            (ap (map (name_at u)) names)
            (stands_if_turned all opens kept former done l r _ _ _ words lines spelled here)

    go : (x : OpenBlock) → frame.block ≡ x → IsDone old new words
    go (block.Then left right) e = then_read left right e
    go block.Try e = none block.Try e refl
    go (block.Catch body name) e = none (block.Catch body name) e refl
    go (block.Else left right met) e = none (block.Else left right met) e refl
    go (block.Function head outer) e = none (block.Function head outer) e refl
    go (block.Steps target lines) e = none (block.Steps target lines) e refl

pub else_none : (old new : Builder) (row : Row) (places : List ℕ) (words : List Lexeme) → Sound old → terminal_ahead words ≡ t.Else → IsStatementRow row places old.nodes new.nodes → old.frames.items ≡ [] → new.frames.items ≡ [] → new.places.items ≡ [] → new.names ≡ old.names → IsDone old new words
else_none old new row places words sound begins put was is same names = cant_be old new words
    (record {
      differ = subst Distinct (sym put.names) sound.differ;
      places = subst (AllStatements new.nodes) (sym same) (All-nil _);
      names = subst (All (IsName new.nodes)) (sym names) (names_up old.nodes new.nodes put.grown old.names sound.names);
      frames = subst (All (IsSoundFrame new.nodes)) (sym is) (All-nil _);
    })
    put.grown
    (λ h. no_else [] words begins refl (subst (λ (v : List Block). LineBreaks v words None) (empty_is old was) h))

-- 4. `catch`

no_catch : (kinds : List Block) (words : List Lexeme) → terminal_ahead words ≡ t.Catch → change_of t.Catch (innermost kinds) ≡ None → LineBreaks kinds words None → ⊥
no_catch kinds words begins none h = has_change kinds words h (change_is words kinds t.Catch begins (λ e. let bad : t.Catch ≡ t.Unknown = e in cc) ∙ none)

catch_sound : (b : Tables) (row : Row) (number : ℕ) (x : OpenBlock) → IsLowerRow (length b.statements) row → IsName b number → IsSoundBlock b x → IsSoundBlock b (with_catch x row number)
catch_sound b row number block.Try lower n s = (lower, n)
catch_sound b row number (block.Then left right) lower n s = s
catch_sound b row number (block.Catch body text) lower n s = s
catch_sound b row number (block.Else left right met) lower n s = s
catch_sound b row number (block.Function head outer) lower n s = s
catch_sound b row number (block.Steps target lines) lower n s = s

pub catch_done : (old new : Builder) (mid : Tables) (frame other : Frame) (popped : List Frame) (row : Row) (number : ℕ) (places : List ℕ) (words one to : List Lexeme) → Sound old → terminal_ahead words ≡ t.Catch → one ≡ drop 1 words → Widens old.nodes mid → IsNameAhead old.nodes mid number one to → places ≡ old.places.items → IsStatementRow row places mid new.nodes → old.frames.items ≡ popped ++ frame ∷ [] → new.frames.items ≡ popped ++ other ∷ [] → other.block ≡ with_catch frame.block row number → other.before.items ≡ frame.before.items → new.places.items ≡ [] → new.names ≡ insert_key nat_eq old.names number → IsDone old new words
catch_done old new mid frame other popped row number places words one to sound begins first w ahead at put was is turned before empty names = go frame.block refl
  where
    grown : Grown old.nodes new.nodes
    grown = grown_then w.grown put.grown

    differ : Distinct new.nodes.names
    differ = subst Distinct (sym put.names) (w.differ sound.differ)

    is_name : IsName new.nodes number
    is_name = omega (arith, ahead.within, extends_length put.grown.names)

    old_names : All (IsName new.nodes) old.names
    old_names = names_up old.nodes new.nodes grown old.names sound.names

    functions : new.nodes.functions ≡ old.nodes.functions
    functions = put.functions ∙ w.functions

    new_sound : Sound new
    new_sound = record {
      differ = differ;
      places = subst (AllStatements new.nodes) (sym empty) (All-nil _);
      names = subst (All (IsName new.nodes)) (sym names) (all_put new.nodes new.nodes (grown_same new.nodes) differ old.names number is_name old_names);
      frames = frames_turned old.nodes new.nodes popped old.frames.items new.frames.items frame other grown was is (λ s. record { sound = subst (IsSoundBlock new.nodes) (sym turned) (catch_sound new.nodes row number frame.block put.lower is_name s.sound); before = subst (AllStatements new.nodes) (sym before) s.before }) sound.frames;
    }

    none : (x : OpenBlock) → frame.block ≡ x → change_of t.Catch (Some (kind_of x)) ≡ None → IsDone old new words
    none x e missing = cant_be old new words new_sound grown (λ h. no_catch (kind_of x ∷ kinds_of (reverse popped)) words begins missing (subst (λ (v : List Block). LineBreaks v words None) (top_is old popped frame x was e) h))

    try_read : frame.block ≡ block.Try → IsDone old new words
    try_read e = record {
      sound = new_sound;
      grown = grown;
      read = record {
        kinds = λ h. top_is new popped other (block.Catch row number) is block_is
            ∙ sym (ap (blocks_after words) (top_is old popped frame block.Try was e) ∙ ap (λ c. after_change c (kind.Try ∷ kinds_of (reverse popped))) (change_is words (kind.Try ∷ kinds_of (reverse popped)) t.Catch begins (λ f. let bad : t.Catch ≡ t.Unknown = f in cc)));
        stands = λ h all lines u g s. record {
          standing = stood u g all lines h s.standing;
          outside = subst AllOutside (sym new_stack) (outside s.outside);
        };
      };
    }
      where
        block_is : other.block ≡ block.Catch row number
        block_is = turned ∙ ap (λ x. with_catch x row number) e

        old_stack : stack_of old ≡ frame ∷ reverse popped
        old_stack = pushed popped old.frames.items frame was

        new_stack : stack_of new ≡ other ∷ reverse popped
        new_stack = pushed popped new.frames.items other is

        not_steps : is_in_steps (stack_of old) ≡ false
        not_steps = ap is_in_steps old_stack ∙ ap is_steps e

        outside : AllOutside (stack_of old) → AllOutside (other ∷ reverse popped)
        outside o =
            let p : AllOutside (frame ∷ reverse popped) = subst AllOutside old_stack o in
            let q : StandsOutside block.Try (reverse popped) = subst (λ x. StandsOutside x (reverse popped)) e p.0 in
            (subst (λ x. StandsOutside x (reverse popped)) (sym block_is) q, p.1)

        stood : (u : Tables) → Grown new.nodes u → (all lines : Lines) → LineBreaks (kinds_of (stack_of old)) words None → Stood all u old.nodes (stack_of old) old.places.items old.names (words ∷ lines) → Stood all u new.nodes (stack_of new) new.places.items new.names lines
        stood u g all lines h s =
            let former : StatementTrees = statements_at u frame.before.items in
            let done : StatementTrees = statements_at u old.places.items in
            let opens : List Open = opens_of u (reverse popped) in
            let kept : List (List Text) = kept_of u (reverse popped) in
            let text : Text = name_at u number in
            let spelled : SpellsLine (catch_signs text) words = spelled_line (stack_of old) (catch_signs text) words to not_steps h (by_row rule.Line t.Catch begins refl refl (follow (took t.Catch _ first) (took_name old.nodes mid u number [] one to ahead (grown_then put.grown g)))) in
            let here : Standing all (InTry former ∷ opens) kept done (length old.nodes.functions) (map (function_tree u) old.nodes.functions) (map (name_at u) old.names) (words ∷ lines) =
            standing_at all _ _ _ _ _ _ _ _ _ _ _ _ (words ∷ lines)
            (sym (ap (opens_of u) old_stack ∙ ap (λ x. block_open u former x ∷ opens) e))
            (sym (ap (kept_of u) old_stack ∙ ap (λ x. kept_by u x kept) e))
            refl refl refl refl s in
            let row_is : statements_tree u row ≡ done = put.trees u g ∙ ap (statements_at u) at in
            standing_at all _ _ _ _ _ _ _ _ _ _ _ _ lines
            (ap (opens_of u) new_stack ∙ ap (λ (x : List ℕ). block_open u (statements_at u x) other.block ∷ opens) before ∙ ap (λ x. block_open u former x ∷ opens) block_is ∙ ap (λ x. InCatch former x text ∷ opens) row_is)
            (ap (kept_of u) new_stack ∙ ap (λ x. kept_by u x kept) block_is)
            (ap (statements_at u) empty)
            (ap (λ (x : List Rattle.widl_script_tree.specs.declared.function.Function.Function). length x) functions)
            (ap (map (function_tree u)) functions)
            (ap (map (name_at u)) names ∙ local_put new.nodes u g differ old.names number is_name old_names)
            (stands_try_turned all opens kept former done text _ _ _ words lines spelled here)

    go : (x : OpenBlock) → frame.block ≡ x → IsDone old new words
    go block.Try e = try_read e
    go (block.Then left right) e = none (block.Then left right) e refl
    go (block.Catch body text) e = none (block.Catch body text) e refl
    go (block.Else left right met) e = none (block.Else left right met) e refl
    go (block.Function head outer) e = none (block.Function head outer) e refl
    go (block.Steps target lines) e = none (block.Steps target lines) e refl

pub catch_none : (old new : Builder) (mid : Tables) (row : Row) (places : List ℕ) (words : List Lexeme) → Sound old → terminal_ahead words ≡ t.Catch → Widens old.nodes mid → IsStatementRow row places mid new.nodes → old.frames.items ≡ [] → new.frames.items ≡ [] → new.places.items ≡ [] → new.names ≡ old.names → IsDone old new words
catch_none old new mid row places words sound begins w put was is same names =
    let grown : Grown old.nodes new.nodes = grown_then w.grown put.grown in
    cant_be old new words
    (record {
      differ = subst Distinct (sym put.names) (w.differ sound.differ);
      places = subst (AllStatements new.nodes) (sym same) (All-nil _);
      names = subst (All (IsName new.nodes)) (sym names) (names_up old.nodes new.nodes grown old.names sound.names);
      frames = subst (All (IsSoundFrame new.nodes)) (sym is) (All-nil _);
    })
    grown
    (λ h. no_catch [] words begins refl (subst (λ (v : List Block). LineBreaks v words None) (empty_is old was) h))

-- 5. Step lines

step_sound : (b : Tables) (step : StepLine) (x y : OpenBlock) → StepAdded step x y → IsSoundBlock b x → IsSoundBlock b y
step_sound b step (block.Steps target lines) y h s = subst (IsSoundBlock b) (sym h) tt
step_sound b step block.Try y h s = subst (IsSoundBlock b) (sym h) s
step_sound b step (block.Then left right) y h s = subst (IsSoundBlock b) (sym h) s
step_sound b step (block.Catch body text) y h s = subst (IsSoundBlock b) (sym h) s
step_sound b step (block.Else left right met) y h s = subst (IsSoundBlock b) (sym h) s
step_sound b step (block.Function head outer) y h s = subst (IsSoundBlock b) (sym h) s

pub step_done : (old new : Builder) (frame other : Frame) (popped : List Frame) (step : StepLine) (words to : List Lexeme) → Sound old → is_in_steps (stack_of old) ≡ true → is_block_word (terminal_ahead words) ≡ false → Reads (part rule.StepLine) [] (step_signs step) words to → old.frames.items ≡ popped ++ frame ∷ [] → new.frames.items ≡ popped ++ other ∷ [] → StepAdded step frame.block other.block → other.before.items ≡ frame.before.items → new.nodes ≡ old.nodes → new.places.items ≡ old.places.items → new.names ≡ old.names → IsDone old new words
step_done old new frame other popped step words to sound inside plain read was is added before nodes places names = go frame.block refl
  where
    old_stack : stack_of old ≡ frame ∷ reverse popped
    old_stack = pushed popped old.frames.items frame was

    new_stack : stack_of new ≡ other ∷ reverse popped
    new_stack = pushed popped new.frames.items other is

    grown : Grown old.nodes new.nodes
    grown = subst (λ (x : Tables). Grown old.nodes x) (sym nodes) (grown_same old.nodes)

    new_sound : Sound new
    new_sound = record {
      differ = subst (λ (x : Tables). Distinct x.names) (sym nodes) sound.differ;
      places = subst (AllStatements new.nodes) (sym places) (statements_up old.nodes new.nodes grown old.places.items sound.places);
      names = subst (All (IsName new.nodes)) (sym names) (names_up old.nodes new.nodes grown old.names sound.names);
      frames = frames_turned old.nodes new.nodes popped old.frames.items new.frames.items frame other grown was is (λ s. record { sound = step_sound new.nodes step frame.block other.block added s.sound; before = subst (AllStatements new.nodes) (sym before) s.before }) sound.frames;
    }

    steps_is : is_steps frame.block ≡ true
    steps_is = sym (ap is_in_steps old_stack) ∙ inside

    none : (x : OpenBlock) → frame.block ≡ x → is_steps x ≡ false → IsDone old new words
    none x e other_ = absurd (let bad : true ≡ false = sym steps_is ∙ ap is_steps e ∙ other_ in cc)

    steps_read : (target : Target) (lines : List StepLine) → frame.block ≡ block.Steps target lines → IsDone old new words
    steps_read target lines e = record {
      sound = new_sound;
      grown = grown;
      read = record {
        kinds = λ h. top_is new popped other (block.Steps target (lines ++ step ∷ [])) is added_is ∙ sym (top_is old popped frame (block.Steps target lines) was e) ∙ sym (stay_is words (kinds_of (stack_of old)) plain);
        stands = λ h all rest u g s. record {
          standing = stood u g all rest h s.standing;
          outside = subst AllOutside (sym new_stack) (outside s.outside);
        };
      };
    }
      where
        added_is : StepAdded step (block.Steps target lines) other.block
        added_is = subst (λ x. StepAdded step x other.block) e added

        outside : AllOutside (stack_of old) → AllOutside (other ∷ reverse popped)
        outside o =
            let p : AllOutside (frame ∷ reverse popped) = subst AllOutside old_stack o in
            (subst (λ x. StandsOutside x (reverse popped)) (sym added_is) tt, p.1)

        stood : (u : Tables) → Grown new.nodes u → (all rest : Lines) → LineBreaks (kinds_of (stack_of old)) words None → Stood all u old.nodes (stack_of old) old.places.items old.names (words ∷ rest) → Stood all u new.nodes (stack_of new) new.places.items new.names rest
        stood u g all rest h s =
            let former : StatementTrees = statements_at u frame.before.items in
            let done : StatementTrees = statements_at u old.places.items in
            let opens : List Open = opens_of u (reverse popped) in
            let kept : List (List Text) = kept_of u (reverse popped) in
            let spelled : SpellsLine (step_signs step) words = spelled_step (stack_of old) (step_signs step) words to inside h read in
            let here : Standing all (InSteps target lines ∷ opens) kept done (length old.nodes.functions) (map (function_tree u) old.nodes.functions) (map (name_at u) old.names) (words ∷ rest) =
            standing_at all _ _ _ _ _ _ _ _ _ _ _ _ (words ∷ rest)
            (sym (ap (opens_of u) old_stack ∙ ap (λ x. block_open u former x ∷ opens) e))
            (sym (ap (kept_of u) old_stack ∙ ap (λ x. kept_by u x kept) e))
            refl refl refl refl s in
            standing_at all _ _ _ _ _ _ _ _ _ _ _ _ rest
            (ap (opens_of u) new_stack ∙ ap (λ x. block_open u (statements_at u other.before.items) x ∷ opens) added_is)
            (ap (kept_of u) new_stack ∙ ap (λ x. kept_by u x kept) added_is)
            (ap (statements_at u) places)
            (ap (λ (x : Tables). length x.functions) nodes)
            (ap (λ (x : Tables). map (function_tree u) x.functions) nodes)
            (ap (map (name_at u)) names)
            (stands_step all opens kept target lines step done _ _ _ words rest spelled here)

    go : (x : OpenBlock) → frame.block ≡ x → IsDone old new words
    go (block.Steps target lines) e = steps_read target lines e
    go block.Try e = none block.Try e refl
    go (block.Then left right) e = none (block.Then left right) e refl
    go (block.Catch body text) e = none (block.Catch body text) e refl
    go (block.Else left right met) e = none (block.Else left right met) e refl
    go (block.Function head outer) e = none (block.Function head outer) e refl

pub step_none : (old new : Builder) (words : List Lexeme) → is_in_steps (stack_of old) ≡ true → old.frames.items ≡ [] → IsDone old new words
step_none old new words inside was = absurd (let bad : false ≡ true = sym (ap (λ (x : List Frame). is_in_steps (reverse x)) was) ∙ inside in cc)

-- 6. `steps`

pub steps_done : (old new : Builder) (frame : Frame) (target : Target) (lines : List StepLine) (words one to : List Lexeme) → Sound old → terminal_ahead words ≡ t.Steps → one ≡ drop 1 words → Reads (part rule.Target) [] (target_signs target) one to → new.frames.items ≡ old.frames.items ++ frame ∷ [] → frame.block ≡ block.Steps target lines → lines ≡ [] → frame.before.items ≡ [] → new.nodes ≡ old.nodes → new.places.items ≡ old.places.items → new.names ≡ old.names → IsDone old new words
steps_done old new frame target lines words one to sound begins first read is e nil before nodes places names = record {
  sound = record {
    differ = subst (λ (x : Tables). Distinct x.names) (sym nodes) sound.differ;
    places = subst (AllStatements new.nodes) (sym places) (statements_up old.nodes new.nodes grown old.places.items sound.places);
    names = subst (All (IsName new.nodes)) (sym names) (names_up old.nodes new.nodes grown old.names sound.names);
    frames = subst (All (IsSoundFrame new.nodes)) (sym is) (All-push (IsSoundFrame new.nodes) old.frames.items frame (frames_up old.nodes new.nodes grown old.frames.items sound.frames) (record { sound = subst (IsSoundBlock new.nodes) (sym e) tt; before = subst (AllStatements new.nodes) (sym before) (All-nil _) }));
  };
  grown = grown;
  read = record {
    kinds = λ h. ap kinds_of new_stack ∙ ap (λ x. kind_of x ∷ kinds_of (stack_of old)) e ∙ sym (ap (λ c. after_change c (kinds_of (stack_of old))) (change_is words (kinds_of (stack_of old)) t.Steps begins (λ f. let bad : t.Steps ≡ t.Unknown = f in cc)));
    stands = λ h all rest u g s. record {
      standing = standing_at all _ _ _ _ _ _ _ _ _ _ _ _ rest
          (ap (opens_of u) new_stack ∙ ap (λ x. block_open u (statements_at u frame.before.items) x ∷ opens_of u (stack_of old)) e ∙ ap (λ x. InSteps target x ∷ opens_of u (stack_of old)) nil)
          (ap (kept_of u) new_stack ∙ ap (λ x. kept_by u x (kept_of u (stack_of old))) e)
          (ap (statements_at u) places)
          (ap (λ (x : Tables). length x.functions) nodes)
          (ap (λ (x : Tables). map (function_tree u) x.functions) nodes)
          (ap (map (name_at u)) names)
          (stands_steps_opened all (opens_of u (stack_of old)) (kept_of u (stack_of old)) target (statements_at u old.places.items) _ _ _ words rest (spelled h) s.standing);
      outside = subst AllOutside (sym new_stack) (subst (λ x. StandsOutside x (stack_of old)) (sym e) tt, s.outside);
    };
  };
}
  where
    grown : Grown old.nodes new.nodes
    grown = subst (λ (x : Tables). Grown old.nodes x) (sym nodes) (grown_same old.nodes)

    new_stack : stack_of new ≡ frame ∷ stack_of old
    new_stack = pushed old.frames.items new.frames.items frame is

    spelled : LineBreaks (kinds_of (stack_of old)) words None → SpellsLine (steps_signs target) words
    spelled h = spelled_either (stack_of old) (steps_signs target) words to h (by_row rule.Line t.Steps begins refl refl (follow (took t.Steps _ first) read)) (by_row rule.StepLine t.Steps begins refl refl (follow (took t.Steps _ first) read))
