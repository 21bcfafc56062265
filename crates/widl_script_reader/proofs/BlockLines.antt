-- For proofs alone. What each line does to the builder.
use Rattle.std.proofs.Common.{◌≡◌, ℕ, suc, ◌+◌, ◌<◌, ◌≤◌, Bool, true, false, Option, Some, None, List, [], ◌∷◌, ◌++◌, length, drop, refl, sym, ◌∙◌, ap, subst, arith}
use Rattle.std.specs.Prelude.{map, reverse, All, fold, not, nat_eq}
use Rattle.std.proofs.lemmas.List.{reverse-append}
use Rattle.std.proofs.lemmas.List.Elements.{All-nil, All-push, All-weaker, All-append, All-head, All-tail}
use Rattle.indexmap.specs.IndexSet.{insert_key}
use Rattle.widl_lines.specs.declared.blocks.Block.{Block}
use Rattle.widl_lines.specs.declared.blocks.Block.TheVariants as kind
use Rattle.widl_lines.specs.declared.blocks.Change.{Change}
use Rattle.widl_lines.specs.declared.blocks.Change.TheVariants as change
use Rattle.widl_lines.specs.declared.grammar.Rule.{Rule}
use Rattle.widl_lines.specs.declared.grammar.Rule.TheVariants as rule
use Rattle.widl_lines.specs.declared.grammar.Terminal.{Terminal}
use Rattle.widl_lines.specs.declared.grammar.Terminal.TheVariants as t
use Rattle.widl_lines.specs.Blocks.{innermost, outer, changed, after_change, change_of, change_by, blocks_after, first_word, start_of}
use Rattle.widl_lines.specs.Breaks.{LineBreaks}
use Rattle.widl_lines.specs.Words.{Lexeme}
use Rattle.widl_script_tree.specs.declared.statement.Statement.{Statement}
use Rattle.widl_script_tree.specs.declared.statement.Statement.TheVariants as line
use Rattle.widl_script_tree.specs.Trees.{Text, StatementTree, StatementTrees, no_statements, then_more, FunctionTree}
use Rattle.widl_script_tree.specs.Tables.{Tables, name_at, function_tree, statement_tree, opened_statement}
use Rattle.widl_script_tree.specs.Parts.{IsName, IsExpression, IsLowerRow, IsLowerStatement, IsBodyLower}
use Rattle.widl_script_tree.specs.Growth.{Grown}
use Rattle.widl_script_tree.proofs.Growing.{extends_length}
use Rattle.widl_script_reader.specs.declared.frames.OpenBlock.{OpenBlock}
use Rattle.widl_script_reader.specs.declared.frames.OpenBlock.TheVariants as block
use Rattle.widl_script_reader.specs.declared.frames.Frame.{Frame}
use Rattle.widl_script_reader.specs.declared.frames.Builder.{Builder}
use Rattle.widl_script_words.specs.Signs.{Sign, SpellsLine, word}
use Rattle.widl_script_words.specs.Functions.{with_bound}
use Rattle.widl_script_words.specs.SpelledStatements.{Lines, statement_signs, followed_by}
use Rattle.widl_script_reader.specs.OpenBlocks.{Open, Standing, is_outside}
use Rattle.widl_script_words.specs.StepReading.{is_block_word}
use Rattle.widl_script_words.specs.Reading.{Symbols, Runs, Reads, part, terminal_of, terminal_ahead}
use Rattle.widl_script_reader.specs.ReadExpressions.{Distinct, Widens}
use Rattle.widl_script_reader.specs.ReadLines.{is_alone, HoldsLine}
use Rattle.widl_script_reader.specs.StatementPuts.{statements_at, AllStatements}
use Rattle.widl_script_reader.specs.Building.{open_of, opens_of, kind_of, stack_of, kinds_of, IsSoundBlock, IsSoundFrame, Sound, kept_of, Stood, is_steps, is_in_steps, StandsOutside, AllOutside, StandsAt, LineRead}
use Rattle.widl_script_reader.specs.BuilderSteps.{bound_by, IsAdded, IsOpened, IsDone}
use Rattle.widl_script_reader.proofs.Growing.{grown_then}
use Rattle.widl_script_reader.proofs.Locals.{bound_same, all_bound}
use Rattle.widl_script_words.proofs.Parts.{read_whole}
use Rattle.widl_script_words.proofs.PlainLines.{line_runs, has_change}
use Rattle.widl_script_reader.proofs.Standing.{stands_line}

-- 1. Stacks

pub pushed : (xs ys : List Frame) (f : Frame) → ys ≡ xs ++ f ∷ [] → reverse ys ≡ f ∷ reverse xs
pushed xs ys f e = ap (λ (x : List Frame). reverse x) e ∙ reverse-append xs (f ∷ [])

pub same_stack : (old new : Builder) → new.frames.items ≡ old.frames.items → stack_of new ≡ stack_of old
same_stack old new e = ap (λ (x : List Frame). reverse x) e

pub outside_is : (u : Tables) (stack : List Frame) → is_in_steps stack ≡ false → is_outside (opens_of u stack) ≡ true
outside_is u [] e = refl
outside_is u (frame ∷ stack) e = go frame.block e
  where
    go : (b : OpenBlock) → is_steps b ≡ false → is_outside (Rattle.widl_script_reader.specs.Building.block_open u (statements_at u frame.before.items) b ∷ opens_of u stack) ≡ true
    go (block.Steps target lines) e = absurd (let bad : true ≡ false = e in cc)
    go block.Try e = refl
    go (block.Catch body name) e = refl
    go (block.Then left right) e = refl
    go (block.Else left right met) e = refl
    go (block.Function head outer) e = refl

-- 2. Lines

-- the rule of a line
pub line_rule : (stack : List Frame) → is_in_steps stack ≡ false → start_of (innermost (kinds_of stack)) ≡ rule.Line
line_rule [] e = refl
line_rule (frame ∷ stack) e = go frame.block e
  where
    go : (b : OpenBlock) → is_steps b ≡ false → start_of (Some (kind_of b)) ≡ rule.Line
    go (block.Steps target lines) e = absurd (let bad : true ≡ false = e in cc)
    go block.Try e = refl
    go (block.Catch body name) e = refl
    go (block.Then left right) e = refl
    go (block.Else left right met) e = refl
    go (block.Function head outer) e = refl

pub step_rule : (stack : List Frame) → is_in_steps stack ≡ true → start_of (innermost (kinds_of stack)) ≡ rule.StepLine
step_rule [] e = absurd (let bad : false ≡ true = e in cc)
step_rule (frame ∷ stack) e = go frame.block e
  where
    go : (b : OpenBlock) → is_steps b ≡ true → start_of (Some (kind_of b)) ≡ rule.StepLine
    go (block.Steps target lines) e = refl
    go block.Try e = absurd (let bad : false ≡ true = e in cc)
    go (block.Catch body name) e = absurd (let bad : false ≡ true = e in cc)
    go (block.Then left right) e = absurd (let bad : false ≡ true = e in cc)
    go (block.Else left right met) e = absurd (let bad : false ≡ true = e in cc)
    go (block.Function head outer) e = absurd (let bad : false ≡ true = e in cc)

pub spelled_line : (stack : List Frame) (x : List Sign) (words to : List Lexeme) → is_in_steps stack ≡ false → LineBreaks (kinds_of stack) words None → Reads (part rule.Line) [] x words to → SpellsLine x words
spelled_line stack x words to e h f = read_whole rule.Line x words to f (subst (λ (r : Rule). Runs (part r) words) (line_rule stack e) (line_runs (kinds_of stack) words h))

pub spelled_step : (stack : List Frame) (x : List Sign) (words to : List Lexeme) → is_in_steps stack ≡ true → LineBreaks (kinds_of stack) words None → Reads (part rule.StepLine) [] x words to → SpellsLine x words
spelled_step stack x words to e h f = read_whole rule.StepLine x words to f (subst (λ (r : Rule). Runs (part r) words) (step_rule stack e) (line_runs (kinds_of stack) words h))

-- a line that may stand in a steps block too
pub spelled_either : (stack : List Frame) (x : List Sign) (words to : List Lexeme) → LineBreaks (kinds_of stack) words None → Reads (part rule.Line) [] x words to → Reads (part rule.StepLine) [] x words to → SpellsLine x words
spelled_either stack x words to h f g = go (is_in_steps stack) refl
  where
    go : (b : Bool) → is_in_steps stack ≡ b → SpellsLine x words
    go true e = spelled_step stack x words to e h g
    go false e = spelled_line stack x words to e h f

-- 3. The kinds of blocks

first_is : (words : List Lexeme) (a : Terminal) → terminal_ahead words ≡ a → (a ≡ t.Unknown → ⊥) → first_word words ≡ a
first_is [] a e other = absurd (other (sym e))
first_is (w ∷ words) a e other = e

pub change_is : (words : List Lexeme) (blocks : List Block) (a : Terminal) → terminal_ahead words ≡ a → (a ≡ t.Unknown → ⊥) → change_by words blocks ≡ change_of a (innermost blocks)
change_is words blocks a e other = ap (λ (x : Terminal). change_of x (innermost blocks)) (first_is words a e other)

stays : (a : Terminal) (inside : Option Block) → is_block_word a ≡ false → change_of a inside ≡ Some change.Stay
stays t.Function inside e = absurd (let bad : true ≡ false = e in cc)
stays t.Steps inside e = absurd (let bad : true ≡ false = e in cc)
stays t.Try inside e = absurd (let bad : true ≡ false = e in cc)
stays t.Catch inside e = absurd (let bad : true ≡ false = e in cc)
stays t.If inside e = absurd (let bad : true ≡ false = e in cc)
stays t.Else inside e = absurd (let bad : true ≡ false = e in cc)
stays t.End inside e = absurd (let bad : true ≡ false = e in cc)
stays _ inside e = refl

pub stay_is : (words : List Lexeme) (blocks : List Block) → is_block_word (terminal_ahead words) ≡ false → blocks_after words blocks ≡ blocks
stay_is [] blocks e = refl
stay_is (w ∷ words) blocks e = ap (λ (c : Option Change). after_change c blocks) (stays w.terminal (innermost blocks) e)

-- 4. What is there

pub statements_up : (a b : Tables) → Grown a b → (places : List ℕ) → AllStatements a places → AllStatements b places
statements_up a b g places all = All-weaker (λ place. place < length a.statements) (λ place. place < length b.statements) (λ place lt. omega (arith, lt, extends_length g.statements)) places all

pub names_up : (a b : Tables) → Grown a b → (names : List ℕ) → All (IsName a) names → All (IsName b) names
names_up a b g names all = All-weaker (IsName a) (IsName b) (λ number lt. omega (arith, lt, extends_length g.names)) names all

block_up : (a b : Tables) → Grown a b → (x : OpenBlock) → IsSoundBlock a x → IsSoundBlock b x
block_up a b g block.Try s = tt
block_up a b g (block.Catch body name) s = (omega (arith, s.0, extends_length g.statements), omega (arith, s.1, extends_length g.names))
block_up a b g (block.Then left right) s = (omega (arith, s.0, extends_length g.expressions), omega (arith, s.1, extends_length g.expressions))
block_up a b g (block.Else left right met) s = (omega (arith, s.0, extends_length g.expressions), omega (arith, s.1, extends_length g.expressions), omega (arith, s.2, extends_length g.statements))
block_up a b g (block.Function head outer) s = (omega (arith, s.0, extends_length g.names), names_up a b g head.params s.1, names_up a b g outer s.2)
block_up a b g (block.Steps target lines) s = tt

pub frame_up : (a b : Tables) → Grown a b → (f : Frame) → IsSoundFrame a f → IsSoundFrame b f
frame_up a b g f s = record { sound = block_up a b g f.block s.sound; before = statements_up a b g f.before.items s.before }

pub frames_up : (a b : Tables) → Grown a b → (frames : List Frame) → All (IsSoundFrame a) frames → All (IsSoundFrame b) frames
frames_up a b g frames all = All-weaker (IsSoundFrame a) (IsSoundFrame b) (frame_up a b g) frames all

-- 5. A statement of one line

pub statements_snoc : (u : Tables) (places : List ℕ) (place : ℕ) → statements_at u (places ++ place ∷ []) ≡ followed_by (statements_at u places) (then_more (statement_tree u place) no_statements)
statements_snoc u [] place = refl
statements_snoc u (other ∷ places) place = ap (then_more (statement_tree u other)) (statements_snoc u places place)

-- the same by equal parts
pub standing_at : (all : Lines) (o p : List Open) (k l : List (List Text)) (d e : StatementTrees) (n m : ℕ) (f g : List FunctionTree) (x y : List Text) (rest : Lines) → p ≡ o → l ≡ k → e ≡ d → m ≡ n → g ≡ f → y ≡ x → Standing all o k d n f x rest → Standing all p l e m g y rest
standing_at all o p k l d e n m f g x y rest a b c q r s h =
    subst (λ (v : List Open). Standing all v l e m g y rest) (sym a)
    (subst (λ (v : List (List Text)). Standing all o v e m g y rest) (sym b)
    (subst (λ (v : StatementTrees). Standing all o k v m g y rest) (sym c)
    (subst (λ (v : ℕ). Standing all o k d v g y rest) (sym q)
    (subst (λ (v : List FunctionTree). Standing all o k d n v y rest) (sym r)
    (subst (λ (v : List Text). Standing all o k d n f v rest) (sym s) h)))))

pub statement_done : (old start new : Builder) (s : Statement) (words to : List Lexeme) → Sound old → is_in_steps (stack_of old) ≡ false → is_block_word (terminal_ahead words) ≡ false → HoldsLine start.nodes s words to → Widens old.nodes start.nodes → start.frames.items ≡ old.frames.items → start.places.items ≡ old.places.items → start.names ≡ bound_by s old.names → IsAdded s start new → IsDone old new words
statement_done old start new s words to sound other plain holds w frames places names a = record {
  sound = record {
    differ = subst Distinct (sym a.put.names) differ;
    places = subst (AllStatements new.nodes) (sym put_places) (All-push (λ place. place < length new.nodes.statements) old.places.items a.place (statements_up old.nodes new.nodes grown old.places.items sound.places) a.put.within);
    names = subst (All (IsName new.nodes)) (sym (a.names ∙ names)) (names_up start.nodes new.nodes a.put.grown (bound_by s old.names) (all_bound start.nodes start.nodes (Rattle.widl_script_reader.proofs.Growing.grown_same start.nodes) differ s old.names holds.lower (names_up old.nodes start.nodes w.grown old.names sound.names)));
    frames = subst (All (IsSoundFrame new.nodes)) (sym (a.frames ∙ frames)) (frames_up old.nodes new.nodes grown old.frames.items sound.frames);
  };
  grown = grown;
  read = record {
    kinds = λ h. ap kinds_of stack ∙ sym (stay_is words (kinds_of (stack_of old)) plain);
    stands = λ h all rest u g stood. record {
      standing = standing_at all _ _ _ _ _ _ _ _ _ _ _ _ rest (ap (opens_of u) stack) (ap (kept_of u) stack)
          (ap (statements_at u) put_places ∙ statements_snoc u old.places.items a.place)
          (ap (λ (x : List Rattle.widl_script_tree.specs.declared.function.Function.Function). length x) functions) (ap (map (function_tree u)) functions)
          (ap (map (name_at u)) (a.names ∙ names) ∙ bound u g ∙ ap (with_bound (map (name_at u) old.names)) (sym (a.put.tree u g)))
          (stands_line all (opens_of u (stack_of old)) (kept_of u (stack_of old)) (statements_at u old.places.items) (statement_tree u a.place) _ _ _ words rest (outside_is u (stack_of old) other) (spelled u g h) stood.standing);
      outside = subst AllOutside (sym stack) stood.outside;
    };
  };
}
  where
    grown : Grown old.nodes new.nodes
    grown = grown_then w.grown a.put.grown

    differ : Distinct start.nodes.names
    differ = w.differ sound.differ

    stack : stack_of new ≡ stack_of old
    stack = same_stack old new (a.frames ∙ frames)

    put_places : new.places.items ≡ old.places.items ++ a.place ∷ []
    put_places = a.places ∙ ap (λ x. x ++ a.place ∷ []) places

    functions : new.nodes.functions ≡ old.nodes.functions
    functions = a.put.functions ∙ w.functions

    bound : (u : Tables) → Grown new.nodes u → map (name_at u) (bound_by s old.names) ≡ with_bound (map (name_at u) old.names) (opened_statement u (statement_tree u) s)
    bound u g = bound_same start.nodes u (grown_then a.put.grown g) differ s old.names holds.alone holds.lower (names_up old.nodes start.nodes w.grown old.names sound.names)

    spelled : (u : Tables) → Grown new.nodes u → LineBreaks (kinds_of (stack_of old)) words None → SpellsLine (statement_signs (statement_tree u a.place)) words
    spelled u g h = subst (λ (x : StatementTree). SpellsLine (statement_signs x) words) (sym (a.put.tree u g)) (spelled_line (stack_of old) _ words to other h (holds.reads u (grown_then a.put.grown g)))

-- 6. What the line of a statement asks for

pub held_lower : (t : Tables) (s : Statement) (from to : List Lexeme) → HoldsLine t s from to → IsLowerStatement t (length t.statements) s
held_lower t s from to h = h.lower (length t.statements)

alone_body : (t : Tables) (place : ℕ) (s : Statement) → is_alone s ≡ true → IsBodyLower t place s
alone_body t place (line.Function number) e = absurd (let bad : false ≡ true = e in cc)
alone_body t place _ e = tt

pub held_body : (t u : Tables) (place : ℕ) (s : Statement) (from to : List Lexeme) → HoldsLine t s from to → IsBodyLower u place s
held_body t u place s from to h = alone_body u place s h.alone
