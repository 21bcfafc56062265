-- That no table is ever full: what is put, and the words that are taken for it.
use Rattle.std.proofs.Common.{◌≡◌, ℕ, ◌+◌, ◌≤◌, Bool, true, false, List, [], ◌∷◌, ◌++◌, length, drop, sym, ◌∙◌, ap, subst, arith, length-append}
use Rattle.std.specs.Prelude.{map, bytes_eq, if◌then◌else◌, OnOk, OnErr, Result, Ok, Err}
use Rattle.std.specs.List.{list_any}
use Rattle.std.proofs.lemmas.List.{length-map}
use Rattle.std.proofs.lemmas.List.Sums.{sum_by_push}
use Rattle.indexmap.specs.IndexSet.{insert_key}
use Rattle.widl_lines.specs.declared.grammar.Terminal.{Terminal}
use Rattle.widl_lines.specs.declared.grammar.Terminal.TheVariants.{Unknown}
use Rattle.widl_lines.specs.Words.{Lexeme}
use Rattle.widl_script_tree.specs.declared.expression.Expression.{Expression}
use Rattle.widl_script_tree.specs.declared.expression.Expression.TheVariants as node
use Rattle.widl_script_tree.specs.declared.statement.Statement.{Statement}
use Rattle.widl_script_tree.specs.declared.statement.Statement.TheVariants as line
use Rattle.widl_script_tree.specs.declared.function.Function.{Function}
use Rattle.widl_script_tree.specs.declared.steps.StepsBlock.{StepsBlock}
use Rattle.widl_script_tree.specs.Rows.{most_nodes}
use Rattle.widl_script_tree.specs.Trees.{Text}
use Rattle.widl_script_tree.specs.Tables.{Tables}
use Rattle.widl_script_tree.specs.Puts.{with_block, with_expression, with_function, with_items, with_name, with_statement, with_statement_items}
use Rattle.widl_script_reader.specs.declared.frames.Frame.{Frame}
use Rattle.widl_script_words.specs.Reading.{terminal_ahead}
use Rattle.widl_script_reader.specs.Room.{entries, waiting}
use Rattle.widl_script_words.proofs.Parts.{is_unknown}

-- 1. Entries

-- where a call puts so many entries or none
pub puts_at_most : {A E : Type 0} (r : Result A E) (n : ℕ) (old new other : Tables) → entries other ≤ entries old + n → OnOk r (new ≡ other) → OnErr r (new ≡ old) → entries new ≤ entries old + n
puts_at_most (Ok a) n old new other le is same = subst (λ (t : Tables). entries t ≤ entries old + n) (sym is) le
puts_at_most (Err e) n old new other le is same = subst (λ (t : Tables). entries t ≤ entries old + n) (sym same) (omega arith)

pub expression_entries : (t : Tables) (e : Expression) → entries (with_expression t e) ≤ entries t + 1
unfolding entries
expression_entries t e = omega (arith, length-append t.expressions (e ∷ []))

pub item_entries : (t : Tables) (places : List ℕ) → entries (with_items t places) ≤ entries t + length places
unfolding entries
item_entries t places = omega (arith, length-append t.expressions (map (λ place. node.Item place) places), length-map places (λ (place : ℕ). node.Item place))

pub statement_entries : (t : Tables) (s : Statement) → entries (with_statement t s) ≤ entries t + 1
unfolding entries
statement_entries t s = omega (arith, length-append t.statements (s ∷ []))

pub statement_item_entries : (t : Tables) (places : List ℕ) → entries (with_statement_items t places) ≤ entries t + length places
unfolding entries
statement_item_entries t places = omega (arith, length-append t.statements (map (λ place. line.Item place) places), length-map places (λ (place : ℕ). line.Item place))

pub items_put : {A E : Type 0} (r : Result A E) (old new : Tables) (places : List ℕ) → OnOk r (new ≡ with_statement_items old places) → OnOk r (entries new ≤ entries old + length places)
items_put (Ok a) old new places is = subst (λ (t : Tables). entries t ≤ entries old + length places) (sym is) (statement_item_entries old places)
items_put (Err e) old new places is = tt

pub nothing_put : {A E : Type 0} (r : Result A E) (old new : Tables) → OnErr r (new ≡ old) → OnErr r (entries new ≤ entries old)
nothing_put (Ok a) old new same = tt
nothing_put (Err e) old new same = subst (λ (t : Tables). entries t ≤ entries old) (sym same) (omega arith)

pub function_entries : (t : Tables) (f : Function) → entries (with_function t f) ≤ entries t + 1
unfolding entries
function_entries t f = omega (arith, length-append t.functions (f ∷ []))

pub block_entries : (t : Tables) (b : StepsBlock) → entries (with_block t b) ≤ entries t + 1
unfolding entries
block_entries t b = omega (arith, length-append t.blocks (b ∷ []))

few_names : (names : List Text) (text : Text) → length (insert_key bytes_eq names text) ≤ length names + 1
few_names names text = go (list_any (bytes_eq text) names)
  where
    go : (b : Bool) → length (if b then names else names ++ text ∷ []) ≤ length names + 1
    go true = omega arith
    go false = omega (arith, length-append names (text ∷ []))

pub name_entries : (t : Tables) (text : Text) → entries (with_name t text) ≤ entries t + 1
unfolding entries
name_entries t text = omega (arith, few_names t.names text)

-- each table has no more entries than all of them
pub each_fits : (t : Tables) (n : ℕ) → entries t + n ≤ most_nodes → (length t.expressions + n ≤ most_nodes) × (length t.statements + n ≤ most_nodes) × (length t.functions + n ≤ most_nodes) × (length t.blocks + n ≤ most_nodes) × (length t.names + n ≤ most_nodes)
unfolding entries
each_fits t n le = (omega (arith, le), omega (arith, le), omega (arith, le), omega (arith, le), omega (arith, le))

-- 2. Words

-- a word that was there was taken
pub taken : (words rest : List Lexeme) (t : Terminal) → terminal_ahead words ≡ t → is_unknown t ≡ false → rest ≡ drop 1 words → length rest + 1 ≤ length words
taken [] rest t ahead other e = absurd (let bad : is_unknown Unknown ≡ false = ap is_unknown ahead ∙ other in cc)
taken (word ∷ words) rest t ahead other e = omega (arith, ap length e)

pub fewer : (words rest : List Lexeme) → rest ≡ drop 1 words → length rest ≤ length words
fewer [] rest e = omega (arith, ap length e)
fewer (word ∷ words) rest e = omega (arith, ap length e)

pub one_pushed : {X : Type 0} (old new : List X) (x : X) → new ≡ old ++ x ∷ [] → length new ≡ length old + 1
one_pushed old new x e = ap length e ∙ length-append old (x ∷ [])

-- 3. Open blocks

pub waiting_push : (frames : List Frame) (frame : Frame) → waiting (frames ++ frame ∷ []) ≡ waiting frames + length frame.before.items
unfolding waiting
waiting_push frames frame = sum_by_push (λ (f : Frame). length f.before.items) frames frame
