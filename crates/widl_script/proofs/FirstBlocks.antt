-- The steps blocks of a script by the names of what they are for, statement by statement.
use Rattle.std.proofs.Common.{◌≡◌, ℕ, zero, suc, ◌+◌, ◌-◌, ◌<◌, ◌≤◌, Bool, true, false, cond, not, ◌&&◌, List, [], ◌∷◌, slice_get, Option, Some, None, is_some, option_map, unwrap_or, refl, sym, ◌∙◌, ap, subst, arith, if◌then◌else◌, nat_eq, eqb-true, eq-eqb, true≢false}
use Rattle.std.specs.Prelude.{bytes_eq}
use Rattle.std.specs.Option.{option_or}
use Rattle.std.proofs.lemmas.Slice.Eq.{bytes_eq-Decides}
use Rattle.indexmap.specs.IndexMap.{IndexMap, get_by}
use Rattle.widl_idl.specs.declared.callee.Owner.{Owner}
use Rattle.widl_idl.specs.DefinitionTerms.{OpNameTerm, SpaceTerm}
use Rattle.widl_script_tree.specs.declared.row.Row.{Row}
use Rattle.widl_script_tree.specs.declared.statement.Statement.{Statement}
use Rattle.widl_script_tree.specs.declared.statement.Statement.TheVariants as line
use Rattle.widl_script_tree.specs.declared.steps.StepLine.{StepLine}
use Rattle.widl_script_tree.specs.declared.steps.StepsBlock.{StepsBlock}
use Rattle.widl_script_tree.specs.declared.steps.Target.{Target}
use Rattle.widl_script_tree.specs.declared.steps.Target.TheVariants as target
use Rattle.widl_script_tree.specs.Puts.{finished}
use Rattle.widl_script_tree.specs.Real.{IsRealStatement}
use Rattle.widl_script_tree.specs.Tables.{CalleeOverload, Tables, lines_of, opened_statement, script_tree, statement_tree, expression_tree, statements_in, statements_tree, steps_statement}
use Rattle.widl_script_tree.specs.Trees.{StatementTree, StatementTrees, LetT, DoT, ReturnT, ThrowT, ShowT, SetT, DefineT, DefineAccessorT, DeleteT, TryT, IfT, FunctionT, StepsT, no_statements, then_more}
use Rattle.widl_script_rules.specs.declared.operation_target.OperationTarget.{OperationTarget}
use Rattle.widl_script.specs.CalleeBlocks.{block_for, first_lines, is_named, lines_asked, lines_at, lines_if}
use Rattle.widl_script_rules.specs.OperationTargets.{names}
use Rattle.widl_script_rules.specs.Targets.{is_target_of}
use Rattle.widl_script.specs.Scripts.{lines_of_first}

pub or_nothing : {X : Type 0} (o : Option X) → option_or o None ≡ o
or_nothing None = refl
or_nothing (Some x) = refl

-- 1. Blocks by names

both_true : (a b : Bool) → (a && b) ≡ true → (a ≡ true) × (b ≡ true)
both_true true b e = (refl, e)
both_true false b e = absurd (true≢false (sym e))

-- what a target names is named by what the target names
pub same_named : (target : OperationTarget) (owner name : List ℕ) (k : ℕ) → names target owner name k ≡ true → (other : OperationTarget) → is_named owner name k other ≡ is_named target.owner.now target.name.now target.overload other
same_named target owner name k e other =
    let one : (bytes_eq target.owner.now owner ≡ true) × ((bytes_eq target.name.now name && nat_eq target.overload k) ≡ true) = both_true (bytes_eq target.owner.now owner) (bytes_eq target.name.now name && nat_eq target.overload k) e in
    let two : (bytes_eq target.name.now name ≡ true) × (nat_eq target.overload k ≡ true) = both_true (bytes_eq target.name.now name) (nat_eq target.overload k) one.1 in
    let owner_is : owner ≡ target.owner.now = sym ((bytes_eq-Decides target.owner.now owner).0 one.0) in
    let name_is : name ≡ target.name.now = sym ((bytes_eq-Decides target.name.now name).0 two.0) in
    let number_is : k ≡ target.overload = sym (eqb-true target.overload k two.1) in
    ap (λ t. is_named t name k other) owner_is ∙ ap (λ t. is_named target.owner.now t k other) name_is ∙ ap (λ n. is_named target.owner.now target.name.now n other) number_is

-- the block for what a target names
pub same_block : {S : Type 0} (blocks : IndexMap OperationTarget ℕ S) (target : OperationTarget) (owner name : List ℕ) (k : ℕ) → names target owner name k ≡ true → block_for blocks owner name k ≡ block_for blocks target.owner.now target.name.now target.overload
same_block blocks target owner name k e = let h = same_named target owner name k e in λ i. get_by (λ other. h other i) blocks

-- a block stays where there is one for what is asked for
pub there_stays : (asked : Bool) (o : Option ℕ) (number : ℕ) → (asked ≡ true → is_some o ≡ true) → o ≡ option_or o (if asked then Some number else None)
there_stays asked (Some n) number there = refl
there_stays false None number there = refl
there_stays true None number there = absurd (true≢false (sym (there refl)))

-- a block is put where there is none
pub new_put : (asked : Bool) (o new : Option ℕ) (number : ℕ) → new ≡ cond asked (Some number) o → (asked ≡ true → is_some o ≡ false) → new ≡ option_or o (if asked then Some number else None)
new_put false o new number put none = put ∙ sym (or_nothing o)
new_put true None new number put none = put
new_put true (Some n) new number put none = absurd (true≢false (none refl))

-- 2. Statements

-- statements that are no blocks have no lines
pub no_block : (t : Tables) (tree : ℕ → StatementTree) (is_asked : Target → Bool) (s : Statement) → IsRealStatement s → ((number : ℕ) → s ≡ line.Steps number → ⊥) → lines_asked is_asked (opened_statement t tree s) ≡ None
no_block t tree is_asked (line.Item place) real other = absurd real
no_block t tree is_asked (line.Steps number) real other = absurd (other number refl)
no_block t tree is_asked (line.Let name value) real other = refl
no_block t tree is_asked (line.Do value) real other = refl
no_block t tree is_asked (line.Set member value) real other = refl
no_block t tree is_asked (line.Define member value hidden) real other = refl
no_block t tree is_asked (line.DefineAccessor member getter setter) real other = refl
no_block t tree is_asked (line.Delete member) real other = refl
no_block t tree is_asked (line.Return value) real other = refl
no_block t tree is_asked (line.Throw value) real other = refl
no_block t tree is_asked (line.Show value) real other = refl
no_block t tree is_asked (line.Try body name handler) real other = refl
no_block t tree is_asked (line.If left right met unmet) real other = refl
no_block t tree is_asked (line.Function number) real other = refl

-- the lines of a block that is there
pub lines_there : (t : Tables) (is_asked : Target → Bool) (number : ℕ) (block : StepsBlock) → slice_get t.blocks number ≡ Some block → lines_if t is_asked (Some number) ≡ (if is_asked block.target then Some block.lines else None)
lines_there t is_asked number block is = ap (λ o. lines_asked is_asked (steps_statement o)) is

pub lines_missing : (t : Tables) (is_asked : Target → Bool) (number : ℕ) → slice_get t.blocks number ≡ None → lines_if t is_asked (Some number) ≡ None
lines_missing t is_asked number is = ap (λ o. lines_asked is_asked (steps_statement o)) is

pub lines_are : (t : Tables) (number : ℕ) (block : StepsBlock) → slice_get t.blocks number ≡ Some block → lines_at t number ≡ block.lines
lines_are t number block is = ap (λ (o : Option StepsBlock). unwrap_or (option_map (λ (b : StepsBlock). b.lines) o) []) is

map_or : (f : ℕ → List StepLine) (a b : Option ℕ) → option_map f (option_or a b) ≡ option_or (option_map f a) (option_map f b)
map_or f None b = refl
map_or f (Some n) b = refl

map_if : (f : ℕ → List StepLine) (b : Bool) (number : ℕ) (lines : List StepLine) → f number ≡ lines → option_map f (if b then Some number else None) ≡ (if b then Some lines else None)
map_if f true number lines e = ap (λ l. Some l) e
map_if f false number lines e = refl

-- a block of this number is put
pub block_put : (t : Tables) (is_asked : Target → Bool) (number : ℕ) (block : StepsBlock) (old new : Option ℕ) (asked : Bool) → slice_get t.blocks number ≡ Some block → is_asked block.target ≡ asked →
    new ≡ option_or old (if asked then Some number else None) → option_map (lines_at t) new ≡ option_or (option_map (lines_at t) old) (lines_if t is_asked (Some number))
block_put t is_asked number block old new asked is same put =
    ap (option_map (lines_at t)) put ∙ map_or (lines_at t) old (if asked then Some number else None)
    ∙ ap (option_or (option_map (lines_at t) old)) (map_if (lines_at t) asked number block.lines (lines_are t number block is) ∙ ap (λ b. if b then Some block.lines else None) (sym same) ∙ sym (lines_there t is_asked number block is))

-- 3. Rows of statements

pub or_joined : {X : Type 0} (a b c : Option X) → option_or a (option_or b c) ≡ option_or (option_or a b) c
or_joined None b c = refl
or_joined (Some x) b c = refl

-- one statement more
pub next_lines : (tree : ℕ → StatementTree) (is_asked : Target → Bool) (first count : ℕ) → first_lines is_asked (statements_in tree first (suc count)) ≡ option_or (first_lines is_asked (statements_in tree first count)) (lines_asked is_asked (tree (first + count)))
next_lines tree is_asked first zero =
    let here : first ≡ first + 0 = omega arith in
    or_nothing (lines_asked is_asked (tree first)) ∙ ap (λ n. lines_asked is_asked (tree n)) here
next_lines tree is_asked first (suc count) =
    let one : (first + 1) + count ≡ first + suc count = omega arith in
    ap (option_or (lines_asked is_asked (tree first))) (next_lines tree is_asked (first + 1) count)
    ∙ or_joined (lines_asked is_asked (tree first)) (first_lines is_asked (statements_in tree (first + 1) count)) (lines_asked is_asked (tree ((first + 1) + count)))
    ∙ ap (λ n. option_or (option_or (lines_asked is_asked (tree first)) (first_lines is_asked (statements_in tree (first + 1) count))) (lines_asked is_asked (tree n))) one

pub next_place : (tree : ℕ → StatementTree) (is_asked : Target → Bool) (first place : ℕ) → first ≤ place → first_lines is_asked (statements_in tree first ((place + 1) - first)) ≡ option_or (first_lines is_asked (statements_in tree first (place - first))) (lines_asked is_asked (tree place))
next_place tree is_asked first place low =
    let more : (place + 1) - first ≡ suc (place - first) = omega (arith, low) in
    let here : first + (place - first) ≡ place = omega (arith, low) in
    ap (λ n. first_lines is_asked (statements_in tree first n)) more ∙ next_lines tree is_asked first (place - first)
    ∙ ap (λ n. option_or (first_lines is_asked (statements_in tree first (place - first))) (lines_asked is_asked (tree n))) here

asked_first : (b : Bool) (lines rest : List StepLine) (o : Option (List StepLine)) → unwrap_or o [] ≡ rest → unwrap_or (option_or (if b then Some lines else None) o) [] ≡ (if b then lines else rest)
asked_first true lines rest o e = refl
asked_first false lines rest o e = e

-- without a block there are no lines
pub lines_or_none : (is_asked : Target → Bool) (ss : StatementTrees) → unwrap_or (first_lines is_asked ss) [] ≡ lines_of_first is_asked ss
lines_or_none is_asked no_statements = refl
lines_or_none is_asked (then_more (StepsT t lines) more) = asked_first (is_asked t) lines (lines_of_first is_asked more) (first_lines is_asked more) (lines_or_none is_asked more)
lines_or_none is_asked (then_more s more) = lines_or_none is_asked more

-- the lines of a block that was found, or none
pub lines_found : (t : Tables) (o : Option ℕ) → unwrap_or (lines_of t o) [] ≡ unwrap_or (option_map (lines_at t) o) []
lines_found t None = refl
lines_found t (Some n) = refl

-- 4. Owners and targets are no part of the tree

pub top_is : (t : Tables) (top : Row) (owners : List (ℕ × Owner)) (targets : List (CalleeOverload × ℕ)) → statements_tree t top ≡ (script_tree (finished t top owners targets)).top
unfolding script_tree statement_tree expression_tree
top_is t top owners targets = refl
