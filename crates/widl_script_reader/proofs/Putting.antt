-- For proofs alone. What the calls of the tables put: statements, functions and steps blocks.
use Rattle.std.proofs.Common.{◌≡◌, ℕ, zero, suc, ◌+◌, ◌-◌, ◌<◌, ◌≤◌, List, [], ◌∷◌, ◌++◌, length, get_or, refl, sym, ◌∙◌, ap, subst, arith, length-append}
use Rattle.std.specs.Prelude.{map, All, Some, slice_get}
use Rattle.std.proofs.lemmas.List.{get_or_push, length-map}
use Rattle.std.proofs.Math.Seq.{get_or-append_right}
use Rattle.std.proofs.lemmas.List.Elements.{All-head, All-tail}
use Rattle.std.proofs.lemmas.Option.{slice_get-get_or}
use Rattle.widl_script_tree.specs.declared.row.Row.{Row}
use Rattle.widl_script_tree.specs.declared.statement.Statement.{Statement}
use Rattle.widl_script_tree.specs.declared.statement.Statement.TheVariants as line
use Rattle.widl_script_tree.specs.declared.function.Function.{Function}
use Rattle.widl_script_tree.specs.declared.steps.StepsBlock.{StepsBlock}
use Rattle.widl_script_tree.specs.Trees.{StatementTree, StatementTrees, no_statements, then_more, DoT, UndefinedT}
use Rattle.widl_script_tree.specs.Tables.{Tables, no_statement, no_function, function_at, statement_at, statement_tree, statements_in, statements_tree, opened_statement}
use Rattle.widl_script_tree.specs.Parts.{IsLowerRow, IsLowerStatement, IsBodyLower}
use Rattle.widl_script_tree.specs.Growth.{Grown}
use Rattle.widl_script_tree.specs.Puts.{with_statement, with_statement_items, with_function, with_block}
use Rattle.widl_script_tree.proofs.Folding.{tree_opens}
use Rattle.widl_script_tree.proofs.Opening.{Stands, statement_same}
use Rattle.widl_script_tree.proofs.Growing.{extends_length, extends_get, extends_same, extends_more}
use Rattle.widl_script_tree.proofs.Wholes.{statement_up}
use Rattle.widl_script_reader.specs.StatementPuts.{statements_at, AllStatements, IsStatementPut, IsStatementRow, IsFunctionPut, IsBlockPut}
use Rattle.widl_script_reader.proofs.Growing.{grown_then}

-- a function that is there has its body where it had it
body_up : (t u : Tables) → Grown t u → (n : ℕ) (s : Statement) → IsLowerStatement t n s → IsBodyLower t n s → IsBodyLower u n s
body_up t u g n (line.Function number) there lower = subst (λ (f : Function). IsLowerRow n f.body) (sym (extends_get no_function g.functions number there)) lower
body_up t u g n _ there lower = tt

-- the tree at a place of a statement that stood when the tables were these
pub statement_is : (t u : Tables) → Grown t u → (s : Statement) (place : ℕ) → IsLowerStatement t place s → IsBodyLower t place s → place < length u.statements → statement_at u place ≡ s → statement_tree u place ≡ opened_statement u (statement_tree u) s
unfolding statement_tree
statement_is t u g s place lower body lt is =
    let stands : Stands u place s = record { lower = statement_up t u g place place s (omega arith) lower; body = body_up t u g place s lower body } in
    tree_opens (opened_statement u) (DoT UndefinedT) no_statement (Stands u) (statement_same u) u.statements place lt (subst (Stands u place) (sym is) stands) ∙ ap (opened_statement u (statement_tree u)) is

statement_grown : (old new : Tables) (more : List Statement) → new ≡ record old { statements = old.statements ++ more } → Grown old new
statement_grown old new more is = subst (Grown old) (sym is) (record { expressions = extends_same old.expressions; statements = extends_more old.statements more; functions = extends_same old.functions; blocks = extends_same old.blocks; names = extends_same old.names })

pub statement_put : (s : Statement) (place : ℕ) (old new : Tables) → IsLowerStatement old (length old.statements) s → IsBodyLower old (length old.statements) s → place ≡ length old.statements → new ≡ with_statement old s → IsStatementPut s place old new
statement_put s place old new lower body at is = record {
  grown = g;
  functions = ap (λ (t : Tables). t.functions) is;
  names = ap (λ (t : Tables). t.names) is;
  within = omega (arith, at, size);
  tree = λ u h.
      let there : statement_at u place ≡ s = extends_get no_statement h.statements place (omega (arith, at, size)) ∙ held in
      let low : IsLowerStatement old place s = subst (λ (n : ℕ). IsLowerStatement old n s) (sym at) lower in
      let low_body : IsBodyLower old place s = subst (λ (n : ℕ). IsBodyLower old n s) (sym at) body in
      statement_is old u (grown_then g h) s place low low_body (omega (arith, at, size, extends_length h.statements)) there;
}
  where
    g : Grown old new
    g = statement_grown old new (s ∷ []) is

    size : length new.statements ≡ length old.statements + 1
    size = ap (λ (t : Tables). length t.statements) is ∙ length-append old.statements (s ∷ [])

    held : statement_at new place ≡ s
    held = ap (λ (t : Tables). statement_at t place) is ∙ get_or_push old.statements s no_statement place (sym at)

-- the trees of items are those at their places
items_are : (u : Tables) (places : List ℕ) (first : ℕ) → ((i : ℕ) → i < length places → statement_tree u (first + i) ≡ statement_tree u (get_or places i 0)) → statements_in (statement_tree u) first (length places) ≡ statements_at u places
items_are u [] first e = refl
items_are u (place ∷ places) first e =
    let zero_is : first + 0 ≡ first = omega arith in
    let here : statement_tree u first ≡ statement_tree u place = ap (statement_tree u) (sym zero_is) ∙ e 0 (omega arith) in
    let rest : statements_in (statement_tree u) (first + 1) (length places) ≡ statements_at u places = items_are u places (first + 1) (λ i lt. let next : first + 1 + i ≡ first + suc i = omega arith in ap (statement_tree u) next ∙ e (suc i) (omega arith)) in
    λ i. then_more (here i) (rest i)

item_at : (places : List ℕ) (i : ℕ) → i < length places → get_or (map (λ place. line.Item place) places) i no_statement ≡ line.Item (get_or places i 0)
item_at [] i lt = absurd (omega arith)
item_at (place ∷ places) zero lt = refl
item_at (place ∷ places) (suc i) lt = item_at places i (omega arith)

within_at : (t : Tables) (places : List ℕ) (i : ℕ) → AllStatements t places → i < length places → get_or places i 0 < length t.statements
within_at t [] i h lt = absurd (omega arith)
within_at t (place ∷ places) zero h lt = All-head (λ place. place < length t.statements) place places h
within_at t (place ∷ places) (suc i) h lt = within_at t places i (All-tail (λ place. place < length t.statements) place places h) (omega arith)

pub statement_row : (old new : Tables) (places : List ℕ) (first count : ℕ) → AllStatements old places → first ≡ length old.statements → count ≡ length places → new ≡ with_statement_items old places → IsStatementRow (record { first = first; count = count }) places old new
statement_row old new places first count within at many is = record {
  grown = g;
  functions = ap (λ (t : Tables). t.functions) is;
  names = ap (λ (t : Tables). t.names) is;
  lower = omega (arith, at, many, size);
  trees = λ u h. ap (statements_in (statement_tree u) first) many ∙ items_are u places first (item u h);
}
  where
    items : List Statement
    items = map (λ place. line.Item place) places

    g : Grown old new
    g = statement_grown old new (map (λ place. line.Item place) places) is

    size : length new.statements ≡ length old.statements + length places
    size = ap (λ (t : Tables). length t.statements) is ∙ length-append old.statements (map (λ place. line.Item place) places) ∙ ap (λ (n : ℕ). length old.statements + n) (length-map places (λ (place : ℕ). line.Item place))

    item : (u : Tables) → Grown new u → (i : ℕ) → i < length places → statement_tree u (first + i) ≡ statement_tree u (get_or places i 0)
    item u h i lt =
        let low : get_or places i 0 < length old.statements = within_at old places i within lt in
        let there : statement_at new (first + i) ≡ line.Item (get_or places i 0) =
        ap (λ (t : Tables). statement_at t (first + i)) is ∙ ap (λ (k : ℕ). get_or (old.statements ++ map (λ place. line.Item place) places) (k + i) no_statement) at
        ∙ get_or-append_right old.statements (map (λ place. line.Item place) places) (length old.statements + i) no_statement (omega arith)
        ∙ (let back : length old.statements + i - length old.statements ≡ i = omega arith in ap (λ (k : ℕ). get_or (map (λ place. line.Item place) places) k no_statement) back) ∙ item_at places i lt in
        let same : statement_at u (first + i) ≡ line.Item (get_or places i 0) = extends_get no_statement h.statements (first + i) (omega (arith, size, at, lt)) ∙ there in
        let below : IsLowerStatement old (first + i) (line.Item (get_or places i 0)) = omega (arith, low, at) in
        statement_is old u (grown_then g h) (line.Item (get_or places i 0)) (first + i) below tt (omega (arith, size, at, lt, extends_length h.statements)) same

pub function_put : (f : Function) (number : ℕ) (old new : Tables) → number ≡ length old.functions → new ≡ with_function old f → IsFunctionPut f number old new
function_put f number old new at is = record {
  grown = subst (Grown old) (sym is) (record { expressions = extends_same old.expressions; statements = extends_same old.statements; functions = extends_more old.functions (f ∷ []); blocks = extends_same old.blocks; names = extends_same old.names });
  number_is = at;
  functions = ap (λ (t : Tables). t.functions) is;
  names = ap (λ (t : Tables). t.names) is;
  statements = ap (λ (t : Tables). t.statements) is;
}

pub block_put : (b : StepsBlock) (number : ℕ) (old new : Tables) → number ≡ length old.blocks → new ≡ with_block old b → IsBlockPut b number old new
block_put b number old new at is = record {
  grown = subst (Grown old) (sym is) (record { expressions = extends_same old.expressions; statements = extends_same old.statements; functions = extends_same old.functions; blocks = extends_more old.blocks (b ∷ []); names = extends_same old.names });
  within = omega (arith, at, size);
  held = slice_get-get_or new.blocks number b (omega (arith, at, size)) ∙ ap (λ (x : StepsBlock). Some x) (ap (λ (t : Tables). get_or t.blocks number b) is ∙ get_or_push old.blocks b b number (sym at));
  functions = ap (λ (t : Tables). t.functions) is;
  names = ap (λ (t : Tables). t.names) is;
}
  where
    size : length new.blocks ≡ length old.blocks + 1
    size = ap (λ (t : Tables). length t.blocks) is ∙ length-append old.blocks (b ∷ [])
