-- What tables that grow keep, and the trees of what is put.
use Rattle.std.proofs.Common.{◌≡◌, ℕ, zero, suc, ◌+◌, ◌-◌, ◌<◌, ◌≤◌, Bool, true, false, Option, Some, None, List, [], ◌∷◌, ◌++◌, length, get_or, refl, sym, ◌∙◌, ap, subst, arith, length-append, append_assoc, ◌⊎◌, inl, inr, true≢false}
use Rattle.std.specs.Prelude.{map, All, slice_get, bytes_eq, if◌then◌else◌}
use Rattle.std.specs.List.{list_any}
use Rattle.std.proofs.lemmas.List.{get_or_append_left, get_or_push, length-map}
use Rattle.std.proofs.lemmas.List.Folds.{list_any_at}
use Rattle.std.proofs.lemmas.Slice.Eq.{bytes_eq-Decides}
use Rattle.std.proofs.lemmas.Bool.{cases_lt}
use Rattle.std.proofs.Math.Seq.{get_or-append_right}
use Rattle.std.proofs.lemmas.List.Elements.{All-head, All-tail}
use Rattle.std.proofs.lemmas.Option.{get_or_from_slice_get, slice_get_within}
use Rattle.indexmap.specs.IndexSet.{insert_key}
use Rattle.widl_script_tree.specs.declared.expression.Expression.{Expression}
use Rattle.widl_script_tree.specs.declared.expression.Expression.TheVariants as node
use Rattle.widl_script_tree.specs.declared.row.Row.{Row}
use Rattle.widl_script_tree.specs.Trees.{Text, ExpressionTree, ExpressionTrees, none, more, UndefinedT}
use Rattle.widl_script_tree.specs.Tables.{Tables, name_or, name_at, key_at, expression_at, expression_tree, expressions_in, expressions_tree, opened}
use Rattle.widl_script_tree.specs.Parts.{IsName, IsLower}
use Rattle.widl_script_tree.specs.Growth.{Extends, Grown}
use Rattle.widl_script_tree.specs.Puts.{with_expression, with_items, with_name}
use Rattle.widl_script_tree.proofs.Folding.{tree_opens}
use Rattle.widl_script_tree.proofs.Opening.{opened_same}
use Rattle.widl_script_tree.proofs.Growing.{extends_length, extends_get, extends_slice, extends_same, extends_more}
use Rattle.widl_script_tree.proofs.Wholes.{lower_up}
use Rattle.widl_script_reader.specs.ReadExpressions.{Distinct, Widens, IsPut, IsNamed, IsRow, trees_at, AllWithin}

extends_then : {X : Type 0} {a b c : List X} → Extends a b → Extends b c → Extends a c
extends_then {X} {a} {b} {c} f g = record { added = f.added ++ g.added; whole = g.whole ∙ ap (λ xs. xs ++ g.added) f.whole ∙ append_assoc a f.added g.added }

pub grown_then : {a b c : Tables} → Grown a b → Grown b c → Grown a c
grown_then {a} {b} {c} f g = record {
  expressions = extends_then f.expressions g.expressions;
  statements = extends_then f.statements g.statements;
  functions = extends_then f.functions g.functions;
  blocks = extends_then f.blocks g.blocks;
  names = extends_then f.names g.names;
}

pub widens_then : {a b c : Tables} → Widens a b → Widens b c → Widens a c
widens_then {a} {b} {c} f g = record { grown = grown_then f.grown g.grown; differ = λ d. g.differ (f.differ d); statements = g.statements ∙ f.statements; functions = g.functions ∙ f.functions; blocks = g.blocks ∙ f.blocks }

pub grown_same : (a : Tables) → Grown a a
grown_same a = record { expressions = extends_same a.expressions; statements = extends_same a.statements; functions = extends_same a.functions; blocks = extends_same a.blocks; names = extends_same a.names }

pub widens_same : (a : Tables) → Widens a a
widens_same a = record { grown = grown_same a; differ = λ d. d; statements = refl; functions = refl; blocks = refl }

pub longer : {a b : Tables} → Grown a b → length a.expressions ≤ length b.expressions
longer {a} {b} g = extends_length g.expressions

-- a node stays where it is
pub node_kept : {a b : Tables} → Grown a b → (place : ℕ) → place < length a.expressions → expression_at b place ≡ expression_at a place
node_kept {a} {b} g place lt = extends_get node.Undefined g.expressions place lt

pub name_kept : {a b : Tables} → Grown a b → (number : ℕ) → IsName a number → name_at b number ≡ name_at a number
name_kept {a} {b} g number lt = ap (name_or number) (extends_slice g.names number lt)

pub key_kept : {a b : Tables} → Grown a b → (number : ℕ) → IsName a number → key_at b number ≡ key_at a number
key_kept {a} {b} g number lt = extends_get [] g.names number lt

-- the tree at a place whose node names lower ones
pub tree_is : (t : Tables) (place : ℕ) → place < length t.expressions → IsLower t place (expression_at t place) → expression_tree t place ≡ opened t (expression_tree t) (expression_at t place)
unfolding expression_tree
tree_is t place lt lower = tree_opens (opened t) UndefinedT node.Undefined (IsLower t) (opened_same t) t.expressions place lt lower

-- the tree of a node that was put, in whatever the table grows to
pub put_tree : {e : Expression} {place : ℕ} {old new : Tables} → IsPut e place old new → IsLower old (length old.expressions) e → (u : Tables) → Grown new u → expression_tree u place ≡ opened u (expression_tree u) e
put_tree {e} {place} {old} {new} p lower u g =
    let within : place < length new.expressions = omega (arith, p.place_is, p.longer) in
    let is : expression_at u place ≡ e = node_kept g place within ∙ p.held in
    let low : IsLower u place e = subst (λ n. IsLower u n e) (sym p.place_is) (lower_up old u (grown_then p.widens.grown g) (length old.expressions) (length old.expressions) e (omega arith) lower) in
    tree_is u place (omega (arith, within, longer g)) (subst (IsLower u place) (sym is) low) ∙ ap (opened u (expression_tree u)) is

pub put_within : {e : Expression} {place : ℕ} {old new : Tables} → IsPut e place old new → place < length new.expressions
put_within {e} {place} {old} {new} p = omega (arith, p.place_is, p.longer)

-- 1. What the tables' calls put

pub put_is : (e : Expression) (place : ℕ) (old new : Tables) → place ≡ length old.expressions → new ≡ with_expression old e → IsPut e place old new
put_is e place old new at is = subst (IsPut e place old) (sym is) (record {
  widens = record {
    grown = record { expressions = extends_more old.expressions (e ∷ []); statements = extends_same old.statements; functions = extends_same old.functions; blocks = extends_same old.blocks; names = extends_same old.names };
    differ = λ d. d;
    statements = refl;
    functions = refl;
    blocks = refl;
  };
  place_is = at;
  longer = omega (arith, length-append old.expressions (e ∷ []));
  held = get_or_push old.expressions e node.Undefined place (sym at);
})

inserted : (names : List Text) (text : Text) (b : Bool) → list_any (bytes_eq text) names ≡ b → Extends names (insert_key bytes_eq names text)
inserted names text true e = subst (λ (c : Bool). Extends names (if c then names else names ++ text ∷ [])) (sym e) (extends_same names)
inserted names text false e = subst (λ (c : Bool). Extends names (if c then names else names ++ text ∷ [])) (sym e) (extends_more names (text ∷ []))

-- a name that is put anew is another
differ_pushed : (names : List Text) (text : Text) → Distinct names → list_any (bytes_eq text) names ≡ false → Distinct (names ++ text ∷ [])
differ_pushed names text d new i j lt less e = either (cases_lt i (length names)) (cases_lt j (length names))
  where
    size : length (names ++ text ∷ []) ≡ length names + 1
    size = length-append names (text ∷ [])

    early : (k : ℕ) → k < length names → get_or (names ++ text ∷ []) k [] ≡ get_or names k []
    early k within = get_or_append_left names (text ∷ []) [] k within

    late : (k : ℕ) → length names ≤ k → k < length (names ++ text ∷ []) → get_or (names ++ text ∷ []) k [] ≡ text
    late k le within = get_or_push names text [] k (omega (arith, le, within, size))

    other : (k : ℕ) → k < length names → text ≡ get_or names k [] → ⊥
    other k within is = true≢false (sym (list_any_at (bytes_eq text) names k [] within ((bytes_eq-Decides text (get_or names k [])).1 is)) ∙ new)

    either : (i < length names) ⊎ (length names ≤ i) → (j < length names) ⊎ (length names ≤ j) → i ≡ j
    either (inl a) (inl b) = d i j a b (sym (early i a) ∙ e ∙ early j b)
    either (inl a) (inr b) = absurd (other i a (sym (late j b less) ∙ sym e ∙ early i a))
    either (inr a) (inl b) = absurd (other j b (sym (late i a lt) ∙ e ∙ early j b))
    either (inr a) (inr b) = omega (arith, a, b, lt, less, size)

differ_inserted : (names : List Text) (text : Text) → Distinct names → (b : Bool) → list_any (bytes_eq text) names ≡ b → Distinct (insert_key bytes_eq names text)
differ_inserted names text d true e = subst (λ (c : Bool). Distinct (if c then names else names ++ text ∷ [])) (sym e) d
differ_inserted names text d false e = subst (λ (c : Bool). Distinct (if c then names else names ++ text ∷ [])) (sym e) (differ_pushed names text d e)

pub named_is : (text : Text) (number : ℕ) (old new : Tables) → slice_get new.names number ≡ Some text → new ≡ with_name old text → IsNamed text number old new
named_is text number old new held is = record {
  widens = subst (Widens old) (sym is) (record {
    grown = record { expressions = extends_same old.expressions; statements = extends_same old.statements; functions = extends_same old.functions; blocks = extends_same old.blocks; names = inserted old.names text (list_any (bytes_eq text) old.names) refl };
    differ = λ d. differ_inserted old.names text d (list_any (bytes_eq text) old.names) refl;
    statements = refl;
    functions = refl;
    blocks = refl;
  });
  same = ap (λ (t : Tables). length t.expressions) is;
  within = slice_get_within new.names number text held;
  name = ap (name_or number) held;
  key = get_or_from_slice_get new.names number text [] held;
}

-- the trees of items are those at their places
items_are : (u : Tables) (places : List ℕ) (first : ℕ) → ((i : ℕ) → i < length places → expression_tree u (first + i) ≡ expression_tree u (get_or places i 0)) → expressions_in (expression_tree u) first (length places) ≡ trees_at u places
items_are u [] first e = refl
items_are u (place ∷ places) first e =
    let zero_is : first + 0 ≡ first = omega arith in
    let here : expression_tree u first ≡ expression_tree u place = ap (expression_tree u) (sym zero_is) ∙ e 0 (omega arith) in
    let rest : expressions_in (expression_tree u) (first + 1) (length places) ≡ trees_at u places = items_are u places (first + 1) (λ i lt. let next : first + 1 + i ≡ first + suc i = omega arith in ap (expression_tree u) next ∙ e (suc i) (omega arith)) in
    λ i. more (here i) (rest i)

item_at : (places : List ℕ) (i : ℕ) → i < length places → get_or (map (λ place. node.Item place) places) i node.Undefined ≡ node.Item (get_or places i 0)
item_at [] i lt = absurd (omega arith)
item_at (place ∷ places) zero lt = refl
item_at (place ∷ places) (suc i) lt = item_at places i (omega arith)

within_at : (t : Tables) (places : List ℕ) (i : ℕ) → AllWithin t places → i < length places → get_or places i 0 < length t.expressions
within_at t [] i h lt = absurd (omega arith)
within_at t (place ∷ places) zero h lt = All-head (λ place. place < length t.expressions) place places h
within_at t (place ∷ places) (suc i) h lt = within_at t places i (All-tail (λ place. place < length t.expressions) place places h) (omega arith)

pub items_widen : (old new : Tables) (places : List ℕ) → new ≡ with_items old places → Widens old new
items_widen old new places is = subst (Widens old) (sym is) (record {
  grown = record { expressions = extends_more old.expressions (map (λ place. node.Item place) places); statements = extends_same old.statements; functions = extends_same old.functions; blocks = extends_same old.blocks; names = extends_same old.names };
  differ = λ d. d;
  statements = refl;
  functions = refl;
  blocks = refl;
})

pub row_is : (old new : Tables) (places : List ℕ) (first count : ℕ) → AllWithin old places → first ≡ length old.expressions → count ≡ length places → new ≡ with_items old places → IsRow new (record { first = first; count = count }) places
row_is old new places first count within at many is = record {
  lower = omega (arith, at, many, size);
  trees = λ u g. ap (expressions_in (expression_tree u) first) many ∙ items_are u places first (item u g);
}
  where
    size : length new.expressions ≡ length old.expressions + length places
    size = ap (λ (t : Tables). length t.expressions) is ∙ length-append old.expressions (map (λ place. node.Item place) places) ∙ ap (λ (n : ℕ). length old.expressions + n) (length-map places (λ (place : ℕ). node.Item place))

    item : (u : Tables) → Grown new u → (i : ℕ) → i < length places → expression_tree u (first + i) ≡ expression_tree u (get_or places i 0)
    item u g i lt =
        let low : get_or places i 0 < length old.expressions = within_at old places i within lt in
        let there : expression_at new (first + i) ≡ node.Item (get_or places i 0) =
        ap (λ (t : Tables). expression_at t (first + i)) is ∙ ap (λ (k : ℕ). get_or (old.expressions ++ map (λ place. node.Item place) places) (k + i) node.Undefined) at
        ∙ get_or-append_right old.expressions (map (λ place. node.Item place) places) (length old.expressions + i) node.Undefined (omega arith)
        ∙ (let back : length old.expressions + i - length old.expressions ≡ i = omega arith in ap (λ (k : ℕ). get_or (map (λ place. node.Item place) places) k node.Undefined) back) ∙ item_at places i lt in
        let same : expression_at u (first + i) ≡ node.Item (get_or places i 0) = node_kept g (first + i) (omega (arith, size, at, lt)) ∙ there in
        let below : IsLower u (first + i) (node.Item (get_or places i 0)) = omega (arith, low, at) in
        tree_is u (first + i) (omega (arith, size, at, lt, longer g)) (subst (IsLower u (first + i)) (sym same) below) ∙ ap (opened u (expression_tree u)) same
