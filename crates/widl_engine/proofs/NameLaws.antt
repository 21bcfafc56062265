-- For proofs alone. Names by number and by text are the same names.
use Rattle.std.proofs.Common.{◌≡◌, ℕ, Bool, true, false, cond, List, [], ◌∷◌, Option, Some, sym, ap, ◌∙◌, refl, map, if◌then◌else◌, bytes_eq, nat_eq, ◌||◌}
use Rattle.std.specs.Bool.{Decides, one_answer}
use Rattle.std.proofs.lemmas.Bool.Decides.{Decides-eqb}
use Rattle.std.proofs.lemmas.Slice.Eq.{bytes_eq-Decides}
use Rattle.std.specs.List.{list_any}
use Rattle.std.specs.Map.{lookup}
use Rattle.indexmap.specs.IndexMap.{insert_entry}
use Rattle.widl_value.specs.declared.value.Value.{Value}
use Rattle.widl_script_tree.specs.Tables.{Tables, name_at}
use Rattle.widl_runs.specs.Worlds.{Bindings, value_of, with_value}
use Rattle.widl_engine.specs.Place.{named}

module _ (s : Tables) (differ : (i j : ℕ) → name_at s i ≡ name_at s j → i ≡ j) where
  texts_decide : (i j : ℕ) → Decides (bytes_eq (name_at s i) (name_at s j)) (i ≡ j)
  texts_decide i j = let d = bytes_eq-Decides (name_at s i) (name_at s j) in (λ e. differ i j (d.0 e), λ e. d.1 (ap (λ (k : ℕ). name_at s k) e))

  -- one test for both
  pub same_test : (i j : ℕ) → bytes_eq (name_at s i) (name_at s j) ≡ nat_eq i j
  same_test i j = one_answer (bytes_eq (name_at s i) (name_at s j)) (nat_eq i j) (texts_decide i j) (Decides-eqb i j)

  pub value_named : (i : ℕ) (es : List (ℕ × Value)) → value_of (named (name_at s) es) (name_at s i) ≡ lookup (nat_eq i) es
  value_named i [] = refl
  value_named i (e ∷ es) =
      ap (λ (b : Bool). cond b (Some e.1) (value_of (named (name_at s) es) (name_at s i))) (same_test i e.0)
      ∙ ap (λ (o : Option Value). cond (nat_eq i e.0) (Some e.1) o) (value_named i es)

  either_bind : (b : Bool) (i : ℕ) (v : Value) (e : ℕ × Value) (es : List (ℕ × Value)) (more : Bindings) → named (name_at s) (insert_entry nat_eq es i v) ≡ more → named (name_at s) (if b then (e.0, v) ∷ es else e ∷ insert_entry nat_eq es i v) ≡ (if b then (name_at s e.0, v) ∷ named (name_at s) es else (name_at s e.0, e.1) ∷ more)
  either_bind true i v e es more h = refl
  either_bind false i v e es more h = ap (λ (ns : Bindings). (name_at s e.0, e.1) ∷ ns) h

  pub bind_named : (i : ℕ) (v : Value) (es : List (ℕ × Value)) → named (name_at s) (insert_entry nat_eq es i v) ≡ with_value (named (name_at s) es) (name_at s i) v
  bind_named i v [] = refl
  bind_named i v (e ∷ es) =
      either_bind (nat_eq i e.0) i v e es (with_value (named (name_at s) es) (name_at s i) v) (bind_named i v es)
      ∙ ap (λ (b : Bool). if b then (name_at s e.0, v) ∷ named (name_at s) es else (name_at s e.0, e.1) ∷ with_value (named (name_at s) es) (name_at s i) v) (sym (same_test i e.0))

  pub any_named : (i : ℕ) (ns : List ℕ) → list_any (bytes_eq (name_at s i)) (map (name_at s) ns) ≡ list_any (nat_eq i) ns
  any_named i [] = refl
  any_named i (n ∷ ns) =
      ap (λ (b : Bool). b || list_any (bytes_eq (name_at s i)) (map (name_at s) ns)) (same_test i n)
      ∙ ap (λ (b : Bool). nat_eq i n || b) (any_named i ns)
