-- For proofs alone. Names that are bound, by their numbers and by their texts.
use Rattle.std.proofs.Common.{◌≡◌, ℕ, ◌<◌, Bool, true, false, List, [], ◌∷◌, ◌++◌, length, refl, sym, ◌∙◌, ap, subst, arith, nat_eq, eqb-true, eq-eqb, get_or, true≢false}
use Rattle.std.specs.Prelude.{map, All, fold, bytes_eq, ◌||◌, if◌then◌else◌}
use Rattle.std.specs.List.{list_any}
use Rattle.std.proofs.lemmas.List.{map-append}
use Rattle.std.proofs.lemmas.List.Elements.{All-head, All-tail, All-push}
use Rattle.std.proofs.lemmas.Option.{slice_get-get_or}
use Rattle.std.proofs.lemmas.Slice.Eq.{bytes_eq-Decides}
use Rattle.indexmap.specs.IndexSet.{insert_key}
use Rattle.widl_script_tree.specs.declared.statement.Statement.{Statement}
use Rattle.widl_script_tree.specs.declared.statement.Statement.TheVariants as statement
use Rattle.widl_script_tree.specs.Trees.{Text}
use Rattle.widl_script_tree.specs.Tables.{Tables, name_or, name_at, statement_tree, opened_statement}
use Rattle.widl_script_tree.specs.Parts.{IsName, IsLowerStatement}
use Rattle.widl_script_tree.specs.Growth.{Grown}
use Rattle.widl_script_words.specs.Functions.{with_name, with_bound}
use Rattle.widl_script_reader.specs.ReadExpressions.{Distinct}
use Rattle.widl_script_reader.specs.ReadLines.{is_alone}
use Rattle.widl_script_reader.specs.BuilderSteps.{bound_by}
use Rattle.widl_script_reader.proofs.Growing.{name_kept}

module _ (t u : Tables) (grown : Grown t u) (differ : Distinct t.names) where
  -- a name by its number is its text
  held : (k : ℕ) → IsName t k → name_at t k ≡ get_or t.names k []
  held k lt = ap (name_or k) (slice_get-get_or t.names k [] lt)

  same_number : (k n : ℕ) → IsName t k → IsName t n → name_at u k ≡ name_at u n → k ≡ n
  same_number k n a b e = differ k n a b (sym (held k a) ∙ sym (name_kept grown k a) ∙ e ∙ name_kept grown n b ∙ held n b)

  same_test : (n k : ℕ) → IsName t n → IsName t k → (b : Bool) → nat_eq n k ≡ b → (d : Bool) → bytes_eq (name_at u n) (name_at u k) ≡ d → b ≡ d
  same_test n k a c true e true f = refl
  same_test n k a c false e false f = refl
  same_test n k a c true e false f = absurd (true≢false (sym ((bytes_eq-Decides (name_at u n) (name_at u k)).1 (ap (name_at u) (eqb-true n k e))) ∙ f))
  same_test n k a c false e true f =
      let same : n ≡ k = same_number n k a c ((bytes_eq-Decides (name_at u n) (name_at u k)).0 f) in
      absurd (true≢false (sym (eq-eqb n k same) ∙ e))

  any_same : (names : List ℕ) (n : ℕ) → IsName t n → All (IsName t) names → list_any (nat_eq n) names ≡ list_any (bytes_eq (name_at u n)) (map (name_at u) names)
  any_same [] n a all = refl
  any_same (k ∷ names) n a all =
      let here : nat_eq n k ≡ bytes_eq (name_at u n) (name_at u k) = same_test n k a (All-head (IsName t) k names all) (nat_eq n k) refl (bytes_eq (name_at u n) (name_at u k)) refl in
      let rest = any_same names n a (All-tail (IsName t) k names all) in
      λ i. here i || rest i

  chosen : (b : Bool) (names : List ℕ) (n : ℕ) → map (name_at u) (if b then names else names ++ n ∷ []) ≡ (if b then map (name_at u) names else map (name_at u) names ++ name_at u n ∷ [])
  chosen true names n = refl
  chosen false names n = map-append (name_at u) names (n ∷ [])

  -- a number that is put among names is a text that is put among theirs
  pub local_put : (names : List ℕ) (n : ℕ) → IsName t n → All (IsName t) names → map (name_at u) (insert_key nat_eq names n) ≡ with_name (map (name_at u) names) (name_at u n)
  local_put names n a all =
      chosen (list_any (nat_eq n) names) names n
      ∙ ap (λ (b : Bool). if b then map (name_at u) names else map (name_at u) names ++ name_at u n ∷ []) (any_same names n a all)

  all_chosen : (b : Bool) (names : List ℕ) (n : ℕ) → IsName t n → All (IsName t) names → All (IsName t) (if b then names else names ++ n ∷ [])
  all_chosen true names n a all = all
  all_chosen false names n a all = All-push (IsName t) names n all a

  pub all_put : (names : List ℕ) (n : ℕ) → IsName t n → All (IsName t) names → All (IsName t) (insert_key nat_eq names n)
  all_put names n a all = all_chosen (list_any (nat_eq n) names) names n a all

  pub locals_put : (names params : List ℕ) → All (IsName t) names → All (IsName t) params → map (name_at u) (fold (insert_key nat_eq) names params) ≡ fold with_name (map (name_at u) names) (map (name_at u) params)
  locals_put names [] all each = refl
  locals_put names (n ∷ params) all each =
      let a : IsName t n = All-head (IsName t) n params each in
      locals_put (insert_key nat_eq names n) params (all_put names n a all) (All-tail (IsName t) n params each)
      ∙ ap (λ (x : List Text). fold with_name x (map (name_at u) params)) (local_put names n a all)

  pub all_locals : (names params : List ℕ) → All (IsName t) names → All (IsName t) params → All (IsName t) (fold (insert_key nat_eq) names params)
  all_locals names [] all each = all
  all_locals names (n ∷ params) all each = all_locals (insert_key nat_eq names n) params (all_put names n (All-head (IsName t) n params each) all) (All-tail (IsName t) n params each)

  -- what a statement of one line binds
  pub bound_same : (s : Statement) (names : List ℕ) → is_alone s ≡ true → ((place : ℕ) → IsLowerStatement t place s) → All (IsName t) names → map (name_at u) (bound_by s names) ≡ with_bound (map (name_at u) names) (opened_statement u (statement_tree u) s)
  bound_same (statement.Let name value) names alone lower all = local_put names name (lower 0).0 all
  bound_same (statement.Try body name handler) names alone lower all = absurd (let bad : false ≡ true = alone in cc)
  bound_same (statement.If left right met unmet) names alone lower all = absurd (let bad : false ≡ true = alone in cc)
  bound_same (statement.Function number) names alone lower all = absurd (let bad : false ≡ true = alone in cc)
  bound_same (statement.Steps number) names alone lower all = absurd (let bad : false ≡ true = alone in cc)
  bound_same (statement.Item place) names alone lower all = absurd (let bad : false ≡ true = alone in cc)
  bound_same _ names alone lower all = refl

  pub all_bound : (s : Statement) (names : List ℕ) → ((place : ℕ) → IsLowerStatement t place s) → All (IsName t) names → All (IsName t) (bound_by s names)
  all_bound (statement.Let name value) names lower all = all_put names name (lower 0).0 all
  all_bound _ names lower all = all
