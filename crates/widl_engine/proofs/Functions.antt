-- For proofs alone. The functions of a script, by their numbers in its tables and in its tree.
use Rattle.std.proofs.Common.{◌≡◌, ℕ, zero, suc, List, [], ◌∷◌, map, refl, slice_index_or}
use Rattle.widl_script_tree.specs.Trees.{FunctionTree}
use Rattle.widl_script_tree.specs.Tables.{Tables, name_at, statements_tree, function_tree, function_at, no_function, script_tree}
use Rattle.widl_runs.specs.Calls.{function_in}

part_of : {X Y Z : Type 0} (part : Y → Z) (f : X → Y) (xs : List X) (n : ℕ) (d : Y) (e : X) → part d ≡ part (f e) → part (slice_index_or (map f xs) n d) ≡ part (f (slice_index_or xs n e))
part_of part f [] n d e same = same
part_of part f (x ∷ xs) zero d e same = refl
part_of part f (x ∷ xs) (suc n) d e same = part_of part f xs n d e same

pub names_in : (s : Tables) (number : ℕ) → (function_in (script_tree s) number).names ≡ map (name_at s) (function_at s number).names
unfolding script_tree
names_in s number = part_of (λ (f : FunctionTree). f.names) (function_tree s) s.functions number _ no_function refl

pub params_in : (s : Tables) (number : ℕ) → (function_in (script_tree s) number).params ≡ map (name_at s) (function_at s number).params
unfolding script_tree
params_in s number = part_of (λ (f : FunctionTree). f.params) (function_tree s) s.functions number _ no_function refl

pub body_in : (s : Tables) (number : ℕ) → (function_in (script_tree s) number).body ≡ statements_tree s (function_at s number).body
unfolding script_tree
body_in s number = part_of (λ (f : FunctionTree). f.body) (function_tree s) s.functions number _ no_function refl
