-- How the targets of steps blocks are spelled.
-- Source: this program's own.
use Rattle.std.specs.Prelude.{ℕ, List, [], ◌∷◌, true, false}
use Rattle.widl_lines.specs.declared.grammar.Terminal.TheVariants as terminal
use Rattle.widl_script_tree.specs.declared.steps.Target.{Target}
use Rattle.widl_script_tree.specs.declared.steps.Target.TheVariants.{Operation, Constructor, Getter, Setter, Stringifier}
use Rattle.widl_script_tree.specs.Trees.{Text}
use Rattle.widl_script_words.specs.Signs.{Sign, OfTargetName, OfOperationName, OfIndex, ◌⧺◌, word}

-- an identifier of Web IDL, whatever its letters spell elsewhere
abbrev pub target_name : Text → List Sign
target_name text = OfTargetName text ∷ []

-- `#K`
abbrev pub overload_signs : ℕ → List Sign
overload_signs k = word terminal.NumberSign ⧺ OfIndex k ∷ []

-- the interface or the namespace that a target names
abbrev pub owner_of : Target → Text
owner_of (Operation owner name fixed k) = owner
owner_of (Constructor owner k) = owner
owner_of (Getter owner name) = owner
owner_of (Setter owner name) = owner
owner_of (Stringifier owner) = owner

-- `f#K`, `static f#K`, `constructor#K`, `get A`, `set A`, `toString`
abbrev pub part_signs : Target → List Sign
part_signs (Operation owner name false k) = OfOperationName name ∷ overload_signs k
part_signs (Operation owner name true k) = word terminal.Static ⧺ target_name name ⧺ overload_signs k
part_signs (Constructor owner k) = word terminal.Constructor ⧺ overload_signs k
part_signs (Getter owner name) = word terminal.Get ⧺ target_name name
part_signs (Setter owner name) = word terminal.Set ⧺ target_name name
part_signs (Stringifier owner) = word terminal.ToString

-- `N.f#K`, `I.static f#K`, `I.constructor#K`, `I.get A`, `I.set A`, `I.toString`
abbrev pub target_signs : Target → List Sign
target_signs t = target_name (owner_of t) ⧺ word terminal.Dot ⧺ part_signs t
