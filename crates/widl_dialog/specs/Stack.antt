-- Frames that wait for the completion of a job: what a suspended conversation still does.
use Rattle.std.specs.Prelude.{ℕ, ◌+◌, List, [], ◌∷◌, ◌++◌, Option, Some, None}
use Rattle.widl_dialog.specs.Dialog.{Dialog, End, Say, bind}

-- what the frames do with a completion, the lowest frame first
abbrev pub under : {J Q A R F : Type 0} → (F → R → Dialog J Q A R) → List F → R → Dialog J Q A R
under back [] r = End r
under back (f ∷ fs) r = bind (under back fs r) (back f)

-- what the frames add up to, where each has a number
abbrev pub stack_load : {F : Type 0} → (F → ℕ) → List F → ℕ
stack_load load [] = 0
stack_load load (f ∷ fs) = load f + stack_load load fs

-- the asks and answers with one more: the ask that was out, if one was, and its answer
abbrev pub longer : {Q A : Type 0} → List (Q × A) → Option Q → A → List (Q × A)
longer said None a = said
longer said (Some q) a = said ++ (q, a) ∷ []

-- what is left with the ask that is out; where none is, what is left after the answer that stands for the beginning
abbrev pub still : {J Q A R : Type 0} → A → (A → Dialog J Q A R) → Option Q → Dialog J Q A R
still begin rest None = rest begin
still begin rest (Some q) = Say q rest
