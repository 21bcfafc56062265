-- The machine's stack, and what its steps do.
use Rattle.std.specs.Prelude.{◌≡◌, ℕ, ◌<◌, ◌||◌, Option, Some, None, List, [], ◌∷◌, ◌++◌, Bool, false}
use Rattle.widl_predictive.specs.declared.machine.Frame.{Frame}
use Rattle.widl_predictive.specs.declared.machine.Frame.TheVariants.{Wanted, Open}
use Rattle.widl_predictive.specs.declared.machine.Top.{Top}
use Rattle.widl_predictive.specs.declared.machine.Top.TheVariants as top
use Rattle.widl_predictive.specs.declared.fault.Fault.{Fault}
use Rattle.widl_predictive.specs.declared.fault.Fault.TheVariants.{Syntax, TooDeep, Memory}
use Rattle.widl_predictive.specs.Derivation.{Symbol, Terminal, Nonterminal}
use Rattle.widl_predictive.specs.Grammar as gr
use Rattle.widl_predictive.specs.Grammar.{Grammar, Leveled}
use Rattle.widl_predictive.specs.Lookahead as look
use Rattle.widl_predictive.specs.Lookahead.{Sets}

abbrev pub symbol_of : {T R : Type 0} → Frame T R → Symbol T (Leveled R)
symbol_of (Wanted t) = Terminal t
symbol_of (Open r l) = Nonterminal (r, l)

-- the frames' symbols, the last frame's first, before s
abbrev pub stack_on : {T R : Type 0} → List (Frame T R) → List (Symbol T (Leveled R)) → List (Symbol T (Leveled R))
stack_on [] s = s
stack_on (f ∷ more) s = stack_on more (symbol_of f ∷ s)

-- the stack, its top first
abbrev pub stack_of : {T R : Type 0} → List (Frame T R) → List (Symbol T (Leveled R))
stack_of frames = stack_on frames []

-- the stack that what was taken from its top makes with the rest; where there was nothing to be taken it is empty
abbrev pub topped : {T R : Type 0} → Top T R → List (Symbol T (Leveled R)) → List (Symbol T (Leveled R))
topped (top.Wanted t) s = Terminal t ∷ s
topped (top.Open r l) s = Nonterminal (r, l) ∷ s
topped top.Nothing s = []

module _ {T R : Type 0} (g : Grammar T R) (s : Sets T R) where
  -- one stack comes from another by rows that what is ahead picks; the flag tells whether a level that is too deep was among them
  pub data Unfolds (l : Option T) : List (Symbol T (Leveled R)) → List (Symbol T (Leveled R)) → Bool → Type 0 where
    same : {z : List (Symbol T (Leveled R))} → Unfolds l z z false
    more : {n : Leveled R} {z t : List (Symbol T (Leveled R))} {b : Bool} (α : List (Symbol T (Leveled R))) → look.pick g s n l ≡ Some α → Unfolds l (α ++ z) t b → Unfolds l (Nonterminal n ∷ z) t (gr.is_deep g n || b)

  -- where the rows end: a token is wanted, nothing is left, or what is ahead picks no row of the rule on top
  abbrev pub EndsAt : Option T → Top T R → Type 0
  EndsAt l (top.Wanted t) = Unit {0}
  EndsAt l (top.Open r v) = look.choice g s r l ≡ None
  EndsAt l top.Nothing = Unit {0}

-- no level that is too deep begins below place k
module _ {T R : Type 0} (g : Grammar T R) where
  abbrev pub NoDeepBelow : R → List T → ℕ → Type 0
  NoDeepBelow r w k = (j : ℕ) → j < k → gr.DeepAt g r w j → ⊥

  -- what the machine knows where it stops
  abbrev pub IsFound : R → List T → Fault → Type 0
  IsFound r w (Syntax k) = gr.SyntaxPlace g r w k × NoDeepBelow r w k
  IsFound r w (TooDeep k) = gr.DeepPlace g r w k
  IsFound r w Memory = Unit {0}
