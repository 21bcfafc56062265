-- What the look-ahead makes of tokens, without levels: for builders, which read tokens that are known to be a sentence.
use Rattle.std.specs.Prelude.{◌≡◌, Option, Some, List, [], ◌∷◌, ◌++◌, Bool, true, false}
use Rattle.widl_predictive.specs.declared.grammar.Symbol.{Symbol as RowSymbol}
use Rattle.widl_predictive.specs.declared.grammar.Symbol.TheVariants.{Token, Part, Inner}
use Rattle.widl_predictive.specs.declared.machine.Frame.{Frame}
use Rattle.widl_predictive.specs.Derivation.{Symbol, Terminal, Nonterminal}
use Rattle.widl_predictive.specs.Predictive.{ahead}
use Rattle.widl_predictive.specs.Grammar.{Grammar, Leveled}
use Rattle.widl_predictive.specs.Lookahead as look
use Rattle.widl_predictive.specs.Lookahead.{Sets}
use Rattle.widl_predictive.specs.Machine.{stack_of}

abbrev pub plain : {T R : Type 0} → List (RowSymbol T R) → List (Symbol T R)
plain [] = []
plain (Token a ∷ s) = Terminal a ∷ plain s
plain (Part r ∷ s) = Nonterminal r ∷ plain s
plain (Inner r ∷ s) = Nonterminal r ∷ plain s

abbrev pub stripped : {T R : Type 0} → List (Symbol T (Leveled R)) → List (Symbol T R)
stripped [] = []
stripped (Terminal a ∷ s) = Terminal a ∷ stripped s
stripped (Nonterminal n ∷ s) = Nonterminal n.0 ∷ stripped s

-- what a stack's frames still have to read, without levels, the last frame's symbol first
abbrev pub left_of : {T R : Type 0} → List (Frame T R) → List (Symbol T R)
left_of frames = stripped (stack_of frames)

module _ {T R : Type 0} (g : Grammar T R) (s : Sets T R) where
  pub data Runs : List (Symbol T R) → List T → Type 0 where
    over : Runs [] []
    taken : {a : T} {z : List (Symbol T R)} {w : List T} → Runs z w → Runs (Terminal a ∷ z) (a ∷ w)
    chosen : {r : R} {z : List (Symbol T R)} {w : List T} (α : List (RowSymbol T R)) → look.choice g s r (ahead w) ≡ Some α → Runs (plain α ++ z) w → Runs (Nonterminal r ∷ z) w

  -- `true`: the next token of a part is taken; `false`: no token of the part is left. Both for whatever tokens w are still to come, l the first of them, and whatever z is to be read after the part
  abbrev pub Takes : Option T → List (Symbol T R) → List (Symbol T R) → Bool → Type 0
  Takes l before after true = (z : List (Symbol T R)) (w : List T) → ahead w ≡ l → Runs (before ++ z) w → (a : T) × (v : List T) × (w ≡ a ∷ v) × Runs (after ++ z) v
  Takes l before after false = (z : List (Symbol T R)) (w : List T) → ahead w ≡ l → Runs (before ++ z) w → Runs z w
