-- The part of a machine that actions change, as the world of its run. No rule names it.
use Rattle.std.specs.Prelude.{◌≡◌, ℕ, List, [], ◌∷◌, ◌++◌, map, Option, Some, None}
use Rattle.widl_dialog.specs.Runs.{Went, Stops}
use Rattle.widl_value.specs.declared.value.Value.{Value}
use Rattle.widl_script_tree.specs.Trees.{Text}
use Rattle.widl_script_tree.specs.Tables.{Tables, name_at, function_at}
use Rattle.widl_store.specs.Objects.{StoreState}
use Rattle.widl_trace.specs.EventTerms.{EventTerm}
use Rattle.widl_runs.specs.declared.stop.Stop.{Stop}
use Rattle.widl_runs.specs.Worlds as worlds
use Rattle.widl_runs.specs.Worlds.{World}
use Rattle.widl_runs.specs.Actions.{Action, Reply, act}
use Rattle.widl_runs.specs.Jobs.{Program}
use Rattle.widl_engine.specs.declared.contexts.Context.{Context}
use Rattle.widl_engine.specs.declared.contexts.Place.{Place}
use Rattle.widl_engine.specs.declared.due.Due.{Due}
use Rattle.widl_engine.specs.declared.moves.Move.{Move}
use Rattle.widl_engine.specs.declared.acts.Acted.{Acted}
use Rattle.widl_engine.specs.declared.acts.Acted.TheVariants as acted
use Rattle.widl_engine.specs.Frames.{act_of, after, move_of}

-- bindings by number, with the texts of the numbers
abbrev pub named : (ℕ → Text) → List (ℕ × Value) → worlds.Bindings
named text bindings = map (λ b. (text b.0, b.1)) bindings

abbrev pub names_of : Tables → Option ℕ → List Text
names_of s None = []
names_of s (Some number) = map (name_at s) (function_at s number).names

abbrev pub context_of : Tables → Context → worlds.Context
context_of s c = record { this = c.this; names = names_of s c.function; locals = named (name_at s) c.locals }

-- the contexts around, the innermost first; a machine keeps the innermost last
abbrev pub outer_of : Tables → List Context → List worlds.Context
outer_of s [] = []
outer_of s (c ∷ cs) = outer_of s cs ++ context_of s c ∷ []

abbrev pub contexts_of : Tables → Option Context → List Context → List worlds.Context
contexts_of s None outer = []
contexts_of s (Some c) outer = context_of s c ∷ outer_of s outer

abbrev pub contexts_in : Tables → Place → List worlds.Context
contexts_in s x = contexts_of s x.here x.outer.items

abbrev pub world_of : Tables → StoreState → Place → ℕ → List EventTerm → World
world_of s t x units lines = record {
  store = t;
  globals = named (name_at s) x.globals;
  next_symbol = x.next_symbol;
  lines = lines;
  units = units;
  contexts = contexts_in s x;
}

-- an action takes the one place to the other, with this reply, whatever units and lines there are
pub record Acts (p : Program) (s : Tables) (q : Action) (t : StoreState) (x : Place) (u : StoreState) (y : Place) (r : Reply) : Type 0 where
  pub went : (k : ℕ) (ls : List EventTerm) → act p.list q (world_of s t x k ls) ≡ Went (world_of s u y k ls) r

-- an action that is due is done, and the move is what comes after it
pub record Performed (p : Program) (s : Tables) (due : Due) (t : StoreState) (x : Place) (u : StoreState) (y : Place) (next : Move) : Type 0 where
  pub reply : Reply
  pub done : Acts p s (act_of p s due) t x u y reply
  pub goes : move_of p s next ≡ after p s due reply

-- an action that is due stops the run, and changes nothing
pub record Stopped (p : Program) (s : Tables) (due : Due) (t : StoreState) (x : Place) (u : StoreState) (y : Place) (stop : Stop) : Type 0 where
  pub store : u ≡ t
  pub place : y ≡ x
  pub stops : (k : ℕ) (ls : List EventTerm) → act p.list (act_of p s due) (world_of s t x k ls) ≡ Stops stop

-- what a name is bound to, where it isn't local
abbrev pub global_of : Tables → Place → ℕ → Option Value
global_of s x name = worlds.value_of (named (name_at s) x.globals) (name_at s name)

-- the one place is the other with these contexts
pub record OtherContexts (s : Tables) (x y : Place) (now : List worlds.Context) : Type 0 where
  pub globals : y.globals ≡ x.globals
  pub symbol : y.next_symbol ≡ x.next_symbol
  pub contexts : contexts_in s y ≡ now

-- what became of an action that is due
abbrev pub Performs : Program → Tables → Due → StoreState → Place → StoreState → Place → Acted → Type 0
Performs p s due t x u y (acted.Went m) = Performed p s due t x u y m
Performs p s due t x u y (acted.Stopped stop) = Stopped p s due t x u y stop
Performs p s due t x u y acted.Memory = Unit {0}
