-- For proofs alone. The places that steps come to, and what fits there.
use Rattle.std.proofs.Common.{◌≡◌, ℕ, zero, suc, ◌<◌, List, [], length, refl, sym, ap, subst}
use Rattle.widl_dialog.specs.Dialog.{End, Say, Steps, bind}
use Rattle.widl_dialog.specs.Position.{After, At}
use Rattle.std.proofs.lemmas.List.{length-map}
use Rattle.std.proofs.lemmas.Option.{slice_get-get_or}
use Rattle.widl_idl.specs.MergedSets.{MergedSet}
use Rattle.widl_script_tree.specs.Tables.{Tables, name_at, key_at, name_or, function_tree, script_tree}
use Rattle.widl_store.specs.Objects.{Obj, StoreState}
use Rattle.widl_runs.specs.Jobs.{Program, Doing}
use Rattle.widl_runs.specs.Worlds.{World}
use Rattle.widl_engine.specs.declared.due.Due.{Due}
use Rattle.widl_engine.specs.declared.due.Due.TheVariants as due
use Rattle.widl_engine.specs.declared.due.NewObject.{NewObject}
use Rattle.widl_engine.specs.declared.due.NewObject.TheVariants as new
use Rattle.widl_engine.specs.declared.machine.Machine.{Machine}
use Rattle.widl_engine.specs.declared.moves.Move.{Move}
use Rattle.widl_engine.specs.declared.moves.Move.TheVariants as move
use Rattle.widl_engine.specs.Added.{CanBeAdded}
use Rattle.widl_engine.specs.Fits.{Fits}
use Rattle.widl_runs.specs.Fitting.{Comes, here, said, begun, CanBeMade, FitsJob, FitsPlace, KeepsFitting}
use Rattle.widl_runs.specs.Rules.{rule}
use Rattle.widl_engine.specs.declared.frames.Frame.{Frame}
use Rattle.widl_engine.specs.declared.jobs.Job as jobs
use Rattle.widl_engine.specs.Frames.{job_of, new_of, program_of, Wants}
use Rattle.widl_engine.specs.Machine.{world, moves_on, Leads, MachineFits}

pub comes_same : {p : Program} {d e : Doing} {w u : World} → d ≡ e → w ≡ u → Comes p e u d w
comes_same {p = p} {d = d} {e = e} {w = w} {u = u} tree there = subst (λ (x : Doing). Comes p x u d w) tree (subst (λ (o : World). Comes p d o d w) there here)

pub comes_then : {p : Program} {e : Doing} {u : World} {g : Doing} {o : World} {d : Doing} {w : World} → Comes p e u d w → Comes p g o e u → Comes p g o d w
comes_then here y = y
comes_then (said q k r w v is x) y = said q k r w v is (comes_then x y)
comes_then (begun j k w x) y = begun j k w (comes_then x y)

-- jobs alone come to where they lead
pub comes_after : {p : Program} (m : ℕ) (d e : Doing) (w : World) → After (rule p) Wants m d [] e → Comes p e w d w
comes_after zero d e w x = comes_same x refl
comes_after (suc m) (End c) e w x = absurd x
comes_after (suc m) (Say q k) e w x = absurd x
comes_after {p = p} (suc m) (Steps j k) e w x = begun j k w (comes_after m (bind (rule p j) k) e w x)

pub comes_at : {p : Program} {d e : Doing} → At (rule p) Wants d [] e → (w : World) → Comes p e w d w
comes_at {d = d} {e = e} x w = comes_after x.steps d e w x.after

-- what fits at a place fits at each place after it
pub keeps_on : {p : Program} {d e : Doing} {w u : World} → Comes p e u d w → KeepsFitting p d w → KeepsFitting p e u
keeps_on x fits = record { each = λ g o y. fits.each g o (comes_then x y) }

-- a number below that of the names is that of a key
pub number_named : (s : Tables) (k : ℕ) → k < length s.names → name_at s k ≡ key_at s k
number_named s k less = ap (name_or k) (slice_get-get_or s.names k [] less)

-- a script's tree has as many functions as its tables
functions_in : (s : Tables) → length (script_tree s).functions ≡ length s.functions
unfolding script_tree
functions_in s = length-map s.functions (function_tree s)

module _ (set : MergedSet) (s : Tables) (objects : List Obj) where
  can_be_added : (n : NewObject) → CanBeMade (program_of set s) objects (new_of s n) → CanBeAdded s objects n
  can_be_added (new.Ordinary proto) x = x.0
  can_be_added (new.Function number) x = subst (λ (k : ℕ). number < k) (functions_in s) x.1
  can_be_added new.Error x = tt
  can_be_added (new.Asked what) x = tt

module _ (set : MergedSet) (s : Tables) where
  -- what the action of a place asks for, the due action asks for
  pub fits_due : (t : StoreState) (m : Machine) (d : Due) → MachineFits (program_of set s) s t (moves_on (program_of set s) s (move.Acts d) m) m → Fits s t.objects m.place.next_symbol d
  fits_due t m d x = at d (x.keeps.each _ _ here)
    where
      at : (d : Due) → FitsPlace (program_of set s) (moves_on (program_of set s) s (move.Acts d) m) (world s t m m.budget x.lines) → Fits s t.objects m.place.next_symbol d
      at (due.Depth f this args b) y = tt
      at (due.DepthOfNew f args) y = tt
      at (due.Enter number this args) y = tt
      at (due.EnterBuiltin f function this args) y = tt
      at (due.Leave c) y = tt
      at (due.FindBody f this args) y = y
      at (due.FindConstructor f args) y = y
      at due.ReadThis y = tt
      at (due.ReadName name) y = tt
      at (due.Bind name v then) y = tt
      at due.TakeSymbol y = y
      at (due.Add n then) y = (y.0, y.1, can_be_added set s t.objects n y.2)
      at (due.Find object key) y = y
      at (due.Put object key v) y = y
      at (due.Define object key prop) y = y
      at (due.Delete object key) y = y
      at (due.FindKeys object) y = y
      at (due.FindOwn object key) y = y
      at (due.Look object what) y = y
      at (due.Change object change) y = y
      at (due.Reach end) y = tt

  pub fits_move : (t : StoreState) (m : Machine) (current : Move) (d : Due) → current ≡ move.Acts d → MachineFits (program_of set s) s t (moves_on (program_of set s) s current m) m → Fits s t.objects m.place.next_symbol d
  fits_move t m current d is x = fits_due t m d (subst (λ (c : Move). MachineFits (program_of set s) s t (moves_on (program_of set s) s c m) m) is x)

module _ (p : Program) (s : Tables) where
  -- where a machine fits, it fits at the next move
  pub fits_on : {t u : StoreState} {d e : Doing} {m n : Machine} → Leads p s t d m u e n → MachineFits p s t d m → MachineFits p s u e n
  fits_on {u = u} {e = e} {m = m} {n = n} x fits = record {
    lines = fits.lines;
    keeps = subst (λ (b : ℕ). KeepsFitting p e (world s u n b fits.lines)) (sym x.budget) (keeps_on (x.comes m.budget fits.lines) fits.keeps);
  }

  -- a move that is known
  pub fits_known : (t : StoreState) (m : Machine) (current known : Move) → current ≡ known → MachineFits p s t (moves_on p s current m) m → MachineFits p s t (moves_on p s known m) m
  fits_known t m current known is x = subst (λ (c : Move). MachineFits p s t (moves_on p s c m) m) is x

  -- what the call of a function asks for, where a job begins
  pub fits_stepped : (t : StoreState) (m : Machine) (current : Move) (f : Frame) (j : jobs.Job) → current ≡ move.Steps f j → MachineFits p s t (moves_on p s current m) m → FitsJob (job_of s j)
  fits_stepped t m current f j is x = (subst (λ (c : Move). MachineFits p s t (moves_on p s c m) m) is x).keeps.each _ _ here

  pub fits_goes : (t : StoreState) (m : Machine) (current : Move) (j : jobs.Job) → current ≡ move.Goes j → MachineFits p s t (moves_on p s current m) m → FitsJob (job_of s j)
  fits_goes t m current j is x = (subst (λ (c : Move). MachineFits p s t (moves_on p s c m) m) is x).keeps.each _ _ here
