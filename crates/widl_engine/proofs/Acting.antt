-- For proofs alone. Actions that take no unit, as what they do to the world of a place.
use Rattle.std.proofs.Common.{◌≡◌, ℕ, ◌+◌, Bool, List, [], ◌∷◌, ◌++◌, Option, Some, length, sym, ap, ◌∙◌, refl, arith, length-append, nat_lt, if◌then◌else◌}
use Rattle.widl_dialog.specs.Runs.{Did, Went, Stops}
use Rattle.widl_text.specs.Limits.{most_open_calls}
use Rattle.widl_value.specs.declared.object.ObjRef.{ObjRef}
use Rattle.widl_script_tree.specs.Tables.{Tables}
use Rattle.widl_store.specs.Objects.{StoreState}
use Rattle.widl_trace.specs.EventTerms.{EventTerm}
use Rattle.widl_runs.specs.declared.stop.Stop.{Stop}
use Rattle.widl_runs.specs.declared.stop.Stop.TheVariants as stops
use Rattle.widl_runs.specs.Actions.{Reply, IsDone, IsObject, TestDepth, act}
use Rattle.widl_engine.specs.declared.due.Due.TheVariants as due
use Rattle.widl_engine.specs.declared.due.Made.{Made}
use Rattle.widl_engine.specs.declared.due.NewObject.{NewObject}
use Rattle.widl_engine.specs.Added.{IsAdded}
use Rattle.widl_engine.specs.Frames.{new_of, after_add}
use Rattle.widl_runs.specs.Jobs.{Program}
use Rattle.widl_runs.specs.Worlds as worlds
use Rattle.widl_runs.specs.Worlds.{World}
use Rattle.widl_engine.specs.declared.contexts.Context.{Context}
use Rattle.widl_engine.specs.declared.contexts.Place.{Place}
use Rattle.widl_engine.specs.declared.due.Due.{Due}
use Rattle.widl_engine.specs.declared.moves.Move.{Move}
use Rattle.widl_engine.specs.Frames.{act_of, after, move_of}
use Rattle.widl_engine.specs.Place.{context_of, outer_of, contexts_of, contexts_in, world_of, Performed}

abbrev pub Done : Type 0
Done = Did World Reply Stop

pub performed : {p : Program} {s : Tables} {due : Due} {t u : StoreState} {x y : Place} {next : Move} (r : Reply) → ((k : ℕ) (ls : List EventTerm) → act p.list (act_of p s due) (world_of s t x k ls) ≡ Went (world_of s u y k ls) r) → move_of p s next ≡ after p s due r → Performed p s due t x u y next
performed r went goes = record { reply = r; done = record { went = went }; goes = goes }

-- an action that changes nothing, and replies what is seen
pub seen : {p : Program} {s : Tables} {due : Due} {t : StoreState} {x : Place} {next : Move} (q r : Reply) → ((k : ℕ) (ls : List EventTerm) → act p.list (act_of p s due) (world_of s t x k ls) ≡ Went (world_of s t x k ls) q) → q ≡ r → move_of p s next ≡ after p s due r → Performed p s due t x t x next
seen {s = s} {t = t} {x = x} q r went same goes = performed r (λ k ls. went k ls ∙ ap (λ (a : Reply). let d : Done = Went (world_of s t x k ls) a in d) same) goes

pub outer_push : (s : Tables) (cs : List Context) (c : Context) → outer_of s (cs ++ c ∷ []) ≡ context_of s c ∷ outer_of s cs
outer_push s [] c = refl
outer_push s (d ∷ cs) c = ap (λ (l : List worlds.Context). l ++ context_of s d ∷ []) (outer_push s cs c)

length_outer : (s : Tables) (cs : List Context) → length (outer_of s cs) ≡ length cs
length_outer s [] = refl
length_outer s (c ∷ cs) = let e = length-append (outer_of s cs) (context_of s c ∷ []) in let h = length_outer s cs in omega (arith, e, h)

pub room : (s : Tables) (x : Place) (c : Context) (n : ℕ) → x.here ≡ Some c → n ≡ length x.outer.items → nat_lt (n + 1) 100 ≡ nat_lt (length (contexts_in s x)) most_open_calls
room s x c n here size =
    let open_calls : n + 1 ≡ length (contexts_in s x) = (
    let e : length (contexts_in s x) ≡ length (context_of s c ∷ outer_of s x.outer.items) = ap (λ (h : Option Context). length (contexts_of s h x.outer.items)) here in
    let f = length_outer s x.outer.items in
    let g : length (context_of s c ∷ outer_of s x.outer.items) ≡ length (outer_of s x.outer.items) + 1 = omega arith in
    omega (arith, e, f, g, size)) in
    ap (λ (m : ℕ). nat_lt m 100) open_calls

pub has_depth : (s : Tables) (t : StoreState) (x : Place) (p : Program) (b : Bool) (k : ℕ) (ls : List EventTerm) → nat_lt (length (contexts_in s x)) most_open_calls ≡ b → act p.list TestDepth (world_of s t x k ls) ≡ (let d : Done = if b then Went (world_of s t x k ls) IsDone else Stops stops.Depth in d)
has_depth s t x p b k ls is = ap (λ (c : Bool). let d : Done = if c then Went (world_of s t x k ls) IsDone else Stops stops.Depth in d) is

pub added_performed : (p : Program) (s : Tables) (t u : StoreState) (x : Place) (new : NewObject) (what : Made) (object : ObjRef) (next : Move) → IsAdded t u object (new_of s new) → move_of p s next ≡ after_add s what (IsObject object) → Performed p s (due.Add new what) t x u x next
added_performed p s t u x new what object next is goes =
    let store = sym is.store in
    let reference = sym is.reference in
    performed (IsObject object) (λ k ls i. let d : Done = Went (world_of s (store i) x k ls) (IsObject (reference i)) in d) goes
