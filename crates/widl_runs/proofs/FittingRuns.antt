-- For proofs alone. Each place that the run of a script comes to fits.
use Rattle.std.proofs.Common.{◌≡◌, ℕ, ◌+◌, ◌-◌, ◌≤◌, ◌^◌, List, arith, subst}
use Rattle.widl_dialog.specs.Dialog.{End, Say, Steps, bind}
use Rattle.widl_dialog.specs.Credit.{Owes, MovesLevel}
use Rattle.widl_dialog.specs.Runs.{Did, Went}
use Rattle.widl_dialog.proofs.Crediting.{owes_bind}
use Rattle.widl_store.specs.Objects.{Obj}
use Rattle.widl_store.specs.Realm.{realm_of}
use Rattle.widl_steps.specs.CallTasks.{CallTask, Of, Function}
use Rattle.widl_runs.specs.Ends.{JobEnd}
use Rattle.widl_runs.specs.declared.stop.Stop.{Stop}
use Rattle.widl_runs.specs.Worlds.{World}
use Rattle.widl_runs.specs.Actions.{Action, Pay, Write, TestDepth, Enter, Leave, FindBody, ReadThis, ReadName, BindName, TakeSymbol, AddObject, FindProperty, PutProperty, DefineProperty, DeleteProperty, FindKeys, FindOwn, FindInner, ChangePart, Reach, Reply, act}
use Rattle.widl_runs.specs.Jobs.{Program, Job, RunStatements, RunStatement, Evaluate, EvaluateRow, ReadMember, SetMember, DefineMember, DefineAccessor, DeleteMember, CallValue, ConstructValue, Talk, Asked, Fail, Doing}
use Rattle.widl_runs.specs.Rules.{rule}
use Rattle.widl_runs.specs.Traces.{first_world}
use Rattle.widl_runs.specs.Fitting.{IsRunnable, Comes, here, said, begun, HasPrototypes, FitsAction, FitsCall, FitsJob, FitsPlace}
use Rattle.widl_runs.specs.Laws.{ScriptsFit}
use Rattle.widl_runs.proofs.LiveParts.{Grows, LiveEnd, more_reply}
use Rattle.widl_runs.proofs.LiveJobs.{LiveAction, LiveCall, LiveJob, LiveJobEnd, HasShape, Safe, safe_bind}
use Rattle.widl_runs.proofs.LiveSteps.{safe, safe_whole}
use Rattle.widl_runs.proofs.LiveWorlds.{LiveWorld, Lives, LivesOn, ShapedDid, more_prototypes, lives, shaped}
use Rattle.widl_runs.proofs.LiveRealm.{first_live}
use Rattle.widl_runs.proofs.ObjectCredit.{gives, takes, made_level, moves_made, fair, fair_whole}

-- the objects and symbols that can be numbered together
abbrev most_made : ℕ
most_made = 2 ^ 32 - 1

module _ (p : Program) (runnable : IsRunnable p.script) where
  -- with this credit there is room for what the steps add, and all that they hold is live
  record Fit (d : Doing) (w : World) : Type 0 where
    credit : ℕ
    owed : Owes gives takes credit d
    room : made_level w + credit ≤ most_made
    live : LiveWorld w
    holds : (more : List Obj) → Grows w.store.objects more → Safe p more (LiveEnd more) d

  went_level : (q : Action) (r : Reply) (w v : World) → act p.list q w ≡ Went v r → made_level v + gives q ≤ made_level w + takes q
  went_level q r w v is = subst (λ (did : Did World Reply Stop). MovesLevel made_level (gives q) (takes q) w did) is (moves_made p.list q w)

  went_live : (q : Action) (r : Reply) (w v : World) → act p.list q w ≡ Went v r → LiveWorld w → LiveAction p w.store.objects q → Lives w v r
  went_live q r w v is l a = subst (λ (did : Did World Reply Stop). LivesOn w did) is (lives p q w l a)

  went_shape : (q : Action) (r : Reply) (w v : World) → act p.list q w ≡ Went v r → HasShape q r
  went_shape q r w v is = subst (ShapedDid q) is (shaped p.list q w)

  said_fit : (q : Action) (k : Reply → Doing) (r : Reply) (w v : World) → act p.list q w ≡ Went v r → Fit (Say q k) w → Fit (k r) v
  said_fit q k r w v is x =
      let level = went_level q r w v is in
      let on = went_live q r w v is x.live (x.holds w.store.objects (λ o l. l)).0 in
      record {
        credit = x.credit - takes q + gives q;
        owed = x.owed.1 r;
        room = (let few = x.owed.0 in let room = x.room in omega (arith, level, few, room));
        live = on.world;
        holds = λ more g. (x.holds more (λ o l. g o (on.grows o l))).1 r (more_reply v.store.objects more g r on.reply, went_shape q r w v is);
      }

  begun_fit : (j : Job) (k : JobEnd → Doing) (w : World) → Fit (Steps j k) w → Fit (bind (rule p j) k) w
  begun_fit j k w x = record {
    credit = 0 + x.credit;
    owed = owes_bind (rule p) (act p.list) made_level gives takes (rule p j) k 0 x.credit (fair p j) x.owed;
    room = (let room = x.room in omega (arith, room));
    live = x.live;
    holds = λ more g.
        let held = x.holds more g in
        safe_bind p more (LiveJobEnd more j) (LiveEnd more) (rule p j) k (safe p runnable more (more_prototypes w.store.objects more g x.live.prototypes) j held.0) held.1;
  }

  comes_fit : {e : Doing} {u : World} {d : Doing} {w : World} → Comes p e u d w → Fit d w → Fit e u
  comes_fit here x = x
  comes_fit (said q k r w v is c) x = comes_fit c (said_fit q k r w v is x)
  comes_fit (begun j k w c) x = comes_fit c (begun_fit j k w x)

  fits_action : (q : Action) (w : World) (credit : ℕ) → takes q ≤ credit → made_level w + credit ≤ most_made → HasPrototypes w.store.objects → LiveAction p w.store.objects q → FitsAction p q w
  fits_action Pay w n few room first a = tt
  fits_action (Write event) w n few room first a = tt
  fits_action TestDepth w n few room first a = tt
  fits_action (Enter context) w n few room first a = tt
  fits_action Leave w n few room first a = tt
  fits_action (FindBody object) w n few room first a = a
  fits_action ReadThis w n few room first a = tt
  fits_action (ReadName name) w n few room first a = tt
  fits_action (BindName name v) w n few room first a = tt
  fits_action TakeSymbol w n few room first a = omega (arith, few, room)
  fits_action (AddObject plan) w n few room first a = (omega (arith, few, room), first, a.0)
  fits_action (FindProperty object key) w n few room first a = a
  fits_action (PutProperty object key v) w n few room first a = a.0
  fits_action (DefineProperty object key prop) w n few room first a = a.0
  fits_action (DeleteProperty object key) w n few room first a = a
  fits_action (FindKeys object) w n few room first a = a
  fits_action (FindOwn object key) w n few room first a = a
  fits_action (FindInner object) w n few room first a = a
  fits_action (ChangePart object change) w n few room first a = a.0
  fits_action (Reach end) w n few room first a = tt

  fits_place : (d : Doing) (w : World) → Fit d w → FitsPlace p d w
  fits_place (End c) w x = tt
  fits_place (Say q k) w x = fits_action q w x.credit x.owed.0 x.room x.live.prototypes (x.holds w.store.objects (λ o l. l)).0
  fits_place (Steps j k) w x = fits_job j (x.holds w.store.objects (λ o l. l)).0
    where
      fits_call : (t : CallTask) → LiveCall w.store.objects t → FitsCall t
      fits_call (Of t) l = tt
      fits_call (Function f what this args construct) l = l.2

      fits_job : (j : Job) → LiveJob p w.store.objects j → FitsJob j
      fits_job (RunStatements ss) l = tt
      fits_job (RunStatement s) l = tt
      fits_job (Evaluate e) l = tt
      fits_job (EvaluateRow what vs es) l = tt
      fits_job (ReadMember of key) l = tt
      fits_job (SetMember of key v) l = tt
      fits_job (DefineMember of key v hidden) l = tt
      fits_job (DefineAccessor of key getter setter) l = tt
      fits_job (DeleteMember of key) l = tt
      fits_job (CallValue f this args) l = tt
      fits_job (ConstructValue f args) l = tt
      fits_job (Talk task) l = fits_call task l
      fits_job (Asked ask) l = tt
      fits_job (Fail why) l = tt

pub scripts_fit : (p : Program) (budget : ℕ) → ScriptsFit p budget
scripts_fit p budget runnable small = record {
  each = λ e u c.
      let live = first_live p.list budget in
      let w : World = first_world (realm_of p.list) budget in
      fits_place p runnable e u (comes_fit p runnable c (record {
        credit = 0;
        owed = fair_whole p;
        room = omega (arith, small);
        live = live;
        holds = λ more g. safe_whole p runnable more (more_prototypes w.store.objects more g live.prototypes);
      }));
}
