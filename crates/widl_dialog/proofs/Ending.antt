-- Each run ends where charges are paid and rules are calm.
use Rattle.std.specs.Prelude.{◌≡◌, ℕ, zero, suc, ◌<◌, ◌≤◌, refl, Bool, true, false}
use Rattle.std.proofs.Common.{subst, arith}
use mathlib.Core.Logic.{inl, inr}
use Rattle.widl_dialog.specs.Dialog.{Dialog, End, Say, Steps}
use Rattle.widl_dialog.specs.Runs.{Did, Went, Stops, Finish, Ended, Halted, Does}
use Rattle.widl_dialog.specs.Calm.{Ranks, unless, Below, Leaves, Calm, Spends, Calming}
use Rattle.widl_dialog.specs.Laws.{EachEnds}
use Rattle.widl_dialog.proofs.Running.{does_said, does_stop, does_join, does_halt, does_steps}

module _ {J Q A R W S : Type 0} (rule : J → Dialog J Q A R) (act : Q → W → Did W A S) (units : W → ℕ) (ranks : Ranks J Q) (calming : Calming rule act units ranks) where
  -- an outcome, what is left there, and that less is left where the steps spend
  record Out (d : Dialog J Q A R) (w : W) : Type 0 where
    pub world : W
    pub finish : Finish R S
    pub does : Does rule act d w world finish
    pub less : units world ≤ units w
    pub spent : (r : R) → finish ≡ Ended r → Spends ranks d → units world < units w

  -- an action, and what comes after it
  said_out : (q : Q) (k : A → Dialog J Q A R) (w : W) (p : Bool) (did : Did W A S) → act q w ≡ did → ranks.pays q ≡ p → Leaves units p w did → ((v : W) (a : A) → did ≡ Went v a → Out (k a) v) → Out (Say q k) w
  said_out q k w p (Stops s) is pay leave go = record { world = w; finish = Halted s; does = does_stop rule act q k s w is; less = omega arith; spent = λ r e h. absurd (cc) }
  said_out q k w true (Went v a) is pay leave go =
      let o = go v a refl in
      record { world = o.world; finish = o.finish; does = does_said rule act q k a is o.does; less = omega (arith, o.less); spent = λ r e h. omega (arith, o.less) }
  said_out q k w false (Went v a) is pay leave go =
      let o = go v a refl in
      record {
        world = o.world;
        finish = o.finish;
        does = does_said rule act q k a is o.does;
        less = omega (arith, o.less);
        spent = λ r e h. let all : (b : A) → Spends ranks (k b) = subst (λ (x : Bool). unless x ((b : A) → Spends ranks (k b))) pay h in let s : units o.world < units v = o.spent r e (all a) in omega (arith, s);
      }

  -- a job, and what comes after it
  steps_out : (j : J) (k : R → Dialog J Q A R) (w : W) (p : Bool) (o : Out (rule j) w) (f : Finish R S) → o.finish ≡ f → ranks.spends j ≡ p → ((r : R) → f ≡ Ended r → Out (k r) o.world) → Out (Steps j k) w
  steps_out j k w p o (Halted s) is sp go = record {
    world = o.world;
    finish = Halted s;
    does = does_steps rule act {j = j} {k = k} (does_halt rule act k (subst (λ (x : Finish R S). Does rule act (rule j) w o.world x) is o.does));
    less = o.less;
    spent = λ r e h. absurd (cc);
  }
  steps_out j k w p o (Ended r) is sp go =
      let n = go r refl in
      record {
        world = n.world;
        finish = n.finish;
        does = does_steps rule act {j = j} {k = k} (does_join rule act k (subst (λ (x : Finish R S). Does rule act (rule j) w o.world x) is o.does) n.does);
        less = omega (arith, o.less, n.less);
        spent = λ q e h. spent_steps p sp q e h;
      }
    where
      spent_steps : (b : Bool) → ranks.spends j ≡ b → (q : R) → (go r refl).finish ≡ Ended q → unless (ranks.spends j) ((x : R) → Spends ranks (k x)) → units (go r refl).world < units w
      spent_steps true e q at h = let s = o.spent r is (calming.spends j e) in omega (arith, s, (go r refl).less)
      spent_steps false e q at h =
          let all : (x : R) → Spends ranks (k x) = subst (λ (b : Bool). unless b ((x : R) → Spends ranks (k x))) e h in
          let s = (go r refl).spent q at (all r) in omega (arith, s, o.less)

  -- after an action: what pays leaves less, and what does not leaves a calm tree
  after_action : (u m n : ℕ) (q : Q) (k : A → Dialog J Q A R) (w : W) → units w ≤ u → ((d : Dialog J Q A R) (w : W) → units w < u → Out d w) → (((a : A) → Calm ranks m n (k a)) → (a : A) (v : W) → units v ≤ u → Out (k a) v) → (p : Bool) → ranks.pays q ≡ p → unless (ranks.pays q) ((a : A) → Calm ranks m n (k a)) → (v : W) (a : A) → act q w ≡ Went v a → Out (k a) v
  after_action u m n q k w h below deeper true e c v a is =
      let left : units v < units w = subst (λ (x : Did W A S). Leaves units true w x) is (subst (λ (p : Bool). Leaves units p w (act q w)) e (calming.leaves q w)) in
      below (k a) v (omega arith)
  after_action u m n q k w h below deeper false e c v a is =
      let left : units v ≤ units w = subst (λ (x : Did W A S). Leaves units false w x) is (subst (λ (p : Bool). Leaves units p w (act q w)) e (calming.leaves q w)) in
      deeper (subst (λ (p : Bool). unless p ((a : A) → Calm ranks m n (k a))) e c) a v (omega arith)

  after_task : (u m n : ℕ) (j : J) (k : R → Dialog J Q A R) (w : W) → units w ≤ u → ((d : Dialog J Q A R) (w : W) → units w < u → Out d w) → (((r : R) → Calm ranks m n (k r)) → (r : R) (v : W) → units v ≤ u → Out (k r) v) → (o : Out (rule j) w) (p : Bool) → ranks.spends j ≡ p → unless (ranks.spends j) ((r : R) → Calm ranks m n (k r)) → (r : R) → o.finish ≡ Ended r → Out (k r) o.world
  after_task u m n j k w h below deeper o true e c r is = let s = o.spent r is (calming.spends j e) in below (k r) o.world (omega (arith, s))
  after_task u m n j k w h below deeper o false e c r is = deeper (subst (λ (p : Bool). unless p ((r : R) → Calm ranks m n (k r))) e c) r o.world (omega (arith, o.less))

  -- below a bound on what is left each tree ends, and so do the tasks below these ranks
  walk : (u m n : ℕ) → ((d : Dialog J Q A R) (w : W) → units w < u → Out d w) → ((j : J) → Below ranks.high ranks.low m n j → (w : W) → units w ≤ u → Out (rule j) w) → (d : Dialog J Q A R) → Calm ranks m n d → (w : W) → units w ≤ u → Out d w
  walk u m n below lower (End r) c w h = record { world = w; finish = Ended r; does = record { steps = 1; runs = (refl, refl) }; less = omega arith; spent = λ q e s. absurd s }
  walk u m n below lower (Say q k) c w h = said_out q k w (ranks.pays q) (act q w) refl refl (calming.leaves q w) (after_action u m n q k w h below (λ all a v. walk u m n below lower (k a) (all a) v) (ranks.pays q) refl c)
  walk u m n below lower (Steps j k) c w h =
      let o = lower j c.0 w h in
      steps_out j k w (ranks.spends j) o o.finish refl refl (after_task u m n j k w h below (λ all r v. walk u m n below lower (k r) (all r) v) o (ranks.spends j) refl c.1)

  lower_of : (u m n : ℕ) → ((i : J) → ranks.high i < m → (w : W) → units w ≤ u → Out (rule i) w) → ((i : J) → ranks.high i ≡ m → ranks.low i < n → (w : W) → units w ≤ u → Out (rule i) w) → (i : J) → Below ranks.high ranks.low m n i → (w : W) → units w ≤ u → Out (rule i) w
  lower_of u m n above beside i (inl s) w h = above i s w h
  lower_of u m n above beside i (inr s) w h = beside i s.0 s.1 w h

  -- each task with this first rank ends below the bound
  lows : (u m : ℕ) → ((d : Dialog J Q A R) (w : W) → units w < u → Out d w) → ((i : J) → ranks.high i < m → (w : W) → units w ≤ u → Out (rule i) w) → (n : ℕ) (j : J) → ranks.high j ≡ m → ranks.low j < n → (w : W) → units w ≤ u → Out (rule j) w
  lows u m below above zero j e r w h = absurd (omega arith)
  lows u m below above (suc n) j e r w h =
      walk u m (ranks.low j) below (lower_of u m (ranks.low j) above (λ i f s. lows u m below above n i f (omega arith))) (rule j) (subst (λ (k : ℕ). Calm ranks k (ranks.low j) (rule j)) e (calming.calm j)) w h

  lowers : (u : ℕ) → ((d : Dialog J Q A R) (w : W) → units w < u → Out d w) → (m : ℕ) (j : J) → ranks.high j < m → (w : W) → units w ≤ u → Out (rule j) w
  lowers u below zero j r w h = absurd (omega arith)
  lowers u below (suc m) j r w h = lows u (ranks.high j) below (λ i s. lowers u below m i (omega arith)) (suc (ranks.low j)) j refl (omega arith) w h

  -- each tree ends below the bound
  any : (u : ℕ) → ((j : J) (w : W) → units w ≤ u → Out (rule j) w) → (d : Dialog J Q A R) (w : W) → units w ≤ u → Out d w
  any u tasks (End r) w h = record { world = w; finish = Ended r; does = record { steps = 1; runs = (refl, refl) }; less = omega arith; spent = λ q e s. absurd s }
  any u tasks (Say q k) w h = said_out q k w (ranks.pays q) (act q w) refl refl (calming.leaves q w) (λ v a is. any u tasks (k a) v (kept q w v a (ranks.pays q) refl is h))
    where
      kept : (q : Q) (w v : W) (a : A) (p : Bool) → ranks.pays q ≡ p → act q w ≡ Went v a → units w ≤ u → units v ≤ u
      kept q w v a true e is h =
          let left : units v < units w = subst (λ (x : Did W A S). Leaves units true w x) is (subst (λ (p : Bool). Leaves units p w (act q w)) e (calming.leaves q w)) in omega arith
      kept q w v a false e is h =
          let left : units v ≤ units w = subst (λ (x : Did W A S). Leaves units false w x) is (subst (λ (p : Bool). Leaves units p w (act q w)) e (calming.leaves q w)) in omega arith
  any u tasks (Steps j k) w h =
      let o = tasks j w h in
      steps_out j k w (ranks.spends j) o o.finish refl refl (λ r is. any u tasks (k r) o.world (omega (arith, o.less)))

  ends_below : (u : ℕ) (d : Dialog J Q A R) (w : W) → units w < u → Out d w
  ends_below zero d w h = absurd (omega arith)
  ends_below (suc u) d w h = any u (λ j w h. lowers u (ends_below u) (suc (ranks.high j)) j (omega arith) w h) d w (omega arith)

  -- each run ends
  pub ends : EachEnds rule act
  ends d w = let o = ends_below (suc (units w)) d w (omega arith) in record { world = o.world; finish = o.finish; does = o.does }
