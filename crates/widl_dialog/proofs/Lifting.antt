-- A conversation in a world.
use Rattle.std.specs.Prelude.{◌≡◌, ℕ, zero, suc, List, [], ◌∷◌, refl}
use Rattle.std.proofs.Common.{sym, ap, subst, ◌∙◌}
use Rattle.widl_dialog.specs.Dialog.{Dialog, End, Say, Steps, bind}
use Rattle.widl_dialog.specs.Conversation.{Next, Asks, Ends, Reads, Comes}
use Rattle.widl_dialog.specs.Position.{After, At}
use Rattle.widl_dialog.specs.Runs.{Did, Finish, Ended, Halted, Runs, Does}
use Rattle.widl_dialog.specs.Lift.{Ways, lift, Asked, Last, IsDone}
use Rattle.widl_dialog.specs.Laws.{RunsAreTalks}
use Rattle.widl_dialog.proofs.Bind.{bind_assoc}
use Rattle.widl_dialog.proofs.Running.{does_join, does_halt, does_steps, Parted, Through, Within, parted}
use Rattle.widl_dialog.proofs.Positions.{here, at_then, at_steps}

pub lift_bind : {J Q A R I P C B : Type 0} (ways : Ways J Q A R I B) (d : Dialog J Q A R) (k : R → Dialog J Q A R) → lift {P = P} {C = C} ways (bind d k) ≡ bind (lift ways d) (λ b. lift ways (k (ways.result b)))
lift_bind ways (End r) k = ap (λ (s : _). lift ways (k s)) (sym (ways.back r))
lift_bind ways (Say q g) k = λ i. Steps (ways.ask q) (λ b. lift_bind ways (g (ways.answer q b)) k i)
lift_bind ways (Steps j g) k = λ i. Steps (ways.task j) (λ b. lift_bind ways (g (ways.result b)) k i)

module _ {J Q A R I P C B W S : Type 0} (talk_rule : J → Dialog J Q A R) (Fits : Q → A → Type 0) (ways : Ways J Q A R I B) (rule : I → Dialog I P C B) (act : P → W → Did W C S) (same : (j : J) → rule (ways.task j) ≡ lift ways (talk_rule j)) where
  goes_on : (m : ℕ) (d : Dialog J Q A R) (said : List (Q × A)) (n : Next Q R) (w u v : W) (f : Finish B S) → Reads talk_rule Fits m d said n → Asked ways rule act said w u → Last ways rule act n u v f → Does rule act (lift ways d) w v f
  goes_on zero d said n w u v f reads asked last = absurd reads
  goes_on (suc m) (End r) [] n w u v f reads asked last =
      let l : Last ways rule act (Ends r) u v f = subst (λ (x : Next Q R). Last ways rule act x u v f) reads last in
      record { steps = 1; runs = (l.0 ∙ asked, l.1) }
  goes_on (suc m) (End r) (p ∷ said) n w u v f reads asked last = absurd reads
  goes_on (suc m) (Say q k) [] n w u v f reads asked last =
      let l : Last ways rule act (Asks q) u v f = subst (λ (x : Next Q R). Last ways rule act x u v f) reads last in
      let g : B → Dialog I P C B = λ b. lift ways (k (ways.answer q b)) in
      let halts : Does rule act (rule (ways.ask q)) w v (Halted l.0) = subst (λ (o : W). Does rule act (rule (ways.ask q)) o v (Halted l.0)) asked (subst (λ (x : Finish B S). Does rule act (rule (ways.ask q)) u v x) l.1 l.2) in
      subst (λ (x : Finish B S). Does rule act (Steps (ways.ask q) g) w v x) (sym l.1)
      (does_steps rule act {j = ways.ask q} {k = g} (does_halt rule act g halts))
  goes_on (suc m) (Say q k) (p ∷ said) n w u v f reads asked last =
      let g : B → Dialog I P C B = λ b. lift ways (k (ways.answer q b)) in
      let rest : Does rule act (lift ways (k p.1)) asked.0 v f = goes_on m (k p.1) said n asked.0 u v f reads.2 asked.4 last in
      let here : Does rule act (g asked.1) asked.0 v f = subst (λ (a : A). Does rule act (lift ways (k a)) asked.0 v f) (sym (ap (λ (o : Q). ways.answer o asked.1) (sym reads.0) ∙ asked.3)) rest in
      let done : Does rule act (rule (ways.ask q)) w asked.0 (Ended asked.1) = subst (λ (o : Q). Does rule act (rule (ways.ask o)) w asked.0 (Ended asked.1)) reads.0 asked.2 in
      does_steps rule act {j = ways.ask q} {k = g} (does_join rule act g done here)
  goes_on (suc m) (Steps j k) said n w u v f reads asked last =
      let g : B → Dialog I P C B = λ b. lift ways (k (ways.result b)) in
      let rest : Does rule act (lift ways (bind (talk_rule j) k)) w v f = goes_on m (bind (talk_rule j) k) said n w u v f reads asked last in
      let here : Does rule act (bind (rule (ways.task j)) g) w v f =
      subst (λ (d : Dialog I P C B). Does rule act d w v f) (lift_bind ways (talk_rule j) k ∙ ap (λ (d : Dialog I P C B). bind d g) (sym (same j))) rest in
      does_steps rule act {j = ways.task j} {k = g} here

  -- a whole conversation, each of whose asks is done
  pub whole : {d : Dialog J Q A R} {talk : List (Q × A)} {r : R} {w v : W} → Comes talk_rule Fits d talk (Ends r) → Asked ways rule act talk w v → Does rule act (lift ways d) w v (Ended (ways.ends r))
  whole {d = d} {talk = talk} {r = r} {w = w} {v = v} comes asked = goes_on comes.0 d talk (Ends r) w v v (Ended (ways.ends r)) comes.1 asked (refl, refl)

  -- a conversation of which an ask halts
  pub halted : {d : Dialog J Q A R} {said : List (Q × A)} {q : Q} {w u v : W} {s : S} → Comes talk_rule Fits d said (Asks q) → Asked ways rule act said w u → Does rule act (rule (ways.ask q)) u v (Halted s) → Does rule act (lift ways d) w v (Halted s)
  halted {d = d} {said = said} {q = q} {w = w} {u = u} {v = v} {s = s} comes asked halts = goes_on comes.0 d said (Asks q) w u v (Halted s) comes.1 asked (s, refl, halts)

  -- both, whichever it is
  pub talk_runs : (d : Dialog J Q A R) (w v : W) (f : Finish B S) → IsDone ways rule act talk_rule Fits d w v f → Does rule act (lift ways d) w v f
  talk_runs d w v f x = goes_on x.comes.0 d x.said x.next w x.world v f x.comes.1 x.asked x.last

  module _ (answers : (q : Q) (b : B) → Fits q (ways.answer q b)) where
    -- an ask is done, and the rest after it
    asked_first : (n : ℕ) (q : Q) (k : A → Dialog J Q A R) (w v : W) (f : Finish B S) → ((a : A) (u : W) → Runs rule act n (lift ways (k a)) u v f → IsDone ways rule act talk_rule Fits (k a) u v f) → Parted rule act n (rule (ways.ask q)) (λ b. lift ways (k (ways.answer q b))) w v f → IsDone ways rule act talk_rule Fits (Say q k) w v f
    asked_first n q k w v f go (Through u b x y) =
        let z = go (ways.answer q b) u y in
        record {
          said = (q, ways.answer q b) ∷ z.said;
          next = z.next;
          comes = (suc z.comes.0, (refl, answers q b, z.comes.1));
          world = z.world;
          asked = (u, b, x, refl, z.asked);
          last = z.last;
        }
    asked_first n q k w v f go (Within s is x) = record { said = []; next = Asks q; comes = (1, refl); world = w; asked = refl; last = (s, is, subst (λ (x : Finish B S). Does rule act (rule (ways.ask q)) w v x) (sym is) x) }

    came : (n : ℕ) (d : Dialog J Q A R) (w v : W) (f : Finish B S) → Runs rule act n (lift ways d) w v f → IsDone ways rule act talk_rule Fits d w v f
    came zero d w v f x = absurd x
    came (suc n) (End r) w v f x = record { said = []; next = Ends r; comes = (1, refl); world = w; asked = refl; last = x }
    came (suc n) (Say q k) w v f x = asked_first n q k w v f (λ a u. came n (k a) u v f) (parted rule act n (rule (ways.ask q)) (λ b. lift ways (k (ways.answer q b))) w v f x)
    came (suc n) (Steps j k) w v f x =
        let g : B → Dialog I P C B = λ b. lift ways (k (ways.result b)) in
        let path : bind (rule (ways.task j)) g ≡ lift ways (bind (talk_rule j) k) = ap (λ (d : Dialog I P C B). bind d g) (same j) ∙ sym (lift_bind ways (talk_rule j) k) in
        let z = came n (bind (talk_rule j) k) w v f (subst (λ (d : Dialog I P C B). Runs rule act n d w v f) path x) in
        record { said = z.said; next = z.next; comes = (suc z.comes.0, z.comes.1); world = z.world; asked = z.asked; last = z.last }

    -- where each answer fits, each run is such a conversation
    pub runs_are_talks : RunsAreTalks talk_rule Fits ways rule act
    runs_are_talks d w v f = (talk_runs d w v f, λ x. came x.steps d w v f x.runs)

module _ {J Q A R I P C B W S : Type 0} (talk_rule : J → Dialog J Q A R) (Fits : Q → A → Type 0) (ways : Ways J Q A R I B) (rule : I → Dialog I P C B) (act : P → W → Did W C S) (same : (j : J) → rule (ways.task j) ≡ lift ways (talk_rule j)) where
  lifted : (m : ℕ) (d e : Dialog J Q A R) (k : B → Dialog I P C B) (w v : W) (f : Finish B S) → After talk_rule Fits m d [] e → Does rule act (bind (lift ways e) k) w v f → Does rule act (bind (lift ways d) k) w v f
  lifted zero d e k w v f x run = subst (λ (t : Dialog J Q A R). Does rule act (bind (lift ways t) k) w v f) (sym x) run
  lifted (suc m) (End r) e k w v f x run = absurd x
  lifted (suc m) (Say q g) e k w v f x run = absurd x
  lifted (suc m) (Steps j g) e k w v f x run =
      let rest : Does rule act (bind (lift ways (bind (talk_rule j) g)) k) w v f = lifted m (bind (talk_rule j) g) e k w v f x run in
      let h : B → Dialog I P C B = λ b. lift ways (g (ways.result b)) in
      let path : bind (lift ways (bind (talk_rule j) g)) k ≡ bind (rule (ways.task j)) (λ b. bind (h b) k) =
      ap (λ (t : Dialog I P C B). bind t k) (lift_bind ways (talk_rule j) g)
      ∙ bind_assoc (lift ways (talk_rule j)) h k
      ∙ ap (λ (t : Dialog I P C B). bind t (λ b. bind (h b) k)) (sym (same j)) in
      does_steps rule act {j = ways.task j} {k = λ b. bind (h b) k} (subst (λ (t : Dialog I P C B). Does rule act t w v f) path rest)

  -- a run from the place to which tasks lead is one from where they begin
  pub goes_through : {d e : Dialog J Q A R} (k : B → Dialog I P C B) {w v : W} {f : Finish B S} → At talk_rule Fits d [] e → Does rule act (bind (lift ways e) k) w v f → Does rule act (bind (lift ways d) k) w v f
  goes_through {d = d} {e = e} k {w = w} {v = v} {f = f} x run = lifted x.steps d e k w v f x.after run

module _ {J Q A R I P C B : Type 0} (talk_rule : J → Dialog J Q A R) (Fits : Q → A → Type 0) (ways : Ways J Q A R I B) (rule : I → Dialog I P C B) (Wants : P → C → Type 0) (same : (j : J) → rule (ways.task j) ≡ lift ways (talk_rule j)) where
  lift_place : (m : ℕ) (d e : Dialog J Q A R) → After talk_rule Fits m d [] e → At rule Wants (lift ways d) [] (lift ways e)
  lift_place zero d e x = here rule Wants (ap (λ (t : Dialog J Q A R). lift ways t) x)
  lift_place (suc m) (End r) e x = absurd x
  lift_place (suc m) (Say q g) e x = absurd x
  lift_place (suc m) (Steps j g) e x =
      let h : B → Dialog I P C B = λ b. lift ways (g (ways.result b)) in
      let path : bind (rule (ways.task j)) h ≡ lift ways (bind (talk_rule j) g) =
      ap (λ (t : Dialog I P C B). bind t h) (same j) ∙ sym (lift_bind ways (talk_rule j) g) in
      at_then rule Wants (at_steps rule Wants) (at_then rule Wants (here rule Wants path) (lift_place m (bind (talk_rule j) g) e x))

  -- where tasks lead, they lead in the world
  pub at_lift : {d e : Dialog J Q A R} → At talk_rule Fits d [] e → At rule Wants (lift ways d) [] (lift ways e)
  at_lift {d = d} {e = e} x = lift_place x.steps d e x.after
