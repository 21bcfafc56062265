-- For proofs alone. What steps lead to in a turn: after a charge that was paid, and after the end of a job.
use Rattle.std.proofs.Common.{◌≡◌, List, [], ◌∷◌, ◌++◌, length, sym, ap, subst, ◌∙◌, refl, arith, length-append}
use Rattle.widl_dialog.specs.Dialog.{bind}
use Rattle.widl_dialog.specs.Runs.{Ended}
use Rattle.widl_dialog.proofs.Positions.{at_bind}
use Rattle.widl_dialog.proofs.Following.{follows_same}
use Rattle.widl_script_tree.specs.Tables.{Tables}
use Rattle.widl_store.specs.Objects.{StoreState}
use Rattle.widl_runs.specs.Ends.{JobEnd}
use Rattle.widl_runs.specs.Jobs.{Program, Doing}
use Rattle.widl_runs.specs.Rules.{rule}
use Rattle.widl_engine.specs.declared.charges.Charge.{Charge}
use Rattle.widl_engine.specs.declared.ends.JobEnd as job_ends
use Rattle.widl_engine.specs.declared.frames.Frame.{Frame}
use Rattle.widl_engine.specs.declared.machine.Machine.{Machine}
use Rattle.widl_engine.specs.declared.machine.Turn.{Turn}
use Rattle.widl_engine.specs.declared.machine.Turn.TheVariants as turn
use Rattle.widl_engine.specs.declared.moves.Move.{Move}
use Rattle.widl_engine.specs.declared.moves.Move.TheVariants as move
use Rattle.widl_engine.specs.Frames.{after_charge, back_to, job_end_of, move_of, LeadsTo, Wants}
use Rattle.widl_engine.specs.Machine.{under, moves_on, once_paid, once_ended, Leads, LeadsOn, Continues, MachineFits, Moves, RunsTo, Stays, Turns}
use Rattle.widl_engine.proofs.Coming.{comes_same}
use Rattle.widl_engine.proofs.Leading.{same_world, under_push, leads_under, comes_under, then_leads, then_between, then_runs}

module _ (p : Program) (s : Tables) where
  -- steps lead where those lead that they stay at
  pub stays_lead : (t u o : StoreState) (d e : Doing) (m n q : Machine) (r : Turn) → Stays p s t d m u e n → LeadsOn p s u e n o q r → LeadsOn p s t d m o q r
  stays_lead t u o d e m n q (turn.More last) x y = record { place = then_leads x.place y.place; most = let f = x.most in let g = y.most in let h = then_between x.place y.place in omega (arith, f, g, h) }
  stays_lead t u o d e m n q turn.Rests x y = then_leads x.place y
  stays_lead t u o d e m n q (turn.Ended c) x y = then_runs x.place y
  stays_lead t u o d e m n q (turn.Stopped stop) x y = then_runs x.place y
  stays_lead t u o d e m n q turn.Memory x y = tt

  -- a turn of a move, and then of steps
  pub moves_lead : (t u o : StoreState) (current : Move) (e : Doing) (m n q : Machine) (r : Turn) → Moves p s t (moves_on p s current m) m u e n → LeadsOn p s u e n o q r → Turns p s t current m o q r
  moves_lead t u o current e m n q (turn.More last) x y = record { place = then_leads x.place y.place; less = let f = x.less in let g = y.most in let h = then_between x.place y.place in omega (arith, f, g, h) }
  moves_lead t u o current e m n q turn.Rests x y = then_leads x.place y
  moves_lead t u o current e m n q (turn.Ended c) x y = then_runs x.place y
  moves_lead t u o current e m n q (turn.Stopped stop) x y = then_runs x.place y
  moves_lead t u o current e m n q turn.Memory x y = tt

  -- the move that comes after a charge
  pub charge_leads : (t u : StoreState) (c : Charge) (next : Move) (m n : Machine) (r : Turn) → move_of p s next ≡ after_charge p s c → Continues p s t next m u n r → LeadsOn p s t (once_paid p s c m) m u n r
  charge_leads t u c next m n r is x = subst (λ (d : Doing). LeadsOn p s t (bind d (under p s m.frames.items)) m u n r) is x

  pub fits_paid : (t : StoreState) (c : Charge) (next : Move) (m : Machine) → move_of p s next ≡ after_charge p s c → MachineFits p s t (once_paid p s c m) m → MachineFits p s t (moves_on p s next m) m
  fits_paid t c next m is x = subst (λ (d : Doing). MachineFits p s t (bind d (under p s m.frames.items)) m) (sym is) x

  -- a charge that is known
  pub paid_known : (t u : StoreState) (c known : Charge) (m n : Machine) (r : Turn) → c ≡ known → LeadsOn p s t (once_paid p s known m) m u n r → LeadsOn p s t (once_paid p s c m) m u n r
  paid_known t u c known m n r is x = subst (λ (k : Charge). LeadsOn p s t (once_paid p s k m) m u n r) (sym is) x

  pub fits_paid_known : (t : StoreState) (c known : Charge) (m : Machine) → c ≡ known → MachineFits p s t (once_paid p s c m) m → MachineFits p s t (once_paid p s known m) m
  fits_paid_known t c known m is x = subst (λ (k : Charge). MachineFits p s t (once_paid p s k m) m) is x

  -- another charge that is due makes no difference
  pub paid_apart : (t : StoreState) (c : Charge) (m n : Machine) → n.place ≡ m.place → n.frames.items ≡ m.frames.items → n.taken ≡ m.taken → n.budget ≡ m.budget → Stays p s t (once_paid p s c m) m t (once_paid p s c n) n
  paid_apart t c m n place frames taken budget =
      let tree : once_paid p s c m ≡ once_paid p s c n = ap (λ (l : List Frame). bind (after_charge p s c) (under p s l)) (sym frames) in
      record {
        place = record {
          taken = taken;
          budget = budget;
          between = 0;
          follows = λ b ls. follows_same _ _ tree (same_world s t m n b ls place taken);
          comes = λ b ls. comes_same tree (same_world s t m n b ls place taken);
        };
        most = let e = ap (λ (l : List Frame). length l) frames in omega (arith, e);
      }

  -- the frame that was taken goes on with the end
  pub popped : (t : StoreState) (m n : Machine) (f : Frame) (c : job_ends.JobEnd) → n.place ≡ m.place → n.taken ≡ m.taken → n.budget ≡ m.budget → m.frames.items ≡ n.frames.items ++ f ∷ [] → Moves p s t (moves_on p s (move.Gives c) m) m t (once_ended p s f (job_end_of c) n) n
  popped t m n f c place taken budget frames =
      let end : JobEnd = job_end_of c in
      let tree : under p s m.frames.items end ≡ bind (back_to p s f end) (under p s n.frames.items) = ap (λ (l : List Frame). under p s l end) frames ∙ under_push p s n.frames.items f end in
      record {
        place = record {
          taken = taken;
          budget = budget;
          between = 0;
          follows = λ b ls. follows_same _ _ tree (same_world s t m n b ls place taken);
          comes = λ b ls. comes_same tree (same_world s t m n b ls place taken);
        };
        less = let e = ap (λ (l : List Frame). length l) frames in let h = length-append n.frames.items (f ∷ []) in omega (arith, e, h);
      }

  -- the move that a frame goes on with
  pub ended_stays : (t : StoreState) (m : Machine) (f : Frame) (c : job_ends.JobEnd) (next : Move) → LeadsTo p s (back_to p s f (job_end_of c)) next → Stays p s t (once_ended p s f (job_end_of c) m) m t (moves_on p s next m) m
  ended_stays t m f c next x = record {
    place = record {
      taken = refl;
      budget = refl;
      between = (at_bind (rule p) Wants (under p s m.frames.items) x).steps;
      follows = λ b ls. leads_under p s (back_to p s f (job_end_of c)) next m m t refl refl x b ls;
      comes = λ b ls. comes_under p s (back_to p s f (job_end_of c)) next m m t refl refl x b ls;
    };
    most = omega arith;
  }

  -- the move that a frame is known to go on with
  pub end_leads : (t u : StoreState) (f : Frame) (c : JobEnd) (next : Move) (m n : Machine) (r : Turn) → move_of p s next ≡ back_to p s f c → Continues p s t next m u n r → LeadsOn p s t (once_ended p s f c m) m u n r
  end_leads t u f c next m n r is x = subst (λ (d : Doing). LeadsOn p s t (bind d (under p s m.frames.items)) m u n r) is x

  pub fits_ended : (t : StoreState) (f : Frame) (c : JobEnd) (next : Move) (m : Machine) → move_of p s next ≡ back_to p s f c → MachineFits p s t (once_ended p s f c m) m → MachineFits p s t (moves_on p s next m) m
  fits_ended t f c next m is x = subst (λ (d : Doing). MachineFits p s t (bind d (under p s m.frames.items)) m) (sym is) x

  -- a move that is known
  pub moves_known : (t u : StoreState) (c known : Move) (m : Machine) (e : Doing) (n : Machine) → c ≡ known → Moves p s t (moves_on p s known m) m u e n → Moves p s t (moves_on p s c m) m u e n
  moves_known t u c known m e n is x = subst (λ (k : Move). Moves p s t (moves_on p s k m) m u e n) (sym is) x

  -- steps that lead to a move, and steps that end, where the move and the end are known
  pub leads_known : (t u : StoreState) (d : Doing) (next known : Move) (m n : Machine) → next ≡ known → Leads p s t d m u (moves_on p s next n) n → Leads p s t d m u (moves_on p s known n) n
  leads_known t u d next known m n is x = subst (λ (k : Move). Leads p s t d m u (moves_on p s k n) n) is x

  pub ends_known : (t u : StoreState) (d : Doing) (m n : Machine) (c known : job_ends.JobEnd) → c ≡ known → RunsTo p s t d m u n (Ended (job_end_of c)) → RunsTo p s t d m u n (Ended (job_end_of known))
  ends_known t u d m n c known is x = subst (λ (e : job_ends.JobEnd). RunsTo p s t d m u n (Ended (job_end_of e))) is x
