-- For proofs alone. One place of a machine after another.
use Rattle.std.proofs.Common.{◌≡◌, ℕ, ◌+◌, ◌-◌, List, [], ◌∷◌, ◌++◌, length, sym, ap, subst, ◌∙◌, refl, arith, length-append}
use Rattle.widl_dialog.specs.Dialog.{Say, Steps, bind}
use Rattle.widl_dialog.specs.Follows.{Follows}
use Rattle.widl_dialog.specs.Position.{At}
use Rattle.widl_dialog.proofs.Positions.{at_bind}
use Rattle.widl_dialog.specs.Runs.{Went, Finish, Ended}
use Rattle.widl_dialog.proofs.Bind.{bind_assoc, bind_end}
use Rattle.widl_dialog.proofs.Following.{follows_same, follows_said, follows_steps, follows_then, follows_at}
use Rattle.widl_script_tree.specs.Tables.{Tables}
use Rattle.widl_store.specs.Objects.{StoreState}
use Rattle.widl_trace.specs.EventTerms.{EventTerm}
use Rattle.widl_runs.specs.Ends.{JobEnd}
use Rattle.widl_runs.specs.declared.stop.Stop.{Stop}
use Rattle.widl_runs.specs.Actions.{act}
use Rattle.widl_runs.specs.Jobs.{Program, Doing}
use Rattle.widl_runs.specs.Rules.{rule}
use Rattle.widl_runs.specs.Traces.{Run}
use Rattle.widl_engine.specs.declared.charges.Charge.{Charge}
use Rattle.widl_engine.specs.declared.contexts.Place.{Place}
use Rattle.widl_engine.specs.declared.due.Due.{Due}
use Rattle.widl_engine.specs.declared.frames.Frame.{Frame}
use Rattle.widl_engine.specs.declared.jobs.Job as jobs
use Rattle.widl_engine.specs.declared.machine.Machine.{Machine}
use Rattle.widl_engine.specs.declared.machine.Turn.{Turn}
use Rattle.widl_engine.specs.declared.moves.Move.{Move}
use Rattle.widl_engine.specs.declared.moves.Move.TheVariants as move
use Rattle.widl_engine.specs.declared.ends.JobEnd as job_ends
use Rattle.widl_engine.specs.Frames.{charge_of, after_paying, act_of, after, job_of, job_end_of, back_to, move_of, Wants, LeadsTo}
use Rattle.widl_engine.specs.Place.{world_of, Performed}
use Rattle.widl_engine.specs.declared.machine.Turn.TheVariants as turn
use Rattle.widl_engine.specs.Machine.{under, world, still, moves_on, Leads, Moves, Stays, RunsTo, Turns, Continues}
use Rattle.widl_engine.proofs.Acting.{Done}
use Rattle.widl_runs.specs.Fitting.{Comes, here, said, begun}
use Rattle.widl_runs.specs.Worlds.{World}
use Rattle.widl_engine.proofs.Coming.{comes_same, comes_then, comes_at}

pub under_push : (p : Program) (s : Tables) (fs : List Frame) (f : Frame) (c : JobEnd) → under p s (fs ++ f ∷ []) c ≡ bind (back_to p s f c) (under p s fs)
under_push p s [] f c = sym (bind_end (back_to p s f c))
under_push p s (g ∷ fs) f c = ap (λ (x : Doing). bind x (back_to p s g)) (under_push p s fs f c) ∙ bind_assoc (back_to p s f c) (under p s fs) (back_to p s g)

-- the same place and units give the same world
pub same_world : (s : Tables) (t : StoreState) (m n : Machine) (b : ℕ) (ls : List EventTerm) → n.place ≡ m.place → n.taken ≡ m.taken → world s t m b ls ≡ world s t n b ls
same_world s t m n b ls place taken = ap (λ (x : Place). world_of s t x (b - m.taken) ls) (sym place) ∙ ap (λ (k : ℕ). world_of s t n.place (b - k) ls) (sym taken)

-- two in a row
pub then_leads : {p : Program} {s : Tables} {t u o : StoreState} {d e g : Doing} {m n q : Machine} → Leads p s t d m u e n → Leads p s u e n o g q → Leads p s t d m o g q
then_leads x y = record {
  taken = y.taken ∙ x.taken;
  budget = y.budget ∙ x.budget;
  between = x.between + y.between;
  follows = λ b ls. follows_then _ _ (x.follows b ls) (y.follows b ls);
  comes = λ b ls. comes_then (x.comes b ls) (y.comes b ls);
}

pub then_runs : {p : Program} {s : Tables} {t u o : StoreState} {d e : Doing} {m n q : Machine} {f : Finish JobEnd Stop} → Leads p s t d m u e n → RunsTo p s u e n o q f → RunsTo p s t d m o q f
then_runs x ends = record { taken = ends.taken ∙ x.taken; runs = λ b ls. (x.follows b ls).leads _ _ (ends.runs b ls) }

pub leads_here : (p : Program) (s : Tables) (t : StoreState) (d : Doing) (m : Machine) → Leads p s t d m t d m
leads_here p s t d m = record { taken = refl; budget = refl; between = 0; follows = λ b ls. follows_same _ _ refl refl; comes = λ b ls. here }

pub then_between : {p : Program} {s : Tables} {t u o : StoreState} {d e g : Doing} {m n q : Machine} (x : Leads p s t d m u e n) (y : Leads p s u e n o g q) → (then_leads x y).between ≡ x.between + y.between
unfolding then_leads
then_between x y = refl

pub then_moves : {p : Program} {s : Tables} {t u o : StoreState} {d e g : Doing} {m n q : Machine} → Moves p s t d m u e n → Moves p s u e n o g q → Moves p s t d m o g q
then_moves x y = record { place = then_leads x.place y.place; less = let f = x.less in let g = y.less in let h = then_between x.place y.place in omega (arith, f, g, h) }

pub stays_here : (p : Program) (s : Tables) (t : StoreState) (d : Doing) (m : Machine) → Stays p s t d m t d m
stays_here p s t d m = record { place = leads_here p s t d m; most = omega arith }

pub stays_then : {p : Program} {s : Tables} {t u o : StoreState} {d e g : Doing} {m n q : Machine} → Stays p s t d m u e n → Moves p s u e n o g q → Moves p s t d m o g q
stays_then x y = record { place = then_leads x.place y.place; less = let f = x.most in let g = y.less in let h = then_between x.place y.place in omega (arith, f, g, h) }

pub stays_moved : {p : Program} {s : Tables} {t u : StoreState} {d e : Doing} {m n : Machine} → Moves p s t d m u e n → Stays p s t d m u e n
stays_moved x = record { place = x.place; most = let f = x.less in omega (arith, f) }

module _ (p : Program) (s : Tables) where
  -- a turn continues its move
  pub continues : (t u : StoreState) (current : Move) (m n : Machine) (r : Turn) → Turns p s t current m u n r → Continues p s t current m u n r
  continues t u current m n (turn.More next) x = stays_moved x
  continues t u current m n turn.Rests x = x
  continues t u current m n (turn.Ended c) x = x
  continues t u current m n (turn.Stopped stop) x = x
  continues t u current m n turn.Memory x = tt

  -- what continues a move that is known
  pub at_continued : (t u : StoreState) (c known : Move) (m n : Machine) (r : Turn) → c ≡ known → Continues p s t known m u n r → Continues p s t c m u n r
  at_continued t u c known m n r same x = subst (λ (c : Move). Continues p s t c m u n r) (sym same) x

  -- a next move that is known
  pub to_known : (t u : StoreState) (current next known : Move) (m n : Machine) → next ≡ known → Moves p s t (moves_on p s current m) m u (moves_on p s next n) n → Moves p s t (moves_on p s current m) m u (moves_on p s known n) n
  to_known t u current next known m n is x = subst (λ (c : Move). Moves p s t (moves_on p s current m) m u (moves_on p s c n) n) is x

  -- a move, and what continues the next one
  pub then_continues : (t u o : StoreState) (current next : Move) (m n q : Machine) (r : Turn) → Moves p s t (moves_on p s current m) m u (moves_on p s next n) n → Continues p s u next n o q r → Turns p s t current m o q r
  then_continues t u o current next m n q (turn.More last) x y = record { place = then_leads x.place y.place; less = let f = x.less in let g = y.most in let h = then_between x.place y.place in omega (arith, f, g, h) }
  then_continues t u o current next m n q turn.Rests x y = then_leads x.place y
  then_continues t u o current next m n q (turn.Ended c) x y = then_runs x.place y
  then_continues t u o current next m n q (turn.Stopped stop) x y = then_runs x.place y
  then_continues t u o current next m n q turn.Memory x y = tt

  -- a turn after a place that stays
  pub stays_turns : (t u o : StoreState) (current next : Move) (m n q : Machine) (r : Turn) → Stays p s t (moves_on p s current m) m u (moves_on p s next n) n → Turns p s u next n o q r → Turns p s t current m o q r
  stays_turns t u o current next m n q (turn.More last) x y = stays_then x y
  stays_turns t u o current next m n q turn.Rests x y = then_leads x.place y
  stays_turns t u o current next m n q (turn.Ended c) x y = then_runs x.place y
  stays_turns t u o current next m n q (turn.Stopped stop) x y = then_runs x.place y
  stays_turns t u o current next m n q turn.Memory x y = tt

  -- a move that is known
  pub at_move : (t u : StoreState) (c known : Move) (m n : Machine) (r : Turn) → c ≡ known → Turns p s t known m u n r → Turns p s t c m u n r
  at_move t u c known m n r same x = subst (λ (c : Move). Turns p s t c m u n r) (sym same) x

  pub rested : (t : StoreState) (m n : Machine) (charge : Charge) → n.due ≡ charge → n.place ≡ m.place → n.frames.items ≡ m.frames.items → n.taken ≡ m.taken → n.budget ≡ m.budget → Leads p s t (moves_on p s (move.Pays charge) m) m t (still p s n) n
  rested t m n charge due place frames taken budget = record {
    taken = taken;
    budget = budget;
    between = 0;
    follows = λ b ls.
        let c = sym due in
        let fs = sym frames in
        follows_same _ _ (λ i. bind (Say (charge_of (c i)) (after_paying p s (c i))) (under p s (fs i))) (same_world s t m n b ls place taken);
    comes = λ b ls.
        let c = sym due in
        let fs = sym frames in
        comes_same (λ i. bind (Say (charge_of (c i)) (after_paying p s (c i))) (under p s (fs i))) (same_world s t m n b ls place taken);
  }

  pub acted : (t u : StoreState) (m n : Machine) (due : Due) (next : Move) → Performed p s due t m.place u n.place next → n.frames.items ≡ m.frames.items → n.taken ≡ m.taken → n.budget ≡ m.budget → Moves p s t (moves_on p s (move.Acts due) m) m u (moves_on p s next n) n
  acted t u m n due next x frames taken budget = record {
    place = record {
      taken = taken;
      budget = budget;
      between = 1 + 0;
      follows = λ b ls.
          let g : JobEnd → Doing = under p s m.frames.items in
          let went : act p.list (act_of p s due) (world s t m b ls) ≡ Went (world s u n b ls) x.reply =
          x.done.went (b - m.taken) ls ∙ ap (λ (k : ℕ). let d : Done = Went (world_of s u n.place (b - k) ls) x.reply in d) (sym taken) in
          let tree : bind (after p s due x.reply) g ≡ bind (move_of p s next) (under p s n.frames.items) =
          ap (λ (d : Doing). bind d g) (sym x.goes) ∙ ap (λ (l : List Frame). bind (move_of p s next) (under p s l)) (sym frames) in
          follows_then _ _ (follows_said (rule p) (act p.list) (act_of p s due) (λ r. bind (after p s due r) g) x.reply went) (follows_same _ _ tree refl);
      comes = λ b ls.
          let g : JobEnd → Doing = under p s m.frames.items in
          let went : act p.list (act_of p s due) (world s t m b ls) ≡ Went (world s u n b ls) x.reply =
          x.done.went (b - m.taken) ls ∙ ap (λ (k : ℕ). let d : Done = Went (world_of s u n.place (b - k) ls) x.reply in d) (sym taken) in
          let tree : bind (after p s due x.reply) g ≡ bind (move_of p s next) (under p s n.frames.items) =
          ap (λ (d : Doing). bind d g) (sym x.goes) ∙ ap (λ (l : List Frame). bind (move_of p s next) (under p s l)) (sym frames) in
          said (act_of p s due) (λ r. bind (after p s due r) g) x.reply (world s t m b ls) (world s u n b ls) went (comes_same tree refl);
    };
    less = let e = ap (λ (l : List Frame). length l) frames in omega (arith, e);
  }

  -- where jobs alone lead to the next move, the place follows
  pub leads_under : (e : Doing) (next : Move) (m n : Machine) (t : StoreState) → n.taken ≡ m.taken → n.place ≡ m.place → (x : LeadsTo p s e next) → (b : ℕ) (ls : List EventTerm) → Follows (rule p) (act p.list) (bind e (under p s n.frames.items)) (world s t m b ls) (moves_on p s next n) (world s t n b ls) (at_bind (rule p) Wants (under p s n.frames.items) x).steps
  leads_under e next m n t taken place x b ls =
      let y : At (rule p) Wants (bind e (under p s n.frames.items)) [] (moves_on p s next n) = at_bind (rule p) Wants (under p s n.frames.items) x in
      subst (λ (w : World). Follows (rule p) (act p.list) (bind e (under p s n.frames.items)) w (moves_on p s next n) (world s t n b ls) y.steps) (sym (same_world s t m n b ls place taken)) (follows_at (rule p) (act p.list) Wants (world s t n b ls) y)

  pub comes_under : (e : Doing) (next : Move) (m n : Machine) (t : StoreState) → n.taken ≡ m.taken → n.place ≡ m.place → LeadsTo p s e next → (b : ℕ) (ls : List EventTerm) → Comes p (moves_on p s next n) (world s t n b ls) (bind e (under p s n.frames.items)) (world s t m b ls)
  comes_under e next m n t taken place x b ls =
      let y : At (rule p) Wants (bind e (under p s n.frames.items)) [] (moves_on p s next n) = at_bind (rule p) Wants (under p s n.frames.items) x in
      subst (λ (w : World). Comes p (moves_on p s next n) (world s t n b ls) (bind e (under p s n.frames.items)) w) (sym (same_world s t m n b ls place taken)) (comes_at y (world s t n b ls))

  pub gave : (t : StoreState) (m n : Machine) (next : Move) (f : Frame) (c : job_ends.JobEnd) → n.place ≡ m.place → n.taken ≡ m.taken → n.budget ≡ m.budget → m.frames.items ≡ n.frames.items ++ f ∷ [] → LeadsTo p s (back_to p s f (job_end_of c)) next → Moves p s t (moves_on p s (move.Gives c) m) m t (moves_on p s next n) n
  gave t m n next f c place taken budget frames x =
      let end : JobEnd = job_end_of c in
      let tree : under p s m.frames.items end ≡ bind (back_to p s f end) (under p s n.frames.items) = ap (λ (l : List Frame). under p s l end) frames ∙ under_push p s n.frames.items f end in
      record {
        place = record {
          taken = taken;
          budget = budget;
          between = 0 + (at_bind (rule p) Wants (under p s n.frames.items) x).steps;
          follows = λ b ls. follows_then _ _ (follows_same _ _ tree refl) (leads_under (back_to p s f end) next m n t taken place x b ls);
          comes = λ b ls. comes_then (comes_same tree refl) (comes_under (back_to p s f end) next m n t taken place x b ls);
        };
        less = let e = ap (λ (l : List Frame). length l) frames in let h = length-append n.frames.items (f ∷ []) in omega (arith, e, h);
      }

  pub stepped : (t : StoreState) (m n : Machine) (next : Move) (f : Frame) (j : jobs.Job) → n.place ≡ m.place → n.taken ≡ m.taken → n.budget ≡ m.budget → n.frames.items ≡ m.frames.items ++ f ∷ [] → LeadsTo p s (rule p (job_of s j)) next → Moves p s t (moves_on p s (move.Steps f j) m) m t (moves_on p s next n) n
  stepped t m n next f j place taken budget frames x =
      let k : JobEnd → Doing = λ c. bind (back_to p s f c) (under p s m.frames.items) in
      let r : Doing = rule p (job_of s j) in
      let back : (c : JobEnd) → bind (back_to p s f c) (under p s m.frames.items) ≡ under p s (m.frames.items ++ f ∷ []) c = λ c. sym (under_push p s m.frames.items f c) in
      let tree : bind r k ≡ bind r (under p s n.frames.items) = (λ i. bind r (λ c. back c i)) ∙ ap (λ (l : List Frame). bind r (under p s l)) (sym frames) in
      record {
        place = record {
          taken = taken;
          budget = budget;
          between = 1 + (0 + (at_bind (rule p) Wants (under p s n.frames.items) x).steps);
          follows = λ b ls.
              follows_then _ _ (follows_steps (rule p) (act p.list) (job_of s j) k (world s t m b ls)) (follows_then _ _ (follows_same _ _ tree refl) (leads_under r next m n t taken place x b ls));
          comes = λ b ls. begun (job_of s j) k (world s t m b ls) (comes_then (comes_same tree refl) (comes_under r next m n t taken place x b ls));
        };
        less = let e = ap (λ (l : List Frame). length l) frames in let h = length-append m.frames.items (f ∷ []) in omega (arith, e, h);
      }

  -- a frame that is put on the others
  pub pushed : (t : StoreState) (m n : Machine) (f : Frame) (j : jobs.Job) → n.place ≡ m.place → n.taken ≡ m.taken → n.budget ≡ m.budget → n.frames.items ≡ m.frames.items ++ f ∷ [] → Leads p s t (moves_on p s (move.Steps f j) m) m t (moves_on p s (move.Goes j) n) n
  pushed t m n f j place taken budget frames =
      let back : (c : JobEnd) → bind (back_to p s f c) (under p s m.frames.items) ≡ under p s (m.frames.items ++ f ∷ []) c = λ c. sym (under_push p s m.frames.items f c) in
      let tree : moves_on p s (move.Steps f j) m ≡ moves_on p s (move.Goes j) n = (λ i. Steps (job_of s j) (λ c. back c i)) ∙ ap (λ (l : List Frame). Steps (job_of s j) (under p s l)) (sym frames) in
      record {
        taken = taken;
        budget = budget;
        between = 0;
        follows = λ b ls. follows_same _ _ tree (same_world s t m n b ls place taken);
        comes = λ b ls. comes_same tree (same_world s t m n b ls place taken);
      }

  pub went : (t : StoreState) (m : Machine) (next : Move) (j : jobs.Job) → LeadsTo p s (rule p (job_of s j)) next → Moves p s t (moves_on p s (move.Goes j) m) m t (moves_on p s next m) m
  went t m next j x =
      let r : Doing = rule p (job_of s j) in
      record {
        place = record {
          taken = refl;
          budget = refl;
          between = 1 + (at_bind (rule p) Wants (under p s m.frames.items) x).steps;
          follows = λ b ls.
              follows_then _ _ (follows_steps (rule p) (act p.list) (job_of s j) (under p s m.frames.items) (world s t m b ls)) (leads_under r next m m t refl refl x b ls);
          comes = λ b ls. begun (job_of s j) (under p s m.frames.items) (world s t m b ls) (comes_under r next m m t refl refl x b ls);
        };
        less = omega arith;
      }

  pub over : (t : StoreState) (m n : Machine) (c : job_ends.JobEnd) → n.place ≡ m.place → n.taken ≡ m.taken → m.frames.items ≡ [] → RunsTo p s t (moves_on p s (move.Gives c) m) m t n (Ended (job_end_of c))
  over t m n c place taken none = record {
    taken = taken;
    runs = λ b ls.
        subst (λ (l : List Frame). Run p (under p s l (job_end_of c)) (world s t m b ls) (world s t n b ls) (Ended (job_end_of c))) (sym none) (record { steps = 1; runs = (sym (same_world s t m n b ls place taken), refl) });
  }

-- an equation leads
pub leads_is : (p : Program) (s : Tables) (d : Doing) (next : Move) → move_of p s next ≡ d → LeadsTo p s d next
leads_is p s d next is = record { steps = 0; after = sym is }
