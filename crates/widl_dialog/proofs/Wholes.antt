-- An ask comes next exactly where some whole conversation goes on with it.
use Rattle.std.specs.Prelude.{ℕ, zero, suc, List, [], ◌∷◌, ◌++◌, refl}
use Rattle.std.proofs.Common.{sym, ap, subst}
use Rattle.widl_dialog.specs.Dialog.{Dialog, End, Say, Steps, bind}
use Rattle.widl_dialog.specs.Conversation.{Next, Asks, Ends, Reads, Comes, Finishes, Good}
use Rattle.widl_dialog.specs.Position.{After}
use Rattle.widl_dialog.specs.Laws.{AsksGoOn}
use Rattle.widl_dialog.proofs.Nexts.{joins}
use Rattle.widl_dialog.proofs.Positions.{place_of_ask, comes_through}

module _ {J Q A R : Type 0} (rule : J → Dialog J Q A R) (Fits : Q → A → Type 0) where
  pub finishes_bind : (d : Dialog J Q A R) (k : R → Dialog J Q A R) → Finishes rule Fits d → ((r : R) → Finishes rule Fits (k r)) → Finishes rule Fits (bind d k)
  finishes_bind d k x all = let y = all x.1 in (x.0 ++ y.0, y.1, joins rule Fits d k x.0 y.0 x.1 (Ends y.1) x.2 y.2)

  good_bind : (d : Dialog J Q A R) (k : R → Dialog J Q A R) → Good rule Fits d → ((r : R) → Finishes rule Fits (k r) × Good rule Fits (k r)) → Good rule Fits (bind d k)
  good_bind (End r) k x all = (all r).1
  good_bind (Say q g) k x all = λ a f. (finishes_bind (g a) k (x a f).0 (λ r. (all r).0), good_bind (g a) k (x a f).1 all)
  good_bind (Steps j g) k x all = λ r. (finishes_bind (g r) k (x r).0 (λ s. (all s).0), good_bind (g r) k (x r).1 all)

  -- an ask that some conversation goes on with comes next
  before : (m : ℕ) (d : Dialog J Q A R) (said more : List (Q × A)) (q : Q) (a : A) (n : Next Q R) → Reads rule Fits m d (said ++ (q, a) ∷ more) n → Comes rule Fits d said (Asks q)
  before zero d said more q a n x = absurd x
  before (suc m) (End r) [] more q a n x = absurd x
  before (suc m) (End r) (p ∷ said) more q a n x = absurd x
  before (suc m) (Say o k) [] more q a n x = (1, ap (λ (p : Q). let y : Next Q R = Asks p in y) x.0)
  before (suc m) (Say o k) (p ∷ said) more q a n x = let y = before m (k p.1) said more q a n x.2 in (suc y.0, (x.0, x.1, y.1))
  before (suc m) (Steps j k) said more q a n x = let y = before m (bind (rule j) k) said more q a n x in (suc y.0, y.1)

  pub comes_before : (d : Dialog J Q A R) (said more : List (Q × A)) (q : Q) (a : A) (n : Next Q R) → Comes rule Fits d (said ++ (q, a) ∷ more) n → Comes rule Fits d said (Asks q)
  comes_before d said more q a n x = before x.0 d said more q a n x.1

  module _ (all_good : (j : J) → Good rule Fits (rule j)) where
    good_place : (m : ℕ) (d e : Dialog J Q A R) (said : List (Q × A)) → Good rule Fits d → After rule Fits m d said e → Good rule Fits e
    good_place zero d e [] good x = subst (λ (t : Dialog J Q A R). Good rule Fits t) x good
    good_place zero d e (p ∷ said) good x = absurd x
    good_place (suc m) (End r) e said good x = absurd x
    good_place (suc m) (Say q k) e [] good x = absurd x
    good_place (suc m) (Say q k) e (p ∷ said) good x = good_place m (k p.1) e said (good p.1 (subst (λ (o : Q). Fits o p.1) x.0 (let f : Fits p.0 p.1 = subst (λ (o : Q). Fits o p.1) (sym x.0) x.1 in f))).1 x.2
    good_place (suc m) (Steps j k) e said good x = good_place m (bind (rule j) k) e said (good_bind (rule j) k (all_good j) good) x

    -- and where it comes next, some whole conversation goes on with it, whatever fitting answer it gets
    pub some_whole : (d : Dialog J Q A R) (said : List (Q × A)) (q : Q) (a : A) → Good rule Fits d → Fits q a → Comes rule Fits d said (Asks q) → (more : List (Q × A)) × (r : R) × Comes rule Fits d (said ++ (q, a) ∷ more) (Ends r)
    some_whole d said q a good fits x =
        let z = place_of_ask rule Fits x in
        let k = z.0 in
        let here : Good rule Fits (Say q k) = good_place z.1.steps d (Say q k) said good z.1.after in
        let y : Finishes rule Fits (k a) = (here a fits).0 in
        let from : Comes rule Fits (Say q k) ((q, a) ∷ y.0) (Ends y.1) = (suc y.2.0, (refl, fits, y.2.1)) in
        (y.0, y.1, comes_through rule Fits z.1 from)

    pub asks_go_on : (j : J) → AsksGoOn rule Fits j
    asks_go_on j said q a fits = (some_whole (rule j) said q a (all_good j) fits, λ x. comes_before (rule j) said x.0 q a (Ends x.1) x.2)

  -- some conversation ends, and one does after each answer that fits and each completion of a job
  pub record Fine (d : Dialog J Q A R) : Type 0 where
    pub ends : Finishes rule Fits d
    pub good : Good rule Fits d

  pub fine_end : (r : R) → Fine (End r)
  fine_end r = record { ends = ([], r, (1, refl)); good = tt }

  pub fine_say : (q : Q) (k : A → Dialog J Q A R) (a : A) → Fits q a → ((b : A) → Fits q b → Fine (k b)) → Fine (Say q k)
  fine_say q k a fits all =
      let y = (all a fits).ends in
      record { ends = ((q, a) ∷ y.0, y.1, (suc y.2.0, (refl, fits, y.2.1))); good = λ b f. ((all b f).ends, (all b f).good) }

  pub fine_steps : (j : J) (k : R → Dialog J Q A R) → Finishes rule Fits (rule j) → ((r : R) → Fine (k r)) → Fine (Steps j k)
  fine_steps j k x all =
      let y = finishes_bind (rule j) k x (λ r. (all r).ends) in
      record { ends = (y.0, y.1, (suc y.2.0, y.2.1)); good = λ r. ((all r).ends, (all r).good) }

  pub fine_goes : (j : J) → Finishes rule Fits (rule j) → Fine (Steps j End)
  fine_goes j x = fine_steps j End x fine_end
