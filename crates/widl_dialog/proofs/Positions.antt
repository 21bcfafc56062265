-- Where a conversation stands.
use Rattle.std.specs.Prelude.{◌≡◌, ℕ, zero, suc, List, [], ◌∷◌, ◌++◌, refl}
use Rattle.std.proofs.Common.{sym, ap, subst, append-nil}
use Rattle.widl_dialog.specs.Dialog.{Dialog, End, Say, Steps, bind}
use Rattle.widl_dialog.specs.Conversation.{Next, Asks, Ends, Reads, Comes}
use Rattle.widl_dialog.specs.Position.{After, At}
use Rattle.widl_dialog.proofs.Bind.{bind_assoc}

module _ {J Q A R : Type 0} (rule : J → Dialog J Q A R) (Fits : Q → A → Type 0) where
  to_ask : (m : ℕ) (d : Dialog J Q A R) (said : List (Q × A)) (q : Q) → Reads rule Fits m d said (Asks q) → (k : A → Dialog J Q A R) × (n : ℕ) × After rule Fits n d said (Say q k)
  to_ask zero d said q x = absurd x
  to_ask (suc m) (End r) [] q x = absurd (cc)
  to_ask (suc m) (End r) (p ∷ said) q x = absurd x
  to_ask (suc m) (Say o k) [] q x = let same : o ≡ q = (let e : ◌≡◌ {A = Next Q R} (Asks q) (Asks o) = x in cc) in (k, 0, ap (λ (p : Q). Say p k) same)
  to_ask (suc m) (Say o k) (p ∷ said) q x = let z = to_ask m (k p.1) said q x.2 in (z.0, suc z.1, (x.0, x.1, z.2))
  to_ask (suc m) (Steps j k) said q x = let z = to_ask m (bind (rule j) k) said q x in (z.0, suc z.1, z.2)

  to_end : (m : ℕ) (d : Dialog J Q A R) (said : List (Q × A)) (r : R) → Reads rule Fits m d said (Ends r) → (n : ℕ) × After rule Fits n d said (End r)
  to_end zero d said r x = absurd x
  to_end (suc m) (End s) [] r x = let same : s ≡ r = (let e : ◌≡◌ {A = Next Q R} (Ends r) (Ends s) = x in cc) in (0, ap (λ (t : R). let y : Dialog J Q A R = End t in y) same)
  to_end (suc m) (End s) (p ∷ said) r x = absurd x
  to_end (suc m) (Say o k) [] r x = absurd (cc)
  to_end (suc m) (Say o k) (p ∷ said) r x = let z = to_end m (k p.1) said r x.2 in (suc z.0, (x.0, x.1, z.1))
  to_end (suc m) (Steps j k) said r x = let z = to_end m (bind (rule j) k) said r x in (suc z.0, z.1)

  -- what comes after a longer list comes from where the conversation stands
  from_there : (m : ℕ) (d : Dialog J Q A R) (said more : List (Q × A)) (e : Dialog J Q A R) (l : ℕ) (n : Next Q R) → After rule Fits m d said e → Reads rule Fits l d (said ++ more) n → Comes rule Fits e more n
  from_there zero d [] more e l n x y = (l, subst (λ (t : Dialog J Q A R). Reads rule Fits l t more n) x y)
  from_there zero d (p ∷ said) more e l n x y = absurd x
  from_there (suc m) d said more e zero n x y = absurd y
  from_there (suc m) (End r) said more e (suc l) n x y = absurd x
  from_there (suc m) (Say q k) [] more e (suc l) n x y = absurd x
  from_there (suc m) (Say q k) (p ∷ said) more e (suc l) n x y = from_there m (k p.1) said more e l n x.2 y.2
  from_there (suc m) (Steps j k) said more e (suc l) n x y = from_there m (bind (rule j) k) said more e l n x y

  -- one place after another
  onward : (m : ℕ) (d : Dialog J Q A R) (said more : List (Q × A)) (e g : Dialog J Q A R) (l : ℕ) → After rule Fits m d said e → After rule Fits l e more g → (n : ℕ) × After rule Fits n d (said ++ more) g
  onward zero d [] more e g l x y = (l, subst (λ (t : Dialog J Q A R). After rule Fits l t more g) (sym x) y)
  onward zero d (p ∷ said) more e g l x y = absurd x
  onward (suc m) (End r) said more e g l x y = absurd x
  onward (suc m) (Say q k) [] more e g l x y = absurd x
  onward (suc m) (Say q k) (p ∷ said) more e g l x y = let z = onward m (k p.1) said more e g l x.2 y in (suc z.0, (x.0, x.1, z.1))
  onward (suc m) (Steps j k) said more e g l x y = let z = onward m (bind (rule j) k) said more e g l x y in (suc z.0, z.1)

  -- what comes from there comes after the longer list
  read_through : (m : ℕ) (d : Dialog J Q A R) (said more : List (Q × A)) (e : Dialog J Q A R) (l : ℕ) (n : Next Q R) → After rule Fits m d said e → Reads rule Fits l e more n → Comes rule Fits d (said ++ more) n
  read_through zero d [] more e l n x y = (l, subst (λ (t : Dialog J Q A R). Reads rule Fits l t more n) (sym x) y)
  read_through zero d (p ∷ said) more e l n x y = absurd x
  read_through (suc m) (End r) said more e l n x y = absurd x
  read_through (suc m) (Say q k) [] more e l n x y = absurd x
  read_through (suc m) (Say q k) (p ∷ said) more e l n x y = let z = read_through m (k p.1) said more e l n x.2 y in (suc z.0, (x.0, x.1, z.1))
  read_through (suc m) (Steps j k) said more e l n x y = let z = read_through m (bind (rule j) k) said more e l n x y in (suc z.0, z.1)

  pub comes_through : {d e : Dialog J Q A R} {said more : List (Q × A)} {n : Next Q R} → At rule Fits d said e → Comes rule Fits e more n → Comes rule Fits d (said ++ more) n
  comes_through {d = d} {e = e} {said = said} {more = more} {n = n} x y = read_through x.steps d said more e y.0 n x.after y.1

  pub comes_from : {d e : Dialog J Q A R} {said more : List (Q × A)} {n : Next Q R} → At rule Fits d said e → Comes rule Fits d (said ++ more) n → Comes rule Fits e more n
  comes_from {d = d} {e = e} {said = said} {more = more} {n = n} x y = from_there x.steps d said more e y.0 n x.after y.1

  -- places that follow one another
  pub here : {d e : Dialog J Q A R} → d ≡ e → At rule Fits d [] e
  here same = record { steps = 0; after = same }

  pub at_then : {d e g : Dialog J Q A R} {said more : List (Q × A)} → At rule Fits d said e → At rule Fits e more g → At rule Fits d (said ++ more) g
  at_then {d = d} {e = e} {g = g} {said = said} {more = more} x y = let z = onward x.steps d said more e g y.steps x.after y.after in record { steps = z.0; after = z.1 }

  pub at_steps : {j : J} {k : R → Dialog J Q A R} → At rule Fits (Steps j k) [] (bind (rule j) k)
  at_steps = record { steps = 1; after = refl }

  pub at_answer : {q : Q} {k : A → Dialog J Q A R} {a : A} → Fits q a → At rule Fits (Say q k) ((q, a) ∷ []) (k a)
  at_answer fits = record { steps = 1; after = (refl, fits, refl) }

  -- under what comes after the end
  bind_place : (m : ℕ) (d e : Dialog J Q A R) (k : R → Dialog J Q A R) → After rule Fits m d [] e → At rule Fits (bind d k) [] (bind e k)
  bind_place zero d e k x = here (ap (λ (t : Dialog J Q A R). bind t k) x)
  bind_place (suc m) (End r) e k x = absurd x
  bind_place (suc m) (Say q g) e k x = absurd x
  bind_place (suc m) (Steps j g) e k x =
      let z = bind_place m (bind (rule j) g) e k x in
      record { steps = suc z.steps; after = subst (λ (t : Dialog J Q A R). After rule Fits z.steps t [] (bind e k)) (bind_assoc (rule j) g k) z.after }

  pub at_bind : {d e : Dialog J Q A R} (k : R → Dialog J Q A R) → At rule Fits d [] e → At rule Fits (bind d k) [] (bind e k)
  at_bind {d = d} {e = e} k x = bind_place x.steps d e k x.after

  -- the place of a conversation whose next ask is known
  pub place_of_ask : {d : Dialog J Q A R} {said : List (Q × A)} {q : Q} → Comes rule Fits d said (Asks q) → (k : A → Dialog J Q A R) × At rule Fits d said (Say q k)
  place_of_ask {d = d} {said = said} {q = q} x = let z = to_ask x.0 d said q x.1 in (z.0, record { steps = z.1; after = z.2 })

  pub place_of_end : {d : Dialog J Q A R} {said : List (Q × A)} {r : R} → Comes rule Fits d said (Ends r) → At rule Fits d said (End r)
  place_of_end {d = d} {said = said} {r = r} x = let z = to_end x.0 d said r x.1 in record { steps = z.0; after = z.1 }

  -- what comes next at a place that is known
  pub next_ask : {d : Dialog J Q A R} (said : List (Q × A)) (q : Q) (k : A → Dialog J Q A R) → At rule Fits d said (Say q k) → Comes rule Fits d said (Asks q)
  next_ask {d = d} said q k place = subst (λ (l : List (Q × A)). Comes rule Fits d l (Asks q)) (append-nil said) (comes_through {n = Asks q} place (1, refl))

  pub next_end : {d : Dialog J Q A R} (said : List (Q × A)) (r : R) → At rule Fits d said (End r) → Comes rule Fits d said (Ends r)
  next_end {d = d} said r place = subst (λ (l : List (Q × A)). Comes rule Fits d l (Ends r)) (append-nil said) (comes_through {n = Ends r} place (1, refl))
