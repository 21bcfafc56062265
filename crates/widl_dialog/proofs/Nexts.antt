-- What comes next in a conversation.
use Rattle.std.specs.Prelude.{◌≡◌, ℕ, zero, suc, List, [], ◌∷◌, ◌++◌, refl}
use Rattle.std.proofs.Common.{sym, ap, subst, ◌∙◌}
use Rattle.widl_dialog.specs.Dialog.{Dialog, End, Say, Steps, bind}
use Rattle.widl_dialog.specs.Conversation.{Next, Asks, Ends, Reads, Comes, Parts}
use Rattle.widl_dialog.specs.Laws.{OneNext, PartsJoin, WholesSplit, PartsAsk}
use Rattle.widl_dialog.proofs.Bind.{bind_assoc}

module _ {J Q A R : Type 0} (rule : J → Dialog J Q A R) (Fits : Q → A → Type 0) where
  one_read : (m m' : ℕ) (d : Dialog J Q A R) (said : List (Q × A)) (n n' : Next Q R) → Reads rule Fits m d said n → Reads rule Fits m' d said n' → n ≡ n'
  one_read zero m' d said n n' x y = absurd x
  one_read (suc m) zero d said n n' x y = absurd y
  one_read (suc m) (suc m') (End r) [] n n' x y = x ∙ sym y
  one_read (suc m) (suc m') (End r) (p ∷ said) n n' x y = absurd x
  one_read (suc m) (suc m') (Say q k) [] n n' x y = x ∙ sym y
  one_read (suc m) (suc m') (Say q k) (p ∷ said) n n' x y = one_read m m' (k p.1) said n n' x.2 y.2
  one_read (suc m) (suc m') (Steps j k) said n n' x y = one_read m m' (bind (rule j) k) said n n' x y

  -- one thing comes after a list of pairs
  pub one_next : OneNext rule Fits
  one_next d said n n' x y = one_read x.0 y.0 d said n n' x.1 y.1

  -- a whole conversation, and what comes in the rest
  join_reads : (m : ℕ) (d : Dialog J Q A R) (talk more : List (Q × A)) (r : R) (n : Next Q R) (k : R → Dialog J Q A R) → Reads rule Fits m d talk (Ends r) → Comes rule Fits (k r) more n → Comes rule Fits (bind d k) (talk ++ more) n
  join_reads zero d talk more r n k x y = absurd x
  join_reads (suc m) (End s) [] more r n k x y = let e : r ≡ s = cc in subst (λ (t : R). Comes rule Fits (k t) more n) e y
  join_reads (suc m) (End s) (p ∷ talk) more r n k x y = absurd x
  join_reads (suc m) (Say q f) [] more r n k x y = absurd (cc)
  join_reads (suc m) (Say q f) (p ∷ talk) more r n k x y = let z = join_reads m (f p.1) talk more r n k x.2 y in (suc z.0, (x.0, x.1, z.1))
  join_reads (suc m) (Steps j f) talk more r n k x y =
      let z = join_reads m (bind (rule j) f) talk more r n k x y in
      (suc z.0, subst (λ (d : Dialog J Q A R). Reads rule Fits z.0 d (talk ++ more) n) (bind_assoc (rule j) f k) z.1)

  pub joins : PartsJoin rule Fits
  joins d k talk more r n x y = join_reads x.0 d talk more r n k x.1 y

  -- an ask of a part
  waits_reads : (m : ℕ) (d : Dialog J Q A R) (said : List (Q × A)) (q : Q) (k : R → Dialog J Q A R) → Reads rule Fits m d said (Asks q) → Comes rule Fits (bind d k) said (Asks q)
  waits_reads zero d said q k x = absurd x
  waits_reads (suc m) (End s) [] q k x = absurd (cc)
  waits_reads (suc m) (End s) (p ∷ said) q k x = absurd x
  waits_reads (suc m) (Say p f) [] q k x = (1, x)
  waits_reads (suc m) (Say p f) (o ∷ said) q k x = let z = waits_reads m (f o.1) said q k x.2 in (suc z.0, (x.0, x.1, z.1))
  waits_reads (suc m) (Steps j f) said q k x =
      let z = waits_reads m (bind (rule j) f) said q k x in
      (suc z.0, subst (λ (d : Dialog J Q A R). Reads rule Fits z.0 d said (Asks q)) (bind_assoc (rule j) f k) z.1)

  pub waits : PartsAsk rule Fits
  waits d k said q x = waits_reads x.0 d said q k x.1

  -- a whole conversation is one of a part and one of the rest
  split_reads : (m : ℕ) (d : Dialog J Q A R) (k : R → Dialog J Q A R) (talk : List (Q × A)) (s : R) → Reads rule Fits m (bind d k) talk (Ends s) → Parts rule Fits d k talk s
  split_reads zero d k talk s x = absurd x
  split_reads (suc m) (End r) k talk s x = record { said = []; more = talk; middle = r; whole = refl; part = (1, refl); rest = (suc m, x) }
  split_reads (suc m) (Say q f) k [] s x = absurd (cc)
  split_reads (suc m) (Say q f) k (p ∷ talk) s x =
      let z = split_reads m (f p.1) k talk s x.2 in
      record { said = p ∷ z.said; more = z.more; middle = z.middle; whole = ap (λ (l : List (Q × A)). p ∷ l) z.whole; part = (suc z.part.0, (x.0, x.1, z.part.1)); rest = z.rest }
  split_reads (suc m) (Steps j f) k talk s x =
      let z = split_reads m (bind (rule j) f) k talk s (subst (λ (d : Dialog J Q A R). Reads rule Fits m d talk (Ends s)) (sym (bind_assoc (rule j) f k)) x) in
      record { said = z.said; more = z.more; middle = z.middle; whole = z.whole; part = (suc z.part.0, z.part.1); rest = z.rest }

  pub splits : WholesSplit rule Fits
  splits d k talk s x = split_reads x.0 d k talk s x.1
