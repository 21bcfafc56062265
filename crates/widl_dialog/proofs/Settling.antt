-- Jobs alone lead from each tree to an ask or an end, where they only go to lower ones.
use Rattle.std.specs.Prelude.{◌≡◌, ℕ, zero, suc, ◌<◌, refl}
use Rattle.std.proofs.Common.{subst, ap, arith}
use mathlib.Core.Logic.{inl, inr}
use Rattle.widl_dialog.specs.Dialog.{Dialog, End, Say, Steps, bind}
use Rattle.widl_dialog.specs.Calm.{Below}
use Rattle.widl_dialog.specs.Settle.{Heads, Settles, count_heads, jobs, Low}

module _ {J Q A R : Type 0} (rule : J → Dialog J Q A R) where
  same_heads : (n m : ℕ) (d : Dialog J Q A R) (x : Heads rule n d) (y : Heads rule m d) → count_heads rule n d x ≡ count_heads rule m d y
  same_heads zero m d x y = absurd x
  same_heads (suc n) zero d x y = absurd y
  same_heads (suc n) (suc m) (End r) x y = refl
  same_heads (suc n) (suc m) (Say q k) x y = refl
  same_heads (suc n) (suc m) (Steps j k) x y = ap (λ (c : ℕ). suc c) (same_heads n m (bind (rule j) k) x y)

  pub same_jobs : {d : Dialog J Q A R} (x y : Settles rule d) → jobs rule x ≡ jobs rule y
  unfolding jobs
  same_jobs {d = d} x y = same_heads x.bound y.bound d x.heads y.heads

  pub jobs_steps : (j : J) (k : R → Dialog J Q A R) (x : Settles rule (bind (rule j) k)) (y : Settles rule (Steps j k)) → jobs rule y ≡ suc (jobs rule x)
  unfolding jobs
  jobs_steps j k x y = same_heads y.bound (suc x.bound) (Steps j k) y.heads x.heads

  module _ (high low : J → ℕ) (all_low : (j : J) → Low high low (high j) (low j) (rule j)) where
    -- steps that settle whatever comes after them
    Firm : Dialog J Q A R → Type 0
    Firm d = (k : R → Dialog J Q A R) → ((r : R) → Settles rule (k r)) → Settles rule (bind d k)

    walk : (m n : ℕ) → ((j : J) → Below high low m n j → Firm (rule j)) → (d : Dialog J Q A R) → Low high low m n d → Firm d
    unfolding Firm
    walk m n lower (End r) x k all = all r
    walk m n lower (Say q g) x k all = record { bound = 1; heads = tt }
    walk m n lower (Steps j g) x k all =
        let rest = lower j x.0 (λ r. bind (g r) k) (λ r. walk m n lower (g r) (x.1 r) k all) in
        record { bound = suc rest.bound; heads = rest.heads }

    lower_of : (m n : ℕ) → ((i : J) → high i < m → Firm (rule i)) → ((i : J) → high i ≡ m → low i < n → Firm (rule i)) → (i : J) → Below high low m n i → Firm (rule i)
    lower_of m n above beside i (inl s) = above i s
    lower_of m n above beside i (inr s) = beside i s.0 s.1

    -- each job with this first rank is firm
    lows : (m : ℕ) → ((i : J) → high i < m → Firm (rule i)) → (n : ℕ) (j : J) → high j ≡ m → low j < n → Firm (rule j)
    lows m above zero j e r = absurd (omega arith)
    lows m above (suc n) j e r =
        walk m (low j) (lower_of m (low j) above (λ i f s. lows m above n i f (omega (arith, s, r)))) (rule j) (subst (λ (k : ℕ). Low high low k (low j) (rule j)) e (all_low j))

    lowers : (m : ℕ) (j : J) → high j < m → Firm (rule j)
    lowers zero j r = absurd (omega arith)
    lowers (suc m) j r = lows (high j) (λ i s. lowers m i (omega (arith, s, r))) (suc (low j)) j refl (omega arith)

    firm : (j : J) → Firm (rule j) → (k : R → Dialog J Q A R) → ((r : R) → Settles rule (k r)) → Settles rule (bind (rule j) k)
    unfolding Firm
    firm j x = x

    -- each tree settles
    pub settles : (d : Dialog J Q A R) → Settles rule d
    settles (End r) = record { bound = 1; heads = tt }
    settles (Say q k) = record { bound = 1; heads = tt }
    settles (Steps j k) =
        let rest = firm j (lowers (suc (high j)) j (omega arith)) k (λ r. settles (k r)) in
        record { bound = suc rest.bound; heads = rest.heads }
