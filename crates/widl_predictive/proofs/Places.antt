-- From the machine's stack to sentences and the place of a fault.
use Rattle.std.proofs.Common.{◌≡◌, ◌≢◌, ℕ, zero, suc, ◌+◌, ◌<◌, ◌≤◌, Bool, true, false, Option, Some, None, List, [], ◌∷◌, ◌++◌, length, get_or, take, refl, sym, ◌∙◌, ap, subst, arith, append-nil, zero-add, ltb, ltb-true, ltb-false, inl, inr, ◌⊎◌}
use Rattle.std.specs.Prelude.{Contains, ◌||◌}
use Rattle.widl_predictive.specs.Derivation.{Symbol, Terminal, Nonterminal, Derives, done, token, row, begins_at}
use Rattle.widl_predictive.specs.Grammar as gr
use Rattle.widl_predictive.specs.Grammar.{Grammar}
use Rattle.widl_predictive.specs.Lookahead as look
use Rattle.widl_predictive.specs.Lookahead.{Sets, nth, IsPredictive}
use Rattle.widl_predictive.specs.Machine as machine
use Rattle.widl_predictive.specs.declared.machine.Top.{Top}
use Rattle.widl_predictive.specs.declared.machine.Top.TheVariants.{Wanted, Open, Nothing}
use Rattle.widl_predictive.specs.Machine.{topped, same, more}
use Rattle.widl_predictive.specs.Predictive as theory
use Rattle.widl_predictive.proofs.Theory
use Rattle.widl_predictive.specs.Predictive.{ahead, is_end}
use Rattle.widl_predictive.proofs.Booleans.{or_cases, or_left, or_right}
use Rattle.widl_predictive.proofs.Steps.{or-none, or-assoc, rows_at-none}

module _ {T R : Type 0} (g : Grammar T R) (sets : Sets T R) (owed : IsPredictive g sets) (begun : R) where
  abbrev Leveled : Type 0
  Leveled = gr.Leveled R

  abbrev rows : Leveled → List (List (Symbol T Leveled))
  rows = gr.rows g

  abbrev pick : Leveled → Option T → Option (List (Symbol T Leveled))
  pick = look.pick g sets

  abbrev start : List (Symbol T Leveled)
  start = gr.start g begun

  abbrev is : T → Option T → Bool
  is = sets.is

  abbrev nullable : Leveled → Bool
  nullable = look.nullable g sets

  abbrev first : Leveled → Option T → Bool
  first = look.first g sets

  abbrev follow : Leveled → Option T → Bool
  follow = look.follow g sets

  abbrev is_deep : Leveled → Bool
  is_deep = gr.is_deep g

  abbrev Sentence : List T → Type 0
  Sentence = gr.Sentence g begun

  abbrev Begins : List T → Type 0
  Begins = gr.Begins g begun

  abbrev SyntaxPlace : List T → ℕ → Type 0
  SyntaxPlace = gr.SyntaxPlace g begun

  abbrev DeepAt : List T → ℕ → Type 0
  DeepAt = gr.DeepAt g begun

  abbrev DeepPlace : List T → ℕ → Type 0
  DeepPlace = gr.DeepPlace g begun

  abbrev NoDeepBelow : List T → ℕ → Type 0
  NoDeepBelow = machine.NoDeepBelow g begun

  abbrev Unfolds : Option T → List (Symbol T Leveled) → List (Symbol T Leveled) → Bool → Type 0
  Unfolds = machine.Unfolds g sets

  abbrev EndsAt : Option T → Top T R → Type 0
  EndsAt = machine.EndsAt g sets

  abbrev predictive : theory.Predictive is nullable first follow rows pick
  predictive = owed.theory

  -- a derivation moved along an equation keeps what begins where
  moved_tokens : {s : List (Symbol T Leveled)} (w v : List T) → w ≡ v → (d : Derives rows s w) → (e : Derives rows s v) × ((j : ℕ) → begins_at is_deep d j → begins_at is_deep e j) × ((j : ℕ) → begins_at is_deep e j → begins_at is_deep d j)
  moved_tokens {s} w v q d = subst (λ x. (e : Derives rows s x) × ((j : ℕ) → begins_at is_deep d j → begins_at is_deep e j) × ((j : ℕ) → begins_at is_deep e j → begins_at is_deep d j)) q (d, λ j h. h, λ j h. h)

  moved_row : (s : List (Symbol T Leveled)) {w : List T} (α β : List (Symbol T Leveled)) → α ≡ β → (d : Derives rows (α ++ s) w) → (e : Derives rows (β ++ s) w) × ((j : ℕ) → begins_at is_deep d j → begins_at is_deep e j)
  moved_row s {w} α β q d = subst (λ x. (e : Derives rows (x ++ s) w) × ((j : ℕ) → begins_at is_deep d j → begins_at is_deep e j)) q (d, λ j h. h)

  row_told : {n : Leveled} {s : List (Symbol T Leveled)} {w : List T} (x : Derives rows (Nonterminal n ∷ s) w) → (α : List (Symbol T Leveled)) × Contains (rows n) α × (d : Derives rows (α ++ s) w) × ((j : ℕ) → begins_at is_deep x j → ((is_deep n ≡ true) × (j ≡ 0)) ⊎ begins_at is_deep d j)
  row_told (row α mem d) = (α, mem, d, λ j h. h)

  token_told : {t : T} {s : List (Symbol T Leveled)} {w : List T} (x : Derives rows (Terminal t ∷ s) w) → (u : List T) × (w ≡ t ∷ u) × (d : Derives rows s u) × ((j : ℕ) → begins_at is_deep x (suc j) → begins_at is_deep d j) × (begins_at is_deep x 0 → ⊥)
  token_told (token {w} d) = (w, refl, d, λ j h. h, λ h. h)

  -- the stack s derives what may follow the first k tokens of w, where the token ahead is l; the flag tells whether a level that is too deep began at k
  pub record Ahead (w : List T) (k : ℕ) (s : List (Symbol T Leveled)) (l : Option T) (b : Bool) : Type 0 where
    pub keeps : theory.Keeps is nullable first follow s is_end
    pub forward : (v : List T) → ahead v ≡ l → (d : Sentence (take k w ++ v)) → (e : Derives rows s v) × ((j : ℕ) → begins_at is_deep d (k + j) → begins_at is_deep e j ⊎ ((b ≡ true) × (j ≡ 0)))
    pub back : (v : List T) (e : Derives rows s v) → (d : Sentence (take k w ++ v)) × ((j : ℕ) → begins_at is_deep e j → begins_at is_deep d (k + j)) × (b ≡ true → begins_at is_deep d k)

  pub record Between (w : List T) (k : ℕ) (s : List (Symbol T Leveled)) : Type 0 where
    pub keeps : theory.Keeps is nullable first follow s is_end
    pub forward : (v : List T) (d : Sentence (take k w ++ v)) → (e : Derives rows s v) × ((j : ℕ) → begins_at is_deep d (k + j) → begins_at is_deep e j)
    pub back : (v : List T) (e : Derives rows s v) → (d : Sentence (take k w ++ v)) × ((j : ℕ) → begins_at is_deep e j → begins_at is_deep d (k + j))

  pub looking : {w : List T} {k : ℕ} {s : List (Symbol T Leveled)} → Between w k s → (l : Option T) → Ahead w k s l false
  looking b l = record {
    keeps = b.keeps;
    forward = λ v e d. ((b.forward v d).0, λ j h. inl ((b.forward v d).1 j h));
    back = λ v e. ((b.back v e).0, (b.back v e).1, λ z. cc);
  }

  end_follows : g.starts begun ≡ true → (l : Option T) → is_end l ≡ true → follow (begun, 1) l ≡ true
  end_follows may None h = owed.end_follows begun may
  end_follows may (Some t) h = cc

  pub begin : g.starts begun ≡ true → (w : List T) → Between w 0 start
  begin may w = record {
    keeps = (λ l h. end_follows may l h, tt);
    forward = λ v d. (d, λ j h. subst (begins_at is_deep d) (zero-add j) h);
    back = λ v d. (d, λ j h. subst (begins_at is_deep d) (sym (zero-add j)) h);
  }

  same_row : {a b : List (Symbol T Leveled)} (o : Option (List (Symbol T Leveled))) → o ≡ Some a → o ≡ Some b → a ≡ b
  same_row o p q = cc

  -- one row put in place of its rule
  opened_row : (w : List T) (k : ℕ) (l : Option T) (n : Leveled) (s α : List (Symbol T Leveled)) (c : Bool) → pick n l ≡ Some α → Ahead w k (Nonterminal n ∷ s) l c → Ahead w k (α ++ s) l (c || is_deep n)
  opened_row w k l n s α c picked a =
      let mem = predictive.from_rows n l α picked in
      record {
        keeps = Theory.keeps_row is nullable first follow rows pick predictive n s α a.keeps mem;
        forward = λ v e d.
            let x = a.forward v e d in
            let r = row_told x.0 in
            let q : pick n l ≡ Some r.0 = subst (λ y. pick n y ≡ Some r.0) e (Theory.picks is nullable first follow rows pick predictive n s v r.0 a.keeps r.1 r.2) in
            let t = moved_row s r.0 α (same_row (pick n l) q picked) r.2 in (
              t.0,
              λ j h. elim (x.1 j h) [
                | inl p ↦ elim (r.3 j p) [
                  | inl deep ↦ inr (or_right c (is_deep n) deep.0, deep.1)
                  | inr g ↦ inl (t.1 j g)
                ]
                | inr p ↦ inr (or_left c (is_deep n) p.0, p.1)
              ],
            );
        back = λ v e.
            let x = a.back v (row α mem e) in (
              x.0,
              λ j h. x.1 j (inr h),
              λ z. elim (or_cases c (is_deep n) z) [
                | inl p ↦ x.2 p
                | inr deep ↦ let zero_more : k + 0 ≡ k = omega arith in subst (begins_at is_deep x.0) zero_more (x.1 0 (inl (deep, refl)))
              ],
            );
      }

  pub unfolded : {w : List T} {k : ℕ} {l : Option T} {s t : List (Symbol T Leveled)} {b : Bool} {c : Bool} → Unfolds l s t b → Ahead w k s l c → Ahead w k t l (c || b)
  unfolded {w} {k} {l} {s = s} {c = c} same a = subst (Ahead w k s l) (sym (or-none c)) a
  unfolded {w} {k} {l} {c = c} (more {n} {z = s} {t} {b} α picked u) a = subst (Ahead w k t l) (or-assoc c (is_deep n) b) (unfolded u (opened_row w k l n s α c picked a))

  -- no token list with l ahead follows
  pub Refuses : Option T → List (Symbol T Leveled) → Type 0
  Refuses l s = (v : List T) → ahead v ≡ l → Derives rows s v → ⊥

  stuck_refuses : (l : Option T) (r : R) (v : ℕ) (s : List (Symbol T Leveled)) → theory.Keeps is nullable first follow (Nonterminal (r, v) ∷ s) is_end → look.choice g sets r l ≡ None → Refuses l (Nonterminal (r, v) ∷ s)
  unfolding Refuses
  stuck_refuses l r v s k h = λ x e d.
      let n = Theory.determined is nullable first follow rows pick predictive (r, v) s x k d in
      let q : pick (r, v) l ≡ Some n.0 = subst (λ y. pick (r, v) y ≡ Some n.0) e n.1 in
      let none : pick (r, v) l ≡ None = rows_at-none g v (g.rows r) (sets.picked r l) h in
      cc

  derives_none : {v : List T} → Derives rows [] v → v ≡ []
  derives_none done = refl

  derives_term : {t : T} {s : List (Symbol T Leveled)} {v : List T} → Derives rows (Terminal t ∷ s) v → (u : List T) × (v ≡ t ∷ u) × Derives rows s u
  derives_term (token d) = (_, refl, d)

  empty_refuses : (x : T) → Refuses (Some x) []
  unfolding Refuses
  empty_refuses x v e d = let z = derives_none d in let y : ahead {T = T} [] ≡ Some x = subst (λ u. ahead u ≡ Some x) z e in cc

  wanted_refuses : (t : T) (l : Option T) (s : List (Symbol T Leveled)) → Some t ≢ l → Refuses l (Terminal t ∷ s)
  unfolding Refuses
  wanted_refuses t l s ne v e d = let u = derives_term d in ne (sym (ap ahead u.1) ∙ e)

  -- what was taken from the top of the stack is not the token ahead
  unwanted_refuses : (l : Option T) (x : T) (top : Top T R) (z : List (Symbol T Leveled)) → theory.Keeps is nullable first follow (topped top z) is_end → EndsAt l top → l ≡ Some x → top ≢ Wanted x → Refuses l (topped top z)
  unwanted_refuses l x (Wanted t) z k h e ne = wanted_refuses t l z (λ q. ne (let f : t ≡ x = cc in ap Wanted f))
  unwanted_refuses l x (Open r v) z k h e ne = stuck_refuses l r v z k h
  unwanted_refuses l x Nothing z k h e ne = subst (λ y. Refuses y []) (sym e) (empty_refuses x)

  -- something is left at the end
  left_refuses : (l : Option T) (top : Top T R) (z : List (Symbol T Leveled)) → theory.Keeps is nullable first follow (topped top z) is_end → EndsAt l top → l ≡ None → top ≢ Nothing → Refuses l (topped top z)
  left_refuses l (Wanted t) z k h e ne = wanted_refuses t l z (λ q. cc)
  left_refuses l (Open r v) z k h e ne = stuck_refuses l r v z k h
  left_refuses l Nothing z k h e ne = absurd (ne refl)

  -- the token list, cut at its token k
  pub take_more : (w : List T) (k : ℕ) (d : T) (v : List T) → k < length w → take (suc k) w ++ v ≡ take k w ++ get_or w k d ∷ v
  take_more [] k d v lt = absurd (omega arith)
  take_more (x ∷ w) zero d v lt = refl
  take_more (x ∷ w) (suc k) d v lt = ap (λ u. x ∷ u) (take_more w k d v (omega arith))

  -- what stands ahead of place k
  abbrev pub ahead_at : List T → ℕ → Option T
  ahead_at [] k = None
  ahead_at (x ∷ w) zero = Some x
  ahead_at (x ∷ w) (suc k) = ahead_at w k

  pub ahead_at-some : (w : List T) (k : ℕ) (d : T) → k < length w → ahead_at w k ≡ Some (get_or w k d)
  ahead_at-some [] k d lt = absurd (omega arith)
  ahead_at-some (x ∷ w) zero d lt = refl
  ahead_at-some (x ∷ w) (suc k) d lt = ahead_at-some w k d (omega arith)

  pub ahead_at-end : (w : List T) → ahead_at w (length w) ≡ None
  ahead_at-end [] = refl
  ahead_at-end (x ∷ w) = ahead_at-end w

  take_all : (w : List T) → take (length w) w ≡ w
  take_all [] = refl
  take_all (x ∷ w) = ap (λ u. x ∷ u) (take_all w)

  first_of_list : (w : List T) {k : ℕ} → k < length w → T
  first_of_list [] lt = absurd (omega arith)
  first_of_list (x ∷ w) lt = x

  pub fault_at : (w : List T) (k : ℕ) (s : List (Symbol T Leveled)) (l : Option T) (b : Bool) → Ahead w k s l b → k ≤ length w → l ≡ ahead_at w k → Refuses l s → SyntaxPlace w k
  unfolding Refuses
  fault_at w k s l b a le ahead_is refuses = record {
    reached = le;
    before = let u = Theory.some_word is nullable first follow rows pick predictive s in (u.0, (a.back u.0 u.1).0);
    within = λ lt given. within_case lt given;
    at_end = λ e d.
        let n : l ≡ None = ahead_is ∙ ap (ahead_at w) e ∙ ahead_at-end w in
        let whole : w ≡ take k w ++ [] = sym (append-nil (take k w) ∙ ap (λ i. take i w) e ∙ take_all w) in
        refuses [] (sym n) (a.forward [] (sym n) (subst Sentence whole d)).0;
  }
    where
      within_case : k < length w → Begins (take (k + 1) w) → ⊥
      within_case lt given =
          let d : T = first_of_list w lt in
          let here : l ≡ Some (get_or w k d) = ahead_is ∙ ahead_at-some w k d lt in
          let same_list : take (k + 1) w ++ given.0 ≡ take k w ++ get_or w k d ∷ given.0 = let one : k + 1 ≡ suc k = omega arith in ap (λ i. take i w ++ given.0) one ∙ take_more w k d given.0 lt in
          refuses (get_or w k d ∷ given.0) (sym here) (a.forward (get_or w k d ∷ given.0) (sym here) (subst Sentence same_list given.1)).0

  cut_at : (w : List T) (k : ℕ) (d : T) → k < length w → (v : List T) → take (k + 1) w ++ v ≡ take k w ++ get_or w k d ∷ v
  cut_at w k d lt v = let one : k + 1 ≡ suc k = omega arith in ap (λ i. take i w ++ v) one ∙ take_more w k d v lt

  tail_same : {t : T} {u v : List T} → t ∷ u ≡ t ∷ v → u ≡ v
  tail_same e = cc

  -- the token ahead is wanted, and taken
  module _ (w : List T) (k : ℕ) (x : T) (s : List (Symbol T Leveled)) (b : Bool) (lt : k < length w) (cut : (v : List T) → take (k + 1) w ++ v ≡ take k w ++ x ∷ v) (a : Ahead w k (Terminal x ∷ s) (Some x) b) where
    pub taken : Between w (k + 1) s
    taken = record {
      keeps = a.keeps;
      forward = λ v d0.
          let d = moved_tokens _ _ (cut v) d0 in
          let y = a.forward (x ∷ v) refl d.0 in
          let z = token_told y.0 in
          let m = moved_tokens _ _ (tail_same (sym z.1)) z.2 in (
            m.0,
            λ j h. let e : k + 1 + j ≡ k + suc j = omega arith in elim (y.1 (suc j) (subst (begins_at is_deep d.0) e (d.1 (k + 1 + j) h))) [
              | inl p ↦ m.1 j (z.3 j p)
              | inr p ↦ let n : suc j ≡ 0 = p.1 in absurd (omega arith)
            ],
          );
      back = λ v e.
          let y = a.back (x ∷ v) (token e) in
          let d = moved_tokens _ _ (sym (cut v)) y.0 in
          (d.0, λ j h. let q : k + suc j ≡ k + 1 + j = omega arith in d.1 (k + 1 + j) (subst (begins_at is_deep y.0) q (y.1 (suc j) h)));
    }

    -- no level that is too deep begins here, in any sentence
    pub clear_at : b ≡ false → DeepAt w k → ⊥
    clear_at off (v, d0, h) =
        let d = moved_tokens _ _ (cut v) d0 in
        let y = a.forward (x ∷ v) refl d.0 in
        let q : k ≡ k + 0 = omega arith in
        elim (y.1 0 (subst (begins_at is_deep d.0) q (d.1 k h))) [
          | inl p ↦ (token_told y.0).4 p
          | inr p ↦ (let on : b ≡ true = p.0 in cc)
        ]

    -- one does, in some sentence
    pub deep_at : b ≡ true → DeepAt w k
    deep_at on =
        let u = Theory.some_word is nullable first follow rows pick predictive s in
        let y = a.back (x ∷ u.0) (token u.1) in
        let d = moved_tokens _ _ (sym (cut u.0)) y.0 in
        (u.0, d.0, d.1 k (y.2 on))

  -- at the end an empty stack is a sentence's
  pub accepted : (w : List T) (s : List (Symbol T Leveled)) (b : Bool) → s ≡ [] → Ahead w (length w) s None b → Sentence w
  accepted w s b e a = subst Sentence (append-nil (take (length w) w) ∙ take_all w) (a.back [] (subst (λ x. Derives rows x []) (sym e) done)).0

  pub no_deep_more : (w : List T) (k : ℕ) → NoDeepBelow w k → (DeepAt w k → ⊥) → NoDeepBelow w (k + 1)
  no_deep_more w k below here j lt deep = go (ltb j k) refl
    where
      go : (c : Bool) → ltb j k ≡ c → ⊥
      go true e = below j (ltb-true j k e) deep
      go false e = let same_place : j ≡ k = omega (arith, ltb-false j k e) in here (subst (DeepAt w) same_place deep)

  -- what the loop keeps
  pub record Kept (w : List T) (k : ℕ) (s : List (Symbol T Leveled)) : Type 0 where
    pub between : Between w k s
    pub no_deep : NoDeepBelow w k

  pub kept_start : g.starts begun ≡ true → (w : List T) → Kept w 0 start
  kept_start may w = record { between = begin may w; no_deep = λ j lt. absurd (omega arith) }

  -- the machine's answers
  module _ (w : List T) (k : ℕ) (s z : List (Symbol T Leveled)) (top : Top T R) (l : Option T) (b : Bool) (kept : Kept w k s) (u : Unfolds l s (topped top z) b) (is_ahead : l ≡ ahead_at w k) (le : k ≤ length w) where
    now : Ahead w k (topped top z) l b
    now = unfolded u (looking kept.between l)

    pub unwanted_fault : (x : T) → EndsAt l top → l ≡ Some x → top ≢ Wanted x → SyntaxPlace w k × NoDeepBelow w k
    unwanted_fault x ends e ne = (fault_at w k (topped top z) l b now le is_ahead (unwanted_refuses l x top z now.keeps ends e ne), kept.no_deep)

    pub left_fault : EndsAt l top → l ≡ None → top ≢ Nothing → SyntaxPlace w k × NoDeepBelow w k
    left_fault ends e ne = (fault_at w k (topped top z) l b now le is_ahead (left_refuses l top z now.keeps ends e ne), kept.no_deep)

    module _ (d : T) (lt : k < length w) (e : l ≡ Some (get_or w k d)) (is_wanted : top ≡ Wanted (get_or w k d)) where
      wanted : Ahead w k (Terminal (get_or w k d) ∷ z) (Some (get_or w k d)) b
      wanted = subst (λ x. Ahead w k (topped x z) (Some (get_or w k d)) b) is_wanted (subst (λ y. Ahead w k (topped top z) y b) e now)

      pub next_kept : b ≡ false → Kept w (k + 1) z
      next_kept off = record {
        between = taken w k (get_or w k d) z b lt (cut_at w k d lt) wanted;
        no_deep = no_deep_more w k kept.no_deep (clear_at w k (get_or w k d) z b lt (cut_at w k d lt) wanted off);
      }

      pub deep_fault : b ≡ true → DeepPlace w k
      deep_fault on = record { within = lt; deep = deep_at w k (get_or w k d) z b lt (cut_at w k d lt) wanted on; least = kept.no_deep }

    pub sentence_of : k ≡ length w → l ≡ None → top ≡ Nothing → gr.IsAccepted g begun w
    sentence_of e n none = record {
      sentence = accepted w (topped top z) b (ap (λ x. topped x z) none) (subst (λ x. Ahead w x (topped top z) None b) e (subst (λ y. Ahead w k (topped top z) y b) n now));
      no_deep = λ j p. subst (NoDeepBelow w) e kept.no_deep j p.within p.deep;
    }

  pub end_is : (w : List T) (k : ℕ) → k ≡ length w → None ≡ ahead_at w k
  end_is w k e = sym (ap (ahead_at w) e ∙ ahead_at-end w)
