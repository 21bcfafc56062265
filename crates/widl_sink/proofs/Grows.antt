-- Lemmas on known bytes that grow.
use Rattle.std.proofs.Common.{◌≡◌, ℕ, List, [], ◌++◌, None, Some, refl, subst, sym, ap, ◌∙◌, append_assoc, append-nil, take, drop, take-append-drop}
use Rattle.std.specs.declared.option.Option.{Option}
use Rattle.std.specs.Prelude.{OnErr, OnOk, Ok, Err}
use Rattle.std.specs.declared.result.Result.{Result}
use Rattle.std.specs.Io.KnownBytes.{append_known}
use Rattle.widl_sink.specs.Growth.{GrewByPrefix, Sends}

pub append_known-append : (o : Option (List ℕ)) (a b : List ℕ) → append_known (append_known o a) b ≡ append_known o (a ++ b)
append_known-append None a b = refl
append_known-append (Some x) a b = ap Some (append_assoc x a b)

pub append_known-nil : (o : Option (List ℕ)) → append_known o [] ≡ o
append_known-nil None = refl
append_known-nil (Some x) = ap Some (append-nil x)

-- nothing was written
pub prefix_none : (old new : Option (List ℕ)) (bytes : List ℕ) → new ≡ old → GrewByPrefix old new bytes
prefix_none old new bytes same = record { written = []; rest = bytes; whole = refl; grew = same ∙ sym (append_known-nil old) }

-- all of the first bytes were written, and then a prefix of the others
pub prefix_after : (a b c : Option (List ℕ)) (first others : List ℕ) → b ≡ append_known a first → GrewByPrefix b c others → GrewByPrefix a c (first ++ others)
prefix_after a b c first others grown p = record {
  written = first ++ p.written;
  rest = p.rest;
  whole = ap (λ l. first ++ l) p.whole ∙ sym (append_assoc first p.written p.rest);
  grew = p.grew ∙ ap (λ o. append_known o p.written) grown ∙ append_known-append a first p.written;
}

-- a prefix of the first bytes is a prefix of all
pub prefix_longer : (a b : Option (List ℕ)) (first others : List ℕ) → GrewByPrefix a b first → GrewByPrefix a b (first ++ others)
prefix_longer a b first others p = record {
  written = p.written;
  rest = p.rest ++ others;
  whole = ap (λ l. l ++ others) p.whole ∙ append_assoc p.written p.rest others;
  grew = p.grew;
}

-- some more of the bytes were written
pub sent_more : (all done rest : List ℕ) (n : ℕ) → all ≡ done ++ rest → all ≡ (done ++ take n rest) ++ drop n rest
sent_more all done rest n e = e ∙ ap (λ l. done ++ l) (sym (take-append-drop n rest)) ∙ sym (append_assoc done (take n rest) (drop n rest))

pub grown_more : (a b c : Option (List ℕ)) (done more : List ℕ) → b ≡ append_known a done → c ≡ append_known b more → c ≡ append_known a (done ++ more)
grown_more a b c done more p q = q ∙ ap (λ o. append_known o more) p ∙ append_known-append a done more

pub on_err : {T F : Type 0} (r : Result T F) (P : Type 0) → P → OnErr r P
on_err (Ok x) P p = tt
on_err (Err e) P p = p

-- nothing new was added, and all that was kept was sent
pub sends_all : (a b : Option (List ℕ)) (kept added : List ℕ) → b ≡ append_known a (kept ++ added) → Sends a b kept added []
sends_all a b kept added grew = record { sent = kept ++ added; whole = sym (append-nil (kept ++ added)); grew = grew }

-- one call after the other
pub sends_then : (a b c : Option (List ℕ)) (w e x f y : List ℕ) → Sends a b w e x → Sends b c x f y → Sends a c w (e ++ f) y
sends_then a b c w e x f y p q = record {
  sent = p.sent ++ q.sent;
  whole = sym (append_assoc w e f) ∙ ap (λ l. l ++ f) p.whole ∙ append_assoc p.sent x f ∙ ap (λ l. p.sent ++ l) q.whole ∙ sym (append_assoc p.sent q.sent y);
  grew = q.grew ∙ ap (λ o. append_known o q.sent) p.grew ∙ append_known-append a p.sent q.sent;
}

-- a call that failed, after others
pub sends_prefix : (a b c : Option (List ℕ)) (w e x f : List ℕ) → Sends a b w e x → GrewByPrefix b c (x ++ f) → GrewByPrefix a c (w ++ (e ++ f))
sends_prefix a b c w e x f p q =
    let all : w ++ (e ++ f) ≡ p.sent ++ (x ++ f) = sym (append_assoc w e f) ∙ ap (λ l. l ++ f) p.whole ∙ append_assoc p.sent x f in
    subst (GrewByPrefix a c) (sym all) (prefix_after a b c p.sent (x ++ f) p.grew q)

-- what is kept is not yet sent
pub sends_so_far : (a b : Option (List ℕ)) (w e x : List ℕ) → Sends a b w e x → GrewByPrefix a b (w ++ e)
sends_so_far a b w e x p = record { written = p.sent; rest = x; whole = p.whole; grew = p.grew }

-- nothing was kept at last
pub sends_end : (a b : Option (List ℕ)) (w e x : List ℕ) → Sends a b w e x → x ≡ [] → b ≡ append_known a (w ++ e)
sends_end a b w e x p none = p.grew ∙ ap (append_known a) (sym (p.whole ∙ ap (λ l. p.sent ++ l) none ∙ append-nil p.sent))

pub sends_none : (a : Option (List ℕ)) (w : List ℕ) → Sends a a w [] w
sends_none a w = record { sent = []; whole = append-nil w; grew = sym (append_known-nil a) }

-- what was kept is sent too
pub sends_flushed : (a b c : Option (List ℕ)) (w e x : List ℕ) → Sends a b w e x → c ≡ append_known b x → c ≡ append_known a (w ++ e)
sends_flushed a b c w e x p q = grown_more a b c p.sent x p.grew q ∙ ap (append_known a) (sym p.whole)

pub sends_torn : (a b c : Option (List ℕ)) (w e x : List ℕ) → Sends a b w e x → GrewByPrefix b c x → GrewByPrefix a c (w ++ e)
sends_torn a b c w e x p q = subst (GrewByPrefix a c) (sym p.whole) (prefix_after a b c p.sent x p.grew q)

pub sends_torn_err : {T F : Type 0} (r : Result T F) (a b c : Option (List ℕ)) (w e x : List ℕ) → Sends a b w e x → OnErr r (GrewByPrefix b c x) → OnErr r (GrewByPrefix a c (w ++ e))
sends_torn_err (Ok y) a b c w e x p q = tt
sends_torn_err (Err y) a b c w e x p q = sends_torn a b c w e x p q

-- some of what was added is kept behind what was kept
pub sends_kept : (a b : Option (List ℕ)) (w e x moved y : List ℕ) → Sends a b w e x → y ≡ x ++ moved → Sends a b w (e ++ moved) y
sends_kept a b w e x moved y p q = record {
  sent = p.sent;
  whole = sym (append_assoc w e moved) ∙ ap (λ l. l ++ moved) p.whole ∙ append_assoc p.sent x moved ∙ ap (λ l. p.sent ++ l) (sym q);
  grew = p.grew;
}

-- what was kept is written out
pub sends_out : (a b c : Option (List ℕ)) (w e x now : List ℕ) → Sends a b w e x → c ≡ append_known b x → now ≡ [] → Sends a c w e now
sends_out a b c w e x now p q none = record {
  sent = p.sent ++ x;
  whole = p.whole ∙ sym (append-nil (p.sent ++ x)) ∙ ap (λ l. (p.sent ++ x) ++ l) (sym none);
  grew = grown_more a b c p.sent x p.grew q;
}

-- the same, where it holds only at an end without an error, or with one
pub sends_then_ok : {T F : Type 0} (r : Result T F) (a b c : Option (List ℕ)) (w e x f y : List ℕ) → Sends a b w e x → OnOk r (Sends b c x f y) → OnOk r (Sends a c w (e ++ f) y)
sends_then_ok (Ok z) a b c w e x f y p q = sends_then a b c w e x f y p q
sends_then_ok (Err z) a b c w e x f y p q = tt

pub sends_prefix_err : {T F : Type 0} (r : Result T F) (a b c : Option (List ℕ)) (w e x f : List ℕ) → Sends a b w e x → OnErr r (GrewByPrefix b c (x ++ f)) → OnErr r (GrewByPrefix a c (w ++ (e ++ f)))
sends_prefix_err (Ok z) a b c w e x f p q = tt
sends_prefix_err (Err z) a b c w e x f p q = sends_prefix a b c w e x f p q
