-- The names of the members of a dictionary are kept, a member at a time.
use Rattle.std.proofs.Common.{◌≡◌, ◌⊎◌, inl, inr, ℕ, ◌+◌, ◌<◌, ◌≤◌, ◌++◌, Bool, true, false, ◌&&◌, ◌||◌, cond, ltb, nat_lt, max, List, [], ◌∷◌, length, take, map, get_or, bytes_eq, unwrap_or, Option, None, Some, arith, refl, sym, ap, subst, ◌∙◌, Bor}
use Rattle.std.specs.List.{list_any}
use Rattle.std.specs.Map.{update}
use Rattle.std.proofs.Math.Bool.{or-false}
use Rattle.std.proofs.lemmas.List.{take_all}
use Rattle.std.proofs.lemmas.Slice.Eq.{bytes_eq-Decides}
use Rattle.indexmap.specs.IndexMap.{IndexMap, get_by}
use Rattle.widl_idl.specs.DefinitionTerms.{MemberTerm, member_term}
use Rattle.widl_idl.specs.declared.dictionary.Member.{Member}
use Rattle.widl_idl.specs.declared.violation.Violation.{Violation}
use Rattle.widl_idl.specs.First.{AtOne, FirstWhere, earlier, violation_at}
use Rattle.widl_idl.proofs.Order.{one_place}
use Rattle.widl_names.proofs.PlainLists.{mapped_more}
use Rattle.widl_names.proofs.Pushed.{at_one_push}
use Rattle.widl_names.proofs.MappedLoops.{any_push}
use Rattle.widl_overload.specs.rules.DictionaryRules.{has_member}
use Rattle.widl_inheritance.specs.MemberEnds.{RepeatsKnown, end_of}

-- what is kept for a name, after a place was kept for one
pub end_kept : {S : Type 0} (old new : IndexMap (Bor (List ℕ)) ℕ S) (name other : List ℕ) (past end : ℕ) → end ≡ max (end_of old name) past
    → get_by (λ k. bytes_eq other k.now) new ≡ update bytes_eq (λ words. get_by (λ k. bytes_eq words k.now) old) name (Some end) other
    → end_of new other ≡ cond (bytes_eq name other) (max (end_of old other) past) (end_of old other)
end_kept {S} old new name other past end t e = by_test (bytes_eq name other) refl
  where
    by_test : (b : Bool) → bytes_eq name other ≡ b → end_of new other ≡ cond b (max (end_of old other) past) (end_of old other)
    by_test true h = let same : name ≡ other = grind (arith, bytes_eq-Decides name other) in ap (λ o. unwrap_or o 0) (e ∙ ap (λ b. cond b (Some end) (get_by (λ k. bytes_eq other k.now) old)) h) ∙ t ∙ ap (λ words. max (end_of old words) past) same
    by_test false h = ap (λ o. unwrap_or o 0) (e ∙ ap (λ b. cond b (Some end) (get_by (λ k. bytes_eq other k.now) old)) h)

-- a place lies before the end that is kept, or before the new one
after_by : (place was past : ℕ) (b : Bool) → ltb place (cond b (max was past) was) ≡ (ltb place was || (b && ltb place past))
after_by place was past true = grind arith
after_by place was past false = sym (or-false (ltb place was))

-- the names of these members are kept, and the first violation at which one is not new
pub record MembersKept (old now : List ℕ → ℕ) (start past : ℕ) (members : List MemberTerm) (best : Option Violation) : Type 0 where
  pub ends : (name : List ℕ) (place : ℕ) → nat_lt place (now name) ≡ (nat_lt place (old name) || (has_member name members && nat_lt place past))
  pub earliest : FirstWhere (AtOne (RepeatsKnown (λ name. nat_lt start (old name))) members) best

none_and : (a b : Bool) → (a || (false && b)) ≡ a
none_and a b = or-false a

pub nothing_kept : (old : List ℕ → ℕ) (start past : ℕ) → MembersKept old old start past [] None
nothing_kept old start past = record {
  ends = λ name place. sym (or-false (ltb place (old name)));
  earliest = λ s u. absurd (let below = u.below in omega arith);
}

joined_tests : (a b c p : Bool) → ((a || (b && p)) || (c && p)) ≡ (a || ((b || c) && p))
joined_tests true b c p = refl
joined_tests false true c true = refl
joined_tests false true true false = refl
joined_tests false true false false = refl
joined_tests false false c p = refl

either_of : (a b : Bool) → (a || b) ≡ true → (b ≡ true) ⊎ (a ≡ true)
either_of true b h = inr refl
either_of false b h = inl h

of_either : (a b : Bool) → (a || b) ≡ false → (b ≡ true) ⊎ (a ≡ true) → ⊥
of_either true b h e = let f : true ≡ false = h in (cc)
of_either false b h (inl e) = let f : true ≡ false = sym e ∙ h in (cc)
of_either false b h (inr e) = let f : false ≡ true = e in (cc)

and_true : (a b : Bool) → b ≡ true → (a && b) ≡ a
and_true true b h = h
and_true false b h = refl

module _ (old was now : List ℕ → ℕ) (start past : ℕ) (full : start < past) (before : List MemberTerm) (m : MemberTerm) (best found : Option Violation) (kept : MembersKept old was start past before best) where
  known_is : nat_lt start (was m.name) ≡ (nat_lt start (old m.name) || has_member m.name before)
  known_is = kept.ends m.name start ∙ ap (λ b. ltb start (old m.name) || b) (and_true (has_member m.name before) (ltb start past) (grind arith))

  found_first : found ≡ cond (nat_lt start (was m.name)) (Some (violation_at m.at)) None → FirstWhere (RepeatsKnown (λ name. nat_lt start (old name)) before m) found
  found_first e = one_place ((has_member m.name before ≡ true) ⊎ (nat_lt start (old m.name) ≡ true)) m.at (nat_lt start (was m.name)) found
      (λ h. either_of (ltb start (old m.name)) (has_member m.name before) (sym known_is ∙ h))
      (λ h. of_either (ltb start (old m.name)) (has_member m.name before) (sym known_is ∙ h))
      e

  ends_now : ((name : List ℕ) → now name ≡ cond (bytes_eq m.name name) (max (was name) past) (was name)) → (name : List ℕ) (place : ℕ) → nat_lt place (now name) ≡ (nat_lt place (old name) || (has_member name (before ++ m ∷ []) && nat_lt place past))
  ends_now e name place =
      ap (ltb place) (e name) ∙ after_by place (was name) past (bytes_eq m.name name) ∙ ap (λ b. b || (bytes_eq m.name name && ltb place past)) (kept.ends name place)
      ∙ joined_tests (ltb place (old name)) (has_member name before) (bytes_eq m.name name) (ltb place past)
      ∙ ap (λ b. ltb place (old name) || (b && ltb place past)) (sym (any_push (λ (x : MemberTerm). bytes_eq x.name name) before m))

  pub kept_push : ((name : List ℕ) → now name ≡ cond (bytes_eq m.name name) (max (was name) past) (was name)) → found ≡ cond (nat_lt start (was m.name)) (Some (violation_at m.at)) None → MembersKept old now start past (before ++ m ∷ []) (earlier best found)
  kept_push e f = record { ends = ends_now e; earliest = at_one_push (RepeatsKnown (λ name. nat_lt start (old name))) before m best found kept.earliest (found_first f) }

-- one member more
pub kept_more : (old was now : List ℕ → ℕ) (start past : ℕ) (members : List Member) (i : ℕ) (m : Member) (best found later : Option Violation) → start < past → i < length members → m ≡ get_or members i m
    → ((name : List ℕ) → now name ≡ cond (bytes_eq m.name name) (max (was name) past) (was name)) → found ≡ cond (nat_lt start (was m.name)) (Some (violation_at m.at)) None → later ≡ earlier best found
    → MembersKept old was start past (map member_term (take i members)) best → MembersKept old now start past (map member_term (take (i + 1) members)) later
kept_more old was now start past members i m best found later full below is e f l kept =
    subst (MembersKept old now start past (map member_term (take (i + 1) members))) (sym l)
    (subst (λ xs. MembersKept old now start past xs (earlier best found)) (sym (mapped_more member_term members i m below is))
    (kept_push old was now start past full (map member_term (take i members)) (member_term m) best found kept e f))

-- all members
pub kept_all : (old now : List ℕ → ℕ) (start past : ℕ) (members : List Member) (i : ℕ) (best : Option Violation) → length members ≤ i → MembersKept old now start past (map member_term (take i members)) best → MembersKept old now start past (map member_term members) best
kept_all old now start past members i best over kept = subst (λ xs. MembersKept old now start past (map member_term xs) best) (take_all i members over) kept
