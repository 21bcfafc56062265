-- Members of which none has the name of an earlier one break no rule on members of one name.
use Rattle.std.proofs.Common.{◌≡◌, ◌⊎◌, inl, inr, ℕ, ◌<◌, Bool, true, false, cond, List, [], ◌∷◌, length, filter, filter_map, take, get_or, Option, None, Some, arith, refl, sym, ap, ◌∙◌, ◌+◌, bytes_eq, Bor}
use Rattle.std.specs.Prelude.{◌&&◌, ◌||◌}
use Rattle.std.specs.List.{cons_option, list_any}
use Rattle.std.proofs.Math.ListN.{get_or-map}
use Rattle.std.proofs.lemmas.List.{length-map}
use Rattle.std.proofs.lemmas.List.Folds.{list_any_at}
use Rattle.std.proofs.lemmas.Slice.Eq.{bytes_eq-Decides}
use Rattle.widl_idl.specs.declared.tree.members.Member.{Member}
use Rattle.widl_idl.specs.declared.violation.Violation.{Violation}
use Rattle.widl_idl.specs.First.{AtOne, FirstWhere}
use Rattle.widl_idl.specs.MergedMembers.{are_overloads, operation_in, operation_text, operations_in}
use Rattle.widl_idl.specs.MergingRules.{AtName}
use Rattle.widl_idl.specs.PlainTypes.{PlainName}
use Rattle.widl_idl.specs.PlainTrees.{PlainDefinition, PlainMember, PlainMemberKind, PlainOperation, ConstantMember, AttributeMember, OperationMember, ConstructorMember, member_of}
use Rattle.widl_overload.specs.rules.MemberRules.{DiffersInPromise, HasOverloadPastLimit, IsOverloadPastLimit, MixesPromises, RepeatsMember, agree_on_promises, constructor_count, constructor_place, excludes, identifier, is_named}
use Rattle.widl_names.specs.Listings.{listed_members}
use Rattle.widl_names.proofs.MappedLoops.{at_one_step}
use Rattle.widl_member_rules.specs.ApartMembers.{SharesLabel, any_labeled, has_label, is_label, label}

or_cases : (a b : Bool) → (a || b) ≡ true → (a ≡ true) ⊎ (b ≡ true)
or_cases true b e = inl refl
or_cases false b e = inr e

or_left : (a b : Bool) → a ≡ true → (a || b) ≡ true
or_left a b e = ap (λ c. c || b) e

or_right : (a b : Bool) → b ≡ true → (a || b) ≡ true
or_right true b e = refl
or_right false b e = e

and_left : (a b : Bool) → (a && b) ≡ true → a ≡ true
and_left true b e = refl
and_left false b e = cc

-- what passes a stronger test is found by a weaker one
any_of : {X : Type 0} (p q : X → Bool) → ((x : X) → p x ≡ true → q x ≡ true) → (xs : List X) → list_any p xs ≡ true → list_any q xs ≡ true
any_of p q f [] e = cc
any_of p q f (x ∷ xs) e = elim (or_cases (p x) (list_any p xs) e) [ inl h ↦ or_left (q x) (list_any q xs) (f x h) | inr h ↦ or_right (q x) (list_any q xs) (any_of p q f xs h) ]

counted_some : {X : Type 0} (p : X → Bool) (xs : List X) → 0 < length (filter p xs) → list_any p xs ≡ true
counted_some p [] h = absurd (omega (arith, h))
counted_some p (x ∷ xs) h = go (p x) (counted_some p xs) h
  where
    go : (b : Bool) → (0 < length (filter p xs) → list_any p xs ≡ true) → 0 < length (cond b (x ∷ filter p xs) (filter p xs)) → (b || list_any p xs) ≡ true
    go true rest k = refl
    go false rest k = rest k

turned : (x y : List ℕ) → bytes_eq x y ≡ true → bytes_eq y x ≡ true
turned x y e = go (bytes_eq y x) refl
  where
    go : (b : Bool) → bytes_eq y x ≡ b → bytes_eq y x ≡ true
    go true g = g
    go false g = absurd (grind (arith, bytes_eq-Decides x y, bytes_eq-Decides y x))

named_labeled : (text : List ℕ) (kind : PlainMemberKind) → is_named text (identifier kind) ≡ true → is_label text (label kind) ≡ true
named_labeled text (ConstantMember c) e = e
named_labeled text (AttributeMember a) e = e
named_labeled text (OperationMember o) e = by_name o.name e
  where
    by_name : (name : Option PlainName) → is_named text name ≡ true → bytes_eq (operation_text name) text ≡ true
    by_name None h = cc
    by_name (Some name) h = h
named_labeled text kind e = cc

-- a member that passes is found among all
pub labeled_at : (members : List (Bor Member)) (i : ℕ) (m : Bor Member) (text : List ℕ) → i < length members → m ≡ get_or members i m → has_label text (member_of m.now) ≡ true → list_any (has_label text) (listed_members members) ≡ true
labeled_at members i m text below is h =
    let plain : Bor Member → PlainMember = λ x. member_of x.now in
    let within : i < length (listed_members members) = simp length-map below in
    list_any_at (has_label text) (listed_members members) i (plain m) within (ap (has_label text) (get_or-map plain members i m ∙ ap plain (sym is)) ∙ h)

-- and no member shares a label with one before, as far as a loop has come
pub apart_step : (members : List (Bor Member)) (i : ℕ) (m : Bor Member) (found : Bool) (sought : Option (List ℕ)) → i < length members → m ≡ get_or members i m → sought ≡ label (member_of m.now).kind → found ≡ any_labeled (listed_members (take i members)) sought → found ≡ false → FirstWhere (AtOne SharesLabel (listed_members (take i members))) None → FirstWhere (AtOne SharesLabel (listed_members (take (i + 1) members))) None
apart_step members i m found sought below is labeled e absent apart =
    at_one_step (λ (x : Bor Member). member_of x.now) members SharesLabel i m None None None below is refl
    (λ s h. differ (sym h ∙ ap (any_labeled (listed_members (take i members))) (sym labeled) ∙ sym e ∙ absent)) apart
  where
    differ : true ≡ false → ⊥
    differ f = cc

module _ (before : List PlainMember) where
  -- a member that repeats another shares its label
  named_shared : (kind : PlainMemberKind) (text : List ℕ) → list_any (λ (b : PlainMember). is_named text (identifier b.kind) && excludes b.kind kind) before ≡ true → list_any (has_label text) before ≡ true
  named_shared kind text e = any_of (λ (b : PlainMember). is_named text (identifier b.kind) && excludes b.kind kind) (has_label text) (λ b h. named_labeled text b.kind (and_left _ _ h)) before e

  repeats_shared : (kind : PlainMemberKind) (s : Violation) → AtName (identifier kind) (λ name. list_any (λ (b : PlainMember). is_named name.text (identifier b.kind) && excludes b.kind kind) before ≡ true) s → any_labeled before (label kind) ≡ true
  repeats_shared (ConstantMember c) s h = named_shared (ConstantMember c) c.name.text h.0
  repeats_shared (AttributeMember a) s h = named_shared (AttributeMember a) a.name.text h.0
  repeats_shared (OperationMember o) s h = by_name o.name h
    where
      by_name : (name : Option PlainName) → AtName name (λ n. list_any (λ (b : PlainMember). is_named n.text (identifier b.kind) && excludes b.kind (OperationMember o)) before ≡ true) s → list_any (has_label (operation_text name)) before ≡ true
      by_name None k = absurd k
      by_name (Some n) k = named_shared (OperationMember o) n.text k.0
  repeats_shared kind s h = absurd h

-- an operation that has an overload shares its label
overload_labeled : (o : PlainOperation) (before : List PlainMember) → list_any (are_overloads o) (operations_in before) ≡ true → list_any (has_label (operation_text o.name)) before ≡ true
overload_labeled o [] e = cc
overload_labeled o (m ∷ more) e = by_kind m.kind (overload_labeled o more) e
  where
    by_kind : (kind : PlainMemberKind) → (list_any (are_overloads o) (operations_in more) ≡ true → list_any (has_label (operation_text o.name)) more ≡ true) → list_any (are_overloads o) (cons_option (operation_in kind) (operations_in more)) ≡ true → (is_label (operation_text o.name) (label kind) || list_any (has_label (operation_text o.name)) more) ≡ true
    by_kind (OperationMember p) rest h = elim (or_cases (are_overloads o p) (list_any (are_overloads o) (operations_in more)) h) [
      | inl k ↦ or_left _ _ (turned (operation_text o.name) (operation_text p.name) (and_left _ _ k))
      | inr k ↦ or_right (bytes_eq (operation_text p.name) (operation_text o.name)) _ (rest k)
    ]
    by_kind kind rest h = or_right (is_label (operation_text o.name) (label kind)) _ (rest h)

-- and so does a constructor that follows another
constructor_labeled : (before : List PlainMember) → 0 < constructor_count before → list_any (has_label []) before ≡ true
constructor_labeled [] h = absurd (omega (arith, h))
constructor_labeled (m ∷ more) h = by_kind m.kind (constructor_labeled more) h
  where
    by_kind : (kind : PlainMemberKind) → (0 < constructor_count more → list_any (has_label []) more ≡ true) → 0 < length (cons_option (constructor_place kind) (filter_map (λ (x : PlainMember). constructor_place x.kind) more)) → (is_label [] (label kind) || list_any (has_label []) more) ≡ true
    by_kind (ConstructorMember c) rest k = refl
    by_kind kind rest k = or_right (is_label [] (label kind)) _ (rest k)

module _ (before : List PlainMember) where
  some_overload : (o : PlainOperation) (s : Violation) (name : Option PlainName) → AtName name (λ n. length (filter (are_overloads o) (operations_in before)) ≡ 64) s → list_any (are_overloads o) (operations_in before) ≡ true
  some_overload o s None h = absurd h
  some_overload o s (Some n) h = let count = h.0 in counted_some (are_overloads o) (operations_in before) (omega (arith, count))

  past_limit_shared : (kind : PlainMemberKind) (s : Violation) → IsOverloadPastLimit before kind s → any_labeled before (label kind) ≡ true
  past_limit_shared (OperationMember o) s h = overload_labeled o before (some_overload o s o.name h)
  past_limit_shared (ConstructorMember c) s h = let count = h.0 in constructor_labeled before (omega (arith, count))
  past_limit_shared kind s h = absurd h

  mixed : (definitions : List PlainDefinition) (o : PlainOperation) (s : Violation) (name : Option PlainName) → AtName name (λ n. (list_any (are_overloads o) (operations_in before) ≡ true) × (list_any (agree_on_promises definitions o) (operations_in before) ≡ false)) s → list_any (are_overloads o) (operations_in before) ≡ true
  mixed definitions o s None h = absurd h
  mixed definitions o s (Some n) h = h.0.0

  promise_shared : (definitions : List PlainDefinition) (kind : PlainMemberKind) (s : Violation) → DiffersInPromise definitions before kind s → any_labeled before (label kind) ≡ true
  promise_shared definitions (OperationMember o) s h = overload_labeled o before (mixed definitions o s o.name h)
  promise_shared definitions kind s h = absurd h

module _ (members : List PlainMember) (apart : FirstWhere (AtOne SharesLabel members) None) where
  none_broken : (Breaks : List PlainMember → PlainMember → Violation → Type 0) → ((before : List PlainMember) (m : PlainMember) (s : Violation) → Breaks before m s → SharesLabel before m s) → FirstWhere (AtOne Breaks members) None
  none_broken Breaks shared = λ s u. apart s (record { index = u.index; below = u.below; item = u.item; is = u.is; breaks = shared _ u.item s u.breaks })

  pub none_repeated : FirstWhere (AtOne RepeatsMember members) None
  none_repeated = none_broken RepeatsMember (λ before m s h. repeats_shared before m.kind s h)

  pub none_past_limit : FirstWhere (AtOne HasOverloadPastLimit members) None
  none_past_limit = none_broken HasOverloadPastLimit (λ before m s h. past_limit_shared before m.kind s h)

  pub none_mixed : (definitions : List PlainDefinition) → FirstWhere (AtOne (MixesPromises definitions) members) None
  none_mixed definitions = none_broken (MixesPromises definitions) (λ before m s h. promise_shared before definitions m.kind s h)
