-- The rules on iterables over all interfaces, a number at a time.
use Rattle.std.proofs.Common.{◌≡◌, ◌⊎◌, inl, inr, ℕ, ◌+◌, Bool, true, false, ◌||◌, nat_lt, List, [], length, take, get_or, Option, None, arith, refl, sym, ap, subst, ◌∙◌}
use Rattle.widl_graph.specs.Reaching.{Reaches}
use Rattle.widl_idl.specs.declared.violation.Violation.{Violation}
use Rattle.widl_idl.specs.First.{AtOne, FirstWhere, Somewhere, earlier}
use Rattle.widl_idl.specs.MergingRules.{parent_links}
use Rattle.widl_idl.specs.PlainTrees.{PlainDefinition, PlainMember}
use Rattle.widl_first.specs.First.{Either}
use Rattle.widl_idl.proofs.Order.{first_either, first_same}
use Rattle.widl_inheritance.specs.InterfaceMembers.{members_at}
use Rattle.widl_inheritance.specs.Iterations.{BelowCount, FollowsIterable, HasSecondAt, HidesAt, IsHiding, TellsMembers}
use Rattle.widl_graph.specs.Flags.{TellsReached}
use Rattle.widl_inheritance.proofs.NumberedMembers.{NamedAt, members_named_at, named_at}
use Rattle.widl_names.proofs.NamedParts.{meaning_below}
use Rattle.widl_names.proofs.Pushed.{some_is}
use Rattle.widl_overload.specs.rules.IterableRules.{AtIterable, HasIterationName, HasSecondIterable, HidesIterationMethod, InheritsFrom, IsInterface, IsSecondIterable, has_iterable, has_iteration_name, members_of_interface}

-- one number more
module _ (Breaks : ℕ → Violation → Type 0) where
  pub below_none : FirstWhere (BelowCount Breaks 0) None
  below_none = λ s u. absurd (let below = u.below in omega arith)

  by_number : (count : ℕ) (s : Violation) (u : BelowCount Breaks (count + 1) s) (b : Bool) → nat_lt u.number count ≡ b → BelowCount Breaks count s ⊎ Breaks count s
  by_number count s u true h = inl (record { number = u.number; below = grind arith; breaks = u.breaks })
  by_number count s u false h = let below = u.below in let last : u.number ≡ count = grind arith in inr (subst (λ n. Breaks n s) last u.breaks)

  either_number : (count : ℕ) → Either (BelowCount Breaks count) (Breaks count) (BelowCount Breaks (count + 1))
  either_number count = record {
    left = λ s u. record { number = u.number; below = (let below = u.below in omega arith); breaks = u.breaks };
    right = λ s b. record { number = count; below = omega arith; breaks = b };
    only = λ s u. by_number count s u (nat_lt u.number count) refl;
  }

  pub below_next : (count : ℕ) (best found now : Option Violation) → FirstWhere (BelowCount Breaks count) best → FirstWhere (Breaks count) found → now ≡ earlier best found → FirstWhere (BelowCount Breaks (count + 1)) now
  below_next count best found now l m e = subst (FirstWhere (BelowCount Breaks (count + 1))) (sym e) (first_either (BelowCount Breaks count) (Breaks count) (BelowCount Breaks (count + 1)) (either_number count) best found l m)

or_true : (a b : Bool) → (a ≡ true) ⊎ (b ≡ true) → (a || b) ≡ true
or_true true b h = refl
or_true false b (inl e) = absurd (cc)
or_true false b (inr e) = e

or_either : (a b : Bool) → (a || b) ≡ true → (a ≡ true) ⊎ (b ≡ true)
or_either true b e = inl refl
or_either false b e = inr e

module _ (definitions : List PlainDefinition) where
  -- members that pass a test which no empty list passes are those of an interface
  passing_named : (test : List PlainMember → Bool) (number : ℕ) → test [] ≡ false → test (members_at definitions number) ≡ true → NamedAt definitions number
  passing_named test number fails passes = elim (named_at definitions number) [ inl none ↦ absurd (let wrong : true ≡ false = sym passes ∙ ap test none ∙ fails in (cc)) | inr named ↦ named ]

  one_number : (text : List ℕ) (a b : ℕ) → IsInterface definitions text a → IsInterface definitions text b → a ≡ b
  one_number text a b h k = some_is (sym h.means ∙ k.means)

  module _ (test : List PlainMember → Bool) (fails : test [] ≡ false) (own inherited : List Bool) (tells : TellsMembers test definitions own) (reached : TellsReached (parent_links definitions) own inherited) where
    -- an interface that a name inherits from passes the test: so the flag of what is inherited is set
    flag_of : (text other : List ℕ) (number : ℕ) → IsInterface definitions text number → InheritsFrom definitions text other → test (members_of_interface definitions other) ≡ true → get_or inherited number false ≡ true
    flag_of text other number is h passes =
        let same : h.number ≡ number = one_number text h.number number h.is is in
        (reached.tells number).1 (record {
          node = h.ancestor;
          reaches = subst (λ n. Reaches (parent_links definitions) n h.ancestor) same h.inherits;
          flagged = tells.tells h.ancestor ∙ ap test (members_named_at definitions h.ancestor other h.other_is) ∙ passes;
        })

    -- where it is set there is such an interface
    record Inherited (text : List ℕ) : Type 0 where
      other : List ℕ
      inherits : InheritsFrom definitions text other
      passes : test (members_of_interface definitions other) ≡ true

    inherited_of : (text : List ℕ) (number : ℕ) → IsInterface definitions text number → get_or inherited number false ≡ true → Inherited text
    inherited_of text number is e =
        let r = (reached.tells number).0 e in
        let passes : test (members_at definitions r.node) ≡ true = sym (tells.tells r.node) ∙ r.flagged in
        let named = passing_named test r.node fails passes in
        record {
          other = named.text;
          inherits = record { number = number; ancestor = r.node; is = is; other_is = named.is; inherits = r.reaches };
          passes = ap test (sym named.members) ∙ passes;
        }

  module _ (own inherited : List Bool) (tells : TellsMembers has_iterable definitions own) (reached : TellsReached (parent_links definitions) own inherited) where
    second_of : (text : List ℕ) (number : ℕ) → IsInterface definitions text number → (before : List PlainMember) (m : PlainMember) (s : Violation) → FollowsIterable (get_or inherited number false) before m s → IsSecondIterable definitions text before m s
    second_of text number is before m s h = (elim (or_either (get_or inherited number false) (has_iterable before) h.0) [ inl e ↦ inr (let i = inherited_of has_iterable refl own inherited tells reached text number is e in record { other = i.other; inherits = i.inherits; has = i.passes }) | inr e ↦ inl e ], h.1)

    follows_of : (text : List ℕ) (number : ℕ) → IsInterface definitions text number → (before : List PlainMember) (m : PlainMember) (s : Violation) → IsSecondIterable definitions text before m s → FollowsIterable (get_or inherited number false) before m s
    follows_of text number is before m s h = (or_true (get_or inherited number false) (has_iterable before) (elim h.0 [ inl e ↦ inr e | inr i ↦ inl (flag_of has_iterable refl own inherited tells reached text i.other number is i.inherits i.has) ]), h.1)

    second_named : (s : Violation) (number : ℕ) → HasSecondAt definitions inherited number s → (members_at definitions number ≡ []) ⊎ NamedAt definitions number → HasSecondIterable definitions s
    second_named s number u (inl none) = absurd (let at_none : AtOne (FollowsIterable (get_or inherited number false)) [] s = subst (λ ms. AtOne (FollowsIterable (get_or inherited number false)) ms s) none u in let below = at_none.below in omega arith)
    second_named s number u (inr named) =
        let v = subst (λ ms. AtOne (FollowsIterable (get_or inherited number false)) ms s) named.members u in
        record {
          text = named.text;
          number = number;
          is = named.is;
          second = record { index = v.index; below = v.below; item = v.item; is = v.is; breaks = second_of named.text number named.is (take v.index (members_of_interface definitions named.text)) v.item s v.breaks };
        }

    second_here : (s : Violation) → HasSecondIterable definitions s → BelowCount (HasSecondAt definitions inherited) (length definitions) s
    second_here s h =
        let v = h.second in
        record {
          number = h.number;
          below = meaning_below definitions h.number h.text h.is.means;
          breaks = subst (λ ms. AtOne (FollowsIterable (get_or inherited h.number false)) ms s) (sym (members_named_at definitions h.number h.text h.is))
              (record { index = v.index; below = v.below; item = v.item; is = v.is; breaks = follows_of h.text h.number h.is (take v.index (members_of_interface definitions h.text)) v.item s v.breaks });
        }

    -- the first rule, by the flags
    pub second_first : (found : Option Violation) → FirstWhere (BelowCount (HasSecondAt definitions inherited) (length definitions)) found → FirstWhere (HasSecondIterable definitions) found
    second_first found l = first_same (BelowCount (HasSecondAt definitions inherited) (length definitions)) (HasSecondIterable definitions) found (λ s u. second_named s u.number u.breaks (named_at definitions u.number)) second_here l

  module _ (own inherited : List Bool) (tells : TellsMembers has_iteration_name definitions own) (reached : TellsReached (parent_links definitions) own inherited) where
    abbrev flag_at : ℕ → Bool
    flag_at number = get_or own number false || get_or inherited number false

    name_of : (text : List ℕ) (number : ℕ) → IsInterface definitions text number → flag_at number ≡ true → HasIterationName definitions text
    name_of text number is e = elim (or_either (get_or own number false) (get_or inherited number false) e) [ inl h ↦ record { other = text; of_line = inl refl; has = ap has_iteration_name (sym (members_named_at definitions number text is)) ∙ sym (tells.tells number) ∙ h } | inr h ↦ (let i = inherited_of has_iteration_name refl own inherited tells reached text number is h in record { other = i.other; of_line = inr i.inherits; has = i.passes }) ]

    flag_named : (text : List ℕ) (number : ℕ) → IsInterface definitions text number → HasIterationName definitions text → flag_at number ≡ true
    flag_named text number is h = or_true (get_or own number false) (get_or inherited number false) (elim h.of_line [ inl same ↦ inl (tells.tells number ∙ ap has_iteration_name (members_named_at definitions number text is ∙ ap (members_of_interface definitions) same) ∙ h.has) | inr i ↦ inr (flag_of has_iteration_name refl own inherited tells reached text h.other number is i h.has) ])

    hides_named : (s : Violation) (number : ℕ) → HidesAt definitions own inherited number s → (members_at definitions number ≡ []) ⊎ NamedAt definitions number → HidesIterationMethod definitions s
    hides_named s number u (inl none) = absurd (let nowhere = subst (λ ms. IsHiding (flag_at number) ms s) none u in let below = nowhere.1.listed.1 in omega arith)
    hides_named s number u (inr named) = record {
      text = named.text;
      number = number;
      is = named.is;
      named = name_of named.text number named.is u.0;
      iterable = subst (λ ms. Somewhere (λ (m : PlainMember). AtIterable m.kind) ms s) named.members u.1;
    }

    hides_here : (s : Violation) → HidesIterationMethod definitions s → BelowCount (HidesAt definitions own inherited) (length definitions) s
    hides_here s h = record {
      number = h.number;
      below = meaning_below definitions h.number h.text h.is.means;
      breaks = (flag_named h.text h.number h.is h.named, subst (λ ms. Somewhere (λ (m : PlainMember). AtIterable m.kind) ms s) (sym (members_named_at definitions h.number h.text h.is)) h.iterable);
    }

    -- the second rule, by the flags
    pub hides_first : (found : Option Violation) → FirstWhere (BelowCount (HidesAt definitions own inherited) (length definitions)) found → FirstWhere (HidesIterationMethod definitions) found
    hides_first found l = first_same (BelowCount (HidesAt definitions own inherited) (length definitions)) (HidesIterationMethod definitions) found (λ s u. hides_named s u.number u.breaks (named_at definitions u.number)) hides_here l
