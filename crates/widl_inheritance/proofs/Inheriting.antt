-- What is kept of the dictionaries that were visited tells which names a dictionary inherits.
use Rattle.std.proofs.Common.{◌≡◌, inl, inr, ℕ, zero, suc, ◌+◌, ◌<◌, ◌≤◌, Bool, true, false, ◌&&◌, ◌||◌, ltb, nat_lt, List, [], ◌∷◌, length, take, map, get_or, slice_get, option_map, option_to_list, Option, None, Some, arith, refl, sym, ap, subst, ◌∙◌}
use Rattle.std.specs.List.{list_any}
use Rattle.std.specs.Option.{option_map_or}
use Rattle.std.proofs.lemmas.Bool.{lt-ltb, ltb-true}
use Rattle.std.proofs.lemmas.List.{get_or_default, length-map}
use Rattle.std.proofs.lemmas.List.Folds.{list_any_more}
use Rattle.std.proofs.lemmas.Option.{same_Some, slice_get-map, slice_get_read, slice_get_within}
use Rattle.std.proofs.lemmas.Simd.{map-map}
use Rattle.widl_graph.proofs.Gets.{take_still, take_was}
use Rattle.widl_graph.specs.Reaching.{IsForest, Reaches}
use Rattle.widl_fits.specs.Hierarchies.{IsHierarchy}
use Rattle.widl_idl.specs.DefinitionTerms.{DictTerm, MemberTerm, dict_term}
use Rattle.widl_idl.specs.declared.dictionary.Dict.{Dict}
use Rattle.widl_idl.specs.declared.violation.Violation.{Violation}
use Rattle.widl_idl.specs.First.{AtOne, FirstWhere, Upto, earlier}
use Rattle.widl_idl.proofs.Order.{first_same}
use Rattle.widl_idl.proofs.Steps.{first_next, first_start}
use Rattle.widl_overload.specs.rules.Dictionaries.{dictionary_parents}
use Rattle.widl_overload.specs.rules.DictionaryRules.{HasNameTwice, InheritsMember, RepeatsName, has_member}
use Rattle.widl_inheritance.specs.MemberEnds.{RepeatsKept, RepeatsKnown, has_after, members_at, past_at}
use Rattle.widl_graph.specs.Spans.{AreSpans, AreWhole, parent_graph, span_of}
use Rattle.widl_graph.specs.declared.spans.Span.{Span}

-- the dictionaries from which these inherit directly
abbrev pub parents_in : List DictTerm → List (Option ℕ)
parents_in dicts = map (λ (d : DictTerm). d.parent) dicts

same_graph : (dicts : List DictTerm) → parent_graph (parents_in dicts) ≡ dictionary_parents dicts
same_graph dicts = map-map option_to_list (λ (d : DictTerm). d.parent) dicts

-- the parents of dictionaries without a circle are a forest
pub hierarchy_forest : (dicts : List DictTerm) (parents : List (Option ℕ)) → parents ≡ parents_in dicts → IsHierarchy dicts → IsForest (parent_graph parents)
hierarchy_forest dicts parents is hierarchy = subst IsForest (sym (ap parent_graph is ∙ same_graph dicts)) hierarchy

any_at_by : (test : ℕ → Bool) (x : ℕ) (xs : List ℕ) (b : Bool) → test x ≡ b → (list_any test xs ≡ true → (k : ℕ) × (y : ℕ) × (slice_get xs k ≡ Some y) × (test y ≡ true)) → (b || list_any test xs) ≡ true → (k : ℕ) × (y : ℕ) × (slice_get (x ∷ xs) k ≡ Some y) × (test y ≡ true)
any_at_by test x xs true e rest h = (0, x, refl, e)
any_at_by test x xs false e rest h = let found = rest h in (suc found.0, found.1, found.2, found.3)

-- an item that passes the test
any_at : (test : ℕ → Bool) (xs : List ℕ) → list_any test xs ≡ true → (k : ℕ) × (x : ℕ) × (slice_get xs k ≡ Some x) × (test x ≡ true)
any_at test [] h = absurd (let f : false ≡ true = h in (cc))
any_at test (x ∷ xs) h = any_at_by test x xs (test x) refl (λ g. any_at test xs g) h

or_true : (a : Bool) → (a || true) ≡ true
or_true true = refl
or_true false = refl

at_any : (test : ℕ → Bool) (xs : List ℕ) (k x : ℕ) → slice_get xs k ≡ Some x → test x ≡ true → list_any test xs ≡ true
at_any test [] k x at h = absurd (let f : None ≡ Some x = at in (cc))
at_any test (y ∷ xs) zero x at h = ap (λ b. b || list_any test xs) (ap test (same_Some y x at) ∙ h)
at_any test (y ∷ xs) (suc k) x at h = ap (λ b. test y || b) (at_any test xs k x at h) ∙ or_true (test y)

both : (a b : Bool) → (a && b) ≡ true → (a ≡ true) × (b ≡ true)
both true b h = (refl, h)
both false b h = absurd (let f : false ≡ true = h in (cc))

of_both : (a b : Bool) → a ≡ true → b ≡ true → (a && b) ≡ true
of_both true b h k = k
of_both false b h k = h

with_member : (name : List ℕ) (o : Option DictTerm) → has_member name (option_map_or (λ (d : DictTerm). d.members) o []) ≡ true → (d : DictTerm) × (o ≡ Some d) × (has_member name d.members ≡ true)
with_member name None h = absurd (let f : false ≡ true = h in (cc))
with_member name (Some d) h = (d, refl, h)

-- a member of this dictionary repeats a name, inherited ones included
pub record RepeatsIn (dicts : List DictTerm) (n : ℕ) (s : Violation) : Type 0 where
  pub dictionary : DictTerm
  pub is : slice_get dicts n ≡ Some dictionary
  pub repeats : AtOne (RepeatsName dicts n) dictionary.members s

-- the term of the dictionary of a number
pub term_at : (dicts : List Dict) (n : ℕ) (d : Dict) → n < length dicts → d ≡ get_or dicts n d → slice_get (map dict_term dicts) n ≡ Some (dict_term d)
term_at dicts n d below is = slice_get-map dict_term dicts n ∙ ap (option_map dict_term) (slice_get_read dicts (length dicts) n d refl below is)

-- the first violation at which the members of this dictionary repeat a name that is kept
pub first_kept : (dicts : List DictTerm) (spans : List (Option Span)) (kept : List ℕ → ℕ) (n : ℕ) (d : DictTerm) (span : Span) (found : Option Violation) → slice_get dicts n ≡ Some d → span_of spans n ≡ Some span
    → FirstWhere (AtOne (RepeatsKnown (λ name. nat_lt span.start (kept name))) d.members) found → FirstWhere (RepeatsKept dicts spans kept n) found
first_kept dicts spans kept n d span found is span_is l =
    first_same (AtOne (RepeatsKnown (λ name. nat_lt span.start (kept name))) d.members) (RepeatsKept dicts spans kept n) found
    (λ s r. record { dictionary = d; is = is; span = span; span_is = span_is; repeats = r })
    (λ s r. subst (λ (t : Span). AtOne (RepeatsKnown (λ name. nat_lt t.start (kept name))) d.members s) (same_Some r.span span (sym r.span_is ∙ span_is))
    (subst (λ (e : DictTerm). AtOne (RepeatsKnown (λ name. nat_lt r.span.start (kept name))) e.members s) (same_Some r.dictionary d (sym r.is ∙ is)) r.repeats))
    l

-- the names of those that were visited are kept, and the first violation at which one of these repeats a name
pub record Visited (dicts : List DictTerm) (spans : List (Option Span)) (order : List ℕ) (kept : List ℕ → ℕ) (i : ℕ) (best : Option Violation) : Type 0 where
  pub ends : (name : List ℕ) (place : ℕ) → nat_lt place (kept name) ≡ list_any (has_after dicts spans name place) (take i order)
  pub earliest : FirstWhere (Upto (λ before n s. RepeatsIn dicts n s) order i) best

none_below : (place end : ℕ) → end ≡ 0 → ltb place end ≡ false
none_below place end h = grind arith

pub nothing_visited : (dicts : List DictTerm) (spans : List (Option Span)) (order : List ℕ) (kept : List ℕ → ℕ) → ((name : List ℕ) → kept name ≡ 0) → Visited dicts spans order kept 0 None
nothing_visited dicts spans order kept none = record {
  ends = λ name place. none_below place (kept name) (none name);
  earliest = first_start (λ before n s. RepeatsIn dicts n s) order;
}

module _ (dicts : List DictTerm) (spans : List (Option Span)) (order : List ℕ) (all : AreSpans (parents_in dicts) spans order) (whole : AreWhole spans) where
  -- the spans of the dictionaries that the list has
  span_at : (n : ℕ) (d : DictTerm) → slice_get dicts n ≡ Some d → (s : Span) × (span_of spans n ≡ Some s)
  span_at n d is = whole n (omega (arith, all.size, length-map dicts (λ (d : DictTerm). d.parent), slice_get_within dicts n d is))

  module _ (kept : List ℕ → ℕ) (i n : ℕ) (below : i < length order) (is_at : slice_get order i ≡ Some n) (ends : (name : List ℕ) (place : ℕ) → nat_lt place (kept name) ≡ list_any (has_after dicts spans name place) (take i order)) where
    starts_at : (s : Span) → span_of spans n ≡ Some s → s.start ≡ i
    starts_at s is = let own = all.in_order.each i n is_at in ap (λ (x : Span). x.start) (same_Some s own.0 (sym is ∙ own.1)) ∙ own.2

    -- a name that is kept up to a place after the start is inherited
    known_inherits : (name : List ℕ) (s : Span) → span_of spans n ≡ Some s → nat_lt s.start (kept name) ≡ true → InheritsMember dicts n name
    known_inherits name s n_is h =
        let found = any_at (has_after dicts spans name s.start) (take i order) (sym (ends name s.start) ∙ h) in
        let was = take_was i order found.0 found.1 found.2 in
        let other = all.in_order.each found.0 found.1 was.0 in
        let tests = both (has_member name (members_at dicts found.1)) (nat_lt s.start (past_at spans found.1)) found.3 in
        let dictionary = with_member name (slice_get dicts found.1) tests.0 in
        let after : nat_lt s.start other.0.past ≡ true = sym (ap (λ o. nat_lt s.start (option_map_or (λ (x : Span). x.past) o 0)) other.1) ∙ tests.1 in
        record {
          declaring = found.1;
          dictionary = dictionary.0;
          inherits = subst (λ g. Reaches g n found.1) (same_graph dicts) (all.comes n found.1 s other.0 n_is other.1 (omega (arith, starts_at s n_is, other.2, was.1)) (ltb-true s.start other.0.past after));
          is = dictionary.1;
          has = dictionary.2;
        }

    -- and the other way round
    inherits_known : (name : List ℕ) (s : Span) → span_of spans n ≡ Some s → InheritsMember dicts n name → nat_lt s.start (kept name) ≡ true
    inherits_known name s n_is r =
        let other = span_at r.declaring r.dictionary r.is in
        let lies = all.within n r.declaring s other.0 n_is other.1 (subst (λ g. Reaches g n r.declaring) (sym (same_graph dicts)) r.inherits) in
        let here = take_still i order other.0.start r.declaring (all.in_order.listed r.declaring other.0 other.1) (omega (arith, starts_at s n_is, lies.0)) in
        let has : has_member name (members_at dicts r.declaring) ≡ true = ap (λ o. has_member name (option_map_or (λ (d : DictTerm). d.members) o [])) r.is ∙ r.has in
        let after : nat_lt s.start (past_at spans r.declaring) ≡ true = ap (λ o. nat_lt s.start (option_map_or (λ (x : Span). x.past) o 0)) other.1 ∙ lt-ltb s.start other.0.past lies.1 in
        ends name s.start ∙ at_any (has_after dicts spans name s.start) (take i order) other.0.start r.declaring here (of_both (has_member name (members_at dicts r.declaring)) (nat_lt s.start (past_at spans r.declaring)) has after)

    inherited : (s : Span) → span_of spans n ≡ Some s → (before : List MemberTerm) (m : MemberTerm) (t : Violation) → RepeatsKnown (λ name. nat_lt s.start (kept name)) before m t → RepeatsName dicts n before m t
    inherited s n_is before m t r = (elim r.0 [ inl h ↦ inl h | inr h ↦ inr (known_inherits m.name s n_is h) ], r.1)

    known : (s : Span) → span_of spans n ≡ Some s → (before : List MemberTerm) (m : MemberTerm) (t : Violation) → RepeatsName dicts n before m t → RepeatsKnown (λ name. nat_lt s.start (kept name)) before m t
    known s n_is before m t r = (elim r.0 [ inl h ↦ inl h | inr h ↦ inr (inherits_known m.name s n_is h) ], r.1)

    pub kept_repeats : (found : Option Violation) → FirstWhere (RepeatsKept dicts spans kept n) found → FirstWhere (RepeatsIn dicts n) found
    kept_repeats found l =
        first_same (RepeatsKept dicts spans kept n) (RepeatsIn dicts n) found
        (λ t r. record { dictionary = r.dictionary; is = r.is; repeats = record { index = r.repeats.index; below = r.repeats.below; item = r.repeats.item; is = r.repeats.is; breaks = inherited r.span r.span_is (take r.repeats.index r.dictionary.members) r.repeats.item t r.repeats.breaks } })
        (λ t r. let own = span_at n r.dictionary r.is in
        record { dictionary = r.dictionary; is = r.is; span = own.0; span_is = own.1; repeats = record { index = r.repeats.index; below = r.repeats.below; item = r.repeats.item; is = r.repeats.is; breaks = known own.0 own.1 (take r.repeats.index r.dictionary.members) r.repeats.item t r.repeats.breaks } })
        l

  -- one dictionary more
  pub visited_more : (kept later : List ℕ → ℕ) (i n : ℕ) (best found now : Option Violation) → i < length order → n ≡ get_or order i 0
      → ((name : List ℕ) (place : ℕ) → nat_lt place (later name) ≡ (nat_lt place (kept name) || has_after dicts spans name place n)) → FirstWhere (RepeatsKept dicts spans kept n) found → now ≡ earlier best found
      → Visited dicts spans order kept i best → Visited dicts spans order later (i + 1) now
  visited_more kept later i n best found now below is adds l e v =
      let own : n ≡ get_or order i n = is ∙ get_or_default order i 0 n below in
      record {
        ends = λ name place. adds name place ∙ ap (λ b. b || has_after dicts spans name place n) (v.ends name place) ∙ ap (λ k. list_any (has_after dicts spans name place) (take i order) || has_after dicts spans name place k) is ∙ sym (list_any_more (has_after dicts spans name place) order i 0 below);
        earliest = first_next (λ before k s. RepeatsIn dicts k s) order i n best found now below own v.earliest (kept_repeats kept i n below (slice_get_read order (length order) i n refl below own) v.ends found l) e;
      }

  -- all dictionaries
  pub visited_all : (kept : List ℕ → ℕ) (i : ℕ) (best : Option Violation) → length order ≤ i → Visited dicts spans order kept i best → FirstWhere (HasNameTwice dicts) best
  visited_all kept i best over v =
      first_same (Upto (λ before n s. RepeatsIn dicts n s) order i) (HasNameTwice dicts) best
      (λ s u. record { number = u.item; dictionary = u.breaks.dictionary; is = u.breaks.is; repeats = u.breaks.repeats })
      (λ s h. let own = span_at h.number h.dictionary h.is in
      let listed = all.in_order.listed h.number own.0 own.1 in
      record { index = own.0.start; below = omega (arith, over, slice_get_within order own.0.start h.number listed); item = h.number; is = listed; breaks = record { dictionary = h.dictionary; is = h.is; repeats = h.repeats } })
      v.earliest
