-- The lengths of chains in the order of a walk: after each node of the order its length is known.
use Rattle.std.proofs.Common.{◌≡◌, ◌≢◌, ◌↔◌, ℕ, ◌+◌, ◌-◌, ◌<◌, ◌≤◌, ◌++◌, min, max, Bool, true, false, cond, zero, suc, List, [], ◌∷◌, length, take, map, get_or, set, slice_get, Option, None, Some, is_some, option_map, arith, refl, sym, ap, subst, ◌∙◌, nat_lt}
use Rattle.std.specs.List.{Contains}
use Rattle.std.proofs.lemmas.List.{get_or-set_same, get_or-set_other, length-set, take_more, take_all}
use Rattle.std.proofs.lemmas.Option.{slice_get-get_or, slice_get-map, slice_get_within, get_or_from_slice_get}
use Rattle.widl_graph.specs.Reaching.{Step, successors_of}
use Rattle.widl_graph.proofs.Orders.{earlier_place}
use Rattle.widl_idl.specs.declared.violation.Violation.{Violation}
use Rattle.widl_idl.specs.DefinitionTerms.{DictTerm}
use Rattle.widl_idl.specs.First.{FirstWhere}
use Rattle.widl_idl.proofs.Order.{first_same}
use Rattle.widl_inheritance.specs.ChainLengths.{AreMeasured, BeginsAt, TellsLengths, begun, greatest_length, node_length, nothing}
use Rattle.widl_inheritance.specs.declared.holding.Holdings.{Holdings}
use Rattle.widl_inheritance.specs.HoldingGraph.{AreHoldings, IsAtName}
use Rattle.widl_inheritance.proofs.ChainSteps.{begins_with, comes_from, goes_on, with_itself, without_itself}
use Rattle.widl_inheritance.proofs.HoldingSteps.{to_members}
use Rattle.widl_overload.specs.rules.Dictionaries.{BeginsChain}
use Rattle.widl_overload.specs.rules.DictionaryRules.{BeginsLongChain, HoldsItself}

module _ (lengths : List ℕ) where
  -- the greatest length of nodes and one more
  greatest_push : (nodes : List ℕ) (y : ℕ) → greatest_length lengths (nodes ++ y ∷ []) ≡ max (greatest_length lengths nodes) (get_or lengths y 0)
  greatest_push [] y = let e : max (get_or lengths y 0) 0 ≡ max 0 (get_or lengths y 0) = omega arith in e
  greatest_push (x ∷ nodes) y = let e = greatest_push nodes y in let f : max (get_or lengths x 0) (greatest_length lengths (nodes ++ y ∷ [])) ≡ max (max (get_or lengths x 0) (greatest_length lengths nodes)) (get_or lengths y 0) = omega (arith, e) in f

  -- the same, as a loop over nodes has it
  pub greatest_more : (nodes : List ℕ) (i y : ℕ) (old here new : ℕ) → i < length nodes → y ≡ get_or nodes i y → here ≡ get_or lengths y 0 → new ≡ max old here → old ≡ greatest_length lengths (take i nodes) → new ≡ greatest_length lengths (take (i + 1) nodes)
  greatest_more nodes i y old here new below is found so was =
      so ∙ ap (λ a. max a here) was ∙ ap (max (greatest_length lengths (take i nodes))) found ∙ sym (greatest_push (take i nodes) y)
      ∙ ap (greatest_length lengths) (sym (take_more nodes i y below ∙ ap (λ z. take i nodes ++ z ∷ []) (sym is)))

  pub greatest_all : (nodes : List ℕ) (i new : ℕ) → length nodes ≤ i → new ≡ greatest_length lengths (take i nodes) → new ≡ greatest_length lengths nodes
  greatest_all nodes i new past so = so ∙ ap (greatest_length lengths) (take_all i nodes past)

  -- no node has a greater one
  greatest_above : (nodes : List ℕ) (y : ℕ) → Contains nodes y → get_or lengths y 0 ≤ greatest_length lengths nodes
  greatest_above [] y c = absurd (let l = c.1 in omega arith)
  greatest_above (x ∷ nodes) y c = by_place c.0 c.1 c.2 (greatest_above nodes y)
    where
      by_place : (k : ℕ) → k < length (x ∷ nodes) → get_or (x ∷ nodes) k y ≡ y → (Contains nodes y → get_or lengths y 0 ≤ greatest_length lengths nodes) → get_or lengths y 0 ≤ max (get_or lengths x 0) (greatest_length lengths nodes)
      by_place zero below e later = let same : get_or lengths x 0 ≡ get_or lengths y 0 = ap (λ z. get_or lengths z 0) e in omega (arith, same)
      by_place (suc k) below e later = let l = later (k, omega (arith, below), e) in omega (arith, l)

  -- and one has it, if it is some
  greatest_at : (nodes : List ℕ) (count : ℕ) → 0 < count → count ≤ greatest_length lengths nodes → (y : ℕ) × Contains nodes y × (count ≤ get_or lengths y 0)
  greatest_at [] count some l = absurd (omega (arith, some, l))
  greatest_at (x ∷ nodes) count some l = by_test (nat_lt (get_or lengths x 0) count) refl (greatest_at nodes count some)
    where
      later : (y : ℕ) × Contains nodes y × (count ≤ get_or lengths y 0) → (y : ℕ) × Contains (x ∷ nodes) y × (count ≤ get_or lengths y 0)
      later h = (h.0, (suc h.1.0, (let k = h.1.1 in omega (arith, k)), h.1.2), h.2)

      by_test : (b : Bool) → nat_lt (get_or lengths x 0) count ≡ b → (count ≤ greatest_length lengths nodes → (y : ℕ) × Contains nodes y × (count ≤ get_or lengths y 0)) → (y : ℕ) × Contains (x ∷ nodes) y × (count ≤ get_or lengths y 0)
      by_test false t among = (x, (0, omega arith, refl), grind arith)
      by_test true t among = later (among (let less : get_or lengths x 0 < count = grind arith in omega (arith, less, l)))

-- nothing is known before the first node
pub measured_start : (dicts : List DictTerm) (order : List ℕ) (lengths : List ℕ) → AreMeasured dicts order 0 lengths
measured_start dicts order lengths = record { measured = λ place x below. absurd (omega (arith, below)) }

module _ (dicts : List DictTerm) (holdings : Holdings) (so : AreHoldings dicts holdings) (finite : Contains holdings.walk.cyclic.items true → ⊥) where
  abbrev graph : List (List ℕ)
  graph = holdings.graph

  abbrev order : List ℕ
  order = holdings.walk.order.items

  -- no node reaches itself, so all that follow one stand before it
  follows : (i x y : ℕ) → slice_get order i ≡ Some x → Step graph x y → (j : ℕ) × (j < i) × (slice_get order j ≡ Some y)
  follows i x y here s = earlier_place (length graph) order i x y so.order here (so.before x y (λ r. no_flag x ((so.cyclic.tells x).1 r)) s)
    where
      no_flag : (x : ℕ) → slice_get holdings.walk.cyclic.items x ≡ Some true → ⊥
      no_flag x set = finite (x, slice_get_within holdings.walk.cyclic.items x true set, get_or_from_slice_get holdings.walk.cyclic.items x true true set)

  module _ (i x : ℕ) (lengths : List ℕ) (here : slice_get order i ≡ Some x) (known : AreMeasured dicts order i lengths) where
    successor_known : (y : ℕ) → Step graph x y → (count : ℕ) → count ≤ 257 → BeginsAt dicts count y ↔ (count ≤ get_or lengths y 0)
    successor_known y s count l = let f = follows i x y here s in known.measured f.0 y f.1 f.2 count l

    -- the length of a dictionary as a type, from that of its members
    type_length : (length_is : ℕ) → x < length dicts → length_is ≡ node_length (length dicts) x (greatest_length lengths (successors_of graph x)) → (count : ℕ) → count ≤ 257 → BeginsAt dicts count x ↔ (count ≤ length_is)
    type_length length_is below is zero l = (λ b. omega arith, λ k. nothing refl)
    type_length length_is below is (suc count) l = (to, from)
      where
        members : ℕ
        members = length dicts + x

        computed : length_is ≡ min 257 (max (get_or lengths members 0) 0 + 1)
        computed = is ∙ ap (λ ys. node_length (length dicts) x (greatest_length lengths ys)) (so.graph.types x below) ∙ ap (λ b. min 257 (cond b (max (get_or lengths members 0) 0 + 1) (max (get_or lengths members 0) 0))) test
          where
            test : nat_lt x (length dicts) ≡ true
            test = grind arith

        known_there : BeginsAt dicts count members ↔ (count ≤ get_or lengths members 0)
        known_there = successor_known members (to_members dicts graph so.graph x below) count (omega (arith, l))

        next : suc count ≡ count + 1
        next = omega arith

        to : BeginsAt dicts (suc count) x → suc count ≤ length_is
        to b = let k = known_there.0 (without_itself dicts count x below (subst (λ n. BeginsAt dicts n x) next b)) in omega (arith, k, l, computed)

        from : suc count ≤ length_is → BeginsAt dicts (suc count) x
        from k = subst (λ n. BeginsAt dicts n x) (sym next) (with_itself dicts count x below (known_there.1 (omega (arith, k, computed))))

    -- the length of the members of a dictionary, from those of all nodes to which they lead
    members_length : (length_is n : ℕ) → n < length dicts → x ≡ length dicts + n → length_is ≡ node_length (length dicts) x (greatest_length lengths (successors_of graph x)) → (count : ℕ) → count ≤ 257 → BeginsAt dicts count x ↔ (count ≤ length_is)
    members_length length_is n below at is zero l = (λ b. omega arith, λ k. nothing refl)
    members_length length_is n below at is (suc count) l = (to, from)
      where
        computed : length_is ≡ min 257 (greatest_length lengths (successors_of graph x))
        computed = is ∙ ap (λ b. min 257 (cond b (greatest_length lengths (successors_of graph x) + 1) (greatest_length lengths (successors_of graph x)))) test
          where
            test : nat_lt x (length dicts) ≡ false
            test = grind arith

        to : BeginsAt dicts (suc count) x → suc count ≤ length_is
        to b =
            let onward = goes_on dicts graph so.graph (suc count) n (omega arith) below (subst (BeginsAt dicts (suc count)) at b) in
            let step = subst (λ k. Step graph k onward.next) (sym at) onward.step in
            let known_there = (successor_known onward.next step (suc count) l).0 onward.begins in
            let above = greatest_above lengths (successors_of graph x) onward.next step in
            omega (arith, known_there, above, l, computed)

        from : suc count ≤ length_is → BeginsAt dicts (suc count) x
        from k =
            let y = greatest_at lengths (successors_of graph x) (suc count) (omega arith) (omega (arith, k, computed)) in
            subst (BeginsAt dicts (suc count)) (sym at) (comes_from dicts graph so.graph (suc count) n y.0 (omega arith) below (subst (λ m. Step graph m y.0) at y.1) ((successor_known y.0 y.1 (suc count) l).1 y.2))

    node_measured : (length_is : ℕ) → length_is ≡ node_length (length dicts) x (greatest_length lengths (successors_of graph x)) → (count : ℕ) → count ≤ 257 → BeginsAt dicts count x ↔ (count ≤ length_is)
    node_measured length_is is = by_kind (nat_lt x (length dicts)) refl
      where
        within : x < length dicts + length dicts
        within = let l = so.order.nodes i x here in let size = so.graph.size in omega (arith, l, size)

        by_kind : (b : Bool) → nat_lt x (length dicts) ≡ b → (count : ℕ) → count ≤ 257 → BeginsAt dicts count x ↔ (count ≤ length_is)
        by_kind true t = type_length length_is (grind arith) is
        by_kind false t = members_length length_is (x - length dicts) (let k : length dicts ≤ x = grind arith in omega (arith, k, within)) (let k : length dicts ≤ x = grind arith in omega (arith, k)) is

    -- with the length of one node more
    measured_next : (length_is : ℕ) (new : List ℕ) → length_is ≡ node_length (length dicts) x (greatest_length lengths (successors_of graph x)) → new ≡ set lengths x length_is → x < length lengths → AreMeasured dicts order (i + 1) new
    measured_next length_is new is new_is within = record { measured = λ place z below listed. by_place place z below listed (nat_lt place i) refl }
      where
        by_place : (place z : ℕ) → place < i + 1 → slice_get order place ≡ Some z → (b : Bool) → nat_lt place i ≡ b → (count : ℕ) → count ≤ 257 → BeginsAt dicts count z ↔ (count ≤ get_or new z 0)
        by_place place z below listed true t count l =
            let lower : place < i = grind arith in
            let other : z ≢ x = λ e. let one_place : place ≡ i = so.order.once place i x (listed ∙ ap Some e) here in omega (arith, lower, one_place) in
            subst (λ k. BeginsAt dicts count z ↔ (count ≤ k)) (sym (ap (λ ls. get_or ls z 0) new_is ∙ get_or-set_other lengths x z length_is 0 other)) (known.measured place z lower listed count l)
        by_place place z below listed false t count l =
            let last : place ≡ i = grind arith in
            let same : x ≡ z = some_is (sym here ∙ ap (slice_get order) (sym last) ∙ listed) in
            subst (λ y. BeginsAt dicts count y ↔ (count ≤ get_or new y 0)) same
            (subst (λ k. BeginsAt dicts count x ↔ (count ≤ k)) (sym (ap (λ ls. get_or ls x 0) new_is ∙ get_or-set_same lengths x length_is 0 within)) (node_measured length_is is count l))
          where
            some_is : {a b : ℕ} → Some a ≡ Some b → a ≡ b
            some_is e = (cc)

  -- the same, as a loop over the order has it
  pub lengths_next : (i x : ℕ) (lengths new nodes : List ℕ) (length_is after : ℕ) → slice_get order i ≡ Some x → AreMeasured dicts order i lengths → length lengths ≡ length graph → nodes ≡ successors_of graph x → after ≡ greatest_length lengths nodes → length_is ≡ node_length (length dicts) x after → new ≡ set lengths x length_is → (length new ≡ length graph) × AreMeasured dicts order (i + 1) new
  lengths_next i x lengths new nodes length_is after here known size follow greatest is new_is = (
    ap length new_is ∙ length-set lengths x length_is ∙ size,
    measured_next i x lengths here known length_is new (is ∙ ap (node_length (length dicts) x) (greatest ∙ ap (greatest_length lengths) follow)) new_is (subst (λ n. x < n) (sym size) (so.order.nodes i x here)),
  )

  -- after the last node
  pub all_measured : (i : ℕ) (lengths : List ℕ) → length order ≤ i → length lengths ≡ length graph → AreMeasured dicts order i lengths → TellsLengths dicts lengths
  all_measured i lengths past size known = record { size = (let g = so.graph.size in omega (arith, g, size)); tells = told }
    where
      told : (n : ℕ) → n < length dicts → (256 < get_or lengths n 0) ↔ BeginsChain dicts 257 n
      told n below =
          let placed = so.order.each n (let g = so.graph.size in omega (arith, g, below)) in
          let inside = slice_get_within order placed.0 n placed.1 in
          let measured = known.measured placed.0 n (omega (arith, inside, past)) placed.1 257 (omega arith) in
          (λ l. begins_with dicts 257 n (omega arith) below (measured.1 (omega (arith, l))), λ c. (let l = measured.0 (begun below c) in omega (arith, l)))

-- the dictionaries whose flags are set are those with which a long chain begins, where none holds itself
pub long_chains : (dicts : List DictTerm) (lengths : List ℕ) (flags : List Bool) (found : Option Violation) → TellsLengths dicts lengths → ((s : Violation) → HoldsItself dicts s → ⊥) → flags ≡ map (λ n. nat_lt 256 n) lengths → FirstWhere (IsAtName (λ n. slice_get flags n ≡ Some true) dicts) found → FirstWhere (BeginsLongChain dicts) found
long_chains dicts lengths flags found tells finite is l = first_same (IsAtName (λ n. slice_get flags n ≡ Some true) dicts) (BeginsLongChain dicts) found
    (λ s h. let below = slice_get_within dicts h.number h.dictionary h.is in record { number = h.number; dictionary = h.dictionary; is = h.is; finite = finite; chain = (tells.tells h.number below).0 (long h.number (inside h.number below) h.holds); at_name = h.at_name })
    (λ s h. let below = slice_get_within dicts h.number h.dictionary h.is in record { number = h.number; dictionary = h.dictionary; is = h.is; holds = flagged h.number (inside h.number below) ((tells.tells h.number below).1 h.chain); at_name = h.at_name })
    l
  where
    inside : (n : ℕ) → n < length dicts → n < length lengths
    inside n below = let size = tells.size in omega (arith, size, below)

    flag_at : (n : ℕ) → n < length lengths → slice_get flags n ≡ Some (nat_lt 256 (get_or lengths n 0))
    flag_at n below = ap (λ fs. slice_get fs n) is ∙ slice_get-map (λ k. nat_lt 256 k) lengths n ∙ ap (option_map (λ k. nat_lt 256 k)) (slice_get-get_or lengths n 0 below)

    some_is : {a b : Bool} → Some a ≡ Some b → a ≡ b
    some_is e = (cc)

    long : (n : ℕ) → n < length lengths → slice_get flags n ≡ Some true → 256 < get_or lengths n 0
    long n below set = let t : nat_lt 256 (get_or lengths n 0) ≡ true = some_is (sym (flag_at n below) ∙ set) in grind arith

    flagged : (n : ℕ) → n < length lengths → 256 < get_or lengths n 0 → slice_get flags n ≡ Some true
    flagged n below l = let t : nat_lt 256 (get_or lengths n 0) ≡ true = grind arith in flag_at n below ∙ ap Some t

-- where a dictionary holds itself no chain is told to be long
pub none_finite : (dicts : List DictTerm) (found : Option Violation) → FirstWhere (HoldsItself dicts) found → is_some found ≡ true → FirstWhere (BeginsLongChain dicts) None
none_finite dicts None l some = absurd (cc)
none_finite dicts (Some s) l some = λ t h. h.finite s l.holds

-- where none was found, none does
pub none_holds : (dicts : List DictTerm) (found : Option Violation) → FirstWhere (HoldsItself dicts) found → is_some found ≡ false → (s : Violation) → HoldsItself dicts s → ⊥
none_holds dicts None l some = l
none_holds dicts (Some s) l some = absurd (cc)
