-- Depths of typedefs in the order of a walk over them: after each definition of the order its depth is known at all levels that follow.
use Rattle.std.proofs.Common.{◌≡◌, ◌⊎◌, inl, inr, ℕ, ◌+◌, ◌<◌, ◌≤◌, Bool, true, false, cond, zero, suc, List, [], ◌∷◌, length, get_or, set, slice_get, Option, None, Some, option_map, option_and_then, arith, refl, sym, ap, subst, ◌∙◌, ◌≢◌, nat_lt, nat_eq, replicate}
use Rattle.std.specs.List.{Contains, flat_map}
use Rattle.std.proofs.lemmas.List.{get_or-set_same, get_or-set_other, length-map, length-set}
use Rattle.std.proofs.lemmas.List.Elements.{Contains-append_cases}
use Rattle.std.proofs.lemmas.Option.{slice_get_within, slice_get-get_or}
use Rattle.widl_graph.specs.Order.{IsOrder, StandsBefore}
use Rattle.widl_graph.specs.declared.walk.Walk.{Walk}
use Rattle.widl_graph.specs.Reaching.{Step, Reaches, ReachesItself, one, more}
use Rattle.widl_graph.proofs.Orders.{earlier_place}
use Rattle.widl_graph.proofs.Reach.{cyclic_step}
use Rattle.widl_idl.specs.Meanings.{meaning, meant}
use Rattle.widl_idl.specs.Nesting.{annotated_depth, annotated_names, meant_depth, named_depth, number_if_typedef, typedef_links, typedef_named, typedefs_in}
use Rattle.widl_idl.specs.PlainTypes.{PlainName}
use Rattle.widl_idl.specs.PlainTrees.{PlainDefinition, PlainKind, PlainTypedef, TypedefDefinition}
use Rattle.widl_merge.specs.Depths.{capped, is_flagged, AreCapped, AreSteady, TellsDepths, kept_depth, number_depth, table_depth}
use Rattle.widl_graph.specs.Walks.{IsWalkOver}
use Rattle.widl_merge.proofs.CappedDepths.{capped_twice, annotated_same, annotated_unknown, meant_same, only_item}
use Rattle.widl_merge.proofs.TypedefLinks.{kind_of_number, link_named, links_at, links_of, meant_at}
use Rattle.widl_names.proofs.NameMeanings.{meaning_below}
use Rattle.widl_merge.proofs.TableDepths.{table_capped}

-- what is in lists that are put together is in one of them
flat_from : {X : Type 0} (f : X → List ℕ) (xs : List X) (y : ℕ) → Contains (flat_map f xs) y → (x : X) × Contains xs x × Contains (f x) y
flat_from f [] y c = absurd (let l = c.1 in omega arith)
flat_from f (first ∷ xs) y c = elim (Contains-append_cases (f first) (flat_map f xs) y c) [ inl l ↦ (first, (0, omega arith, refl), l) | inr r ↦ later (flat_from f xs y r) ]
  where
    later : (x : _) × Contains xs x × Contains (f x) y → (x : _) × Contains (first ∷ xs) x × Contains (f x) y
    later h = (h.0, (suc h.1.0, omega (arith, h.1.1), h.1.2), h.2)

module _ (definitions : List PlainDefinition) where
  abbrev links : List (List ℕ)
  links = typedef_links definitions

  number_meant : (named : PlainName → Option ℕ) (text : List ℕ) (y : ℕ) → meaning definitions text ≡ Some y → meant_depth (annotated_depth named) (meant definitions text) ≡ number_depth definitions named y
  number_meant named text y e = ap (λ m. meant_depth (annotated_depth named) (option_map (λ d. d.kind) (option_and_then (slice_get definitions) m))) e

  number_named : (m : Option ℕ) (k : Option PlainKind) (y : ℕ) → Contains (number_if_typedef m k) y → m ≡ Some y
  number_named (Some n) (Some (TypedefDefinition u)) y c = ap Some (only_item n y c)
  number_named m k y c = absurd (let l = c.1 in omega arith)

  -- a link comes from a name in the type of a typedef
  named_by : (x y : ℕ) → Step links x y → (t : PlainTypedef) × (name : PlainName) × (kind_of_number definitions x ≡ Some (TypedefDefinition t)) × Contains (annotated_names t.ty) name × (meaning definitions name.text ≡ Some y)
  named_by x y s = by_kind (kind_of_number definitions x) refl (subst (λ ys. Contains ys y) (links_at (typedefs_in definitions) definitions x) s)
    where
      by_name : (t : PlainTypedef) → kind_of_number definitions x ≡ Some (TypedefDefinition t) → (name : PlainName) × Contains (annotated_names t.ty) name × Contains (typedef_named definitions name) y → (t : PlainTypedef) × (name : PlainName) × (kind_of_number definitions x ≡ Some (TypedefDefinition t)) × Contains (annotated_names t.ty) name × (meaning definitions name.text ≡ Some y)
      by_name t is h = (t, h.0, is, h.1, number_named (meaning definitions h.0.text) (meant definitions h.0.text) y h.2)

      by_kind : (k : Option PlainKind) → kind_of_number definitions x ≡ k → Contains (links_of (typedefs_in definitions) k) y → (t : PlainTypedef) × (name : PlainName) × (kind_of_number definitions x ≡ Some (TypedefDefinition t)) × Contains (annotated_names t.ty) name × (meaning definitions name.text ≡ Some y)
      by_kind (Some (TypedefDefinition t)) is c = by_name t is (flat_from (typedef_named definitions) (annotated_names t.ty) y c)
      by_kind k is c = absurd (let l = c.1 in omega arith)

  unknown_by : (named : PlainName → Option ℕ) (x : ℕ) (t : PlainTypedef) (name : PlainName) → kind_of_number definitions x ≡ Some (TypedefDefinition t) → Contains (annotated_names t.ty) name → named name ≡ None → number_depth definitions named x ≡ None
  unknown_by named x t name is c none = ap (meant_depth (annotated_depth named)) is ∙ annotated_unknown named name none t.ty c

  -- a typedef that reaches itself has no depth, however many levels are allowed
  cyclic_unknown : (levels x : ℕ) → ReachesItself links x → number_depth definitions (named_depth definitions levels) x ≡ None
  cyclic_unknown zero x r =
      let s = cyclic_step links x r in
      let h = named_by x s.0 s.1 in
      unknown_by (named_depth definitions zero) x h.0 h.1 h.2 h.3 refl
  cyclic_unknown (suc levels) x r =
      let s = cyclic_step links x r in
      let h = named_by x s.0 s.1 in
      unknown_by (named_depth definitions (suc levels)) x h.0 h.1 h.2 h.3 (number_meant (named_depth definitions levels) h.1.text s.0 h.4 ∙ cyclic_unknown levels s.0 s.2)

module _ (definitions : List PlainDefinition) (order : List ℕ) (count : ℕ) (depths : List (Option ℕ)) (all : AreCapped depths) (known : AreSteady definitions order count depths) where
  -- where the typedef that a name means stands among the first of the order, the table has the depth of the name at all levels that follow
  name_agrees : (name : PlainName) → ((y : ℕ) (u : PlainTypedef) → meaning definitions name.text ≡ Some y → meant definitions name.text ≡ Some (TypedefDefinition u) → (place : ℕ) × (place < count) × (slice_get order place ≡ Some y)) → (levels : ℕ) → count ≤ levels → capped (named_depth definitions (suc levels) name) ≡ capped (table_depth definitions depths name)
  unfolding table_depth
  name_agrees name placed levels l = meant_same (annotated_depth (named_depth definitions levels)) (λ ty. kept_depth depths (meaning definitions name.text)) (meant definitions name.text) same
    where
      same : (t : PlainTypedef) → meant definitions name.text ≡ Some (TypedefDefinition t) → capped (annotated_depth (named_depth definitions levels) t.ty) ≡ capped (kept_depth depths (meaning definitions name.text))
      same t is =
          let a = meant_at definitions name.text (TypedefDefinition t) is in
          let p = placed a.0 t a.1 is in
          ap capped (sym (ap (meant_depth (annotated_depth (named_depth definitions levels))) a.2))
          ∙ known.steady p.0 a.0 p.1 p.2 levels l ∙ sym (all.same a.0) ∙ ap (λ m. capped (kept_depth depths m)) (sym a.1)

  -- the next definition of the order has the depth that the table gives to its type
  next_agrees : (x : ℕ) → IsOrder (length (typedef_links definitions)) order → slice_get order count ≡ Some x → ((y : ℕ) → Step (typedef_links definitions) x y → StandsBefore order y x) → (levels : ℕ) → count + 1 ≤ levels → capped (number_depth definitions (named_depth definitions levels) x) ≡ capped (number_depth definitions (table_depth definitions depths) x)
  next_agrees x is_order here before zero l = absurd (omega arith)
  next_agrees x is_order here before (suc levels) l =
      meant_same (annotated_depth (named_depth definitions (suc levels))) (annotated_depth (table_depth definitions depths)) (kind_of_number definitions x)
      (λ t is. annotated_same (named_depth definitions (suc levels)) (table_depth definitions depths) t.ty
      (λ name c. name_agrees name (λ y u number kind. earlier_place (length (typedef_links definitions)) order count x y is_order here (before y (link_named definitions x y t u name is c number kind))) levels (omega (arith, l))))

module _ (definitions : List PlainDefinition) (order : List ℕ) (count : ℕ) (old : List (Option ℕ)) (x : ℕ) (depth : Option ℕ) where
  at_place : (new : List (Option ℕ)) → new ≡ set old x depth → x < length old → IsOrder (length (typedef_links definitions)) order → AreSteady definitions order count old → slice_get order count ≡ Some x
      → ((levels : ℕ) → count + 1 ≤ levels → capped (number_depth definitions (named_depth definitions levels) x) ≡ depth)
      → (place z : ℕ) → place < count + 1 → slice_get order place ≡ Some z → (levels : ℕ) → count + 1 ≤ levels → (b : Bool) → nat_lt place count ≡ b → capped (number_depth definitions (named_depth definitions levels) z) ≡ get_or new z None
  at_place new is within is_order known here found place z below listed levels l true before =
      let lower : place < count = grind arith in
      let other : z ≢ x = λ e. let one_place : place ≡ count = is_order.once place count x (listed ∙ ap Some e) here in omega arith in
      known.steady place z lower listed levels (omega (arith, l)) ∙ sym (get_or-set_other old x z depth None other) ∙ ap (λ ds. get_or ds z None) (sym is)
  at_place new is within is_order known here found place z below listed levels l false before =
      let last : place ≡ count = grind arith in
      let same : z ≡ x = some_is (sym listed ∙ ap (slice_get order) last ∙ here) in
      ap (λ y. capped (number_depth definitions (named_depth definitions levels) y)) same ∙ found levels l ∙ sym (get_or-set_same old x depth None within) ∙ ap (λ ds. get_or ds x None) (sym is) ∙ ap (λ y. get_or new y None) (sym same)
    where
      some_is : {a b : ℕ} → Some a ≡ Some b → a ≡ b
      some_is e = (cc)

  -- with the depth of one definition more
  pub steady_next : (new : List (Option ℕ)) → new ≡ set old x depth → x < length old → IsOrder (length (typedef_links definitions)) order → AreSteady definitions order count old → slice_get order count ≡ Some x
      → ((levels : ℕ) → count + 1 ≤ levels → capped (number_depth definitions (named_depth definitions levels) x) ≡ depth)
      → AreSteady definitions order (count + 1) new
  steady_next new is within is_order known here found = record { steady = λ place z below listed levels l. at_place new is within is_order known here found place z below listed levels l (nat_lt place count) refl }

  -- the table keeps to the limit
  pub capped_next : (new : List (Option ℕ)) → new ≡ set old x depth → x < length old → capped depth ≡ depth → AreCapped old → AreCapped new
  capped_next new is within small all = record { same = λ z. by_number z (nat_eq z x) refl }
    where
      by_number : (z : ℕ) (b : Bool) → nat_eq z x ≡ b → capped (get_or new z None) ≡ get_or new z None
      by_number z true e =
          let same : z ≡ x = grind arith in
          let here : get_or new z None ≡ depth = ap (get_or new z) refl ∙ ap (λ ds. get_or ds z None) is ∙ ap (λ y. get_or (set old x depth) y None) same ∙ get_or-set_same old x depth None within in
          ap capped here ∙ small ∙ sym here
      by_number z false e =
          let other : z ≢ x = grind arith in
          let there : get_or new z None ≡ get_or old z None = ap (λ ds. get_or ds z None) is ∙ get_or-set_other old x z depth None other in
          ap capped there ∙ all.same z ∙ sym there

-- what the next definition's depth is, by whether it reaches itself
module _ (definitions : List PlainDefinition) (walk : Walk) (count : ℕ) (depths : List (Option ℕ)) (walked : IsWalkOver (typedef_links definitions) walk) where
  pub depth_found : (x : ℕ) (depth : Option ℕ) → AreCapped depths → AreSteady definitions walk.order.items count depths → slice_get walk.order.items count ≡ Some x
      → depth ≡ cond (is_flagged (slice_get walk.cyclic.items x)) None (capped (number_depth definitions (table_depth definitions depths) x))
      → (levels : ℕ) → count + 1 ≤ levels → capped (number_depth definitions (named_depth definitions levels) x) ≡ depth
  depth_found x depth all known here is levels l = by_flag (slice_get walk.cyclic.items x) refl ∙ sym is
    where
      by_flag : (flag : Option Bool) → slice_get walk.cyclic.items x ≡ flag → capped (number_depth definitions (named_depth definitions levels) x) ≡ cond (is_flagged flag) None (capped (number_depth definitions (table_depth definitions depths) x))
      by_flag (Some true) e = ap capped (cyclic_unknown definitions levels x ((walked.cyclic.tells x).0 e))
      by_flag (Some false) e = next_agrees definitions walk.order.items count depths all known x walked.order here (λ y. walked.before x y (λ r. clash ((walked.cyclic.tells x).1 r))) levels l
        where
          clash : slice_get walk.cyclic.items x ≡ Some true → ⊥
          clash f = (cc)
      by_flag None e = next_agrees definitions walk.order.items count depths all known x walked.order here (λ y. walked.before x y (λ r. clash ((walked.cyclic.tells x).1 r))) levels l
        where
          clash : slice_get walk.cyclic.items x ≡ Some true → ⊥
          clash f = (cc)

  -- it is at most 17
  pub small_found : (x : ℕ) (depth : Option ℕ) → depth ≡ cond (is_flagged (slice_get walk.cyclic.items x)) None (capped (number_depth definitions (table_depth definitions depths) x)) → capped depth ≡ depth
  small_found x depth is = ap capped is ∙ by_flag (is_flagged (slice_get walk.cyclic.items x)) ∙ sym is
    where
      by_flag : (b : Bool) → capped (cond b None (capped (number_depth definitions (table_depth definitions depths) x))) ≡ cond b None (capped (number_depth definitions (table_depth definitions depths) x))
      by_flag true = refl
      by_flag false = capped_twice (number_depth definitions (table_depth definitions depths) x)

  -- the table with one depth more, as a loop over the order has it
  pub table_next : (numbers : List ℕ) (flags : List Bool) (seen : List (Option ℕ)) → numbers ≡ walk.order.items → flags ≡ walk.cyclic.items → seen ≡ depths → count < length numbers → length depths ≡ length definitions → AreCapped depths → AreSteady definitions walk.order.items count depths
      → (depth : Option ℕ) → depth ≡ cond (is_flagged (slice_get flags (get_or numbers count 0))) None (capped (number_depth definitions (table_depth definitions seen) (get_or numbers count 0)))
      → (new : List (Option ℕ)) → new ≡ set depths (get_or numbers count 0) depth
      → (length new ≡ length definitions) × AreCapped new × AreSteady definitions walk.order.items (count + 1) new
  table_next numbers flags seen ordered flagged same below size all known depth is new new_is = (long, small, steady)
    where
      x : ℕ
      x = get_or numbers count 0

      here : slice_get walk.order.items count ≡ Some x
      here = ap (λ l. slice_get l count) (sym ordered) ∙ slice_get-get_or numbers count 0 below

      within : x < length depths
      within = let l = walked.order.nodes count x here in let links_length = length-map definitions (λ d. typedefs_in definitions d.kind) in omega (arith, l, links_length, size)

      found : depth ≡ cond (is_flagged (slice_get walk.cyclic.items x)) None (capped (number_depth definitions (table_depth definitions depths) x))
      found = is ∙ ap (λ l. cond (is_flagged (slice_get l x)) None (capped (number_depth definitions (table_depth definitions seen) x))) flagged ∙ ap (λ l. cond (is_flagged (slice_get walk.cyclic.items x)) None (capped (number_depth definitions (table_depth definitions l) x))) same

      long : length new ≡ length definitions
      long = ap length new_is ∙ length-set depths x depth ∙ size

      small : AreCapped new
      small = capped_next definitions walk.order.items count depths x depth new new_is within (small_found x depth found) all

      steady : AreSteady definitions walk.order.items (count + 1) new
      steady = steady_next definitions walk.order.items count depths x depth new new_is within walked.order known here (depth_found x depth all known here found)

-- after the last definition of the order the table tells the depth of each name
pub all_told : (definitions : List PlainDefinition) (order : List ℕ) (count : ℕ) (depths : List (Option ℕ)) → IsOrder (length (typedef_links definitions)) order → length order ≤ count → count ≤ length order → AreCapped depths → AreSteady definitions order count depths → TellsDepths definitions depths
all_told definitions order count depths is_order past upto all known = record { tells = λ name. told name }
  where
    links_length : length (typedef_links definitions) ≡ length definitions
    links_length = length-map definitions (λ d. typedefs_in definitions d.kind)

    within : count ≤ length definitions
    within = let size = is_order.size in omega (arith, upto, size, links_length)

    placed : (name : PlainName) (y : ℕ) → meaning definitions name.text ≡ Some y → (place : ℕ) × (place < count) × (slice_get order place ≡ Some y)
    placed name y number =
        let below : y < length definitions = meaning_below definitions name.text y number in
        let here = is_order.each y (subst (λ n. y < n) (sym links_length) below) in
        let inside = slice_get_within order here.0 y here.1 in
        (here.0, omega (arith, inside, past), here.1)

    told : (name : PlainName) → capped (named_depth definitions (length definitions + 1) name) ≡ table_depth definitions depths name
    told name =
        let next : length definitions + 1 ≡ suc (length definitions) = omega arith in
        ap (λ levels. capped (named_depth definitions levels name)) next
        ∙ name_agrees definitions order count depths all known name (λ y u number kind. placed name y number) (length definitions) within
        ∙ table_capped definitions depths name all

-- nothing is known before the first definition
pub steady_start : (definitions : List PlainDefinition) (order : List ℕ) (depths : List (Option ℕ)) → AreSteady definitions order 0 depths
steady_start definitions order depths = record { steady = λ place x below. absurd (omega (arith, below)) }

abbrev no_depth : Option ℕ
no_depth = None

none_at : (count n : ℕ) → get_or (replicate count no_depth) n no_depth ≡ no_depth
none_at zero n = refl
none_at (suc count) zero = refl
none_at (suc count) (suc n) = none_at count n

-- a table without depths keeps to the limit
pub capped_start : (count : ℕ) (depths : List (Option ℕ)) → depths ≡ replicate count no_depth → AreCapped depths
capped_start count depths is = subst AreCapped (sym is) (record { same = λ n. ap capped (none_at count n) ∙ sym (none_at count n) })
