-- The first refusal of a form that the profile leaves unsupported, with one node more.
use Rattle.std.proofs.Common.{◌≡◌, ◌⊎◌, inl, inr, ℕ, ◌+◌, ◌<◌, ◌≤◌, ◌++◌, List, [], ◌∷◌, Contains, length, take, get_or, Option, None, Some, arith, refl, sym, ap, subst, ◌∙◌}
use Rattle.std.proofs.lemmas.List.{take_more, take_all, map-append}
use Rattle.widl_first.specs.First.{Either}
use Rattle.widl_first.proofs.Firsts.{first_either, first_of_one}
use Rattle.widl_idl.specs.declared.profile_rule.Unsupported.{Unsupported}
use Rattle.widl_idl.specs.declared.profile_rule.ProfileRule.{ProfileRule}
use Rattle.widl_idl.specs.declared.profile_rule.ProfileRule.TheVariants as unsupported
use Rattle.widl_idl.specs.declared.refusal.Refusal.{Refusal}
use Rattle.widl_idl.specs.First.{violation_at}
use Rattle.widl_idl.specs.FirstRefusal.{Earlier, is_earlier, refusal_at, violation_of, Broken, FirstBroken}
use Rattle.widl_idl.specs.Profile.{profile_number, profile_rules, unsupported_of, IsUnsupported, IsUnsupportedBy, LeavesOut}
use Rattle.widl_idl.specs.Nodes.{Node}
use Rattle.widl_idl.proofs.Somewhere.{somewhere_left, somewhere_right, somewhere_cases, one_item, nowhere}
use Rattle.widl_idl.proofs.Steps.{refusal_order}
use Rattle.widl_names.specs.declared.nodes.Node as listed
use Rattle.widl_merge.specs.Refusals.{join_form}
use Rattle.widl_names.specs.Listings.{node_of, nodes_listed}

-- each rule is one of the rules
pub every_rule : (rule : ProfileRule) → Contains profile_rules rule
every_rule unsupported.FloatingPoint = (0, omega arith, refl)
every_rule unsupported.BigInt = (1, omega arith, refl)
every_rule unsupported.Buffer = (2, omega arith, refl)
every_rule unsupported.Symbol = (3, omega arith, refl)
every_rule unsupported.Asynchronous = (4, omega arith, refl)
every_rule unsupported.ObservableArray = (5, omega arith, refl)
every_rule unsupported.MapOrSet = (6, omega arith, refl)
every_rule unsupported.ValueIterable = (7, omega arith, refl)
every_rule unsupported.SpecialOperation = (8, omega arith, refl)
every_rule unsupported.InheritedAttribute = (9, omega arith, refl)
every_rule unsupported.CallbackInterfaceConstant = (10, omega arith, refl)
every_rule unsupported.UnlistedAttribute = (11, omega arith, refl)
every_rule unsupported.FrozenArray = (12, omega arith, refl)

abbrev BrokenIn : List Node → Refusal → Type 0
BrokenIn nodes r = Broken profile_number (LeavesOut nodes) profile_rules r

abbrev FirstIn : List Node → Option Refusal → Type 0
FirstIn nodes best = FirstBroken profile_number (LeavesOut nodes) profile_rules best

-- the refusal of a form
abbrev refusal_of : Unsupported → Refusal
refusal_of form = refusal_at (profile_number form.rule) (violation_at form.at)

not_itself : (r : Refusal) → Earlier r r → ⊥
not_itself r e = grind arith

module _ (nodes : List Node) (x : Node) where
  -- it is the refusal of the form that the node has
  abbrev OfForm : Refusal → Type 0
  OfForm r = (form : Unsupported) × (unsupported_of x ≡ Some form) × (refusal_of form ≡ r)

  kept : (r : Refusal) → BrokenIn nodes r → BrokenIn (nodes ++ x ∷ []) r
  kept r b = record { which = b.which; listed = b.listed; numbered = b.numbered; breaks = somewhere_left (IsUnsupported b.which) nodes (x ∷ []) (violation_of r) b.breaks }

  added : (form : Unsupported) → unsupported_of x ≡ Some form → BrokenIn (nodes ++ x ∷ []) (refusal_of form)
  added form is = record {
    which = form.rule;
    listed = every_rule form.rule;
    numbered = refl;
    breaks = somewhere_right (IsUnsupported form.rule) nodes (x ∷ []) (violation_at form.at) (record { item = x; listed = (0, omega arith, refl); breaks = subst (λ l. IsUnsupportedBy form.rule l (violation_at form.at)) (sym is) (refl, refl) });
  }

  same_violation : (r : Refusal) (form : Unsupported) (rule : ProfileRule) → profile_number rule ≡ r.rule → form.rule ≡ rule → violation_at form.at ≡ violation_of r → refusal_of form ≡ r
  same_violation r form rule number is at = ap (λ n. refusal_at n (violation_at form.at)) (ap profile_number is ∙ number) ∙ ap (refusal_at r.rule) at

  by_form : (l : Option Unsupported) → unsupported_of x ≡ l → (rule : ProfileRule) (r : Refusal) → profile_number rule ≡ r.rule → IsUnsupportedBy rule l (violation_of r) → OfForm r
  by_form None is rule r number b = absurd b
  by_form (Some form) is rule r number b = (form, is, same_violation r form rule number b.0 b.1)

  either : (r : Refusal) → BrokenIn (nodes ++ x ∷ []) r → BrokenIn nodes r ⊎ OfForm r
  either r b = elim (somewhere_cases (IsUnsupported b.which) nodes (x ∷ []) (violation_of r) b.breaks) [ inl l ↦ inl (record { which = b.which; listed = b.listed; numbered = b.numbered; breaks = l }) | inr h ↦ inr (by_form (unsupported_of x) refl b.which r b.numbered (one_item (IsUnsupported b.which) x (violation_of r) h)) ]

  some_is : {A : Type 0} {a b : A} → Some a ≡ Some b → a ≡ b
  some_is e = (cc)

  none_is : {A : Type 0} {a : A} → None ≡ Some a → ⊥
  none_is e = (cc)

  -- the refusal of this node's form is the only one that it adds
  only_form : (form : Unsupported) → unsupported_of x ≡ Some form → (r : Refusal) → OfForm r → refusal_of form ≡ r
  only_form form is r h = ap refusal_of (some_is (sym is ∙ h.1)) ∙ h.2

  one_more : Either (BrokenIn nodes) OfForm (BrokenIn (nodes ++ x ∷ []))
  one_more = record { left = kept; right = λ r h. subst (BrokenIn (nodes ++ x ∷ [])) h.2 (added h.0 h.1); only = either }

  node_more : (l : Option Unsupported) → unsupported_of x ≡ l → (best : Option Refusal) → FirstIn nodes best → FirstIn (nodes ++ x ∷ []) (join_form l best)
  node_more None is best m = subst (FirstIn (nodes ++ x ∷ [])) (first_of_one is_earlier best) (first_either refusal_order (BrokenIn nodes) OfForm (BrokenIn (nodes ++ x ∷ [])) one_more best None m (λ r h. none_is (sym is ∙ h.1)))
  node_more (Some form) is best m =
      first_either refusal_order (BrokenIn nodes) OfForm (BrokenIn (nodes ++ x ∷ [])) one_more best (Some (refusal_of form)) m
      (record { holds = (form, is, refl); first = λ r h before. not_itself r (subst (Earlier r) (only_form form is r h) before) })

-- nothing is left out where nothing is written
pub nothing_unsupported : FirstIn [] None
nothing_unsupported = λ r b. nowhere (IsUnsupported b.which) (violation_of r) b.breaks

-- one node more, as a loop over the nodes has it
pub next_node : (nodes : List listed.Node) (i : ℕ) (x : listed.Node) (form : Option Unsupported) (best now : Option Refusal) → i < length nodes → x ≡ get_or nodes i x → form ≡ unsupported_of (node_of x) → now ≡ join_form form best → FirstIn (nodes_listed (take i nodes)) best → FirstIn (nodes_listed (take (i + 1) nodes)) now
next_node nodes i x form best now below is form_is now_is m =
    let more : nodes_listed (take (i + 1) nodes) ≡ nodes_listed (take i nodes) ++ node_of x ∷ []
    = ap nodes_listed (take_more nodes i x below ∙ ap (λ y. take i nodes ++ y ∷ []) (sym is)) ∙ map-append node_of (take i nodes) (x ∷ []) in
    subst (λ l. FirstIn l now) (sym more) (subst (FirstIn (nodes_listed (take i nodes) ++ node_of x ∷ [])) (sym now_is) (node_more (nodes_listed (take i nodes)) (node_of x) form (sym form_is) best m))

-- after the last node
pub all_nodes : (nodes : List listed.Node) (i : ℕ) (best : Option Refusal) → length nodes ≤ i → FirstIn (nodes_listed (take i nodes)) best → FirstIn (nodes_listed nodes) best
all_nodes nodes i best past m = subst (λ l. FirstIn (nodes_listed l) best) (take_all i nodes past) m
