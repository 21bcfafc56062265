-- The first violations of overloads, a list of overloads at a time.
use Rattle.std.proofs.Common.{◌≡◌, ℕ, ◌+◌, ◌<◌, ◌≤◌, ◌++◌, Bool, true, false, cond, List, [], ◌∷◌, length, take, map, get_or, arith, refl, sym, ap, subst, ◌∙◌}
use Rattle.std.specs.List.{filter}
use Rattle.std.proofs.lemmas.List.{append-nil, map-append, take_all, take_more}
use Rattle.std.proofs.lemmas.List.Concat.{flat_map-append}
use Rattle.std.proofs.lemmas.List.Elements.{filter-append}
use Rattle.widl_idl.specs.declared.interface.Iface.{Iface}
use Rattle.widl_idl.specs.declared.namespace.Space.{Space}
use Rattle.widl_idl.specs.declared.operation.OpName.{OpName}
use Rattle.widl_idl.specs.DefinitionTerms.{IfaceTerm, SigTerm, OpNameTerm, SpaceTerm, iface_term, op_name_term, space_term}
use Rattle.widl_idl.proofs.Somewhere.{somewhere_both, somewhere_none, somewhere_one}
use Rattle.widl_overload.specs.declared.overload_violations.OverloadViolations.{OverloadViolations}
use Rattle.widl_overload.specs.sets.Index.{of_one_length}
use Rattle.widl_overload.specs.sets.OverloadLists.{lists_of_interface, lists_of_interfaces, lists_of_namespace, lists_of_namespaces}
use Rattle.widl_overload.specs.rules.OverloadRules.{AtSmallestLength, DifferEarly, LacksIndex, has_name, operation_lists}
use Rattle.widl_overload.specs.rules.OverloadViolations.{AreViolationsAt, AreViolationsIn, earlier_violations, no_violations}
use Rattle.widl_overload.specs.sets.Sets.{effective_tuples, longest}
use Rattle.widl_overload.proofs.OneLength.{no_more, none_beyond}
use Rattle.widl_overload.proofs.OnlyViolations.{never_broken}

module _ (ifaces : List IfaceTerm) where
  -- in no list there is no violation
  pub violations_none : (now : OverloadViolations) → now ≡ no_violations → AreViolationsIn ifaces [] now
  violations_none now e = subst (AreViolationsIn ifaces []) (sym e) (record { indistinguishable = somewhere_none (AtSmallestLength (LacksIndex ifaces)); early = somewhere_none (AtSmallestLength (DifferEarly ifaces)) })

  -- in one list
  pub violations_one : (sigs : List SigTerm) (found : OverloadViolations) → AreViolationsAt ifaces sigs found → AreViolationsIn ifaces (sigs ∷ []) found
  violations_one sigs found h = record { indistinguishable = somewhere_one (AtSmallestLength (LacksIndex ifaces)) sigs found.indistinguishable h.indistinguishable; early = somewhere_one (AtSmallestLength (DifferEarly ifaces)) sigs found.early h.early }

  -- in two lists of lists that are put together
  pub violations_both : (xs ys : List (List SigTerm)) (best found now : OverloadViolations) → AreViolationsIn ifaces xs best → AreViolationsIn ifaces ys found → now ≡ earlier_violations best found → AreViolationsIn ifaces (xs ++ ys) now
  violations_both xs ys best found now b f e = subst (AreViolationsIn ifaces (xs ++ ys)) (sym e) (record {
    indistinguishable = somewhere_both (AtSmallestLength (LacksIndex ifaces)) xs ys best.indistinguishable found.indistinguishable b.indistinguishable f.indistinguishable;
    early = somewhere_both (AtSmallestLength (DifferEarly ifaces)) xs ys best.early found.early b.early f.early;
  })

  -- a list first
  pub violations_before : (sigs : List SigTerm) (lists : List (List SigTerm)) (best found now : OverloadViolations) → AreViolationsAt ifaces sigs best → AreViolationsIn ifaces lists found → now ≡ earlier_violations best found → AreViolationsIn ifaces (sigs ∷ lists) now
  violations_before sigs lists best found now b f e = violations_both (sigs ∷ []) lists best found now (violations_one sigs best b) f e

  module _ {X : Type 0} (lists : List X → List (List SigTerm)) (joined : (xs ys : List X) → lists (xs ++ ys) ≡ lists xs ++ lists ys) (xs : List X) where
    -- one node more, with its lists
    pub violations_next : (i : ℕ) (x : X) (best found now : OverloadViolations) → i < length xs → x ≡ get_or xs i x → AreViolationsIn ifaces (lists (take i xs)) best → AreViolationsIn ifaces (lists (x ∷ [])) found → now ≡ earlier_violations best found → AreViolationsIn ifaces (lists (take (i + 1) xs)) now
    violations_next i x best found now below is b f e =
        let more : take (i + 1) xs ≡ take i xs ++ x ∷ [] = take_more xs i x below ∙ ap (λ y. take i xs ++ y ∷ []) (sym is) in
        subst (λ ls. AreViolationsIn ifaces ls now) (sym (ap lists more ∙ joined (take i xs) (x ∷ []))) (violations_both (lists (take i xs)) (lists (x ∷ [])) best found now b f e)

    -- after the last node
    pub violations_all : (i : ℕ) (best : OverloadViolations) → i ≡ length xs → AreViolationsIn ifaces (lists (take i xs)) best → AreViolationsIn ifaces (lists xs) best
    violations_all i best end b = subst (λ ys. AreViolationsIn ifaces (lists ys) best) (take_all i xs (omega arith)) b

  -- of fewer than two overloads none breaks a rule
  pub violations_of_few : (sigs : List SigTerm) (now : OverloadViolations) → length sigs < 2 → now ≡ no_violations → AreViolationsAt ifaces sigs now
  violations_of_few sigs now few e = subst (AreViolationsAt ifaces sigs) (sym e) (record {
    indistinguishable = never_broken (LacksIndex ifaces) sigs (λ m h. omega (arith, h.several, no_more sigs m));
    early = never_broken (DifferEarly ifaces) sigs (λ m h. omega (arith, h.is_index.several, no_more sigs m));
  })

  too_few : (sigs : List SigTerm) (m : ℕ) → longest sigs < m → 2 ≤ length (of_one_length m (effective_tuples sigs 0)) → ⊥
  too_few sigs m beyond several = let none = ap length (none_beyond sigs m beyond) in omega arith

  -- beyond the longest list of arguments no rule is broken
  pub none_indistinguishable_beyond : (sigs : List SigTerm) (most m : ℕ) → most ≡ longest sigs → most < m → LacksIndex ifaces (effective_tuples sigs 0) m → ⊥
  none_indistinguishable_beyond sigs most m is beyond h = too_few sigs m (omega arith) h.several

  pub none_early_beyond : (sigs : List SigTerm) (most m : ℕ) → most ≡ longest sigs → most < m → DifferEarly ifaces (effective_tuples sigs 0) m → ⊥
  none_early_beyond sigs most m is beyond h = too_few sigs m (omega arith) h.is_index.several

pub interfaces_joined : (xs ys : List Iface) → lists_of_interfaces (map iface_term (xs ++ ys)) ≡ lists_of_interfaces (map iface_term xs) ++ lists_of_interfaces (map iface_term ys)
interfaces_joined xs ys = ap lists_of_interfaces (map-append iface_term xs ys) ∙ flat_map-append lists_of_interface (map iface_term xs) (map iface_term ys)

pub namespaces_joined : (xs ys : List Space) → lists_of_namespaces (map space_term (xs ++ ys)) ≡ lists_of_namespaces (map space_term xs) ++ lists_of_namespaces (map space_term ys)
namespaces_joined xs ys = ap lists_of_namespaces (map-append space_term xs ys) ∙ flat_map-append lists_of_namespace (map space_term xs) (map space_term ys)

lists_joined : (xs ys : List OpNameTerm) → operation_lists (xs ++ ys) ≡ operation_lists xs ++ operation_lists ys
lists_joined xs ys = ap (map (λ (op : OpNameTerm). op.sigs)) (filter-append has_name xs ys) ∙ map-append (λ (op : OpNameTerm). op.sigs) (filter has_name xs) (filter has_name ys)

pub operations_joined : (xs ys : List OpName) → operation_lists (map op_name_term (xs ++ ys)) ≡ operation_lists (map op_name_term xs) ++ operation_lists (map op_name_term ys)
operations_joined xs ys = ap operation_lists (map-append op_name_term xs ys) ∙ lists_joined (map op_name_term xs) (map op_name_term ys)

-- the lists of one interface and of one namespace
pub one_interface : (i : IfaceTerm) → lists_of_interfaces (i ∷ []) ≡ lists_of_interface i
one_interface i = append-nil (lists_of_interface i)

pub one_namespace : (s : SpaceTerm) → lists_of_namespaces (s ∷ []) ≡ lists_of_namespace s
one_namespace s = append-nil (lists_of_namespace s)

with_name : OpNameTerm → List ℕ → OpNameTerm
with_name op name = record op { name = name }

is_named : (op : OpNameTerm) (name : List ℕ) → op.name ≡ name → (length name ≡ 0 → ⊥) → has_name op ≡ true
unfolding with_name
is_named op [] e some = absurd (some refl)
is_named op (c ∷ name) e some = ap (λ n. has_name (with_name op n)) e

not_named : (op : OpNameTerm) (name : List ℕ) → op.name ≡ name → length name ≡ 0 → has_name op ≡ false
unfolding with_name
not_named op [] e none = ap (λ n. has_name (with_name op n)) e
not_named op (c ∷ name) e none = absurd (omega arith)

listed_if : (op : OpNameTerm) (b : Bool) → has_name op ≡ b → operation_lists (op ∷ []) ≡ cond b (op.sigs ∷ []) []
listed_if op true e = ap (λ b. map (λ (o : OpNameTerm). o.sigs) (cond b (op ∷ []) [])) e
listed_if op false e = ap (λ b. map (λ (o : OpNameTerm). o.sigs) (cond b (op ∷ []) [])) e

module _ (ifaces : List IfaceTerm) (op : OpNameTerm) where
  -- operations with a name are one list
  pub violations_of_named : (found : OverloadViolations) → (length op.name ≡ 0 → ⊥) → AreViolationsAt ifaces op.sigs found → AreViolationsIn ifaces (operation_lists (op ∷ [])) found
  violations_of_named found some h = subst (λ ls. AreViolationsIn ifaces ls found) (sym (listed_if op true (is_named op op.name refl some))) (violations_one ifaces op.sigs found h)

  -- those without a name are none
  pub violations_of_nameless : (found : OverloadViolations) → length op.name ≡ 0 → found ≡ no_violations → AreViolationsIn ifaces (operation_lists (op ∷ [])) found
  violations_of_nameless found none e = subst (λ ls. AreViolationsIn ifaces ls found) (sym (listed_if op false (not_named op op.name refl none))) (violations_none ifaces found e)
