-- The heirs of interfaces at the start, and the interfaces without a parent, one more.
use Rattle.std.proofs.Common.{◌≡◌, ℕ, ◌+◌, ◌<◌, ◌&&◌, ◌||◌, ◌⊎◌, inl, inr, Bool, true, false, List, [], length, get_or, replicate, nat_eq, nat_lt, arith, refl, sym, ap, ◌∙◌, map}
use Rattle.std.specs.Prelude.{Option, Some, option_and_then, option_map}
use Rattle.std.specs.List.{list_any}
use Rattle.std.proofs.lemmas.Bool.{cases_order, eq-eqb, le-ltb, lt-ltb, ne_eqb}
use Rattle.std.proofs.lemmas.List.{get_or-replicate, length-replicate}
use Rattle.std.proofs.lemmas.Option.{slice_get-get_or, slice_get-map}
use Rattle.widl_idl.specs.declared.interface.Iface.{Iface}
use Rattle.widl_idl.specs.DefinitionTerms.{IfaceTerm, iface_term}
use Rattle.widl_spell.specs.Ids.{parent_at, parents_of}
use Rattle.widl_spell.specs.Ready.{AddsParentless, AreHeirs, AreParentless, is_parentless}

-- no heirs yet
pub no_heirs : (heirs : List (List ℕ)) (count : ℕ) → heirs ≡ replicate count [] → AreHeirs [] heirs count
no_heirs heirs count is = record {
  size = ap length is ∙ length-replicate count [];
  each = λ p q below. ap (λ (xs : List (List ℕ)). list_any (nat_eq q) (get_or xs p [])) is ∙ ap (list_any (nat_eq q)) (get_or-replicate count p [] [] below);
}

pub parent_is : (ifaces : List Iface) (i : ℕ) (iface : Iface) → i < length ifaces → iface ≡ get_or ifaces i iface → parent_at (parents_of (map iface_term ifaces)) i ≡ iface.parent
parent_is ifaces i iface below is =
    ap (option_and_then (λ parent. parent)) (slice_get-map (λ (x : IfaceTerm). x.parent) (map iface_term ifaces) i ∙ ap (option_map (λ (x : IfaceTerm). x.parent)) (slice_get-map iface_term ifaces i ∙ ap (option_map iface_term) (slice_get-get_or ifaces i iface below ∙ ap (λ x. Some x) (sym is))))

at_itself : (a : Bool) → ((a && true) || (false && a)) ≡ (true && a)
at_itself true = refl
at_itself false = refl

elsewhere : (a b c : Bool) → ((a && false) || (b && c)) ≡ (b && c)
elsewhere true b c = refl
elsewhere false b c = refl

pub parentless_more : (parents : List (Option ℕ)) (i : ℕ) (parent : Option ℕ) (old new : ℕ → Bool) → parent_at parents i ≡ parent → AddsParentless parent i old new → AreParentless parents i old → AreParentless parents (i + 1) new
parentless_more parents i parent old new is added so = λ q. added q ∙ ap (λ b. (is_parentless parent && nat_eq q i) || b) (so q) ∙ at q (cases_order q i)
  where
    at : (q : ℕ) → (q ≡ i) ⊎ ((q < i) ⊎ (i < q)) → ((is_parentless parent && nat_eq q i) || (nat_lt q i && is_parentless (parent_at parents q))) ≡ (nat_lt q (i + 1) && is_parentless (parent_at parents q))
    at q (inl same) =
        let here : is_parentless (parent_at parents q) ≡ is_parentless parent = ap is_parentless (ap (parent_at parents) same ∙ is) in
        ap (λ b. (is_parentless parent && b) || (nat_lt q i && is_parentless (parent_at parents q))) (eq-eqb q i same)
        ∙ ap (λ b. (is_parentless parent && true) || (b && is_parentless (parent_at parents q))) (le-ltb q i (omega (arith, same)))
        ∙ ap (λ b. (is_parentless parent && true) || (false && b)) here ∙ at_itself (is_parentless parent) ∙ sym (ap (λ b. true && b) here)
        ∙ sym (ap (λ b. b && is_parentless (parent_at parents q)) (lt-ltb q (i + 1) (omega (arith, same))))
    at q (inr (inl below)) =
        ap (λ b. (is_parentless parent && b) || (nat_lt q i && is_parentless (parent_at parents q))) (ne_eqb q i (λ e. omega (arith, below, e)))
        ∙ elsewhere (is_parentless parent) (nat_lt q i) (is_parentless (parent_at parents q))
        ∙ ap (λ b. b && is_parentless (parent_at parents q)) (lt-ltb q i below ∙ sym (lt-ltb q (i + 1) (omega (arith, below))))
    at q (inr (inr above)) =
        ap (λ b. (is_parentless parent && b) || (nat_lt q i && is_parentless (parent_at parents q))) (ne_eqb q i (λ e. omega (arith, above, e)))
        ∙ elsewhere (is_parentless parent) (nat_lt q i) (is_parentless (parent_at parents q))
        ∙ ap (λ b. b && is_parentless (parent_at parents q)) (le-ltb q i (omega (arith, above)) ∙ sym (le-ltb q (i + 1) (omega (arith, above))))
