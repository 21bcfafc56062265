-- The orders of dictionaries' members: one more, and one by its number.
use Rattle.std.proofs.Common.{◌≡◌, ◌⊎◌, inl, inr, ℕ, zero, suc, ◌+◌, ◌<◌, ◌≤◌, List, [], ◌∷◌, ◌++◌, length, map, get_or, Option, Some, None, refl, sym, ap, subst, ◌∙◌, arith}
use Rattle.std.specs.Prelude.{option_map, slice_get}
use Rattle.std.specs.Option.{option_map_or}
use Rattle.std.proofs.lemmas.Option.{slice_get_past, slice_get-map, slice_get-get_or}
use Rattle.widl_idl.specs.declared.dictionary.Dict.{Dict}
use Rattle.widl_idl.specs.DefinitionTerms.{DictTerm, dict_term, member_term}
use Rattle.widl_tables.specs.declared.member_orders.MemberOrder.{MemberOrder}
use Rattle.widl_tables.specs.Levels.{level_of}
use Rattle.widl_tables.specs.MemberOrder.{declared_from, own_order}
use Rattle.widl_tables.specs.MemberTables.{AreOrders, AreOrdersOf, IsOrderOf, numbers_by_name}
use Rattle.widl_tables.proofs.KnownLevels.{pushed}
use Rattle.widl_tables.proofs.Levels.{level_past}

-- 1. One more

pub own_numbers : (dicts : List Dict) (n : ℕ) (d : Dict) (own : List ℕ) → n < length dicts → d ≡ get_or dicts n d → own ≡ numbers_by_name (declared_from n 0 (map member_term d.members)) → own ≡ own_order (map dict_term dicts) n
own_numbers dicts n d own below is sorted =
    let there : slice_get (map dict_term dicts) n ≡ Some (dict_term d) = slice_get-map dict_term dicts n ∙ ap (λ (o : Option Dict). option_map dict_term o) (slice_get-get_or dicts n d below ∙ ap Some (sym is)) in
    sorted ∙ ap (λ (o : Option DictTerm). numbers_by_name (option_map_or (λ (x : DictTerm). declared_from n 0 x.members) o [])) (sym there)

module _ (dicts : List DictTerm) where
  pub none_yet : (orders : List MemberOrder) → orders ≡ [] → AreOrdersOf dicts 0 orders
  none_yet orders e = record {
    count = ap (λ (os : List MemberOrder). length os) e;
    each = λ n order there. absurd (let t = subst (λ (os : List MemberOrder). slice_get os n ≡ Some order) e there in cc);
  }

  pub orders_more : (count : ℕ) (orders new : List MemberOrder) (order : MemberOrder) → new ≡ orders ++ order ∷ [] → AreOrdersOf dicts count orders → IsOrderOf dicts count order → AreOrdersOf dicts (count + 1) new
  orders_more count orders new order e so is = record {
    count = ap (λ (os : List MemberOrder). length os) e ∙ longer orders ∙ ap (λ (n : ℕ). n + 1) so.count;
    each = λ n other there. by n other (pushed orders order other n (subst (λ (os : List MemberOrder). slice_get os n ≡ Some other) e there));
  }
    where
      longer : (os : List MemberOrder) → length (os ++ order ∷ []) ≡ length os + 1
      longer [] = refl
      longer (o ∷ os) = ap suc (longer os) ∙ omega arith

      by : (n : ℕ) (other : MemberOrder) → (slice_get orders n ≡ Some other) ⊎ ((n ≡ length orders) × (order ≡ other)) → IsOrderOf dicts n other
      by n other (inl there) = so.each n other there
      by n other (inr here) = subst (λ (k : ℕ). IsOrderOf dicts k other) (sym (here.0 ∙ so.count)) (subst (λ (o : MemberOrder). IsOrderOf dicts count o) here.1 is)

  -- 2. By the number of a dictionary

  past : (orders : List MemberOrder) (n : ℕ) → slice_get orders n ≡ None → length orders ≤ n
  past [] n e = omega arith
  past (o ∷ orders) zero e = absurd (cc)
  past (o ∷ orders) (suc n) e = let later = past orders n e in omega (arith, later)

  pub own_past : (orders : List MemberOrder) (n : ℕ) → AreOrders dicts orders → slice_get orders n ≡ None → [] ≡ own_order dicts n
  own_past orders n so e =
      let none : slice_get dicts n ≡ None = slice_get_past dicts n (subst (λ (k : ℕ). k ≤ n) so.count (past orders n e)) in
      ap (λ (o : Option DictTerm). numbers_by_name (option_map_or (λ (x : DictTerm). declared_from n 0 x.members) o [])) (sym none)

  pub level_beyond : (orders : List MemberOrder) (n : ℕ) → AreOrders dicts orders → length orders ≤ n → None ≡ level_of dicts n
  level_beyond orders n so above = sym (level_past dicts n (subst (λ (k : ℕ). k ≤ n) so.count above))
