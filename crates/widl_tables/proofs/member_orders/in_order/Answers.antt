use Rattle.std.proofs.Common.{rules, ◌≡◌, ◌+◌, ◌++◌, ◌∷◌, [], ℕ, List, map, length, sym, ap, subst, ◌∙◌, arith}
use Rattle.std.proofs.lemmas.List.{length-map}
use Rattle.std.specs.Cmp.Lexicographic.{slice_cmp}
use Rattle.std.specs.List.Sorted.{IsStableBy}
use Rattle.std.specs.Ordering.{nat_cmp}
use Rattle.widl_idl.specs.DefinitionTerms.{member_term}
use Rattle.widl_tables.specs.MemberTables.{name_in, numbers_from}
use Rattle.widl_tables.proofs.MemberNumbers.{lower, lower_order, numbers_more, sorted_numbers}
use Rattle.widl_tables.proofs.StableSorts.{compares}
use Rattle.widl_tables.proofs.member_orders.in_order.Goals as goal

pub loop-number-preserved : goal.loop-number-preserved
loop-number-preserved c =
    let same : 0 + c.loop-number.number ≡ c.loop-number.number = omega arith in
    c.in_ok-push.ensures.items
    ∙ ap (λ (ns : List ℕ). ns ++ c.loop-number.number ∷ []) c.loop-number.invariant
    ∙ ap (λ (k : ℕ). numbers_from 0 c.loop-number.number ++ k ∷ []) (sym same)
    ∙ sym (numbers_more 0 c.loop-number.number)

pub returns : goal.returns
returns c n =
    let all = map member_term c.args.members.now in
    let done : c.loop-number.number ≡ length c.args.members.now = omega arith in
    let made = c.loop-number.invariant ∙ ap (numbers_from 0) (done ∙ sym (length-map c.args.members.now member_term)) in
    sorted_numbers all n c.sort_by.new.self.items
    (c.in_ok-sort_by.ensures.sorted (lower all) (lower_order all) (compares (λ a b. slice_cmp nat_cmp (name_in all a) (name_in all b)) (λ a r f k. search rules)))
    (subst (λ (old : List ℕ). IsStableBy (lower all) old c.sort_by.new.self.items) made (c.in_ok-sort_by.ensures.stable (lower all) (lower_order all) (compares (λ a b. slice_cmp nat_cmp (name_in all a) (name_in all b)) (λ a r f k. search rules))))
