use Rattle.std.proofs.Common.{◌≡◌, ℕ, ◌<◌, List, map, ◌∙◌, sym, ap, length, arith}
use Rattle.std.proofs.lemmas.List.{length-map}
use Rattle.widl_idl.specs.declared.types.IdlType.{IdlType}
use Rattle.widl_idl.specs.Sameness.{same_terms}
use Rattle.widl_idl.specs.Terms.{type_term, packed}
use Rattle.widl_idl.proofs.Same.{lengths_tell, differ_at, same_more}
use Rattle.widl_idl.proofs.sameness.+same.Goals as goal

pub all_same-returns-then-len-others : goal.all_same-returns-then-len-others
all_same-returns-then-len-others t c =
    lengths_tell c.args.a.now.items.items c.args.b.now.items.items
    (λ e. c.if-len-others.true (c.len.ensures ∙ length-map c.args.a.now.items.items type_term ∙ e ∙ sym (ap length c.as_slice-others.ensures)))

-- the place is within the other list, which is as long
within : (xs ys zs : List IdlType) (n place : ℕ) → n ≡ length (map type_term zs) → xs ≡ zs → n ≡ length ys → place < length xs → place < length ys
within xs ys zs n place counted is even below =
    let long : length (map type_term zs) ≡ length zs = length-map zs type_term in
    let same : length xs ≡ length zs = ap length is in
    omega arith

pub all_same-returns-then-not-are_same : goal.all_same-returns-then-not-are_same
all_same-returns-then-not-are_same t c =
    differ_at c.as_slice-t-items.result.now c.as_slice-others.result.now c.loop-place.place c.t-item.result c.index-others-place.result (omega arith)
    (within c.as_slice-t-items.result.now c.as_slice-others.result.now c.args.a.now.items.items c.len.result c.loop-place.place c.len.ensures c.as_slice-t-items.ensures c.if-len-others.false (omega arith))
    c.t-item.is c.index-others-place.is (let told = c.are_same.ensures in let no = c.if-not-are_same.true in cc)
    ∙ (λ i. same_terms (packed (map type_term (c.as_slice-t-items.ensures i))) (packed (map type_term (c.as_slice-others.ensures i))))

pub all_same-loop-place-preserved : goal.all_same-loop-place-preserved
all_same-loop-place-preserved t c =
    same_more c.as_slice-t-items.result.now c.as_slice-others.result.now c.loop-place.place c.t-item.result c.index-others-place.result (omega arith)
    (within c.as_slice-t-items.result.now c.as_slice-others.result.now c.args.a.now.items.items c.len.result c.loop-place.place c.len.ensures c.as_slice-t-items.ensures c.if-len-others.false (omega arith))
    c.t-item.is c.index-others-place.is (let told = c.are_same.ensures in let same = c.if-not-are_same.false in cc) c.loop-place.invariant
