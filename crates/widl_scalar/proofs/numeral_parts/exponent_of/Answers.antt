use Rattle.std.proofs.Common.{◌≡◌, ◌<◌, ◌⊎◌, arith, drop, get_or, inl, inr, length, subst}
use Rattle.std.proofs.lemmas.List.{take_rest}
use Rattle.widl_scalar.specs.NumeralParts.{IsSignCut}
use Rattle.widl_scalar.proofs.NumeralCuts.{empty, exponent_found, exponent_means, exponent_none, not_empty}
use Rattle.widl_scalar.proofs.numeral_parts.exponent_of.Goals as goal
use Rattle.widl_scalar.proofs.numeral_parts.exponent_of.Goals.{else-text-ne101-via-then-text-ne101+else-text-ne69, else-text-ne101-via-else-text-ne101, then-is_empty-2-via-then-is_empty-2, then-is_empty-2-via-else-is_empty-2+then-not-is_empty}

pub returns-then-is_empty-2-clause-none : goal.returns-then-is_empty-2-clause-none
returns-then-is_empty-2-clause-none c up over =
    let sign : IsSignCut (drop 1 c.args.text.now) c.split_sign-negative.result.0 c.split_sign-negative.result.1.now = subst (λ r. IsSignCut r c.split_sign-negative.result.0 c.split_sign-negative.result.1.now) (take_rest c.args.text.now 1) c.split_sign-negative.ensures in
    let some : 0 < length c.args.text.now = not_empty _ c.if-is_empty.ensures in
    let bad : (length c.split_digits.result.0.now ≡ 0) ⊎ (0 < length c.split_digits.result.1.now) = elim c.then-is_empty-2.branch [ then-is_empty-2-via-then-is_empty-2 w ↦ inl (empty _ w.if-is_empty-2.ensures) | then-is_empty-2-via-else-is_empty-2+then-not-is_empty w ↦ inr (not_empty _ w.if-not-is_empty.ensures) ] in
    exponent_none _ _ _ _ _ sign c.split_digits.ensures some bad up over

pub returns-clause-means : goal.returns-clause-means
returns-clause-means c =
    let sign : IsSignCut (drop 1 c.args.text.now) c.split_sign-negative.result.0 c.split_sign-negative.result.1.now = subst (λ r. IsSignCut r c.split_sign-negative.result.0 c.split_sign-negative.result.1.now) (take_rest c.args.text.now 1) c.split_sign-negative.ensures in
    let some : 0 < length c.args.text.now = not_empty _ c.if-is_empty.ensures in
    exponent_means _ _ _ _ _ sign c.split_digits.ensures some _ c.capped_number.ensures

pub returns-clause-found : goal.returns-clause-found
returns-clause-found c =
    let sign : IsSignCut (drop 1 c.args.text.now) c.split_sign-negative.result.0 c.split_sign-negative.result.1.now = subst (λ r. IsSignCut r c.split_sign-negative.result.0 c.split_sign-negative.result.1.now) (take_rest c.args.text.now 1) c.split_sign-negative.ensures in
    let some : 0 < length c.args.text.now = not_empty _ c.if-is_empty.ensures in
    let mark : (get_or c.args.text.now 0 0 ≡ 101) ⊎ (get_or c.args.text.now 0 0 ≡ 69) = elim c.else-text-ne101.branch [ else-text-ne101-via-then-text-ne101+else-text-ne69 w ↦ inr (omega arith) | else-text-ne101-via-else-text-ne101 w ↦ inl (omega arith) ] in
    let more : 0 < length c.split_digits.result.0.now = not_empty _ c.if-is_empty-2.ensures in
    let none : length c.split_digits.result.1.now ≡ 0 = empty _ c.if-not-is_empty.ensures in
    exponent_found _ _ _ _ _ sign c.split_digits.ensures some mark more none
