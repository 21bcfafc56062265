use Rattle.std.proofs.Common.{arith, ◌≡◌, ◌≤◌, ◌^◌, ap, ◌∙◌}
use Rattle.std.specs.Prelude.{unsigned_abs}
use mir.Syntax.{w128}
use Rattle.std.proofs.lemmas.Int.{ints, to_z-of_z}
use Rattle.widl_value.proofs.NearWords.{nearest_word}
use Rattle.widl_value.proofs.NearSigned.{nearest_above, nearest_below, near_most, size_most}
use Rattle.widl_value.proofs.rounding.nearest.Goals as goal

pub returns-then-v-lt0-clause-nearest : goal.returns-then-v-lt0-clause-nearest
returns-then-v-lt0-clause-nearest c =
    let same : c.unsigned_abs.result ≡ unsigned_abs c.args.v = c.unsigned_abs.ensures.value ∙ ap unsigned_abs (to_z-of_z w128 c.args.v c.ranges.v) in
    let size = size_most c.args.v c.requires.low c.requires.high in
    let low : c.unsigned_abs.result ≤ 2 ^ 64 = omega (arith, same, size) in
    let most = near_most _ _ c.near-size.ensures.near low in
    nearest_below _ _ _ _ (omega (arith, ints)) same low c.near-size.ensures.near (omega (arith, ints, most))

pub returns-else-v-lt0-clause-nearest : goal.returns-else-v-lt0-clause-nearest
returns-else-v-lt0-clause-nearest c =
    let same : c.unsigned_abs.result ≡ unsigned_abs c.args.v = c.unsigned_abs.ensures.value ∙ ap unsigned_abs (to_z-of_z w128 c.args.v c.ranges.v) in
    let size = size_most c.args.v c.requires.low c.requires.high in
    let low : c.unsigned_abs.result ≤ 2 ^ 64 = omega (arith, same, size) in
    let most = near_most _ _ c.near-size.ensures.near low in
    nearest_above _ _ _ _ (omega (arith, ints)) same low c.near-size.ensures.near (omega (arith, ints, most))

pub returns-then-v-lt0-clause-number : goal.returns-then-v-lt0-clause-number
returns-then-v-lt0-clause-number c = (returns-then-v-lt0-clause-nearest c).1

pub returns-else-v-lt0-clause-number : goal.returns-else-v-lt0-clause-number
returns-else-v-lt0-clause-number c = (returns-else-v-lt0-clause-nearest c).1

pub returns-then-v-lt0-clause-value : goal.returns-then-v-lt0-clause-value
returns-then-v-lt0-clause-value c = nearest_word _ _ (let size = size_most c.args.v c.requires.low c.requires.high in omega (arith, size)) (returns-then-v-lt0-clause-nearest c)

pub returns-else-v-lt0-clause-value : goal.returns-else-v-lt0-clause-value
returns-else-v-lt0-clause-value c = nearest_word _ _ (let size = size_most c.args.v c.requires.low c.requires.high in omega (arith, size)) (returns-else-v-lt0-clause-nearest c)
