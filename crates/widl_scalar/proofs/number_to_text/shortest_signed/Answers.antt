use Rattle.std.proofs.Common.{◌≡◌, ap, ◌∙◌, arith}
use Rattle.std.specs.Prelude.{unsigned_abs}
use mir.Syntax.{w128}
use Rattle.std.proofs.lemmas.Int.{ints, to_z-of_z}
use Rattle.widl_scalar.proofs.WholeTexts.{shortest_room, text_above, text_below, text_of_zero, word_above, word_below, word_of_zero}
use Rattle.widl_scalar.proofs.number_to_text.shortest_signed.Goals as goal

pub returns-then-v-eq0-clause-text : goal.returns-then-v-eq0-clause-text
returns-then-v-eq0-clause-text c = text_of_zero _ (let zero = c.if-v-eq0.true in omega (arith, ints, zero))

pub overflow_cast-digits : goal.overflow_cast-digits
overflow_cast-digits c =
    let same : c.unsigned_abs.result ≡ unsigned_abs c.args.v = c.unsigned_abs.ensures.value ∙ ap unsigned_abs (to_z-of_z w128 c.args.v c.ranges.v) in
    let most = c.requires.most in
    let room = shortest_room _ _ c.shortest-digits.ensures.shortest (omega (arith, same, most)) in
    omega (arith, ints, room)

pub overflow_sub-result : goal.overflow_sub-result
overflow_sub-result c =
    let same : c.unsigned_abs.result ≡ unsigned_abs c.args.v = c.unsigned_abs.ensures.value ∙ ap unsigned_abs (to_z-of_z w128 c.args.v c.ranges.v) in
    let most = c.requires.most in
    let room = shortest_room _ _ c.shortest-digits.ensures.shortest (omega (arith, same, most)) in
    omega (arith, ints, room)

pub returns-then-v-lt0-clause-text : goal.returns-then-v-lt0-clause-text
returns-then-v-lt0-clause-text c =
    let same : c.unsigned_abs.result ≡ unsigned_abs c.args.v = c.unsigned_abs.ensures.value ∙ ap unsigned_abs (to_z-of_z w128 c.args.v c.ranges.v) in
    let most = c.requires.most in
    let room = shortest_room _ _ c.shortest-digits.ensures.shortest (omega (arith, same, most)) in
    text_below _ _ _ _ (omega (arith, ints)) same c.shortest-digits.ensures.shortest (omega (arith, ints, room))

pub returns-else-v-lt0-clause-text : goal.returns-else-v-lt0-clause-text
returns-else-v-lt0-clause-text c =
    let same : c.unsigned_abs.result ≡ unsigned_abs c.args.v = c.unsigned_abs.ensures.value ∙ ap unsigned_abs (to_z-of_z w128 c.args.v c.ranges.v) in
    let most = c.requires.most in
    let room = shortest_room _ _ c.shortest-digits.ensures.shortest (omega (arith, same, most)) in
    text_above _ _ _ _ (let other = c.if-v-eq0.false in let side = c.if-v-lt0.false in omega (arith, ints, other, side)) same c.shortest-digits.ensures.shortest (omega (arith, ints, room))

pub returns-then-v-eq0-clause-value : goal.returns-then-v-eq0-clause-value
returns-then-v-eq0-clause-value c = word_of_zero _ (let zero = c.if-v-eq0.true in omega (arith, ints, zero))

pub returns-then-v-lt0-clause-value : goal.returns-then-v-lt0-clause-value
returns-then-v-lt0-clause-value c =
    let same : c.unsigned_abs.result ≡ unsigned_abs c.args.v = c.unsigned_abs.ensures.value ∙ ap unsigned_abs (to_z-of_z w128 c.args.v c.ranges.v) in
    let most = c.requires.most in
    let room = shortest_room _ _ c.shortest-digits.ensures.shortest (omega (arith, same, most)) in
    word_below _ _ _ _ (omega (arith, ints)) same c.shortest-digits.ensures.value (omega (arith, ints, room))

pub returns-else-v-lt0-clause-value : goal.returns-else-v-lt0-clause-value
returns-else-v-lt0-clause-value c =
    let same : c.unsigned_abs.result ≡ unsigned_abs c.args.v = c.unsigned_abs.ensures.value ∙ ap unsigned_abs (to_z-of_z w128 c.args.v c.ranges.v) in
    let most = c.requires.most in
    let room = shortest_room _ _ c.shortest-digits.ensures.shortest (omega (arith, same, most)) in
    word_above _ _ _ _ (let other = c.if-v-eq0.false in let side = c.if-v-lt0.false in omega (arith, ints, other, side)) same c.shortest-digits.ensures.value (omega (arith, ints, room))
