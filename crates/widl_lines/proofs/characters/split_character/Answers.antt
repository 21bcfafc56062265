use Rattle.std.proofs.Common.{◌-◌, ◌∙◌, sym}
use Rattle.widl_lines.proofs.Splitting.{cut_ascii, four_bytes, led, nothing_split, three_bytes, two_bytes}
use Rattle.widl_lines.proofs.characters.split_character.Goals as goal

pub returns-in_err-first : goal.returns-in_err-first
returns-in_err-first c = nothing_split c.args.text.now _ c.from_residual.ensures c.in_err-first.ensures.cases

pub returns-then-first-lt128 : goal.returns-then-first-lt128
returns-then-first-lt128 c = cut_ascii c.args.text.now c.in_ok-first.first.now c.from-first.result c.in_ok-first.more.now c.in_ok-first.ensures.cases.0 c.from-first.ensures c.if-first-lt128.true

pub returns-then-first-lt224 : goal.returns-then-first-lt224
returns-then-first-lt224 c =
    let parts = two_bytes c.in_ok-first.first.now c.from-first.result c.from-first.ensures c.if-first-lt128.false c.if-first-lt224.true in
    led c.args.text.now c.in_ok-first.first.now c.in_ok-first.more.now 1 c.saturating_sub.result c.after_one.result c.in_ok-first.ensures.cases.0 parts.0 (parts.1 ∙ sym c.saturating_sub.ensures) c.after_one.ensures

pub returns-then-first-lt240 : goal.returns-then-first-lt240
returns-then-first-lt240 c =
    let parts = three_bytes c.in_ok-first.first.now c.from-first.result c.from-first.ensures c.if-first-lt128.false c.if-first-lt224.false c.if-first-lt240.true in
    led c.args.text.now c.in_ok-first.first.now c.in_ok-first.more.now 2 (c.from-first.result - 224) c.after_two.result c.in_ok-first.ensures.cases.0 parts.0 parts.1 c.after_two.ensures

pub returns-else-first-lt240 : goal.returns-else-first-lt240
returns-else-first-lt240 c =
    let parts = four_bytes c.in_ok-first.first.now c.from-first.result c.from-first.ensures c.if-first-lt128.false c.if-first-lt224.false c.if-first-lt240.false in
    led c.args.text.now c.in_ok-first.first.now c.in_ok-first.more.now 3 (c.from-first.result - 240) c.after_three.result c.in_ok-first.ensures.cases.0 parts.0 parts.1 c.after_three.ensures
