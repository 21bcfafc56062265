use Rattle.std.proofs.Common.{sym, subst, None, ◌≡◌, chars, true}
use Rattle.std.specs.Prelude.{MatchOption}
use Rattle.widl_lines.specs.Spelled.{Spells}
use Rattle.widl_lines.specs.Texts.{units_of_digits}
use Rattle.widl_lines.proofs.Digits.{four, no_fourth}
use Rattle.widl_lines.proofs.texts.split_four_digits.Goals as goal

pub returns-in_err-fourth : goal.returns-in_err-fourth
returns-in_err-fourth c =
    subst (λ r. MatchOption r (units_of_digits (chars c.args.text.now) ≡ None) (λ cut. Spells 65536 c.args.text.now (units_of_digits (chars c.args.text.now)) true cut.0 cut.1.now)) (sym c.from_residual-in_err-fourth.ensures)
    (no_fourth c.args.text.now c.in_ok-first.more.now c.in_ok-second.more.now c.in_ok-third.more.now c.in_ok-first.first c.in_ok-second.second c.in_ok-third.third c.in_ok-first.ensures c.in_ok-second.ensures c.in_ok-third.ensures c.in_err-fourth.ensures)

pub returns : goal.returns
returns c = four c.args.text.now c.in_ok-first.more.now c.in_ok-second.more.now c.in_ok-third.more.now c.in_ok-fourth.more.now c.in_ok-first.first c.in_ok-second.second c.in_ok-third.third c.in_ok-fourth.fourth c.in_ok-first.ensures c.in_ok-second.ensures c.in_ok-third.ensures c.in_ok-fourth.ensures
