use Rattle.std.proofs.Common.{ap, sym, ◌∙◌, Some}
use Rattle.std.specs.Str.{bytes_eq}
use Rattle.widl_lines.specs.Slots.{listed_at}
use Rattle.std.specs.Prelude.{slice_index}
use Rattle.widl_lines.specs.declared.spelling.TheConstants.{SPELLED_AT}
use Rattle.widl_lines.proofs.Listing.{found, not_found}
use Rattle.widl_lines.proofs.listed.listed.Goals as goal

pub returns-then-eq : goal.returns-then-eq
returns-then-eq c = ap Some c.spelled.ensures ∙ found c.number_at-number.result c.args.text.now c.number_at-number.ensures.small (ap (λ t. bytes_eq t c.args.text.now) (sym c.spelling.ensures) ∙ sym c.eq.ensures ∙ c.if-eq.true)

pub returns-else-eq : goal.returns-else-eq
returns-else-eq c = not_found c.args.text.now (ap (λ n. bytes_eq (listed_at n).0 c.args.text.now) (ap (slice_index SPELLED_AT) (sym c.slot.ensures.slot) ∙ sym c.number_at-number.ensures.number) ∙ ap (λ t. bytes_eq t c.args.text.now) (sym c.spelling.ensures) ∙ sym c.eq.ensures ∙ c.if-eq.false)
