use Rattle.std.proofs.Common.{arith, length}
use Rattle.std.specs.Str.{chars}
use Rattle.widl_lines.specs.Texts.{units_of_characters}
use Rattle.widl_lines.proofs.Counting.{counted_more, fewer, from_zero}
use Rattle.widl_lines.proofs.texts.count_units.Goals as goal

pub codes-init : goal.codes-init
codes-init c = record { counted = from_zero (units_of_characters c.args.escapes (chars c.args.text.now)); few = omega arith }

pub codes-preserved : goal.codes-preserved
codes-preserved c = record {
  counted = counted_more c.codes.count c.count_of-count.result c.in-Code.code c.args.text.now c.codes.rest.now c.in-Code.more.now c.args.escapes c.codes.invariant.counted c.in-Code.ensures c.count_of-count.ensures.count;
  few = fewer c.codes.count c.count_of-count.result c.in-Code.code (length c.args.text.now) c.codes.rest.now c.in-Code.more.now c.args.escapes c.codes.invariant.few c.in-Code.ensures c.count_of-count.ensures.few;
}
