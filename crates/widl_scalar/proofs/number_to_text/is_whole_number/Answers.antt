use Rattle.std.proofs.Common.{◌≡◌, ap, subst, sym, ◌∙◌, arith}
use Rattle.std.specs.Prelude.{unsigned_abs}
use mir.Syntax.{w128}
use Rattle.std.proofs.lemmas.Bool.Decides.{nat_tests}
use Rattle.std.proofs.lemmas.Int.{to_z-of_z}
use Rattle.widl_value.specs.Near.{Short}
use Rattle.widl_value.proofs.NearUnique.{near_self, near_unique}
use Rattle.widl_scalar.proofs.number_to_text.is_whole_number.Goals as goal

pub returns-then-size-clause-no : goal.returns-then-size-clause-no
returns-then-size-clause-no c other whole =
    let same : c.unsigned_abs-size.result ≡ unsigned_abs c.args.v = c.unsigned_abs-size.ensures.value ∙ ap unsigned_abs (to_z-of_z w128 c.args.v c.ranges.v) in
    let equal = near_unique _ _ _ c.near.ensures.near (near_self _ (subst Short (sym same) whole.short)) in
    grind (arith, nat_tests)
