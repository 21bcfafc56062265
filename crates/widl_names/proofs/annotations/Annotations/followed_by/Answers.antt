use Rattle.std.proofs.Common.{◌≡◌, ◌||◌, arith}
use Rattle.widl_names.proofs.SaidNotes.{says_both}
use Rattle.widl_names.proofs.annotations.Annotations.followed_by.Goals as goal

pub returns-then-self : goal.returns-then-self
returns-then-self c =
    let either : c.args.self.null_to_empty ≡ (c.args.self.null_to_empty || c.args.others.null_to_empty) = grind arith in
    λ notes more first second. says_both c.args.self c.args.others _ notes more c.earlier_mode.ensures c.earlier_place.ensures c.earlier_place-2.ensures either first second

pub returns-else-self : goal.returns-else-self
returns-else-self c =
    let either : c.args.others.null_to_empty ≡ (c.args.self.null_to_empty || c.args.others.null_to_empty) = grind arith in
    λ notes more first second. says_both c.args.self c.args.others _ notes more c.earlier_mode.ensures c.earlier_place.ensures c.earlier_place-2.ensures either first second
