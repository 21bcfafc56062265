use Rattle.std.proofs.Common.{◌∙◌, ◌<◌, ◌^◌, sym, subst, IsAscii}
use Rattle.std.proofs.lemmas.Fmt.{IsAscii-decimal}
use Rattle.widl_engine.proofs.arrays.index_key.Goals as goal

pub of_ascii-requires : goal.of_ascii-requires
of_ascii-requires c =
    let small : c.args.index < 2 ^ 64 = c.ranges.index.fits in
    subst IsAscii (sym (c.deref.ensures ∙ c.in_ok-text.ensures.ok)) (IsAscii-decimal c.args.index small)
