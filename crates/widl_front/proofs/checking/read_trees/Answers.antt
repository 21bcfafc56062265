use Rattle.std.proofs.Common.{◌<◌, length, arith}
use Rattle.widl_front.proofs.Found.{broken_found, kept_found}
use Rattle.widl_front.proofs.Trees.{tree_more, no_trees}
use Rattle.widl_front.proofs.checking.read_trees.Goals as goal

pub returns-then-breaks_encoding : goal.returns-then-breaks_encoding
returns-then-breaks_encoding c =
    let i = c.loop-file.invariant in
    let within : c.loop-file.file < length c.args.texts.now = omega (arith, c.loop-file-test.true, c.len-file-end.ensures) in
    let breaks = c.breaks_encoding.ensures.yes c.if-breaks_encoding.true in
    record {
      found = broken_found c.args.texts.now c.loop-file.file _ _ _ within i.encoded i.found c.named.ensures c.in_ok-finding.ensures.finding breaks;
      trees = no_trees c.args.texts.now _ _ breaks;
    }

pub loop-file-preserved : goal.loop-file-preserved
loop-file-preserved c =
    let i = c.loop-file.invariant in
    let within : c.loop-file.file < length c.args.texts.now = omega (arith, c.loop-file-test.true, c.len-file-end.ensures) in
    let kept = kept_found c.args.texts.now c.loop-file.file _ _ _ _ within i.encoded i.found c.named.ensures c.in_ok-finding.ensures.finding
    (c.breaks_encoding.ensures.no c.if-breaks_encoding.false) c.or-found.ensures in
    record {
      found = kept.0;
      encoded = kept.1;
      trees = tree_more c.args.texts.now c.loop-file.file _ _ _ _ _ _ within i.trees c.named.ensures c.in_ok-finding.ensures.tree c.or-found.ensures;
    }
