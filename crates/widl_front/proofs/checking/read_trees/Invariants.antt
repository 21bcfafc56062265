use Rattle.std.proofs.Common.{take}
use Rattle.widl_front.specs.Findings.{IsFoundIn}
use Rattle.widl_front.specs.Steps.{KeepsEncoding, TreesUnless}
use Rattle.widl_front.proofs.checking.read_trees.Given as goal

abbrev pub invariant-loop-file : goal.invariant-loop-file
invariant-loop-file l = record {
  found : IsFoundIn (take l.file l.texts) l.found;
  encoded : KeepsEncoding l.found;
  trees : TreesUnless (take l.file l.texts) l.trees l.found;
}
