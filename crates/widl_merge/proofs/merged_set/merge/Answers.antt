use Rattle.std.proofs.Common.{sym, subst}
use Rattle.widl_idl.specs.Meanings.{definitions_of}
use Rattle.widl_idl.specs.MergedSets.{AreFiles, IsMerged}
use Rattle.widl_merge.specs.Countable.{IsCountable}
use Rattle.widl_merge.proofs.merged_set.merge.Goals as goal

pub merge_files-requires : goal.merge_files-requires
merge_files-requires c = record { files = subst AreFiles (sym c.as_slice.ensures) c.requires.files; countable = subst (λ fs. IsCountable (definitions_of fs)) (sym c.as_slice.ensures) c.requires.countable }

pub new-requires : goal.new-requires
new-requires c = record { merged = subst (IsMerged c.in_ok-defs.defs) c.as_slice.ensures c.in_ok-defs.ensures.merged }
