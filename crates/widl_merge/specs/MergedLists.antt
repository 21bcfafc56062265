-- The merged list of a list of definitions.
use Rattle.std.specs.Prelude.{◌≡◌, List}
use Rattle.widl_idl.specs.declared.defs.Defs.{Defs}
use Rattle.widl_idl.specs.declared.tree.fragments.Fragment.{Fragment}
use Rattle.widl_idl.specs.Meanings.{definitions_of}
use Rattle.widl_idl.specs.MergedSets.{AreFiles, IsMerged}
use Rattle.widl_idl.specs.PlainTrees.{PlainDefinition}

-- it is the merged list of each set of files with these definitions
abbrev pub IsListOf : List PlainDefinition → Defs → Type 0
IsListOf definitions defs = (fragments : List Fragment) → AreFiles fragments → definitions_of fragments ≡ definitions → IsMerged defs fragments
