-- The first refusal of a set of files by the rules of validity.
use Rattle.std.specs.Prelude.{◌≡◌, List, Option}
use Rattle.widl_idl.specs.declared.defs.Defs.{Defs}
use Rattle.widl_idl.specs.declared.refusal.Refusal.{Refusal}
use Rattle.widl_idl.specs.declared.tree.fragments.Fragment.{Fragment}
use Rattle.widl_idl.specs.FirstRefusal.{FirstBroken}
use Rattle.widl_idl.specs.Meanings.{definitions_of}
use Rattle.widl_idl.specs.MergedSets.{IsMerged, MergedSet}
use Rattle.widl_idl.specs.PlainTrees.{PlainDefinition}
use Rattle.widl_overload.specs.rules.Validity.{BreaksValidity, validity_number, validity_rules}

-- the first refusal by these rules, or none where all of them are kept
abbrev pub IsInvalidity : MergedSet → Option Refusal → Type 0
IsInvalidity set refusal = FirstBroken validity_number (BreaksValidity set) validity_rules refusal

-- it is the merged list of a set of files with these definitions, which breaks no rule of the profile and of merging
pub record IsListOfFiles (definitions : List PlainDefinition) (defs : Defs) : Type 0 where
  pub fragments : List Fragment
  pub declare : definitions_of fragments ≡ definitions
  pub merged : IsMerged defs fragments
