-- Sets of files that break no rule of the profile and of merging, with their merged lists.
use Rattle.std.specs.Prelude.{◌≡◌, ℕ, ◌<◌, ◌≤◌, List, length, sum_by, slice_get, Some, ◌^◌}
use Rattle.widl_text.specs.Limits.{most_files}
use Rattle.widl_idl.specs.declared.defs.Defs.{Defs}
use Rattle.widl_idl.specs.declared.merging_rule.MergingRule.{MergingRule}
use Rattle.widl_idl.specs.declared.profile_rule.ProfileRule.{ProfileRule}
use Rattle.widl_idl.specs.declared.violation.Violation.{Violation}
use Rattle.widl_idl.specs.declared.tree.fragments.Fragment.{Fragment}
use Rattle.widl_idl.specs.Counts.{IsNumberedList}
use Rattle.widl_idl.specs.DefinitionTerms.{defs_term}
use Rattle.widl_idl.specs.Meanings.{definitions_of}
use Rattle.widl_idl.specs.MergedList.{merged_list}
use Rattle.widl_idl.specs.MergingRules.{BreaksMerging}
use Rattle.widl_idl.specs.Profile.{BreaksProfile}

-- a set of files, few enough, in the order of their numbers, with fewer tokens and fewer definitions than 32 bits can count
pub record AreFiles (fragments : List Fragment) : Type 0 where
  pub few : length fragments ≤ most_files
  pub numbered : (i : ℕ) (f : Fragment) → slice_get fragments i ≡ Some f → f.file ≡ i
  pub tokens : sum_by (λ (f : Fragment). f.token_count) fragments < 2 ^ 32
  pub definitions : length (definitions_of fragments) < 2 ^ 32

-- no rule of the profile is broken anywhere, and no rule of merging
pub record IsUnbroken (fragments : List Fragment) : Type 0 where
  pub profile : (rule : ProfileRule) (s : Violation) → BreaksProfile (definitions_of fragments) rule s → ⊥
  pub merging : (rule : MergingRule) (s : Violation) → BreaksMerging (definitions_of fragments) rule s → ⊥

-- the list is the merged list of such a set, and 32 bits can number what is in it
pub record IsMerged (defs : Defs) (fragments : List Fragment) : Type 0 where
  pub files : AreFiles fragments
  pub unbroken : IsUnbroken fragments
  pub merged : defs_term defs ≡ merged_list fragments
  pub numbered : IsNumberedList defs

-- a merged list and the files that it comes from
pub record MergedSet : Type 0 where
  pub defs : Defs
  pub fragments : List Fragment
