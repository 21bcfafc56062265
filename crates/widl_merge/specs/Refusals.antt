-- The first refusal of a set of files by the rules of the profile and of merging.
use Rattle.std.specs.Prelude.{◌≡◌, List, Option, None, Some}
use Rattle.widl_idl.specs.declared.profile_rule.Unsupported.{Unsupported}
use Rattle.widl_idl.specs.declared.refusal.Refusal.{Refusal}
use Rattle.widl_idl.specs.First.{violation_at}
use Rattle.widl_idl.specs.FirstRefusal.{FirstBroken, join}
use Rattle.widl_idl.specs.MergingRules.{BreaksMerging, merging_number, merging_rules}
use Rattle.widl_idl.specs.PlainTrees.{PlainDefinition}
use Rattle.widl_idl.specs.Profile.{BreaksProfile, profile_number, profile_rules}

abbrev pub IsProfileRefusal : List PlainDefinition → Option Refusal → Type 0
IsProfileRefusal definitions refusal = FirstBroken profile_number (BreaksProfile definitions) profile_rules refusal

abbrev pub IsMergingRefusal : List PlainDefinition → Option Refusal → Type 0
IsMergingRefusal definitions refusal = FirstBroken merging_number (BreaksMerging definitions) merging_rules refusal

-- the rules of merging are asked where no rule of the profile is broken
abbrev pub IsRefusalAfter : List PlainDefinition → (profile refusal : Option Refusal) → Type 0
IsRefusalAfter definitions (Some first) refusal = refusal ≡ Some first
IsRefusalAfter definitions None refusal = IsMergingRefusal definitions refusal

-- the first refusal of the profile, or else of merging, or none
pub record IsRefusal (definitions : List PlainDefinition) (refusal : Option Refusal) : Type 0 where
  pub profile : Option Refusal
  pub profile_is : IsProfileRefusal definitions profile
  pub after : IsRefusalAfter definitions profile refusal

-- the earlier of what was found before and of a form that the profile leaves unsupported
abbrev pub join_form : Option Unsupported → Option Refusal → Option Refusal
join_form None best = best
join_form (Some form) best = join (profile_number form.rule) (Some (violation_at form.at)) best
