-- Definitions have one first refusal.
use Rattle.std.proofs.Common.{◌≡◌, List, Option, None, Some, sym, ◌∙◌}
use Rattle.widl_idl.specs.declared.refusal.Refusal.{Refusal}
use Rattle.widl_idl.specs.MergingRules.{BreaksMerging, merging_number, merging_rules}
use Rattle.widl_idl.specs.PlainTrees.{PlainDefinition}
use Rattle.widl_idl.specs.Profile.{BreaksProfile, profile_number, profile_rules}
use Rattle.widl_idl.proofs.Steps.{same_refusal}
use Rattle.widl_merge.specs.Refusals.{IsRefusal, IsRefusalAfter}

same_after : (definitions : List PlainDefinition) (p q a b : Option Refusal) → p ≡ q → IsRefusalAfter definitions p a → IsRefusalAfter definitions q b → a ≡ b
same_after definitions None None a b e is other = same_refusal merging_number (BreaksMerging definitions) merging_rules a b is other
same_after definitions (Some r) (Some s) a b e is other = is ∙ e ∙ sym other
same_after definitions None (Some s) a b e is other = absurd (cc)
same_after definitions (Some r) None a b e is other = absurd (cc)

pub one_refusal : (definitions : List PlainDefinition) (a b : Option Refusal) → IsRefusal definitions a → IsRefusal definitions b → a ≡ b
one_refusal definitions a b is other =
    same_after definitions is.profile other.profile a b (same_refusal profile_number (BreaksProfile definitions) profile_rules is.profile other.profile is.profile_is other.profile_is) is.after other.after
