-- For proofs alone. What `merge` finds of the definitions of a set of files.
use Rattle.std.specs.Prelude.{List}
use Rattle.widl_idl.specs.declared.defs.Defs.{Defs}
use Rattle.widl_idl.specs.declared.profile_rule.ProfileRule.{ProfileRule}
use Rattle.widl_idl.specs.declared.violation.Violation.{Violation}
use Rattle.widl_idl.specs.PlainTrees.{PlainDefinition}
use Rattle.widl_idl.specs.Profile.{BreaksProfile}
use Rattle.widl_merge.specs.GrownLists.{AreKept, AreListed}

-- no rule of the profile is broken, and none of merging
pub record BreakNone (definitions : List PlainDefinition) : Type 0 where
  pub profile : (rule : ProfileRule) (s : Violation) → BreaksProfile definitions rule s → ⊥
  pub merging : AreKept definitions

-- no rule is broken, and the list is the merged one
pub record AreMerged (definitions : List PlainDefinition) (defs : Defs) : Type 0 where
  pub kept : BreakNone definitions
  pub listed : AreListed definitions definitions defs
