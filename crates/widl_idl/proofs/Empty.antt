-- The set of no files is merged into the empty list.
use Rattle.std.proofs.Common.{◌≡◌, sym, subst, ℕ, List, [], slice_get, Option, None, Some, arith, refl}
use Rattle.std.proofs.lemmas.List.Elements.{All-nil}
use Rattle.widl_idl.specs.declared.defs.Defs.{Defs}
use Rattle.widl_idl.specs.declared.merging_rule.MergingRule.{MergingRule}
use Rattle.widl_idl.specs.declared.merging_rule.MergingRule.TheVariants as rule
use Rattle.widl_idl.specs.declared.violation.Violation.{Violation}
use Rattle.widl_idl.specs.declared.tree.fragments.Fragment.{Fragment}
use Rattle.widl_idl.specs.Counts.{IsNumbered}
use Rattle.widl_idl.specs.MergedSets.{IsMerged}
use Rattle.widl_idl.specs.MergingRules.{BreaksMerging}

nothing_there : {X : Type 0} (i : ℕ) (x : X) → slice_get [] i ≡ Some x → ⊥
nothing_there i x e = absurd (grind arith)

no_breaks : (r : MergingRule) (s : Violation) → BreaksMerging [] r s → ⊥
no_breaks rule.SecondDefinition s h = omega (arith, h.below)
no_breaks rule.ReservedName s h = omega (arith, h.listed.1)
no_breaks rule.PartialWithoutMain s h = omega (arith, h.listed.1)
no_breaks rule.IncludesIntoNoInterface s h = omega (arith, h.listed.1)
no_breaks rule.IncludesNoMixin s h = omega (arith, h.listed.1)
no_breaks rule.ParentOfOtherKind s h = omega (arith, h.listed.1)
no_breaks rule.InheritsFromItself s h = nothing_there h.number h.definition h.is
no_breaks rule.UnknownType s h = omega (arith, h.listed.1)
no_breaks rule.TypedefReachesItself s h = nothing_there h.number h.definition h.is
no_breaks rule.OperationInTwoParts s h = absurd (no_meaning h.means)
  where
    no_meaning : {X : Type 0} {x : X} → ◌≡◌ {A = Option X} None (Some x) → ⊥
    no_meaning e = (cc)
no_breaks rule.NestsTooDeep s h = omega (arith, h.listed.1)
no_breaks rule.TooManyMembers s h = omega (arith, h.below)

none_numbered : {X : Type 0} (P : X → Type 0) (xs : List X) → xs ≡ [] → IsNumbered P xs
none_numbered P xs e = subst (IsNumbered P) (sym e) (record { few = omega arith; each = All-nil P })

pub empty_is_merged : (defs : Defs) (fragments : List Fragment) → defs.ifaces ≡ [] → defs.spaces ≡ [] → defs.dicts ≡ [] → defs.choices ≡ [] → defs.callback_fns ≡ [] → defs.callback_ifaces ≡ [] → fragments ≡ [] → IsMerged defs fragments
empty_is_merged defs fragments a b c d e f g = subst (IsMerged defs) (sym g) (record {
  files = record { few = omega arith; numbered = λ i x h. absurd (nothing_there i x h); tokens = omega arith; definitions = omega arith };
  unbroken = record { profile = λ r s h. omega (arith, h.listed.1); merging = no_breaks };
  merged = rw (a, b, c, d, e, f) refl;
  numbered = record {
    ifaces = none_numbered _ _ a;
    spaces = none_numbered _ _ b;
    dicts = none_numbered _ _ c;
    choices = none_numbered _ _ d;
    callback_fns = none_numbered _ _ e;
    callback_ifaces = none_numbered _ _ f;
  };
})
