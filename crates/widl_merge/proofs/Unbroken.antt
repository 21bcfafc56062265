-- What definitions have that break no rule: the name of each main one means it, and each parent is of its kind.
use Rattle.std.proofs.Common.{◌≡◌, ℕ, zero, suc, ◌+◌, ◌<◌, ◌^◌, Bool, true, false, cond, List, [], ◌∷◌, length, take, slice_get, Option, None, Some, option_map, is_some, arith, refl, sym, ap, subst, ◌∙◌}
use Rattle.std.proofs.lemmas.Option.{slice_get-get_or, slice_get_within}
use Rattle.std.specs.List.{Contains}
use Rattle.widl_idl.specs.declared.defs.Defs.{Defs}
use Rattle.widl_idl.specs.declared.tree.fragments.Fragment.{Fragment}
use Rattle.widl_idl.specs.MergedSets.{AreFiles, IsMerged}
use Rattle.widl_idl.specs.declared.kind.Kind.{Kind}
use Rattle.widl_idl.specs.declared.kind.Kind.TheVariants as kinds
use Rattle.widl_idl.specs.declared.merging_rule.MergingRule.{MergingRule}
use Rattle.widl_idl.specs.declared.merging_rule.MergingRule.TheVariants as rule
use Rattle.widl_idl.specs.declared.profile_rule.ProfileRule.{ProfileRule}
use Rattle.widl_idl.specs.declared.refusal.Refusal.{Refusal}
use Rattle.widl_idl.specs.First.{AtOne, violation_at}
use Rattle.widl_idl.specs.FirstRefusal.{FirstBroken, refusal_at}
use Rattle.widl_idl.specs.Meanings.{definitions_of, is_text_of, kind_of, main_name, meaning, meaning_from, meant_kind, same_kind}
use Rattle.widl_idl.specs.MergingRules.{AtName, HasOtherParent, IsSecondDefinition, merging_number, merging_rules, parent_of}
use Rattle.widl_idl.specs.PlainTypes.{PlainName}
use Rattle.widl_idl.specs.PlainTrees.{PlainDefinition, PlainKind}
use Rattle.widl_idl.specs.Profile.{BreaksProfile, profile_number, profile_rules}
use Rattle.widl_idl.specs.Parts.{merged_members}
use Rattle.widl_names.proofs.NamedParts.{meaning_named, meant_at}
use Rattle.widl_names.proofs.Pushed.{some_is}
use Rattle.widl_merge.specs.Countable.{IsCountable}
use Rattle.widl_merge.specs.GrownLists.{AreKept, HasParentOf, Means, MeansItself}
use Rattle.widl_merge.specs.MergedDefs.{AreMerged, BreakNone}
use Rattle.widl_merge.specs.Refusals.{IsRefusal, IsRefusalAfter}
use Rattle.widl_merge.proofs.MemberTotals.{interface_few, namespace_few}
use Rattle.widl_merge.proofs.NumberedLists.{numbered_list, own_text}
use Rattle.widl_merge.proofs.Unsupported.{every_rule}

-- a name of which the first definitions have none means the next one that has it
first_meant : (k : ℕ) (definitions : List PlainDefinition) (n : ℕ) (d : PlainDefinition) (text : List ℕ) → slice_get definitions n ≡ Some d → is_text_of text (main_name d.kind) ≡ true → is_some (meaning_from k (take n definitions) text) ≡ false → meaning_from k definitions text ≡ Some (k + n)
first_meant k [] n d text is named none = absurd (cc)
first_meant k (e ∷ more) zero d text is named none =
    let same : e ≡ d = some_is is in
    let here : is_text_of text (main_name e.kind) ≡ true = ap (λ (x : PlainDefinition). is_text_of text (main_name x.kind)) same ∙ named in
    let place : k ≡ k + 0 = omega arith in
    ap (λ b. cond b (Some k) (meaning_from (k + 1) more text)) here ∙ ap Some place
first_meant k (e ∷ more) (suc n) d text is named none = by_case (is_text_of text (main_name e.kind)) none (first_meant (k + 1) more n d text is named)
  where
    by_case : (b : Bool) → is_some (cond b (Some k) (meaning_from (k + 1) (take n more) text)) ≡ false
        → (is_some (meaning_from (k + 1) (take n more) text) ≡ false → meaning_from (k + 1) more text ≡ Some (k + 1 + n)) → cond b (Some k) (meaning_from (k + 1) more text) ≡ Some (k + suc n)
    by_case true found later = absurd (cc)
    by_case false found later = let place : k + 1 + n ≡ k + suc n = omega arith in later found ∙ ap Some place

same_kind_is : (a b : Kind) → same_kind a b ≡ true → a ≡ b
same_kind_is kinds.CallbackFunction kinds.CallbackFunction e = refl
same_kind_is kinds.CallbackInterface kinds.CallbackInterface e = refl
same_kind_is kinds.Interface kinds.Interface e = refl
same_kind_is kinds.Mixin kinds.Mixin e = refl
same_kind_is kinds.Namespace kinds.Namespace e = refl
same_kind_is kinds.Dictionary kinds.Dictionary e = refl
same_kind_is kinds.Enumeration kinds.Enumeration e = refl
same_kind_is kinds.Typedef kinds.Typedef e = refl
same_kind_is kinds.Includes kinds.Includes e = refl
same_kind_is a b e = absurd (cc)

itself_same : (a : Kind) → same_kind a a ≡ true
itself_same kinds.CallbackFunction = refl
itself_same kinds.CallbackInterface = refl
itself_same kinds.Interface = refl
itself_same kinds.Mixin = refl
itself_same kinds.Namespace = refl
itself_same kinds.Dictionary = refl
itself_same kinds.Enumeration = refl
itself_same kinds.Typedef = refl
itself_same kinds.Includes = refl

module _ (all : List PlainDefinition) (kept : AreKept all) (n : ℕ) (d : PlainDefinition) (is : slice_get all n ≡ Some d) where
  below : n < length all
  below = slice_get_within all n d is

  first_of_name : (name : PlainName) → main_name d.kind ≡ Some name → is_some (meaning (take n all) name.text) ≡ false
  first_of_name name named = by_case (is_some (meaning (take n all) name.text)) refl
    where
      second : is_some (meaning (take n all) name.text) ≡ true → AtOne IsSecondDefinition all (violation_at name.at)
      second e = record { index = n; below = below; item = d; is = is; breaks = subst (λ m. AtName m (λ x. is_some (meaning (take n all) x.text) ≡ true) (violation_at name.at)) (sym named) (e, refl) }

      by_case : (b : Bool) → is_some (meaning (take n all) name.text) ≡ b → is_some (meaning (take n all) name.text) ≡ false
      by_case true e = absurd (kept rule.SecondDefinition (violation_at name.at) (second e))
      by_case false e = e

  means_it : (name : PlainName) → main_name d.kind ≡ Some name → meaning all name.text ≡ Some n
  means_it name named =
      let place : 0 + n ≡ n = omega arith in
      first_meant 0 all n d name.text is (ap (is_text_of name.text) named ∙ own_text name) (first_of_name name named) ∙ ap Some place

  it_itself : (name : PlainName) → main_name d.kind ≡ Some name → Means all name.text n (kind_of d.kind)
  it_itself name named = let means = means_it name named in record { means = means; of_kind = ap (option_map kind_of) (meant_at all n name.text d means is) }

  its_parent : HasParentOf all (kind_of d.kind) (parent_of d.kind)
  its_parent name has other means = by_case (same_kind other (kind_of d.kind)) refl
    where
      unlike : same_kind other (kind_of d.kind) ≡ false → meant_kind all name.text ≡ Some (kind_of d.kind) → ⊥
      unlike e h =
          let same : other ≡ kind_of d.kind = some_is (sym means ∙ h) in
          let t : same_kind other (kind_of d.kind) ≡ true = ap (λ k. same_kind k (kind_of d.kind)) same ∙ itself_same (kind_of d.kind) in
          let f : true ≡ false = sym t ∙ e in (cc)

      broken : same_kind other (kind_of d.kind) ≡ false → HasOtherParent all d (violation_at name.at)
      broken e = subst (λ p. AtName p (λ x. meant_kind all x.text ≡ Some (kind_of d.kind) → ⊥) (violation_at name.at)) (sym has) (unlike e, refl)

      listed : Contains all d
      listed = (n, below, some_is (sym (slice_get-get_or all n d below) ∙ is))

      by_case : (b : Bool) → same_kind other (kind_of d.kind) ≡ b → other ≡ kind_of d.kind
      by_case true e = same_kind_is other (kind_of d.kind) e
      by_case false e = absurd (kept rule.ParentOfOtherKind (violation_at name.at) (record { item = d; listed = listed; breaks = broken e }))

-- the name of a definition of this number means it, where no rule of merging is broken
pub means_itself : (all : List PlainDefinition) (n : ℕ) (kind : PlainKind) → AreKept all → option_map (λ (d : PlainDefinition). d.kind) (slice_get all n) ≡ Some kind → MeansItself all n kind
means_itself all n kind kept there = by_case (slice_get all n) refl there
  where
    by_case : (found : Option PlainDefinition) → slice_get all n ≡ found → option_map (λ (d : PlainDefinition). d.kind) found ≡ Some kind → MeansItself all n kind
    by_case None is e = absurd (cc)
    by_case (Some d) is e = subst (MeansItself all n) (some_is e) (record { itself = it_itself all kept n d is; parent = its_parent all kept n d is })

merging_listed : (r : MergingRule) → Contains merging_rules r
merging_listed rule.SecondDefinition = (0, omega arith, refl)
merging_listed rule.ReservedName = (1, omega arith, refl)
merging_listed rule.PartialWithoutMain = (2, omega arith, refl)
merging_listed rule.IncludesIntoNoInterface = (3, omega arith, refl)
merging_listed rule.IncludesNoMixin = (4, omega arith, refl)
merging_listed rule.ParentOfOtherKind = (5, omega arith, refl)
merging_listed rule.UnknownType = (6, omega arith, refl)
merging_listed rule.InheritsFromItself = (7, omega arith, refl)
merging_listed rule.TypedefReachesItself = (8, omega arith, refl)
merging_listed rule.NestsTooDeep = (9, omega arith, refl)
merging_listed rule.OperationInTwoParts = (10, omega arith, refl)
merging_listed rule.TooManyMembers = (11, omega arith, refl)

-- such a list is the merged list of the files
pub is_merged : (fragments : List Fragment) (defs : Defs) → AreFiles fragments → IsCountable (definitions_of fragments) → AreMerged (definitions_of fragments) defs → IsMerged defs fragments
is_merged fragments defs files countable so = record {
  files = files;
  unbroken = record { profile = so.kept.profile; merging = so.kept.merging };
  merged = so.listed;
  numbered = numbered_list (definitions_of fragments) files.definitions countable (λ n d name is named. means_it (definitions_of fragments) so.kept.merging n d is name named) (so.kept.merging rule.TooManyMembers) defs so.listed;
}

-- 32 bits can count the members of an interface and of a namespace
module _ (all : List PlainDefinition) (kept : AreKept all) (text : List ℕ) (number : ℕ) where
  kind_meant : (kind : Kind) (m : Means all text number kind) → kind_of (meaning_named all number text m.means).definition.kind ≡ kind
  kind_meant kind m = let n = meaning_named all number text m.means in some_is (sym (ap (option_map kind_of) (meant_at all number text n.definition m.means n.is)) ∙ m.of_kind)

  pub interface_room : Means all text number kinds.Interface → length (merged_members all kinds.Interface text) < 2 ^ 32
  interface_room m =
      let n = meaning_named all number text m.means in
      let few = interface_few all text number m.means n.definition n.is n.named (kept rule.TooManyMembers) (kind_meant kinds.Interface m) in
      omega (arith, few)

  pub namespace_room : Means all text number kinds.Namespace → length (merged_members all kinds.Namespace text) < 2 ^ 32
  namespace_room m =
      let n = meaning_named all number text m.means in
      let few = namespace_few all text number m.means n.definition n.is n.named (kept rule.TooManyMembers) (kind_meant kinds.Namespace m) in
      omega (arith, few)

-- without a refusal no rule is broken
pub breaks_none : (all : List PlainDefinition) → IsRefusal all None → BreakNone all
breaks_none all none = by_profile none.profile none.profile_is none.after
  where
    by_profile : (found : Option Refusal) → FirstBroken profile_number (BreaksProfile all) profile_rules found → IsRefusalAfter all found None → BreakNone all
    by_profile (Some first) is after = absurd (cc)
    by_profile None is after = record {
      profile = λ r s broken. is (refusal_at (profile_number r) s) (record { which = r; listed = every_rule r; numbered = refl; breaks = broken });
      merging = λ r s broken. after (refusal_at (merging_number r) s) (record { which = r; listed = merging_listed r; numbered = refl; breaks = broken });
    }
