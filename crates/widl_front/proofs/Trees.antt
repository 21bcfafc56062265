-- The trees of the files that were read so far, with those of one file more.
use Rattle.std.proofs.Common.{◌≡◌, ℕ, ◌+◌, ◌<◌, ◌≤◌, List, [], ◌∷◌, ◌++◌, length, take, zero, suc, arith, refl, sym, ap, subst, ◌∙◌}
use Rattle.std.specs.Prelude.{Option, Some, None, Ok, Err, slice_get}
use Rattle.std.specs.Option.{option_or}
use Rattle.std.proofs.lemmas.List.{take_more}
use Rattle.widl_text.specs.Limits.{most_files}
use Rattle.widl_idl.specs.DefinitionTerms.{defs_term}
use Rattle.widl_idl.specs.declared.defs.Defs.{Defs}
use Rattle.widl_idl.specs.declared.tree.fragments.Fragment.{Fragment}
use Rattle.widl_idl.specs.declared.refusal.Refusal.{Refusal}
use Rattle.widl_idl.specs.declared.merging_rule.MergingRule.{MergingRule}
use Rattle.widl_idl.specs.declared.profile_rule.ProfileRule.{ProfileRule}
use Rattle.widl_idl.specs.declared.violation.Violation.{Violation}
use Rattle.widl_idl.specs.FirstRefusal.{FirstBroken, violation_of}
use Rattle.widl_idl.specs.Meanings.{definitions_of}
use Rattle.widl_idl.specs.MergedSets.{AreFiles, IsMerged, MergedSet}
use Rattle.widl_idl.specs.MergingRules.{BreaksMerging}
use Rattle.widl_idl.specs.PlainTrees.{PlainDefinition}
use Rattle.widl_idl.specs.Profile.{BreaksProfile}
use Rattle.widl_merge.specs.Countable.{IsCountable}
use Rattle.widl_merge.specs.Refusals.{IsRefusal}
use Rattle.widl_overload.specs.rules.Validity.{BreaksRule, IsValid, validity_number, validity_rules}
use Rattle.widl_valid.specs.Invalidity.{IsInvalidity}
use Rattle.widl_valid.proofs.Valid.{valid_of}
use Rattle.widl_front.specs.Findings.{IsFoundIn}
use Rattle.widl_front.specs.Steps.{AcceptsTrees, AddsTree, BreaksEncoding, IsAcceptedList, IsTreeVerdict, TreesUnless}
use Rattle.widl_front.specs.Texts.{named, AreShort}
use Rattle.widl_front.specs.Verdicts.{AcceptsSet, IsTreeOf, AreTreesFrom, AreTreesOf, FindsRefusal, IsTreeRefusal, IsVerdict}
use Rattle.widl_front.specs.declared.finding.Finding.{Finding}
use Rattle.widl_front.specs.declared.verdict.Verdict.{Verdict}
use Rattle.widl_front.specs.declared.verdict.Verdict.TheVariants.{Fault, Broken, Accepted}
use Rattle.widl_front.proofs.Found.{size_before}
use Rattle.widl_front.proofs.TokenCounts.{tokens_fit}
use Rattle.widl_front.proofs.DefinitionCounts.{definitions_fit, written_fits}

no_finding : {X : Type 0} {x : X} → ◌≡◌ {A = Option X} (Some x) None → ⊥
no_finding e = (cc)

-- the trees of the texts, and one more of each
trees_push : (file : ℕ) (texts : List (List ℕ)) (bytes : List ℕ) (trees : List Fragment) (tree : Fragment) (last : ℕ) → last ≡ file + length texts → AreTreesFrom file texts trees → IsTreeOf last bytes tree
    → AreTreesFrom file (texts ++ bytes ∷ []) (trees ++ tree ∷ [])
trees_push file [] bytes [] tree last is so here = (subst (λ n. IsTreeOf n bytes tree) (omega (arith, is)) here, tt)
trees_push file [] bytes (t ∷ trees) tree last is so here = absurd so
trees_push file (x ∷ texts) bytes [] tree last is so here = absurd so
trees_push file (x ∷ texts) bytes (t ∷ trees) tree last is so here = (so.0, trees_push (file + 1) texts bytes trees tree last (omega (arith, is)) so.1 here)

one_tree_more : (texts : List (List ℕ)) (bytes : List ℕ) (old new : List Fragment) (found finding : Option Finding) → TreesUnless texts old found → AddsTree (length texts) bytes finding old new
    → TreesUnless (texts ++ bytes ∷ []) new (option_or found finding)
one_tree_more texts bytes old new (Some found) finding so adds = tt
one_tree_more texts bytes old new None (Some finding) so adds = tt
one_tree_more texts bytes old new None None so adds =
    subst (AreTreesOf (texts ++ bytes ∷ [])) (sym adds.1) (trees_push 0 texts bytes old adds.0 (length texts) (omega arith) so adds.2)

-- one file more was read
pub tree_more : (texts : List (List ℕ)) (file : ℕ) (bytes : List ℕ) (old new : List Fragment) (found finding now : Option Finding) → file < length texts → TreesUnless (take file texts) old found
    → bytes ≡ named texts file → AddsTree file bytes finding old new → now ≡ option_or found finding → TreesUnless (take (file + 1) texts) new now
tree_more texts file bytes old new found finding now within so same adds is =
    let size : length (take file texts) ≡ file = size_before texts file within in
    let placed = subst (λ n. AddsTree n (named texts file) finding old new) (sym size) (subst (λ b. AddsTree file b finding old new) same adds) in
    subst (λ l. TreesUnless l new now) (sym (take_more texts file [] within))
    (subst (TreesUnless (take file texts ++ named texts file ∷ []) new) (sym is) (one_tree_more (take file texts) (named texts file) old new found finding so placed))

-- a fault of the encoding ends the reading
pub no_trees : (texts : List (List ℕ)) (trees : List Fragment) (finding : Option Finding) → BreaksEncoding finding → TreesUnless texts trees finding
no_trees texts trees None is = absurd is
no_trees texts trees (Some finding) is = tt

-- the trees have their places as the numbers of their files
numbered_from : (file : ℕ) (texts : List (List ℕ)) (trees : List Fragment) → AreTreesFrom file texts trees → (i : ℕ) (f : Fragment) → slice_get trees i ≡ Some f → f.file ≡ file + i
numbered_from file [] [] so i f is = absurd (no_fragment is)
  where
    no_fragment : {X : Type 0} {x : X} → ◌≡◌ {A = Option X} None (Some x) → ⊥
    no_fragment e = (cc)
numbered_from file [] (t ∷ trees) so i f is = absurd so
numbered_from file (x ∷ texts) [] so i f is = absurd so
numbered_from file (x ∷ texts) (t ∷ trees) so zero f is =
    let same : t ≡ f = (cc) in
    let here : f.file ≡ file = ap (λ (x : Fragment). x.file) (sym same) ∙ so.0.file_is in
    omega (arith, here)
numbered_from file (x ∷ texts) (t ∷ trees) so (suc i) f is =
    let rest = numbered_from (file + 1) texts trees so.1 i f is in
    omega (arith, rest)

-- there are as many trees as texts
same_size : (file : ℕ) (texts : List (List ℕ)) (trees : List Fragment) → AreTreesFrom file texts trees → length trees ≡ length texts
same_size file [] [] so = refl
same_size file [] (t ∷ trees) so = absurd so
same_size file (x ∷ texts) [] so = absurd so
same_size file (x ∷ texts) (t ∷ trees) so = let rest : length trees ≡ length texts = same_size (file + 1) texts trees so.1 in omega (arith, rest)

-- the trees of the texts are files that can be merged
pub found_files : (texts : List (List ℕ)) (trees : List Fragment) (found : Option Finding) → length texts ≤ most_files → AreShort texts → found ≡ None → TreesUnless texts trees found → AreFiles trees
found_files texts trees None few short is so = record {
  few = (let size : length trees ≡ length texts = same_size 0 texts trees so in omega (arith, size, few));
  numbered = λ i f at. (let numbered : f.file ≡ 0 + i = numbered_from 0 texts trees so i f at in omega (arith, numbered));
  tokens = tokens_fit texts trees few short so;
  definitions = definitions_fit texts trees few short so;
}
found_files texts trees (Some finding) few short is so = absurd (no_finding is)

-- and 32 bits can count what is written in them
pub found_countable : (texts : List (List ℕ)) (trees : List Fragment) (found : Option Finding) → length texts ≤ most_files → AreShort texts → found ≡ None → TreesUnless texts trees found → IsCountable (definitions_of trees)
found_countable texts trees None few short is so = written_fits texts trees few short so
found_countable texts trees (Some finding) few short is so = absurd (no_finding is)

rules_found : (texts : List (List ℕ)) (trees : List Fragment) (found : Option Finding) (refusal : Option Refusal) → found ≡ None → IsFoundIn texts found → TreesUnless texts trees found → IsTreeRefusal trees refusal → FindsRefusal texts refusal
rules_found texts trees None refusal is formed so kept = record { formed = formed; trees = trees; trees_are = so; refusal_is = kept }
rules_found texts trees (Some finding) refusal is formed so kept = absurd (no_finding is)

set_accepted : (texts : List (List ℕ)) (trees : List Fragment) (found : Option Finding) (set : MergedSet) → found ≡ None → IsFoundIn texts found → TreesUnless texts trees found → AcceptsTrees trees set → AcceptsSet texts set
set_accepted texts trees None set is formed so kept = record {
  formed = formed;
  trees_are = subst (AreTreesOf texts) (sym kept.same) so;
  unbroken = kept.unbroken;
  merged = kept.merged;
}
set_accepted texts trees (Some finding) set is formed so kept = absurd (no_finding is)

-- the verdict on the trees is that on the set
pub trees_judged : (texts : List (List ℕ)) (trees : List Fragment) (found : Option Finding) (verdict : Verdict) → found ≡ None → IsFoundIn texts found → TreesUnless texts trees found → IsTreeVerdict trees verdict → IsVerdict texts verdict
trees_judged texts trees found (Fault finding) is formed so kept = absurd kept
trees_judged texts trees found (Broken refusal) is formed so kept = rules_found texts trees found (Some refusal) is formed so kept
trees_judged texts trees found (Accepted set) is formed so kept = set_accepted texts trees found set is formed so kept

-- where the set of files is merged, no rule of the profile and of merging is broken
pub none_early : (definitions : List PlainDefinition) → ((rule : ProfileRule) (s : Violation) → BreaksProfile definitions rule s → ⊥) → ((rule : MergingRule) (s : Violation) → BreaksMerging definitions rule s → ⊥) → IsRefusal definitions None
none_early definitions profile merging = record { profile = None; profile_is = λ s broken. profile broken.which (violation_of s) broken.breaks; after = λ s broken. merging broken.which (violation_of s) broken.breaks }

pub merged_judged : (set : MergedSet) (refusal : Option Refusal) → IsMerged set.defs set.fragments → IsInvalidity set refusal → IsTreeRefusal set.fragments refusal
merged_judged set refusal is valid = record { early = None; early_is = none_early (definitions_of set.fragments) is.unbroken.profile is.unbroken.merging; after = subst (λ list. FirstBroken validity_number (BreaksRule list (definitions_of set.fragments)) validity_rules refusal) is.merged valid }

-- a merged set that breaks no rule of validity is accepted
pub valid_judged : (set merged : MergedSet) → set ≡ merged → IsMerged merged.defs merged.fragments → IsValid set → AcceptsTrees merged.fragments set
valid_judged set merged same is valid =
    subst (λ (s : MergedSet). AcceptsTrees merged.fragments s) (sym same) (record {
      same = refl;
      unbroken = merged_judged merged None is (λ s broken. (subst IsValid same valid) broken.which (violation_of s) broken.breaks);
      merged = is.merged;
    })

abbrev set_of : Defs → List Fragment → MergedSet
set_of defs trees = record { defs = defs; fragments = trees }

-- the refusal that is found of the definitions of files and their merged list is that of the files
found_of_files : (defs : Defs) (trees : List Fragment) (definitions : List PlainDefinition) (found known : Option Refusal) → found ≡ known → definitions_of trees ≡ definitions → FirstBroken validity_number (BreaksRule (defs_term defs) definitions) validity_rules found → IsInvalidity (set_of defs trees) known
found_of_files defs trees definitions found known is same first =
    subst (λ ds. FirstBroken validity_number (BreaksRule (defs_term defs) ds) validity_rules known) (sym same) (subst (FirstBroken validity_number (BreaksRule (defs_term defs) definitions) validity_rules) is first)

pub list_refused : (defs : Defs) (trees : List Fragment) (definitions : List PlainDefinition) (found : Option Refusal) (refusal : Refusal) → found ≡ Some refusal → definitions_of trees ≡ definitions → IsMerged defs trees → FirstBroken validity_number (BreaksRule (defs_term defs) definitions) validity_rules found → IsAcceptedList trees (Err refusal)
list_refused defs trees definitions found refusal is same merged first = merged_judged (set_of defs trees) (Some refusal) merged (found_of_files defs trees definitions found (Some refusal) is same first)

pub list_valid : (defs : Defs) (trees : List Fragment) (definitions : List PlainDefinition) (found : Option Refusal) → found ≡ None → definitions_of trees ≡ definitions → IsMerged defs trees → FirstBroken validity_number (BreaksRule (defs_term defs) definitions) validity_rules found → IsAcceptedList trees (Ok defs)
list_valid defs trees definitions found is same merged first = (merged, valid_of (set_of defs trees) None refl (found_of_files defs trees definitions found None is same first))

pub list_accepted : (defs : Defs) (trees : List Fragment) (set : MergedSet) → set.defs ≡ defs → set.fragments ≡ trees → IsAcceptedList trees (Ok defs) → AcceptsTrees trees set
list_accepted defs trees set d f kept =
    let same : ◌≡◌ {A = MergedSet} set (set_of defs trees) = ap (λ (x : Defs). set_of x set.fragments) d ∙ ap (set_of defs) f in
    valid_judged set (set_of defs trees) same kept.0 (subst IsValid (sym same) kept.1)
