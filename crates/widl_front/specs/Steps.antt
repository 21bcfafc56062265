-- For proofs alone. What private functions say of one file more and of the trees alone.
use Rattle.std.specs.Prelude.{◌≡◌, ℕ, List, [], ◌∷◌, ◌++◌, Option, Some, None, Result, Ok, Err}
use Rattle.widl_idl.specs.declared.defs.Defs.{Defs}
use Rattle.widl_idl.specs.declared.refusal.Refusal.{Refusal}
use Rattle.widl_idl.specs.declared.tree.fragments.Fragment.{Fragment}
use Rattle.widl_idl.specs.DefinitionTerms.{defs_term}
use Rattle.widl_idl.specs.MergedList.{merged_list}
use Rattle.widl_idl.specs.MergedSets.{IsMerged, MergedSet}
use Rattle.widl_overload.specs.rules.Validity.{IsValid}
use Rattle.widl_front.specs.Verdicts.{AreTreesOf, IsTreeOf, IsTreeRefusal}
use Rattle.widl_front.specs.declared.finding.Finding.{Finding}
use Rattle.widl_front.specs.declared.finding.Finding.TheVariants.{Encoding, Syntax, Deep}
use Rattle.widl_front.specs.declared.verdict.Verdict.{Verdict}
use Rattle.widl_front.specs.declared.verdict.Verdict.TheVariants.{Fault, Broken, Accepted}

-- whether it is a fault of the encoding
abbrev pub BreaksEncoding : Option Finding → Type 0
BreaksEncoding None = ⊥
BreaksEncoding (Some (Encoding place)) = Unit {0}
BreaksEncoding (Some (Syntax place)) = ⊥
BreaksEncoding (Some (Deep place)) = ⊥

abbrev pub KeepsEncoding : Option Finding → Type 0
KeepsEncoding None = Unit {0}
KeepsEncoding (Some (Encoding place)) = ⊥
KeepsEncoding (Some (Syntax place)) = Unit {0}
KeepsEncoding (Some (Deep place)) = Unit {0}

-- where nothing is found in a file, its tree is put after those of the files before
abbrev pub AddsTree : ℕ → List ℕ → Option Finding → List Fragment → List Fragment → Type 0
AddsTree file bytes None old new = (tree : Fragment) × (new ≡ old ++ tree ∷ []) × IsTreeOf file bytes tree
AddsTree file bytes (Some finding) old new = Unit {0}

-- the trees of the texts, unless something was found
abbrev pub TreesUnless : List (List ℕ) → List Fragment → Option Finding → Type 0
TreesUnless texts trees None = AreTreesOf texts trees
TreesUnless texts trees (Some finding) = Unit {0}

-- the trees break no rule, and this is their set with its merged list
pub record AcceptsTrees (trees : List Fragment) (set : MergedSet) : Type 0 where
  pub same : set.fragments ≡ trees
  pub unbroken : IsTreeRefusal set.fragments None
  pub merged : defs_term set.defs ≡ merged_list set.fragments

-- the verdict on trees: the first refusal by the rules over them, or none
abbrev pub IsTreeVerdict : List Fragment → Verdict → Type 0
IsTreeVerdict trees (Fault finding) = ⊥
IsTreeVerdict trees (Broken refusal) = IsTreeRefusal trees (Some refusal)
IsTreeVerdict trees (Accepted set) = AcceptsTrees trees set

-- the trees break no rule and this is their merged list, or this is the first refusal by the rules over them
abbrev pub IsAcceptedList : List Fragment → Result Defs Refusal → Type 0
IsAcceptedList trees (Ok defs) = IsMerged defs trees × IsValid (record { defs = defs; fragments = trees })
IsAcceptedList trees (Err refusal) = IsTreeRefusal trees (Some refusal)
