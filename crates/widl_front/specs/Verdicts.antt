-- The verdict on a set of files: a fault of their encoding or their grammar, or a broken rule over their trees, or neither.
use Rattle.std.specs.Prelude.{◌≡◌, ℕ, ◌+◌, ◌-◌, List, [], ◌∷◌, ◌++◌, length, Option, Some, None, codes, decimal, nat_lt, if◌then◌else◌}
use Rattle.widl_text.specs.declared.place.Place.{Place}
use Rattle.widl_idl.specs.declared.refusal.Refusal.{Refusal}
use Rattle.widl_idl.specs.declared.tree.fragments.Fragment.{Fragment}
use Rattle.widl_idl.specs.DefinitionTerms.{defs_term}
use Rattle.widl_idl.specs.FirstRefusal.{FirstBroken}
use Rattle.widl_idl.specs.Meanings.{definitions_of}
use Rattle.widl_idl.specs.MergedList.{merged_list}
use Rattle.widl_idl.specs.MergedSets.{MergedSet}
use Rattle.widl_lex.specs.Tokens.{TokenList, AreTokensOf}
use Rattle.widl_merge.specs.Refusals.{IsRefusal}
use Rattle.widl_overload.specs.rules.Validity.{BreaksRule, validity_number, validity_rules}
use Rattle.widl_syntax.specs.Signs.{UnparsesTo}
use Rattle.widl_syntax.specs.UnparsedDefinitions.{fragment}
use Rattle.widl_front.specs.Findings.{IsFoundIn}
use Rattle.widl_front.specs.declared.finding.Finding as findings
use Rattle.widl_front.specs.declared.verdict.Verdict.{Verdict}
use Rattle.widl_front.specs.declared.verdict.Verdict.TheVariants.{Fault, Broken, Accepted}

-- the tree has the file's number, unparses to its tokens, and counts them
pub record IsTreeOf (file : ℕ) (bytes : List ℕ) (tree : Fragment) : Type 0 where
  pub file_is : tree.file ≡ file
  pub tokens : TokenList
  pub tokens_are : AreTokensOf file bytes tokens
  pub unparsed : UnparsesTo (fragment tree) tokens.lexemes []
  pub counted : tree.token_count ≡ length tokens.lexemes

-- the trees are those of the texts, one for each, of which the first is the file of this number
abbrev pub AreTreesFrom : (file : ℕ) → List (List ℕ) → List Fragment → Type 0
AreTreesFrom file [] [] = Unit {0}
AreTreesFrom file [] (tree ∷ trees) = ⊥
AreTreesFrom file (bytes ∷ texts) [] = ⊥
AreTreesFrom file (bytes ∷ texts) (tree ∷ trees) = IsTreeOf file bytes tree × AreTreesFrom (file + 1) texts trees

abbrev pub AreTreesOf : List (List ℕ) → List Fragment → Type 0
AreTreesOf texts trees = AreTreesFrom 0 texts trees

-- the rules of validity are asked where no rule of the profile and of merging is broken: over the trees and their merged list
abbrev pub IsRefusalAfter : List Fragment → (early refusal : Option Refusal) → Type 0
IsRefusalAfter trees (Some first) refusal = refusal ≡ Some first
IsRefusalAfter trees None refusal = FirstBroken validity_number (BreaksRule (merged_list trees) (definitions_of trees)) validity_rules refusal

-- the first refusal by the rules over trees: of the profile, or else of merging, or else of validity, or none
pub record IsTreeRefusal (trees : List Fragment) (refusal : Option Refusal) : Type 0 where
  pub early : Option Refusal
  pub early_is : IsRefusal (definitions_of trees) early
  pub after : IsRefusalAfter trees early refusal

-- the files keep their encoding and their grammar, and this is the first refusal by the rules over their trees
pub record FindsRefusal (texts : List (List ℕ)) (refusal : Option Refusal) : Type 0 where
  pub formed : IsFoundIn texts None
  pub trees : List Fragment
  pub trees_are : AreTreesOf texts trees
  pub refusal_is : IsTreeRefusal trees refusal

-- the files break no rule, and this is the set of their trees with its merged list
pub record AcceptsSet (texts : List (List ℕ)) (set : MergedSet) : Type 0 where
  pub formed : IsFoundIn texts None
  pub trees_are : AreTreesOf texts set.fragments
  pub unbroken : IsTreeRefusal set.fragments None
  pub merged : defs_term set.defs ≡ merged_list set.fragments

abbrev pub IsVerdict : List (List ℕ) → Verdict → Type 0
IsVerdict texts (Fault finding) = IsFoundIn texts (Some finding)
IsVerdict texts (Broken refusal) = FindsRefusal texts (Some refusal)
IsVerdict texts (Accepted set) = AcceptsSet texts set

-- ---- verdicts that differ at most in where an accepted set lies in memory

-- the trees have the same definitions, and the merged lists are the same as terms
pub record AreSameSets (a b : MergedSet) : Type 0 where
  pub definitions : definitions_of a.fragments ≡ definitions_of b.fragments
  pub merged : defs_term a.defs ≡ defs_term b.defs

abbrev pub AreAlike : Verdict → Verdict → Type 0
AreAlike (Fault finding) (Fault other) = finding ≡ other
AreAlike (Fault finding) (Broken other) = ⊥
AreAlike (Fault finding) (Accepted other) = ⊥
AreAlike (Broken refusal) (Fault other) = ⊥
AreAlike (Broken refusal) (Broken other) = refusal ≡ other
AreAlike (Broken refusal) (Accepted other) = ⊥
AreAlike (Accepted set) (Fault other) = ⊥
AreAlike (Accepted set) (Broken other) = ⊥
AreAlike (Accepted set) (Accepted other) = AreSameSets set other

-- ---- the line of a refusal by a rule: `refused RULE FILE OFFSET`, and ` other FILE OFFSET` after it where it speaks of another place; the rules of the profile are numbered from X1 on

abbrev pub rule_prefix : ℕ → List ℕ
rule_prefix number = if nat_lt 100 number then codes "X" else []

abbrev pub rule_number : ℕ → ℕ
rule_number number = if nat_lt 100 number then number - 100 else number

-- a line, with the other place after it if there is one
abbrev pub with_other : List ℕ → Option Place → List ℕ
with_other line None = line
with_other line (Some place) = line ++ codes " other " ++ decimal place.file ++ codes " " ++ decimal place.at

unfoldable pub refusal_line : Refusal → List ℕ
refusal_line r = with_other (codes "refused " ++ rule_prefix r.rule ++ decimal (rule_number r.rule) ++ codes " " ++ decimal r.at.file ++ codes " " ++ decimal r.at.at) r.other
