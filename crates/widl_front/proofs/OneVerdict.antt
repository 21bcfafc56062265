-- Lemmas: a set of files has at most one verdict, but for where an accepted set lies in memory.
use Rattle.std.proofs.Common.{◌≡◌, ℕ, ◌+◌, ◌<◌, List, [], ◌∷◌, ◌++◌, length, suc, arith, refl, sym, ap, subst, ◌∙◌}
use Rattle.std.specs.Prelude.{Option, Some, None, EachIndex, IsUtf8}
use Rattle.widl_idl.specs.declared.defs.Defs.{Defs}
use Rattle.widl_idl.specs.declared.refusal.Refusal.{Refusal}
use Rattle.widl_idl.specs.declared.tree.fragments.Fragment.{Fragment}
use Rattle.widl_idl.specs.DefinitionTerms.{defs_term}
use Rattle.widl_idl.specs.FirstRefusal.{FirstBroken}
use Rattle.widl_idl.specs.Meanings.{definitions_of}
use Rattle.widl_idl.specs.MergedList.{merged_from, merged_list}
use Rattle.widl_idl.specs.MergedSets.{MergedSet}
use Rattle.widl_idl.specs.PlainTrees.{plain_definitions}
use Rattle.widl_lex.specs.Tokens.{TokenList}
use Rattle.widl_merge.specs.Refusals.{IsRefusal}
use Rattle.widl_idl.proofs.Steps.{same_refusal}
use Rattle.widl_merge.proofs.OneRefusal.{one_refusal}
use Rattle.widl_overload.specs.rules.Validity.{BreaksRule, validity_number, validity_rules}
use Rattle.widl_syntax.specs.OneTree.{EachSpellingHasOneTree}
use Rattle.widl_syntax.specs.Signs.{UnparsesTo}
use Rattle.widl_syntax.specs.UnparsedDefinitions.{fragment}
use Rattle.widl_front.specs.Findings.{IsFoundIn}
use Rattle.widl_front.specs.Texts.{named}
use Rattle.widl_front.specs.Verdicts.{AcceptsSet, AreAlike, AreSameSets, AreTreesFrom, AreTreesOf, FindsRefusal, IsRefusalAfter, IsTreeOf, IsTreeRefusal, IsVerdict}
use Rattle.widl_front.specs.declared.finding.Finding.{Finding}
use Rattle.widl_front.specs.declared.verdict.Verdict.{Verdict}
use Rattle.widl_front.specs.declared.verdict.Verdict.TheVariants.{Fault, Broken, Accepted}
use Rattle.widl_front.proofs.OneFinding.{OneCuts, OneFaults, NoFaults, one_finding, one_tokens}

-- the trees of one file have the same definitions
one_tree : OneCuts → EachSpellingHasOneTree → (file : ℕ) (bytes : List ℕ) (a b : Fragment) → IsUtf8 bytes → IsTreeOf file bytes a → IsTreeOf file bytes b → plain_definitions a.definitions ≡ plain_definitions b.definitions
one_tree cuts trees file bytes a b utf8 is other =
    let same = one_tokens cuts file bytes is.tokens other.tokens utf8 is.tokens_are other.tokens_are in
    trees a b other.tokens.lexemes (subst (λ (t : TokenList). UnparsesTo (fragment a) t.lexemes []) same is.unparsed) other.unparsed

-- the trees of some files have the same definitions
all_trees : OneCuts → EachSpellingHasOneTree → (file : ℕ) (texts : List (List ℕ)) (xs ys : List Fragment) → EachIndex texts (λ i. IsUtf8 (named texts i)) → AreTreesFrom file texts xs → AreTreesFrom file texts ys
    → definitions_of xs ≡ definitions_of ys
all_trees cuts trees file [] [] [] utf8 is other = refl
all_trees cuts trees file [] [] (y ∷ ys) utf8 is other = absurd other
all_trees cuts trees file [] (x ∷ xs) ys utf8 is other = absurd is
all_trees cuts trees file (bytes ∷ texts) [] ys utf8 is other = absurd is
all_trees cuts trees file (bytes ∷ texts) (x ∷ xs) [] utf8 is other = absurd other
all_trees cuts trees file (bytes ∷ texts) (x ∷ xs) (y ∷ ys) utf8 is other =
    let here = one_tree cuts trees file bytes x y (utf8 0 (omega arith)) is.0 other.0 in
    let rest = all_trees cuts trees (file + 1) texts xs ys (λ i below. utf8 (suc i) (omega (arith, below))) is.1 other.1 in
    ap (λ l. l ++ definitions_of xs) here ∙ ap (λ l. plain_definitions y.definitions ++ l) rest

-- the merged lists of trees with the same definitions have the same terms
same_terms : (xs ys : List Fragment) (a b : Defs) → definitions_of xs ≡ definitions_of ys → defs_term a ≡ merged_list xs → defs_term b ≡ merged_list ys → defs_term a ≡ defs_term b
same_terms xs ys a b same is other = is ∙ ap merged_from same ∙ sym other

-- sets of trees with the same definitions have one first refusal by the rules of validity
one_invalidity : (xs ys : List Fragment) → definitions_of xs ≡ definitions_of ys → (a b : Option Refusal) → IsRefusalAfter xs None a → IsRefusalAfter ys None b → a ≡ b
one_invalidity xs ys same a b is other =
    same_refusal validity_number (BreaksRule (merged_list ys) (definitions_of ys)) validity_rules a b
    (subst (λ definitions. FirstBroken validity_number (BreaksRule (merged_from definitions) definitions) validity_rules a) same is)
    other

one_after : (xs ys : List Fragment) → definitions_of xs ≡ definitions_of ys → (p q a b : Option Refusal) → p ≡ q → IsRefusalAfter xs p a → IsRefusalAfter ys q b → a ≡ b
one_after xs ys same None None a b e is other = one_invalidity xs ys same a b is other
one_after xs ys same (Some r) (Some s) a b e is other = is ∙ e ∙ sym other
one_after xs ys same None (Some s) a b e is other = absurd (cc)
one_after xs ys same (Some r) None a b e is other = absurd (cc)

one_tree_refusal : (xs ys : List Fragment) → definitions_of xs ≡ definitions_of ys → (a b : Option Refusal) → IsTreeRefusal xs a → IsTreeRefusal ys b → a ≡ b
one_tree_refusal xs ys same a b is other =
    one_after xs ys same is.early other.early a b (one_refusal (definitions_of ys) is.early other.early (subst (λ d. IsRefusal d is.early) same is.early_is) other.early_is) is.after other.after

-- the trees of files
pub record TreesOf (texts : List (List ℕ)) (trees : List Fragment) : Type 0 where
  pub formed : IsFoundIn texts None
  pub trees_are : AreTreesOf texts trees

-- have one list of definitions
one_list : OneCuts → EachSpellingHasOneTree → (texts : List (List ℕ)) (xs ys : List Fragment) → TreesOf texts xs → TreesOf texts ys → definitions_of xs ≡ definitions_of ys
one_list cuts trees texts xs ys is other = all_trees cuts trees 0 texts xs ys (λ i below. (is.formed i below).utf8) is.trees_are other.trees_are

trees_found : (texts : List (List ℕ)) (a : Option Refusal) (f : FindsRefusal texts a) → TreesOf texts f.trees
trees_found texts a f = record { formed = f.formed; trees_are = f.trees_are }

trees_accepted : (texts : List (List ℕ)) (set : MergedSet) → AcceptsSet texts set → TreesOf texts set.fragments
trees_accepted texts set f = record { formed = f.formed; trees_are = f.trees_are }

-- the files have one first refusal
one_found : OneCuts → EachSpellingHasOneTree → (texts : List (List ℕ)) (a b : Option Refusal) → FindsRefusal texts a → FindsRefusal texts b → a ≡ b
one_found cuts trees texts a b is other =
    one_tree_refusal is.trees other.trees (one_list cuts trees texts is.trees other.trees (trees_found texts a is) (trees_found texts b other)) a b is.refusal_is other.refusal_is

-- accepted files are not refused
not_both : OneCuts → EachSpellingHasOneTree → (texts : List (List ℕ)) (r : Refusal) (set : MergedSet) → FindsRefusal texts (Some r) → AcceptsSet texts set → ⊥
not_both cuts trees texts r set is other =
    let same = one_list cuts trees texts is.trees set.fragments (trees_found texts (Some r) is) (trees_accepted texts set other) in
    let e : ◌≡◌ {A = Option Refusal} (Some r) None = one_tree_refusal is.trees set.fragments same (Some r) None is.refusal_is other.unbroken in
    (cc)

-- and have one set, but for where it lies in memory
one_accepted : OneCuts → EachSpellingHasOneTree → (texts : List (List ℕ)) (a b : MergedSet) → AcceptsSet texts a → AcceptsSet texts b → AreSameSets a b
one_accepted cuts trees texts a b is other =
    let same = one_list cuts trees texts a.fragments b.fragments (trees_accepted texts a is) (trees_accepted texts b other) in
    record { definitions = same; merged = same_terms a.fragments b.fragments a.defs b.defs same is.merged other.merged }

some_not_none : (f : Finding) → ◌≡◌ {A = Option Finding} (Some f) None → ⊥
some_not_none f e = (cc)

some_is : (f g : Finding) → ◌≡◌ {A = Option Finding} (Some f) (Some g) → f ≡ g
some_is f g e = (cc)

some_refusal : (r s : Refusal) → ◌≡◌ {A = Option Refusal} (Some r) (Some s) → r ≡ s
some_refusal r s e = (cc)

module _ (cuts : OneCuts) (one : OneFaults) (none : NoFaults) (trees : EachSpellingHasOneTree) (texts : List (List ℕ)) where
  no_fault : (f : Finding) → IsFoundIn texts (Some f) → IsFoundIn texts None → ⊥
  no_fault f is formed = some_not_none f (one_finding cuts one none texts (Some f) None is formed)

  pub one_verdict : (a b : Verdict) → IsVerdict texts a → IsVerdict texts b → AreAlike a b
  one_verdict (Fault f) (Fault g) is other = some_is f g (one_finding cuts one none texts (Some f) (Some g) is other)
  one_verdict (Fault f) (Broken s) is other = absurd (no_fault f is other.formed)
  one_verdict (Fault f) (Accepted set) is other = absurd (no_fault f is other.formed)
  one_verdict (Broken r) (Fault g) is other = absurd (no_fault g other is.formed)
  one_verdict (Broken r) (Broken s) is other = some_refusal r s (one_found cuts trees texts (Some r) (Some s) is other)
  one_verdict (Broken r) (Accepted set) is other = absurd (not_both cuts trees texts r set is other)
  one_verdict (Accepted set) (Fault g) is other = absurd (no_fault g other is.formed)
  one_verdict (Accepted set) (Broken s) is other = absurd (not_both cuts trees texts s set other is)
  one_verdict (Accepted a) (Accepted b) is other = one_accepted cuts trees texts a b is other
