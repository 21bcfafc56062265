-- Bytes over a list are one script, or break a rule first at one place.
use Rattle.std.proofs.Common.{◌≡◌, ℕ, List, [], ◌∷◌, Some, None, refl, sym, ◌∙◌, ap}
use Rattle.widl_first.proofs.KeyFirsts.{one_key}
use Rattle.widl_idl.specs.DefinitionTerms.{DefsTerm}
use Rattle.widl_lines.specs.declared.script_place.ScriptPlace.{ScriptPlace}
use Rattle.widl_lines.specs.TextBreaks.{ScriptBreak, script_lines}
use Rattle.widl_script_tree.specs.Trees.{ScriptTree}
use Rattle.widl_script_words.specs.OneTree.{EachScriptIsOne}
use Rattle.widl_script_rules.specs.Standings.{standings}
use Rattle.widl_script_rules.specs.LeastBreak.{Broken, place_key}
use Rattle.widl_script.specs.Scripts.{IsFirstBreak, of_form, of_rules, IsScriptOf, words_of_lines}

at_key : List ℕ → ScriptPlace
at_key (line ∷ column ∷ rule ∷ []) = record { rule = rule; line = line; column = column }
at_key key = record { rule = 0; line = 0; column = 0 }

at_its_key : (p : ScriptPlace) → at_key (place_key p) ≡ p
unfolding at_key
at_its_key p = refl

one_place : (p q : ScriptPlace) → place_key p ≡ place_key q → p ≡ q
one_place p q e = sym (at_its_key p) ∙ ap at_key e ∙ at_its_key q

module _ (one : (text : List ℕ) (p q : ScriptPlace) → ScriptBreak text (Some p) → ScriptBreak text (Some q) → p ≡ q)
    (none : (text : List ℕ) (p : ScriptPlace) → ScriptBreak text None → ScriptBreak text (Some p) → ⊥) where
  pub one_break : (bytes : List ℕ) (list : DefsTerm) (p q : ScriptPlace) → IsFirstBreak bytes list p → IsFirstBreak bytes list q → p ≡ q
  one_break bytes list p q (of_form a) (of_form b) = one bytes p q a b
  one_break bytes list p q (of_form a) (of_rules n b) = absurd (none bytes p n a)
  one_break bytes list p q (of_rules n a) (of_form b) = absurd (none bytes q n b)
  one_break bytes list p q (of_rules n a) (of_rules m b) = one_place p q (one_key place_key (Broken list (standings (script_lines bytes))) p q a b)

  pub no_break : (bytes : List ℕ) (list : DefsTerm) (tree : ScriptTree) (p : ScriptPlace) → IsScriptOf bytes list tree → IsFirstBreak bytes list p → ⊥
  no_break bytes list tree p s (of_form a) = none bytes p s.formed a
  no_break bytes list tree p s (of_rules n a) = s.unbroken p a.holds

pub one_tree : EachScriptIsOne → (bytes : List ℕ) (list : DefsTerm) (a b : ScriptTree) → IsScriptOf bytes list a → IsScriptOf bytes list b → a ≡ b
one_tree each bytes list a b s t = each a b (words_of_lines (script_lines bytes)) s.spelled t.spelled
