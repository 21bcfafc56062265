-- The first of the rules on names, places and steps, from the firsts of each sort.
use Rattle.std.proofs.Common.{List, Option, inl, inr}
use Rattle.widl_first.specs.Keys.{first_of, Either, IsFirst}
use Rattle.widl_first.proofs.KeyFirsts.{first_either, first_same}
use Rattle.widl_idl.specs.DefinitionTerms.{DefsTerm}
use Rattle.widl_lines.specs.declared.script_place.ScriptPlace.{ScriptPlace}
use Rattle.widl_script_rules.specs.BrokenRules.{BreaksBlocks, BreaksNames}
use Rattle.widl_script_rules.specs.Standings.{Standing}
use Rattle.widl_script_rules.specs.LeastBreak.{place_key, Broken, unknown, misplaced, repeated_function, repeated_parameter, no_target, two_blocks, no_argument, no_slot, misfit, no_step}

abbrev pub First : (ScriptPlace → Type 0) → Option ScriptPlace → Type 0
First Breaks p = IsFirst place_key Breaks p

-- the first of what breaks some rules, and of what breaks one more
pub one_more : (A B : ScriptPlace → Type 0) (p q : Option ScriptPlace) → First A p → First B q → First (Either A B) (first_of place_key p q)
one_more A B p q h k = first_either place_key A B p q h k

module _ (list : DefsTerm) (script : List Standing) where
  abbrev Names : ScriptPlace → Type 0
  Names = BreaksNames list script

  abbrev Blocks : ScriptPlace → Type 0
  Blocks = BreaksBlocks list script

  of_names : (r : ScriptPlace) → Names r → Broken list script r
  of_names r (inl (inl (inl e))) = unknown e
  of_names r (inl (inl (inr e))) = misplaced e
  of_names r (inl (inr e)) = repeated_function e
  of_names r (inr e) = repeated_parameter e

  of_blocks : (r : ScriptPlace) → Blocks r → Broken list script r
  of_blocks r (inl (inl e)) = no_target e
  of_blocks r (inl (inr e)) = two_blocks e
  of_blocks r (inr (inl (inl (inl e)))) = no_argument e
  of_blocks r (inr (inl (inl (inr e)))) = no_slot e
  of_blocks r (inr (inl (inr e))) = no_step e
  of_blocks r (inr (inr e)) = misfit e

  of_one : (r : ScriptPlace) → Either Names Blocks r → Broken list script r
  of_one r (inl e) = of_names r e
  of_one r (inr e) = of_blocks r e

  is_one : (r : ScriptPlace) → Broken list script r → Either Names Blocks r
  is_one r (unknown e) = inl (inl (inl (inl e)))
  is_one r (misplaced e) = inl (inl (inl (inr e)))
  is_one r (repeated_function e) = inl (inl (inr e))
  is_one r (repeated_parameter e) = inl (inr e)
  is_one r (no_target e) = inr (inl (inl e))
  is_one r (two_blocks e) = inr (inl (inr e))
  is_one r (no_argument e) = inr (inr (inl (inl (inl e))))
  is_one r (no_slot e) = inr (inr (inl (inl (inr e))))
  is_one r (no_step e) = inr (inr (inl (inr e)))
  is_one r (misfit e) = inr (inr (inr e))

  -- the first of all
  pub first_broken : (p q : Option ScriptPlace) → First Names p → First Blocks q → First (Broken list script) (first_of place_key p q)
  first_broken p q h k = first_same place_key (Either Names Blocks) (Broken list script) (first_of place_key p q) of_one is_one (one_more Names Blocks p q h k)
