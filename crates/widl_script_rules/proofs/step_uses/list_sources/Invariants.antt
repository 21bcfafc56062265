use Rattle.std.proofs.Common.{◌≡◌, ◌++◌, map, take}
use Rattle.widl_script_rules.specs.StepUses.{used_from}
use Rattle.widl_script_rules.specs.UsedPlaces.{capped, capped_use, listed_term}
use Rattle.widl_script_rules.proofs.UsedPlaces.{word_after}
use Rattle.widl_script_rules.proofs.step_uses.list_sources.Given as goal

abbrev pub invariant-sources : goal.invariant-sources
invariant-sources l =
    (map listed_term l.used.items ≡ (map listed_term l.fn.used.items ++ map capped_use (used_from l.first 0 (take l.number l.sources)))) × (l.word ≡ capped (word_after l.first (take l.number l.sources)))
