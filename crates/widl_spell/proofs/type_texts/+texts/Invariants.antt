use Rattle.std.proofs.Common.{◌≡◌, ◌++◌, codes, map, take}
use Rattle.widl_idl.specs.DefinitionTerms.{defs_term}
use Rattle.widl_idl.specs.Terms.{packed, type_term}
use Rattle.widl_spell.specs.Names.{separated}
use Rattle.widl_spell.specs.TypeTexts.{member_texts}
use Rattle.widl_spell.proofs.type_texts.+texts.Given as goal

abbrev pub invariant-push_members-loop-place : goal.invariant-push_members-loop-place
invariant-push_members-loop-place l = l.text.items ≡ l.initial.text.items ++ separated (codes " or ") (member_texts (defs_term l.defs) (packed (map type_term (take l.place l.member-items))))
