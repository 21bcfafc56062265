-- For proofs alone. Portions of the bounded sum, as the program has them.
use Rattle.std.specs.Prelude.{◌≡◌, ℕ, List, map, filter, min, Option, option_map, option_to_list, unwrap_or, bytes_eq}
use Rattle.std.specs.Borrow.{Bor}
use Rattle.indexmap.specs.IndexMap.{IndexMap, get_by}
use Rattle.widl_idl.specs.MergingRules as written
use Rattle.widl_idl.specs.MergingRules.{member_total}
use Rattle.widl_idl.specs.Parts.{adds_to, is_mixin}
use Rattle.widl_idl.specs.PlainTrees.{PlainDefinition}
use Rattle.widl_merge.specs.declared.sums.Portion.{Portion}

-- a number, where all that pass the limit are taken for one
abbrev pub capped : ℕ → ℕ
capped n = min n 1000001

-- the number of the members of the partial mixins of this name
abbrev pub added_members : List PlainDefinition → List ℕ → ℕ
added_members definitions text = member_total (filter (adds_to is_mixin text) (map (λ d. d.kind) definitions))

-- the number of members that is kept for a text
abbrev pub added_in : {S : Type 0} → IndexMap (Bor (List ℕ)) ℕ S → List ℕ → ℕ
added_in added text = unwrap_or (get_by (λ k. bytes_eq text k.now) added) 0

-- for each name the number of the members of its partial mixins is kept
abbrev pub KeepsAdded : {S : Type 0} → IndexMap (Bor (List ℕ)) ℕ S → List PlainDefinition → Type 0
KeepsAdded added definitions = (text : List ℕ) → added_in added text ≡ capped (added_members definitions text)

-- a portion, whose size is taken as far as the limit
abbrev pub capped_portion : written.Portion → written.Portion
capped_portion p = record { at = p.at; size = capped p.size }

abbrev pub as_written : Portion → written.Portion
as_written p = record { at = p.at; size = p.size }

-- the portions are those that were found, as far as the limit
abbrev pub AreFound : Option Portion → List written.Portion → Type 0
AreFound found portions = option_to_list (option_map as_written found) ≡ map capped_portion portions
