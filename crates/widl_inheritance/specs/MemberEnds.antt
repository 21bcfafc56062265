-- For proofs alone. For each name the greatest place at which the span of a dictionary ends that has a member of the name, of those that were visited.
use Rattle.std.specs.Prelude.{◌≡◌, ◌⊎◌, ℕ, Bool, ◌&&◌, true, nat_lt, List, [], slice_get, bytes_eq, Option, Some, unwrap_or}
use Rattle.std.specs.Borrow.{Bor}
use Rattle.std.specs.Option.{option_map_or}
use Rattle.indexmap.specs.IndexMap.{IndexMap, get_by}
use Rattle.widl_idl.specs.DefinitionTerms.{DictTerm, MemberTerm}
use Rattle.widl_idl.specs.declared.violation.Violation.{Violation}
use Rattle.widl_idl.specs.First.{AtOne}
use Rattle.widl_idl.specs.MergingRules.{IsAt}
use Rattle.widl_overload.specs.rules.DictionaryRules.{has_member}
use Rattle.widl_graph.specs.Spans.{span_of}
use Rattle.widl_graph.specs.declared.spans.Span.{Span}

-- the place that is kept for a name, or 0
abbrev pub end_of : {S : Type 0} → IndexMap (Bor (List ℕ)) ℕ S → List ℕ → ℕ
end_of ends name = unwrap_or (get_by (λ k. bytes_eq name k.now) ends) 0

-- the members of the dictionary of a number
abbrev pub members_at : List DictTerm → ℕ → List MemberTerm
members_at dicts n = option_map_or (λ (d : DictTerm). d.members) (slice_get dicts n) []

-- the place after the span of the dictionary of a number
abbrev pub past_at : List (Option Span) → ℕ → ℕ
past_at spans n = option_map_or (λ (s : Span). s.past) (span_of spans n) 0

-- the dictionary of a number has a member of the name, and its span ends after the place
abbrev pub has_after : List DictTerm → List (Option Span) → List ℕ → ℕ → ℕ → Bool
has_after dicts spans name place n = has_member name (members_at dicts n) && nat_lt place (past_at spans n)

-- an earlier member of the list has the name, or it is one of these: at the name
abbrev pub RepeatsKnown : (List ℕ → Bool) → List MemberTerm → MemberTerm → Violation → Type 0
RepeatsKnown known before m s = ((has_member m.name before ≡ true) ⊎ (known m.name ≡ true)) × IsAt m.at s

-- a member of the dictionary of a number repeats the name of an earlier one, or one for which a place after the start of its span is kept
pub record RepeatsKept (dicts : List DictTerm) (spans : List (Option Span)) (kept : List ℕ → ℕ) (n : ℕ) (s : Violation) : Type 0 where
  pub dictionary : DictTerm
  pub is : slice_get dicts n ≡ Some dictionary
  pub span : Span
  pub span_is : span_of spans n ≡ Some span
  pub repeats : AtOne (RepeatsKnown (λ name. nat_lt span.start (kept name))) dictionary.members s
