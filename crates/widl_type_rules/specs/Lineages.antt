-- For proofs alone. What the spans of interfaces tell of which are related.
use Rattle.std.specs.Prelude.{◌≡◌, ℕ, ◌+◌, ◌<◌, Bool, ◌&&◌, nat_lt, List, length, Option, unwrap_or}
use Rattle.widl_idl.specs.DefinitionTerms.{IfaceTerm}
use Rattle.widl_type_rules.specs.IndistinguishablePairs.{are_related}
use Rattle.widl_graph.specs.declared.spans.Span.{Span}
use Rattle.widl_graph.specs.Spans.{span_of}

-- whether two spans have a place in common
abbrev pub touches : Span → Span → Bool
touches s t = nat_lt t.start s.past && nat_lt s.start t.past

-- whether the second span starts before the first one is past
abbrev pub begins_within : Span → Span → Bool
begins_within s t = nat_lt t.start s.past

-- the span of a number of no interface: a place of its own after all of them
abbrev pub after_all : List (Option Span) → ℕ → Span
after_all spans n = record { start = length spans + n; past = length spans + n + 1 }

-- the span of an interface
abbrev pub lineage_of : List (Option Span) → ℕ → Span
lineage_of spans n = unwrap_or (span_of spans n) (after_all spans n)

-- the spans touch where the interfaces are one or one inherits from the other
pub record TellRelated (ifaces : List IfaceTerm) (spans : List (Option Span)) : Type 0 where
  pub filled : (n : ℕ) → (lineage_of spans n).start < (lineage_of spans n).past
  pub tells : (m n : ℕ) → are_related ifaces m n ≡ touches (lineage_of spans m) (lineage_of spans n)
