-- For proofs alone. The spans of the nodes of a forest: where each stands in an order in which those that come from a node follow it, and where the last of these stands.
use Rattle.std.specs.Prelude.{◌≡◌, ◌⊎◌, ℕ, ◌<◌, ◌≤◌, List, length, map, slice_get, Option, Some, option_and_then}
use Rattle.std.specs.Option.{option_to_list}
use Rattle.widl_graph.specs.Reaching.{Reaches}
use Rattle.widl_graph.specs.declared.spans.Span.{Span}

-- the parent of a node, if it has one
abbrev pub parent_in : List (Option ℕ) → ℕ → Option ℕ
parent_in parents n = option_and_then (λ p. p) (slice_get parents n)

-- the graph in which each node is followed by its parent
abbrev pub parent_graph : List (Option ℕ) → List (List ℕ)
parent_graph parents = map option_to_list parents

-- the span of a node, if it has one
abbrev pub span_of : List (Option Span) → ℕ → Option Span
span_of spans n = option_and_then (λ s. s) (slice_get spans n)

-- each node has a span
abbrev pub AreWhole : List (Option Span) → Type 0
AreWhole spans = (n : ℕ) → n < length spans → (s : Span) × (span_of spans n ≡ Some s)

-- the nodes that have spans, in the order of their starts
pub record AreInOrder (spans : List (Option Span)) (order : List ℕ) : Type 0 where
  pub listed : (n : ℕ) (s : Span) → span_of spans n ≡ Some s → slice_get order s.start ≡ Some n
  pub each : (place n : ℕ) → slice_get order place ≡ Some n → (s : Span) × (span_of spans n ≡ Some s) × (s.start ≡ place)

-- the spans of nodes with these parents: of two nodes that have spans one comes from the other where its span begins in that of the other, after the start
pub record AreSpans (parents : List (Option ℕ)) (spans : List (Option Span)) (order : List ℕ) : Type 0 where
  pub size : length spans ≡ length parents
  pub filled : (n : ℕ) (s : Span) → span_of spans n ≡ Some s → s.start < s.past
  pub bounded : (n : ℕ) (s : Span) → span_of spans n ≡ Some s → s.past ≤ length spans
  pub in_order : AreInOrder spans order
  pub within : (n m : ℕ) (s t : Span) → span_of spans n ≡ Some s → span_of spans m ≡ Some t → Reaches (parent_graph parents) n m → (t.start < s.start) × (s.start < t.past)
  pub comes : (n m : ℕ) (s t : Span) → span_of spans n ≡ Some s → span_of spans m ≡ Some t → t.start < s.start → s.start < t.past → Reaches (parent_graph parents) n m

-- a parent has a span, and those of its children lie in it after its first place; what begins in a span after its first place has a parent there
pub record AreNested (parents : List (Option ℕ)) (spans : List (Option Span)) : Type 0 where
  pub bounded : (a : ℕ) (s : Span) → span_of spans a ≡ Some s → (s.start < s.past) × (s.past ≤ length parents)
  pub single : (a b : ℕ) (s t : Span) → span_of spans a ≡ Some s → span_of spans b ≡ Some t → s.start ≡ t.start → a ≡ b
  pub nested : (a p : ℕ) (s : Span) → span_of spans a ≡ Some s → parent_in parents a ≡ Some p → (q : Span) × (span_of spans p ≡ Some q) × (q.start < s.start) × (s.past ≤ q.past)
  pub inside : (a n : ℕ) (s t : Span) → span_of spans a ≡ Some s → span_of spans n ≡ Some t → t.start < s.start → s.start < t.past
      → (p : ℕ) × (q : Span) × (parent_in parents a ≡ Some p) × (span_of spans p ≡ Some q) × (t.start ≤ q.start)

-- a walk over the nodes that has come to a place: those on its path are not past, and each other one that has a span is
pub record IsPath (parents : List (Option ℕ)) (spans : List (Option Span)) (path : List ℕ) (place : ℕ) : Type 0 where
  pub nested : AreNested parents spans
  pub begun : (a : ℕ) (s : Span) → span_of spans a ≡ Some s → s.start < place
  pub lasting : (k a : ℕ) → slice_get path k ≡ Some a → (s : Span) × (span_of spans a ≡ Some s) × (s.past ≡ length parents)
  pub passed : (a : ℕ) (s : Span) → span_of spans a ≡ Some s → ((k : ℕ) × (slice_get path k ≡ Some a)) ⊎ (s.past ≤ place)
  pub rising : (i j a b : ℕ) (s t : Span) → i < j → slice_get path i ≡ Some a → slice_get path j ≡ Some b → span_of spans a ≡ Some s → span_of spans b ≡ Some t → s.start < t.start

-- a walk that has visited these nodes in order
pub record IsWalk (parents : List (Option ℕ)) (spans : List (Option Span)) (order path : List ℕ) : Type 0 where
  pub size : length spans ≡ length parents
  pub in_order : AreInOrder spans order
  pub on_path : IsPath parents spans path (length order)
