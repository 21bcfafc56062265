-- For proofs alone. What holds of a depth-first search under way.
use Rattle.std.specs.Prelude.{◌≡◌, ◌⊎◌, ℕ, ◌<◌, ◌≤◌, ◌+◌, ◌-◌, ◌*◌, List, [], ◌∷◌, ◌++◌, length, slice_get, slice_set, Option, None, Some, Bool, true, false}
use Rattle.std.specs.List.{sum_by}
use Rattle.widl_graph.specs.declared.search.Mark.{Mark}
use Rattle.widl_graph.specs.declared.search.Mark.TheVariants.{New, Open, Plain, Cyclic}
use Rattle.widl_graph.specs.declared.search.Visit.{Visit}
use Rattle.widl_graph.specs.declared.search.Search.{Search}
use Rattle.widl_graph.specs.Reaching.{Step, Reaches, successors_of}

abbrev pub one_new : Mark → ℕ
one_new New = 1
one_new (Open p) = 0
one_new (Plain r) = 0
one_new (Cyclic r) = 0

-- how many nodes are new
abbrev pub news : List Mark → ℕ
news marks = sum_by one_new marks

-- the mark is that of a node that reaches itself
abbrev pub is_cyclic : Mark → Bool
is_cyclic New = false
is_cyclic (Open p) = false
is_cyclic (Plain r) = false
is_cyclic (Cyclic r) = true

-- the numbers rise
abbrev pub Rising : List ℕ → Type 0
Rising xs = (i j a b : ℕ) → i < j → slice_get xs i ≡ Some a → slice_get xs j ≡ Some b → a < b

-- the number is in the list
abbrev pub Has : List ℕ → ℕ → Type 0
Has xs a = (i : ℕ) × (slice_get xs i ≡ Some a)

-- the node is done, and its group begins at place r of the order
abbrev pub Done : List Mark → ℕ → ℕ → Type 0
Done marks x r = (slice_get marks x ≡ Some (Plain r)) ⊎ (slice_get marks x ≡ Some (Cyclic r))

-- what is known of the nodes that are done: the place at which a group begins never rises along a step, and falls from a plain node
pub record IsSettled (graph : List (List ℕ)) (marks : List Mark) (order : List ℕ) : Type 0 where
  pub falls : (x r : ℕ) → slice_get marks x ≡ Some (Plain r) → (slice_get order r ≡ Some x) × ((y : ℕ) → Step graph x y → (i : ℕ) × (i < r) × (slice_get order i ≡ Some y))
  pub stays : (x r : ℕ) → slice_get marks x ≡ Some (Cyclic r) → (y : ℕ) → Step graph x y → (s : ℕ) × Done marks y s × (s ≤ r)
  pub cyclic : (x r : ℕ) → slice_get marks x ≡ Some (Cyclic r) → Reaches graph x x
  pub ranked : (i x : ℕ) → slice_get order i ≡ Some x → (r : ℕ) × Done marks x r × (r ≤ i)
  pub listed : (x r : ℕ) → Done marks x r → Has order x
  pub once : (i j x : ℕ) → slice_get order i ≡ Some x → slice_get order j ≡ Some x → i ≡ j

-- the open nodes are those of the visits, each at its place
pub record AreOpen (marks : List Mark) (visits : List Visit) : Type 0 where
  pub opened : (x p : ℕ) → slice_get marks x ≡ Some (Open p) → (v : Visit) × (slice_get visits p ≡ Some v) × (v.node ≡ x)
  pub visited : (p : ℕ) (v : Visit) → slice_get visits p ≡ Some v → slice_get marks v.node ≡ Some (Open p)

-- the path has the places of all visits that still have successors to look at
pub record IsPath (graph : List (List ℕ)) (visits : List Visit) (path : List ℕ) : Type 0 where
  pub rising : Rising path
  pub within : (i p : ℕ) → slice_get path i ≡ Some p → p < length visits
  pub rest : (p : ℕ) (v : Visit) → slice_get visits p ≡ Some v → v.next < length (successors_of graph v.node) → Has path p

-- each group begins at a place of the path, and the first of them at the first visit
pub record AreGroups (visits : List Visit) (path groups : List ℕ) : Type 0 where
  pub rising : Rising groups
  pub begins : (i b : ℕ) → slice_get groups i ≡ Some b → Has path b
  pub covered : 0 < length visits → Has groups 0

-- place q is in the group of place p or in a later one
abbrev pub NotEarlier : List ℕ → ℕ → ℕ → Type 0
NotEarlier groups p q = (i b : ℕ) → slice_get groups i ≡ Some b → b ≤ p → b ≤ q

-- the node is done, or it is open in the group of place p or in a later one
abbrev pub Seen : List Mark → List ℕ → ℕ → ℕ → Type 0
Seen marks groups p y = ((s : ℕ) × Done marks y s) ⊎ ((q : ℕ) × (slice_get marks y ≡ Some (Open q)) × NotEarlier groups p q)

-- a visited node reaches those of its group and of later ones, and the successors that it looked at lead nowhere else but to what is done
pub record AreLinked (graph : List (List ℕ)) (marks : List Mark) (visits : List Visit) (groups : List ℕ) : Type 0 where
  pub seen : (p : ℕ) (v : Visit) (e y : ℕ) → slice_get visits p ≡ Some v → e < v.next → slice_get (successors_of graph v.node) e ≡ Some y → Seen marks groups p y
  pub reaches : (p q : ℕ) (v w : Visit) → slice_get visits p ≡ Some v → slice_get visits q ≡ Some w → NotEarlier groups p q → (v.node ≡ w.node) ⊎ Reaches graph v.node w.node

-- all that holds between the steps of a search
pub record IsUnderWay (graph : List (List ℕ)) (marks : List Mark) (order : List ℕ) (visits : List Visit) (path groups : List ℕ) : Type 0 where
  pub size : length marks ≡ length graph
  pub counted : length order + length visits + news marks ≡ length marks
  pub settled : IsSettled graph marks order
  pub open_nodes : AreOpen marks visits
  pub way : IsPath graph visits path
  pub parts : AreGroups visits path groups
  pub links : AreLinked graph marks visits groups

abbrev pub UnderWay : List (List ℕ) → Search → Type 0
UnderWay graph s = IsUnderWay graph s.marks.items s.order.items s.visits.items s.path.items s.groups.items

-- the last place of the path
abbrev pub top_of : List ℕ → Option ℕ
top_of path = slice_get path (length path - 1)

-- how many successors the visit at the place has to look at
abbrev pub left_of : List (List ℕ) → Option Visit → ℕ
left_of graph None = 0
left_of graph (Some v) = length (successors_of graph v.node) - v.next

-- how far a search is from its end
abbrev pub work_of : Search → ℕ
work_of s = 2 * news s.marks.items + length s.path.items

-- nothing that was known has become new
abbrev pub StaysKnown : List Mark → List Mark → Type 0
StaysKnown old now = (x : ℕ) → slice_get now x ≡ Some New → slice_get old x ≡ Some New

-- the node is open, in a group of its own at the end of the path
pub record IsEntered (old now : Search) (node : ℕ) : Type 0 where
  pub marks : now.marks.items ≡ slice_set old.marks.items node (Open (length old.visits.items))
  pub order : now.order.items ≡ old.order.items
  pub visits : now.visits.items ≡ old.visits.items ++ (record { node = node; next = 0 }) ∷ []
  pub path : now.path.items ≡ old.path.items ++ length old.visits.items ∷ []
  pub groups : now.groups.items ≡ old.groups.items ++ length old.visits.items ∷ []

-- the groups that begin at the place or before it are kept, and no others
pub record AreJoined (old now : List ℕ) (place : ℕ) : Type 0 where
  pub rising : Rising now
  pub none_after : (i b : ℕ) → slice_get now i ≡ Some b → (b ≤ place) × Has old b
  pub kept : (i b : ℕ) → slice_get old i ≡ Some b → b ≤ place → Has now b

-- a step to an open node joins the groups from its own on
abbrev pub AreJoinedAt : Option Mark → List ℕ → List ℕ → Type 0
AreJoinedAt None old now = now ≡ old
AreJoinedAt (Some New) old now = now ≡ old
AreJoinedAt (Some (Open place)) old now = AreJoined old now place
AreJoinedAt (Some (Plain r)) old now = now ≡ old
AreJoinedAt (Some (Cyclic r)) old now = now ≡ old

-- so many of the groups begin at the place or before it
pub record IsCut (groups : List ℕ) (place count : ℕ) : Type 0 where
  pub within : count ≤ length groups
  pub before : (i b : ℕ) → slice_get groups i ≡ Some b → i < count → b ≤ place
  pub after : (i b : ℕ) → slice_get groups i ≡ Some b → count ≤ i → place < b

-- the mark of the group that begins at the visit at place `base`
abbrev pub IsClosing : List (List ℕ) → List Visit → ℕ → ℕ → Mark → Type 0
IsClosing graph visits base rank New = ⊥
IsClosing graph visits base rank (Open p) = ⊥
IsClosing graph visits base rank (Plain r) = (r ≡ rank) × (length visits ≤ base + 1) × ((v : Visit) → slice_get visits base ≡ Some v → Step graph v.node v.node → ⊥)
IsClosing graph visits base rank (Cyclic r) = (r ≡ rank) × ((base + 1 < length visits) ⊎ ((v : Visit) × (slice_get visits base ≡ Some v) × Step graph v.node v.node))

-- the node is that of a visit between the places
pub record IsBetween (visits : List Visit) (base count x : ℕ) : Type 0 where
  pub place : ℕ
  pub visit : Visit
  pub is : slice_get visits place ≡ Some visit
  pub node : visit.node ≡ x
  pub after : base ≤ place
  pub before : place < count

-- the nodes of the visits between the places have the mark, and stand at the end of the order
pub record AreMoved (visits : List Visit) (base count : ℕ) (mark : Mark) (old_marks now_marks : List Mark) (old_order now_order : List ℕ) : Type 0 where
  pub size : length now_marks ≡ length old_marks
  pub length_is : length now_order + base ≡ length old_order + count
  pub news_are : news now_marks ≡ news old_marks
  pub kept : (i : ℕ) → i < length old_order → slice_get now_order i ≡ slice_get old_order i
  pub placed : (p : ℕ) (v : Visit) → slice_get visits p ≡ Some v → base ≤ p → p < count → slice_get now_order (length old_order + (p - base)) ≡ Some v.node
  pub marked : (p : ℕ) (v : Visit) → slice_get visits p ≡ Some v → base ≤ p → p < count → slice_get now_marks v.node ≡ Some mark
  pub others : (x : ℕ) → (slice_get now_marks x ≡ slice_get old_marks x) ⊎ IsBetween visits base count x
