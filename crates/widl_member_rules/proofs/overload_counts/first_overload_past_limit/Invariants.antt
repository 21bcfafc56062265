use Rattle.std.proofs.Common.{ℕ, ◌≤◌, Bool, List, take}
use Rattle.widl_member_rules.specs.MemberTables.{overload_count}
use Rattle.widl_member_rules.proofs.Counted.{Counted}
use Rattle.widl_member_rules.proofs.overload_counts.first_overload_past_limit.Given as goal
use Rattle.widl_names.specs.Listings.{listed_members}

abbrev pub invariant-loop-member : goal.invariant-loop-member
invariant-loop-member l =
    Counted (overload_count l.counts.operations.regular l.counts.operations.fixed) l.counts.constructors (listed_members (take l.member-index l.members)) l.best
    × ((text : List ℕ) (static : Bool) → overload_count l.counts.operations.regular l.counts.operations.fixed text static ≤ l.member-index)
    × (l.counts.constructors ≤ l.member-index)
