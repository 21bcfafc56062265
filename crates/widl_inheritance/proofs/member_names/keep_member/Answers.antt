use Rattle.std.proofs.Common.{◌≡◌, ℕ, List, bytes_eq, cond, max, rules, subst}
use Rattle.std.proofs.lemmas.Map.Text.{hash_map_updates_str}
use Rattle.widl_inheritance.specs.MemberEnds.{end_of}
use Rattle.widl_inheritance.proofs.Keeping.{end_kept}
use Rattle.widl_inheritance.proofs.member_names.keep_member.Goals as goal

pub returns-then-span-end-clause-keeps : goal.returns-then-span-end-clause-keeps
returns-then-span-end-clause-keeps c =
    let name = c.as_slice-name.result.now in
    subst (λ (n : List ℕ). (other : List ℕ) → end_of c.insert.new.self other ≡ cond (bytes_eq n other) (max (end_of c.args.ends.now other) c.args.span.past) (end_of c.args.ends.now other)) c.as_slice-name.ensures
    (λ other. end_kept c.args.ends.now c.insert.new.self name other c.args.span.past c.max.result (search rules) (hash_map_updates_str name c.args.ends.now c.insert.new.self _ c.in_ok-insert.ensures.updates other))

pub returns-else-span-end-clause-keeps : goal.returns-else-span-end-clause-keeps
returns-else-span-end-clause-keeps c =
    let name = c.as_slice-name.result.now in
    subst (λ (n : List ℕ). (other : List ℕ) → end_of c.insert.new.self other ≡ cond (bytes_eq n other) (max (end_of c.args.ends.now other) c.args.span.past) (end_of c.args.ends.now other)) c.as_slice-name.ensures
    (λ other. end_kept c.args.ends.now c.insert.new.self name other c.args.span.past c.max.result (search rules) (hash_map_updates_str name c.args.ends.now c.insert.new.self _ c.in_ok-insert.ensures.updates other))
