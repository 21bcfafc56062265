use Rattle.std.proofs.Common.{rules, ◌≡◌, ◌++◌, ◌+◌, ◌-◌, ℕ, List, Option, map, sym, ap, ◌∙◌, arith}
use Rattle.std.specs.Prelude.{flat_map, reverse}
use Rattle.widl_idl.specs.DefinitionTerms.{defs_term, dict_term}
use Rattle.widl_tables.specs.MemberOrder.{DeclaredMember, parent_in}
use Rattle.widl_convert.specs.Members.{own_members}
use Rattle.widl_convert.proofs.LevelMembers.{from_first, levels_more, line_members, none_left}
use Rattle.widl_convert.proofs.members_left.MembersLeft.of.Goals as goal

pub loop-level-preserved : goal.loop-level-preserved
loop-level-preserved c =
    let list = defs_term c.args.tables.now.defs in
    let so = c.loop-level.invariant in
    let few = so.0 in
    let rest = levels_more list c.loop-level.links c.loop-level.at c.loop-level.levels.items c.push.new.self.items c.in-Some.level _ (sym c.level_within.ensures.level ∙ c.in-Some.is) c.in_ok-push.ensures.items so.1 in
    let parent : c.parent_of-at.result ≡ parent_in (map dict_term c.args.tables.now.defs.dicts) c.in-Some.level.dictionary = search rules in
    (omega (arith, few), rest ∙ ap (λ (at : Option ℕ). line_members list (c.loop-level.links - (c.in-Some.level.links + 1)) at ++ flat_map (own_members list) (reverse c.push.new.self.items)) (sym parent))

pub returns : goal.returns
returns c =
    let list = defs_term c.args.tables.now.defs in
    let so = c.loop-level.invariant in
    from_first list (reverse c.loop-level.levels.items)
    ∙ sym (so.1 ∙ ap (λ (ms : List DeclaredMember). ms ++ flat_map (own_members list) (reverse c.loop-level.levels.items)) (none_left list c.loop-level.links 0 c.loop-level.at (sym c.level_within.ensures.level ∙ c.in_default.is)))
