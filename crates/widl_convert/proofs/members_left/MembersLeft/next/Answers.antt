use Rattle.std.proofs.Common.{List, ℕ, sym, ap, ◌∙◌}
use Rattle.std.specs.Prelude.{reverse, slice_get}
use Rattle.widl_idl.specs.DefinitionTerms.{defs_term}
use Rattle.widl_convert.proofs.LevelMembers.{next_level, next_member, taken_last}
use Rattle.widl_convert.proofs.members_left.MembersLeft.next.Goals as goal

pub returns-in-Some-number_at-clause-some : goal.returns-in-Some-number_at-clause-some
returns-in-Some-number_at-clause-some c =
    let levels = c.loop-dictionary.self.levels.items in
    c.loop-dictionary.invariant
    ∙ next_member (defs_term c.args.tables.now.defs) (reverse levels) c.loop-dictionary.self.place c.in-Some.dictionary c.in-Some-number_at.number
    (ap (λ (xs : List ℕ). slice_get (reverse xs) 0) (sym c.deref.ensures.value) ∙ sym c.last.ensures ∙ c.in-Some.is)
    (sym c.number_at.ensures.number ∙ c.in-Some-number_at.is)

pub loop-dictionary-preserved : goal.loop-dictionary-preserved
loop-dictionary-preserved c =
    let levels = c.loop-dictionary.self.levels.items in
    let first = ap (λ (xs : List ℕ). slice_get (reverse xs) 0) (sym c.deref.ensures.value) ∙ sym c.last.ensures ∙ c.in-Some.is in
    c.loop-dictionary.invariant
    ∙ next_level (defs_term c.args.tables.now.defs) levels c.take_last.new.levels.items c.loop-dictionary.self.place c.in-Some.dictionary first
    (taken_last levels c.take_last.new.levels.items c.in-Some.dictionary c.take_last.result first c.take_last.ensures.some c.take_last.ensures.none)
    (sym c.number_at.ensures.number ∙ c.in_default-number_at.is)
