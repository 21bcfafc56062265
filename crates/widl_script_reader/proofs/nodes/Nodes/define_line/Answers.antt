use Rattle.widl_script_reader.proofs.Growing.{widens_then}
use Rattle.widl_script_reader.proofs.LineForms.{hidden_holds, define_holds, accessor_holds}
use Rattle.widl_script_reader.proofs.nodes.Nodes.define_line.Goals as goal

pub returns-then-is_ahead-clause-tree : goal.returns-then-is_ahead-clause-tree
returns-then-is_ahead-clause-tree c = hidden_holds _ _ _ _ _ _ _ _ _ _ c.requires.begins c.take.ensures (c.is_ahead.ensures.yes c.if-is_ahead.true) c.take-then-is_ahead.ensures c.in_ok-member.ensures.some c.in_ok-member.ensures.tree c.member_or_any-member.ensures c.in_ok-value.ensures.grown c.in_ok-value.ensures.tree

pub returns-then-is_ahead-2-clause-tree : goal.returns-then-is_ahead-2-clause-tree
returns-then-is_ahead-2-clause-tree c = accessor_holds _ _ _ _ _ _ _ _ _ _ c.requires.begins c.take.ensures (c.is_ahead.ensures.no c.if-is_ahead.false) c.in_ok-member-2.ensures.some c.in_ok-member-2.ensures.tree c.member_or_any-member-2.ensures c.in_ok-getter.ensures.grown c.in_ok-getter.ensures.tree

pub returns-clause-tree : goal.returns-clause-tree
returns-clause-tree c = define_holds _ _ _ _ _ _ _ _ _ c.requires.begins c.take.ensures (c.is_ahead.ensures.no c.if-is_ahead.false) c.in_ok-member-2.ensures.some c.in_ok-member-2.ensures.tree c.member_or_any-member-2.ensures (c.is_ahead-2.ensures.no c.if-is_ahead-2.false) c.in_ok-value-2.ensures.grown c.in_ok-value-2.ensures.tree

pub returns-then-is_ahead-clause-grown : goal.returns-then-is_ahead-clause-grown
returns-then-is_ahead-clause-grown c = widens_then c.in_ok-member.ensures.grown c.in_ok-value.ensures.grown

pub returns-then-is_ahead-2-clause-grown : goal.returns-then-is_ahead-2-clause-grown
returns-then-is_ahead-2-clause-grown c = widens_then c.in_ok-member-2.ensures.grown c.in_ok-getter.ensures.grown

pub returns-clause-grown : goal.returns-clause-grown
returns-clause-grown c = widens_then c.in_ok-member-2.ensures.grown c.in_ok-value-2.ensures.grown
