use Rattle.widl_script_reader.proofs.Growing.{widens_then}
use Rattle.widl_script_reader.proofs.LineForms.{getter_alone, getter_and_setter}
use Rattle.widl_script_reader.proofs.nodes.Nodes.accessor.Goals as goal

pub returns-then-is_ahead-clause-tree : goal.returns-then-is_ahead-clause-tree
returns-then-is_ahead-clause-tree c = getter_and_setter _ _ _ _ _ _ _ _ _ c.requires.begins c.take.ensures c.in_ok-getter.ensures.tree (c.is_ahead.ensures.yes c.if-is_ahead.true) c.take-then-is_ahead.ensures c.in_ok-setter.ensures.grown c.in_ok-setter.ensures.tree

pub returns-clause-tree : goal.returns-clause-tree
returns-clause-tree c = getter_alone _ _ _ _ _ c.requires.begins c.take.ensures c.in_ok-getter.ensures.tree (c.is_ahead.ensures.no c.if-is_ahead.false)

pub returns-then-is_ahead-clause-grown : goal.returns-then-is_ahead-clause-grown
returns-then-is_ahead-clause-grown c = widens_then c.in_ok-getter.ensures.grown c.in_ok-setter.ensures.grown
