use Rattle.std.proofs.Common.{None, Some, get_or, refl, sym, subst, ◌+◌, ◌∙◌}
use Rattle.widl_graph.specs.Children.{AreChildren}
use Rattle.widl_graph.proofs.ChildrenTaken.{none_added, one_added, parent_read}
use Rattle.widl_graph.proofs.children.Children.of.Goals as goal
use Rattle.widl_graph.proofs.children.Children.of.Goals.{in-Some+in_ok-add, in_default}

pub loop-number-preserved : goal.loop-number-preserved
loop-number-preserved c =
    let parents = c.args.parents.now in
    let number = c.loop-number.number in
    let old = c.loop-number.children in
    elim c.match-parents-number.branch [
      | in-Some+in_ok-add w ↦
          let parent = w.in-Some.parent in
          let up = parent_read parents number (Some parent) c.loop-number-test.true w.in-Some.is in
          subst (AreChildren parents (number + 1)) (sym w.children-is) (one_added parents number parent old w.add.new.self up w.in_ok-add.ensures c.loop-number.invariant)
      | in_default w ↦ subst (AreChildren parents (number + 1)) (sym w.children-is) (none_added parents number old (λ p e. w.in_default.not-Some p (sym (parent_read parents number (get_or parents number None) c.loop-number-test.true refl) ∙ e)) c.loop-number.invariant)
    ]
