use Rattle.std.proofs.Common.{◌∷◌, [], length, arith, ap, refl, subst, sym, ◌∙◌, length-append}
use Rattle.std.proofs.lemmas.Result.{on_ok_weaker}
use Rattle.widl_graph.specs.declared.search.Visit.{Visit}
use Rattle.widl_graph.specs.Search.{StaysKnown, top_of, news}
use Rattle.widl_graph.proofs.Entering.{entered, all_reach, entered_known, entered_news}
use Rattle.widl_graph.proofs.Tops.{top_visit, with_lists}
use Rattle.widl_graph.proofs.search.Search.advance.Goals as goal

pub returns-in-Some-clause-under_way : goal.returns-in-Some-clause-under_way
returns-in-Some-clause-under_way c =
    let u = c.in-Some.ensures.under_way in
    let t = ap top_of c.in-Some.ensures.path ∙ c.requires.top in
    let h = top_visit _ _ _ _ _ _ u c.args.place t in
    let visit : Visit = record { node = c.in-Some.node; next = 0 } in
    let now = entered _ _ _ _ _ _ c.in-Some.node visit u c.in-Some.ensures.found.0 refl refl (all_reach _ _ _ _ _ _ c.args.place c.in-Some.node h.0 u t h.1 (c.in-Some.ensures.found.1 h.0 h.1)) in
    on_ok_weaker c.enter.result (λ e. with_lists _ _ _ _ _ _ now _ _ _ _ _ e.marks e.order e.visits e.path e.groups) c.enter.ensures

pub returns-in-Some-clause-known : goal.returns-in-Some-clause-known
returns-in-Some-clause-known c = on_ok_weaker c.enter.result (λ e. subst (λ m. StaysKnown m c.enter.new.self.marks.items) c.in-Some.ensures.marks (subst (StaysKnown c.next_new.new.self.marks.items) (sym e.marks) (entered_known c.next_new.new.self.marks.items c.in-Some.node (length c.next_new.new.self.visits.items)))) c.enter.ensures

pub returns-in-Some-clause-less : goal.returns-in-Some-clause-less
returns-in-Some-clause-less c =
    let fewer = entered_news c.next_new.new.self.marks.items c.in-Some.node (length c.next_new.new.self.visits.items) c.in-Some.ensures.found.0 in
    let longer = length-append c.next_new.new.self.path.items (length c.next_new.new.self.visits.items ∷ []) in
    on_ok_weaker c.enter.result (λ e. omega (arith, fewer, longer, ap news e.marks, ap length e.path, ap news c.in-Some.ensures.marks, ap length c.in-Some.ensures.path)) c.enter.ensures
