use Rattle.std.proofs.Common.{◌≡◌, length, ap, refl, sym, ◌∙◌, slice_get, Some}
use Rattle.widl_graph.specs.declared.search.Mark.TheVariants.{New, Open}
use Rattle.widl_graph.specs.declared.search.Visit.{Visit}
use Rattle.widl_graph.proofs.Entering.{entered, entered_known}
use Rattle.widl_graph.proofs.Gets.{set_same}
use Rattle.widl_graph.proofs.Tops.{none_visited, with_lists}
use Rattle.widl_graph.proofs.search.Search.search_from.Goals as goal

pub finish-requires-clause-under_way : goal.finish-requires-clause-under_way
finish-requires-clause-under_way c =
    let u = c.requires.under_way in
    let e = c.in_ok-enter.ensures in
    let visit : Visit = record { node = c.args.root; next = 0 } in
    let now = entered _ _ _ _ _ _ c.args.root visit u (c.if-is_new.ensures.0 refl) refl refl (λ p v h. absurd (none_visited _ _ _ _ _ _ u c.requires.idle p v h)) in
    with_lists _ _ _ _ _ _ now _ _ _ _ _ e.marks e.order e.visits e.path e.groups

pub returns-in_ok-finish-clause-known : goal.returns-in_ok-finish-clause-known
returns-in_ok-finish-clause-known c = λ x h.
    entered_known c.args.self.now.marks.items c.args.root (length c.args.self.now.visits.items) x (ap (λ ms. slice_get ms x) (sym c.in_ok-enter.ensures.marks) ∙ c.in_ok-finish.ensures.known x h)

pub returns-in_ok-finish-clause-root : goal.returns-in_ok-finish-clause-root
returns-in_ok-finish-clause-root c = λ h.
    let was = ap (λ ms. slice_get ms c.args.root) (sym c.in_ok-enter.ensures.marks) ∙ c.in_ok-finish.ensures.known c.args.root h in
    let is = set_same c.args.self.now.marks.items c.args.root New (Open (length c.args.self.now.visits.items)) (c.if-is_new.ensures.0 refl) in
    (let f : Some New ≡ Some (Open (length c.args.self.now.visits.items)) = sym was ∙ is in (cc))
