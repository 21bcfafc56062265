use Rattle.std.proofs.Common.{◌≡◌, ◌-◌, length, rules, arith, refl}
use Rattle.std.proofs.lemmas.Bool.{false≢true}
use Rattle.widl_graph.proofs.Leaving.{left}
use Rattle.widl_graph.proofs.Tops.{some_top, with_lists}
use Rattle.widl_graph.proofs.search.Search.leave.Goals as goal

pub returns-else-ends_with-clause-under_way : goal.returns-else-ends_with-clause-under_way
returns-else-ends_with-clause-under_way c =
    let path : c.args.self.now.path.len ≡ length c.args.self.now.path.items = search rules in
    let some_path = some_top c.args.self.now.path.items c.args.place c.requires.top in
    let now = left _ _ _ _ _ _ c.args.place (c.args.self.now.path.len - 1) c.requires.under_way c.requires.top (omega (arith, path, some_path)) c.requires.finished (λ e. false≢true (c.if-ends_with.ensures.1 e)) in
    with_lists _ _ _ _ _ _ now _ _ _ _ _ refl refl refl c.pop.ensures.rest refl
