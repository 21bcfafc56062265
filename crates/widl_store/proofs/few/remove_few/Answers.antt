use Rattle.std.proofs.Common.{◌∙◌}
use Rattle.widl_store.proofs.FewProperties.{at_in_same, removed_found, removed_once}
use Rattle.widl_store.proofs.few.remove_few.Goals as goal

pub returns-in-Some-clause-removed : goal.returns-in-Some-clause-removed
returns-in-Some-clause-removed c =
    let p = at_in_same c.args.key.now c.args.entries.now.items c.as_slice.result.now c.in-Some.place c.as_slice.ensures.value c.in-Some.ensures.some in
    c.cut.ensures ∙ removed_found c.args.key.now c.args.entries.now.items c.in-Some.place c.requires p.0 p.1

pub returns-in-Some-clause-once : goal.returns-in-Some-clause-once
returns-in-Some-clause-once c =
    let p = at_in_same c.args.key.now c.args.entries.now.items c.as_slice.result.now c.in-Some.place c.as_slice.ensures.value c.in-Some.ensures.some in
    removed_once c.args.key.now c.args.entries.now.items c.cut.new.entries.items (c.cut.ensures ∙ removed_found c.args.key.now c.args.entries.now.items c.in-Some.place c.requires p.0 p.1) c.requires
