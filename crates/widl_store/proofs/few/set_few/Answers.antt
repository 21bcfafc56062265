use Rattle.widl_store.proofs.FewProperties.{at_in_same, set_found, replaced_once}
use Rattle.widl_store.proofs.few.set_few.Goals as goal

pub returns-in-Some-clause-set : goal.returns-in-Some-clause-set
returns-in-Some-clause-set c =
    let p = at_in_same c.args.key.now c.args.entries.now.items c.as_slice.result.now c.in-Some.place c.as_slice.ensures.value c.in-Some.ensures.some in
    set_found c.args.key.now c.args.prop c.args.entries.now.items c.in-Some.place c.index_mut.result.now c.requires p.0 p.1 c.index_mut.ensures.value

pub returns-in-Some-clause-once : goal.returns-in-Some-clause-once
returns-in-Some-clause-once c =
    let p = at_in_same c.args.key.now c.args.entries.now.items c.as_slice.result.now c.in-Some.place c.as_slice.ensures.value c.in-Some.ensures.some in
    replaced_once c.args.key.now c.args.prop c.args.entries.now.items _ (set_found c.args.key.now c.args.prop c.args.entries.now.items c.in-Some.place c.index_mut.result.now c.requires p.0 p.1 c.index_mut.ensures.value) c.requires
