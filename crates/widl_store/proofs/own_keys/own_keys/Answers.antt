use Rattle.widl_store.proofs.KeyGroups.{own_keys_by}
use Rattle.widl_store.proofs.own_keys.own_keys.Goals as goal

pub returns : goal.returns
returns c =
    own_keys_by c.args.keys.items c.in_ok-groups.groups.names.items c.in_ok-groups.groups.symbols.items c.in_ok-groups.groups.indices.items c.ascending-indices.result.items c.new.result c.in_ok-all.all c.in_ok-all-2.all c.in_ok-all-3.all
    c.requires c.in_ok-groups.ensures.indices c.in_ok-groups.ensures.names c.in_ok-groups.ensures.symbols c.ascending-indices.ensures.same c.ascending-indices.ensures.ascending c.new.ensures c.in_ok-all.ensures c.in_ok-all-2.ensures c.in_ok-all-3.ensures
