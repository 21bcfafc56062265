use Rattle.std.proofs.Common.{map, ap, ◌∙◌}
use Rattle.widl_idl.specs.DefinitionTerms.{iface_term}
use Rattle.widl_idl.specs.Terms.{type_term}
use Rattle.widl_overload.specs.sets.Distinct.{distinguishable}
use Rattle.widl_overload.proofs.distinct.distinguishable.Goals as goal

pub returns : goal.returns
returns c = c.are_distinguishable.ensures ∙ ap (λ ifaces. distinguishable (map iface_term ifaces) (type_term c.args.a.now) (type_term c.args.b.now)) c.as_slice.ensures
