use Rattle.std.proofs.Common.{map, sym, subst}
use Rattle.widl_graph.specs.Flags.{TellsReached}
use Rattle.widl_graph.specs.Reaching.{AreNodes, IsAcyclic}
use Rattle.widl_idl.specs.DefinitionTerms.{dict_term}
use Rattle.widl_overload.specs.rules.Dictionaries.{dictionary_parents}
use Rattle.widl_fits.proofs.Inherited.{tells_required}
use Rattle.widl_fits.proofs.required_members.RequiredMembers.of.Goals as goal

pub over-requires : goal.over-requires
over-requires c = subst AreNodes (sym c.in_ok-graph.ensures) c.requires.listed

pub flags_reached-requires-clause-acyclic : goal.flags_reached-requires-clause-acyclic
flags_reached-requires-clause-acyclic c = subst IsAcyclic (sym c.in_ok-graph.ensures) c.requires.acyclic

pub returns : goal.returns
returns c =
    let dicts = map dict_term c.args.dicts.now in
    let reached = subst (λ graph. TellsReached graph c.as_slice.result.now c.in_ok-inherited.inherited.items) c.in_ok-graph.ensures c.in_ok-inherited.ensures in
    let told = subst (λ flags. TellsReached (dictionary_parents dicts) flags c.in_ok-inherited.inherited.items) c.as_slice.ensures.value reached in
    record { tells = tells_required dicts c.in_ok-own.own.items c.in_ok-inherited.inherited.items c.in_ok-own.ensures told }
