use Rattle.std.proofs.Common.{◌≡◌, ◌||◌, true, false, IfOk, map, ap, sym, subst, ◌∙◌}
use Rattle.std.specs.List.{filter_map}
use Rattle.widl_idl.specs.DefinitionTerms.{defs_term, iface_term}
use Rattle.widl_idl.specs.Terms.{type_terms}
use Rattle.widl_overload.specs.sets.Distinct.{category}
use Rattle.widl_type_rules.specs.IndistinguishablePairs.{any_pair, are_related, clash, interface_number}
use Rattle.widl_type_rules.proofs.IndistinguishablePairs.{have_none, have_pair}
use Rattle.widl_type_rules.proofs.indistinguishable_members.have_indistinguishable.Goals as goal

pub returns-then-any_clash-clause-yes : goal.returns-then-any_clash-clause-yes
returns-then-any_clash-clause-yes c = λ e.
    let ifaces = (defs_term c.args.defs.now).ifaces in
    let types = type_terms c.args.types.now in
    let clashes : any_pair clash (map category types) ≡ true = sym c.any_clash.ensures ∙ c.if-any_clash.true in
    have_pair ifaces types c.requires.flat (ap (λ b. b || any_pair (are_related ifaces) (filter_map interface_number (map category types))) clashes)

pub returns-clause-yes : goal.returns-clause-yes
returns-clause-yes c = λ e.
    let ifaces = (defs_term c.args.defs.now).ifaces in
    let types = type_terms c.args.types.now in
    let told : true ≡ any_pair (are_related (map iface_term c.as_slice.result.now)) c.deref.result.now = subst (λ r. IfOk r (λ found. found ≡ any_pair (are_related (map iface_term c.as_slice.result.now)) c.deref.result.now)) e c.any_related.ensures in
    have_pair ifaces types c.requires.flat (ap (λ b. b || any_pair (are_related ifaces) (filter_map interface_number (map category types))) (sym c.any_clash.ensures ∙ c.if-any_clash.false)
    ∙ sym (told ∙ (λ j. any_pair (are_related (map iface_term (c.as_slice.ensures j))) ((c.deref.ensures.value ∙ c.in_ok-numbers.ensures) j))))

pub returns-clause-no : goal.returns-clause-no
returns-clause-no c = λ e.
    let ifaces = (defs_term c.args.defs.now).ifaces in
    let types = type_terms c.args.types.now in
    let told : false ≡ any_pair (are_related (map iface_term c.as_slice.result.now)) c.deref.result.now = subst (λ r. IfOk r (λ found. found ≡ any_pair (are_related (map iface_term c.as_slice.result.now)) c.deref.result.now)) e c.any_related.ensures in
    have_none ifaces types c.requires.flat (ap (λ b. b || any_pair (are_related ifaces) (filter_map interface_number (map category types))) (sym c.any_clash.ensures ∙ c.if-any_clash.false)
    ∙ sym (told ∙ (λ j. any_pair (are_related (map iface_term (c.as_slice.ensures j))) ((c.deref.ensures.value ∙ c.in_ok-numbers.ensures) j))))
