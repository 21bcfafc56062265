use Rattle.std.proofs.Common.{ap, refl, Some, ◌∙◌}
use Rattle.std.proofs.lemmas.Result.{on_ok_weaker}
use Rattle.widl_idl.specs.declared.enumeration.Choice.{Choice}
use Rattle.widl_idl.specs.DefinitionTerms.{callback_term}
use Rattle.widl_idl.specs.MergedList.{callback_interface_of, callback_of, enumeration_of}
use Rattle.widl_idl.specs.PlainTrees.{definition_kind_of, plain_definitions}
use Rattle.widl_merge.specs.PlainMain.{plain_callback, plain_callback_interface, plain_dictionary, plain_enumeration, plain_interface, plain_namespace}
use Rattle.widl_merge.proofs.Growing.{callback_grows, callback_interface_grows, dictionary_grows, enumeration_grows, interface_grows, namespace_grows, pushed_adds}
use Rattle.widl_merge.proofs.defs.add_definition.Goals as goal

pub returns-in-Interface : goal.returns-in-Interface
returns-in-Interface c =
    on_ok_weaker c.add_interface.result
    (λ adds. interface_grows (plain_definitions c.args.sources.now) (definition_kind_of c.args.kind.now) c.args.defs.now (plain_interface c.in-Interface.interface) c.add_interface.new.ifaces (ap definition_kind_of c.in-Interface.is) adds) c.add_interface.ensures

pub returns-in-Namespace : goal.returns-in-Namespace
returns-in-Namespace c =
    on_ok_weaker c.add_namespace.result
    (λ adds. namespace_grows (plain_definitions c.args.sources.now) (definition_kind_of c.args.kind.now) c.args.defs.now (plain_namespace c.in-Namespace.namespace) c.add_namespace.new.spaces (ap definition_kind_of c.in-Namespace.is) adds) c.add_namespace.ensures

pub returns-in-Dictionary : goal.returns-in-Dictionary
returns-in-Dictionary c =
    on_ok_weaker c.add_dictionary.result
    (λ adds. dictionary_grows (plain_definitions c.args.sources.now) (definition_kind_of c.args.kind.now) c.args.defs.now (plain_dictionary c.in-Dictionary.dictionary) c.add_dictionary.new.dicts (ap definition_kind_of c.in-Dictionary.is) adds) c.add_dictionary.ensures

pub returns-in_ok-meant-in-Callback : goal.returns-in_ok-meant-in-Callback
returns-in_ok-meant-in-Callback c =
    let all = plain_definitions c.args.sources.now in
    let plain = plain_callback c.in-Callback.callback in
    let meant = c.in_ok-meant-in-Callback.meant in
    on_ok_weaker c.push.result
    (λ adds. callback_grows all (definition_kind_of c.args.kind.now) c.args.defs.now plain c.push.new.self (ap definition_kind_of c.in-Callback.is) adds)
    (pushed_adds callback_term (callback_of all plain) (Some (callback_of all plain)) meant c.args.defs.now.callback_fns c.push.new.self c.push.result c.push.ensures.ok
    (c.in_ok-meant-in-Callback.ensures ∙ ap (λ ds. callback_of (plain_definitions ds) plain) c.resolver.ensures) refl)

pub returns-in_ok-meant-in-CallbackInterface : goal.returns-in_ok-meant-in-CallbackInterface
returns-in_ok-meant-in-CallbackInterface c =
    let all = plain_definitions c.args.sources.now in
    let plain = plain_callback_interface c.in-CallbackInterface.callback in
    let meant = c.in_ok-meant-in-CallbackInterface.meant in
    on_ok_weaker c.push-in-CallbackInterface.result
    (λ adds. callback_interface_grows all (definition_kind_of c.args.kind.now) c.args.defs.now plain c.push-in-CallbackInterface.new.self (ap definition_kind_of c.in-CallbackInterface.is) adds)
    (pushed_adds callback_term (callback_interface_of all plain) (Some (callback_interface_of all plain)) meant c.args.defs.now.callback_ifaces c.push-in-CallbackInterface.new.self c.push-in-CallbackInterface.result c.push-in-CallbackInterface.ensures.ok
    (c.in_ok-meant-in-CallbackInterface.ensures ∙ ap (λ ds. callback_interface_of (plain_definitions ds) plain) c.resolver-in-CallbackInterface.ensures) refl)

pub returns-in_ok-enumeration_meant-in-Enumeration : goal.returns-in_ok-enumeration_meant-in-Enumeration
returns-in_ok-enumeration_meant-in-Enumeration c =
    let all = plain_definitions c.args.sources.now in
    let plain = plain_enumeration c.in-Enumeration.enumeration in
    let meant = c.in_ok-enumeration_meant-in-Enumeration.field-0 in
    on_ok_weaker c.push-in-Enumeration.result
    (λ adds. enumeration_grows all (definition_kind_of c.args.kind.now) c.args.defs.now plain c.push-in-Enumeration.new.self (ap definition_kind_of c.in-Enumeration.is) adds)
    (pushed_adds (λ (x : Choice). x) (enumeration_of all plain) (Some (enumeration_of all plain)) meant c.args.defs.now.choices c.push-in-Enumeration.new.self c.push-in-Enumeration.result c.push-in-Enumeration.ensures.ok
    c.in_ok-enumeration_meant-in-Enumeration.ensures refl)
