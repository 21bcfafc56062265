use Rattle.std.proofs.Common.{◌≡◌, map, take}
use Rattle.widl_idl.specs.declared.callback.Callback.{Callback}
use Rattle.widl_idl.specs.DefinitionTerms.{callback_term}
use Rattle.widl_script_rules.specs.Takes.{takes_of}
use Rattle.widl_script_rules.proofs.callbacks_and_pairs.all_takes.Given as goal

abbrev pub invariant-callbacks : goal.invariant-callbacks
invariant-callbacks l = l.all.items ≡ map (λ (c : Callback). takes_of (callback_term c).sig.args) (take l.callback-index l.callbacks)
