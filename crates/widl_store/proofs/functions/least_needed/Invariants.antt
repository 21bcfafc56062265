use Rattle.std.proofs.Common.{◌≡◌, map, take}
use Rattle.std.specs.Prelude.{fold, min}
use Rattle.widl_idl.specs.DefinitionTerms.{sig_term}
use Rattle.widl_store.specs.Realm.{needed}
use Rattle.widl_store.proofs.functions.least_needed.Given as goal

abbrev pub invariant-loop-sig : goal.invariant-loop-sig
invariant-loop-sig l = l.least ≡ fold min l.fn.first (map (λ s. needed s.args) (map sig_term (take l.sig-index l.sigs)))
