use Rattle.std.proofs.Common.{◌≡◌, ◌≤◌, ◌+◌, length, map, drop}
use Rattle.widl_idl.specs.DefinitionTerms.{arg_term}
use Rattle.widl_store.specs.Realm.{needed}
use Rattle.widl_store.proofs.functions.needed.Given as goal

abbrev pub invariant-loop-place : goal.invariant-loop-place
invariant-loop-place l = (l.place + l.count ≤ length l.args) × (l.count ≡ needed (map arg_term (drop l.place l.args)))

abbrev pub decreases-loop-place : goal.decreases-loop-place
decreases-loop-place l = l.place
