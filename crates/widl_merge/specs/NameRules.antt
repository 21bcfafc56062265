-- For proofs alone. What the rules on names ask of one name.
use Rattle.std.specs.Prelude.{◌≢◌, List, Option, Some}
use Rattle.widl_idl.specs.declared.kind.Kind.{Kind}
use Rattle.widl_idl.specs.declared.violation.Violation.{Violation}
use Rattle.widl_idl.specs.PlainTypes.{PlainName}
use Rattle.widl_idl.specs.PlainTrees.{PlainDefinition}
use Rattle.widl_idl.specs.Meanings.{meant_kind}
use Rattle.widl_idl.specs.MergingRules.{AtName}

-- the name, if there is one, means no definition of the kind: at the name
abbrev pub MeansOther : List PlainDefinition → Kind → Option PlainName → Violation → Type 0
MeansOther definitions kind name s = AtName name (λ n. meant_kind definitions n.text ≢ Some kind) s
