-- For proofs alone. The values of enumerations as their texts.
use Rattle.std.specs.Prelude.{ℕ, List, map}
use Rattle.widl_idl.specs.declared.tree.enumerations.EnumerationValue.{EnumerationValue}
use Rattle.widl_idl.specs.PlainTrees.{enumeration_value_of}
use Rattle.widl_idl.specs.WrittenLiterals.{units_of}

-- the texts of values
abbrev pub texts_of : List EnumerationValue → List (List ℕ)
texts_of values = map (λ v. units_of v.text) (map enumeration_value_of values)
