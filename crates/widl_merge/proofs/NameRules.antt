-- What the rules on names ask of one name.
use Rattle.std.proofs.Common.{◌≡◌, ℕ, Bool, true, cond, List, take, Option, None, Some, sym, subst, ◌∙◌, is_some}
use Rattle.widl_idl.specs.declared.kind.Kind.{Kind}
use Rattle.widl_idl.specs.declared.violation.Violation.{Violation}
use Rattle.widl_idl.specs.PlainTypes.{PlainName}
use Rattle.widl_idl.specs.PlainTrees.{PlainDefinition}
use Rattle.widl_idl.specs.First.{FirstWhere, violation_at}
use Rattle.widl_idl.specs.Meanings.{main_name, meaning}
use Rattle.widl_idl.specs.MergingRules.{AtName, IsSecondDefinition}
use Rattle.widl_idl.proofs.Order.{one_place}
use Rattle.widl_merge.specs.NameRules.{MeansOther}
use Rattle.widl_names.specs.Numbers.{is_below}
use Rattle.widl_names.proofs.NameMeanings.{meaning_taken}

-- the first violation for the name and the kind that were computed before
pub asked_of : (definitions : List PlainDefinition) (kind of_kind : Kind) (name of_name : Option PlainName) (found : Option Violation) → kind ≡ of_kind → name ≡ of_name → FirstWhere (MeansOther definitions kind name) found → FirstWhere (MeansOther definitions of_kind of_name) found
asked_of definitions kind of_kind name of_name found k n l = subst (λ m. FirstWhere (MeansOther definitions of_kind m) found) n (subst (λ q. FirstWhere (MeansOther definitions q name) found) k l)

-- a main definition's name means one of the first definitions where the number of its meaning is below their count
pub second_here : (definitions : List PlainDefinition) (count : ℕ) (d : PlainDefinition) (name : PlainName) (b : Bool) (found : Option Violation) → Some name ≡ main_name d.kind → b ≡ is_below count (meaning definitions name.text) → found ≡ cond b (Some (violation_at name.at)) None → FirstWhere (IsSecondDefinition (take count definitions) d) found
second_here definitions count d name b found named tested is =
    let before = take count definitions in
    let same : b ≡ is_some (meaning before name.text) = tested ∙ sym (meaning_taken count definitions name.text) in
    subst (λ m. FirstWhere (AtName m (λ n. is_some (meaning before n.text) ≡ true)) found) named
    (one_place (is_some (meaning before name.text) ≡ true) name.at b found (λ h. sym same ∙ h) (λ h q. absurd (cc)) is)
