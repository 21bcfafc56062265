use Rattle.std.proofs.Common.{◌≡◌, rules, false, subst, sym}
use Rattle.std.proofs.lemmas.Result.{IfOk-weaker}
use Rattle.std.specs.Prelude.{IfSome}
use Rattle.widl_idl.specs.declared.types.IdlType.{IdlType, the_lemmas}
use Rattle.widl_idl.specs.declared.types.IdlType.TheVariants.{Int}
use Rattle.widl_idl.specs.Terms.{TypeTerm, IntegerType, NullableType, StringType, UnionType, packed, type_term, type_terms}
use Rattle.widl_convert.specs.declared.scalar_types.ScalarType.{ScalarType}
use Rattle.widl_convert.specs.AtOnce.{AreSame, scalar_type}
use Rattle.widl_convert.proofs.ScalarTypes.{nullable_same, same_back}
use Rattle.widl_convert.proofs.scalar_types.type_for_given.Goals as goal

pub returns-in-Integer-clause-same : goal.returns-in-Integer-clause-same
returns-in-Integer-clause-same c =
    let union = UnionType (packed (type_terms c.args.members.now)) in
    let same : AreSame c.args.given union (IntegerType c.in-Integer.kind c.in-Integer.mode) = subst (λ (s : ScalarType). IfSome (scalar_type s) (AreSame c.args.given union)) c.in-Integer.is c.scalar_of_union.ensures in
    let is : type_term (Int c.in-Integer.kind c.in-Integer.mode) ≡ IntegerType c.in-Integer.kind c.in-Integer.mode = search (rules, the_lemmas) in
    subst (λ (t : TypeTerm). AreSame c.args.given t union) (sym is) (same_back c.args.given union (IntegerType c.in-Integer.kind c.in-Integer.mode) same)

pub returns-in-Text-clause-same : goal.returns-in-Text-clause-same
returns-in-Text-clause-same c =
    let union = UnionType (packed (type_terms c.args.members.now)) in
    let same : AreSame c.args.given union (StringType c.in-Text.kind false) = subst (λ (s : ScalarType). IfSome (scalar_type s) (AreSame c.args.given union)) c.in-Text.is c.scalar_of_union.ensures in
    IfOk-weaker c.nullable_text.result (λ (t : IdlType). type_term t ≡ NullableType (StringType c.in-Text.kind false)) (λ (t : IdlType). AreSame c.args.given (type_term t) union)
    (λ t is. subst (λ (u : TypeTerm). AreSame c.args.given u union) (sym is) (nullable_same c.args.given (StringType c.in-Text.kind false) union (same_back c.args.given union (StringType c.in-Text.kind false) same))) c.nullable_text.ensures
