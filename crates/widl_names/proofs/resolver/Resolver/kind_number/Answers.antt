use Rattle.std.proofs.Common.{◌≡◌, ◌<◌, Some, length, arith, ap, sym, ◌∙◌, subst}
use Rattle.std.proofs.lemmas.Option.{get_or_from_slice_get, slice_get_within}
use Rattle.widl_idl.specs.Meanings.{meaning}
use Rattle.widl_idl.specs.MergedList.{number_of_meaning}
use Rattle.widl_idl.specs.PlainTrees.{plain_definitions}
use Rattle.widl_idl.specs.WrittenTypes.{number_among}
use Rattle.widl_names.specs.KindNumbers.{AreNumbers}
use Rattle.widl_names.proofs.KindNumbers.{number_meant}
use Rattle.widl_names.proofs.resolver.Resolver.kind_number.Goals as goal

pub index-requires : goal.index-requires
index-requires c =
    let numbers = c.self.inside.kinds.numbers.items in
    let definitions = plain_definitions c.args.self.now in
    let view : c.self.inside.meanings ≡ c.args.self.now = c.self.view_is in
    let means = ap (λ ds. meaning (plain_definitions ds) c.args.text.now) (sym view) ∙ sym c.number.ensures ∙ c.in-Some.is in
    let found = number_meant definitions numbers c.args.text.now c.in-Some.number c.args.kind (subst (λ ds. AreNumbers (plain_definitions ds) numbers) view c.self.invariant.0) means c.requires in
    let below : c.in-Some.number < length numbers = slice_get_within numbers c.in-Some.number (number_among definitions c.args.kind c.in-Some.number) found in
    omega arith

pub returns-in-Some : goal.returns-in-Some
returns-in-Some c =
    let numbers = c.self.inside.kinds.numbers.items in
    let definitions = plain_definitions c.args.self.now in
    let view : c.self.inside.meanings ≡ c.args.self.now = c.self.view_is in
    let means = ap (λ ds. meaning (plain_definitions ds) c.args.text.now) (sym view) ∙ sym c.number.ensures ∙ c.in-Some.is in
    let found = number_meant definitions numbers c.args.text.now c.in-Some.number c.args.kind (subst (λ ds. AreNumbers (plain_definitions ds) numbers) view c.self.invariant.0) means c.requires in
    ap Some (c.index.ensures ∙ get_or_from_slice_get numbers c.in-Some.number (number_among definitions c.args.kind c.in-Some.number) c.index.result.now found) ∙ ap (number_of_meaning definitions c.args.kind) (sym means)
