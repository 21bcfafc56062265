use Rattle.std.proofs.Common.{◌≡◌, ◌<◌, None, Some, length, option_map, slice_get, rules, arith, ap, sym, ◌∙◌, subst}
use Rattle.std.proofs.lemmas.Option.{get_or_from_slice_get, slice_get_within}
use Rattle.widl_idl.specs.Meanings.{kind_of}
use Rattle.widl_idl.specs.declared.types.IdlType.{the_lemmas}
use Rattle.widl_idl.specs.declared.types.IdlType.TheVariants.{Any}
use Rattle.widl_idl.specs.PlainTrees.{definition_kind_of, plain_definitions}
use Rattle.widl_idl.specs.Terms.{AnyType, type_term}
use Rattle.widl_idl.specs.WrittenTypes.{number_among, type_of_kind, type_of_meaning}
use Rattle.widl_names.specs.KindNumbers.{AreNumbers}
use Rattle.widl_names.specs.TypeUses.{without_parts}
use Rattle.widl_names.proofs.KindNumbers.{number_found}
use Rattle.widl_names.proofs.resolver.Resolver.numbered_type.Goals as goal

pub index-requires : goal.index-requires
index-requires c =
    let numbers = c.self.inside.kinds.numbers.items in
    let definitions = plain_definitions c.args.self.now in
    let view : c.self.inside.meanings ≡ c.args.self.now = c.self.view_is in
    let kind = kind_of (definition_kind_of c.in-Some.definition.now) in
    let seen : option_map (λ d. d.kind) (slice_get definitions c.args.number) ≡ Some (definition_kind_of c.in-Some.definition.now)
    = ap (λ ds. option_map (λ d. d.kind) (slice_get (plain_definitions ds) c.args.number)) (sym (c.all.ensures ∙ view)) ∙ sym c.kind_at.ensures ∙ ap (option_map (λ k. definition_kind_of k.now)) c.in-Some.is in
    let found = number_found definitions numbers c.args.number kind (subst (λ ds. AreNumbers (plain_definitions ds) numbers) view c.self.invariant.0) (ap (option_map kind_of) seen) in
    let below : c.args.number < length numbers = slice_get_within numbers c.args.number (number_among definitions kind c.args.number) found in
    omega arith

pub returns-in-None : goal.returns-in-None
returns-in-None c =
    let definitions = plain_definitions c.args.self.now in
    let view : c.self.inside.meanings ≡ c.args.self.now = c.self.view_is in
    let seen : option_map (λ d. d.kind) (slice_get definitions c.args.number) ≡ None
    = ap (λ ds. option_map (λ d. d.kind) (slice_get (plain_definitions ds) c.args.number)) (sym (c.all.ensures ∙ view)) ∙ sym c.kind_at.ensures ∙ ap (option_map (λ k. definition_kind_of k.now)) c.in-None.is in
    let any : type_term Any ≡ AnyType = search (rules, the_lemmas) in
    any ∙ ap (λ k. without_parts (type_of_meaning definitions (Some c.args.number) (option_map kind_of k))) (sym seen)

pub returns-in-Some : goal.returns-in-Some
returns-in-Some c =
    let numbers = c.self.inside.kinds.numbers.items in
    let definitions = plain_definitions c.args.self.now in
    let view : c.self.inside.meanings ≡ c.args.self.now = c.self.view_is in
    let kind = kind_of (definition_kind_of c.in-Some.definition.now) in
    let seen : option_map (λ d. d.kind) (slice_get definitions c.args.number) ≡ Some (definition_kind_of c.in-Some.definition.now)
    = ap (λ ds. option_map (λ d. d.kind) (slice_get (plain_definitions ds) c.args.number)) (sym (c.all.ensures ∙ view)) ∙ sym c.kind_at.ensures ∙ ap (option_map (λ k. definition_kind_of k.now)) c.in-Some.is in
    let found = number_found definitions numbers c.args.number kind (subst (λ ds. AreNumbers (plain_definitions ds) numbers) view c.self.invariant.0) (ap (option_map kind_of) seen) in
    c.type_of_kind.ensures
    ∙ ap (λ k. without_parts (type_of_kind k c.index.result.now)) c.kind_of.ensures
    ∙ ap (λ n. without_parts (type_of_kind kind n)) (c.index.ensures ∙ get_or_from_slice_get numbers c.args.number (number_among definitions kind c.args.number) c.index.result.now found)
    ∙ ap (λ k. without_parts (type_of_meaning definitions (Some c.args.number) (option_map kind_of k))) (sym seen)
