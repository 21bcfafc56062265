use Rattle.std.proofs.Common.{◌≡◌, ◌<◌, List, length, map, get_or, ap, sym, subst, ◌∙◌}
use Rattle.std.specs.Prelude.{ℕ, slice_set, slice_get, option_map, Some}
use Rattle.std.proofs.lemmas.List.{map-set, length-map}
use Rattle.std.proofs.lemmas.Option.{slice_get-map, slice_get-get_or}
use Rattle.widl_idl.specs.declared.types.IdlType.{IdlType}
use Rattle.widl_idl.specs.Terms.{type_term, type_terms}
use Rattle.widl_idl.proofs.types.IdlTypes.replace.Goals as goal

-- the type at a place, as the list of the terms has it
at_place : (xs : List IdlType) (place : ℕ) (t u : IdlType) → place < length (map type_term xs) → u ≡ get_or xs place u → t ≡ u → slice_get (map type_term xs) place ≡ Some (type_term t)
at_place xs place t u below is same =
    let within : place < length xs = subst (λ n. place < n) (length-map xs type_term) below in
    slice_get-map type_term xs place ∙ ap (option_map type_term) (slice_get-get_or xs place u within) ∙ ap (λ v. Some (type_term v)) (sym is ∙ sym same)

pub returns-clause-list : goal.returns-clause-list
returns-clause-list c = map-set type_term c.args.self.now.items.items c.args.place c.replace.new.dest ∙ ap (λ t. slice_set (type_terms c.args.self.now) c.args.place (type_term t)) c.replace.ensures.after

pub returns-clause-former : goal.returns-clause-former
returns-clause-former c = at_place c.args.self.now.items.items c.args.place c.replace.result c.index_mut.result.now c.requires c.index_mut.ensures.value c.replace.ensures.value
