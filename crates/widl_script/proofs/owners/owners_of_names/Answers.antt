use Rattle.std.proofs.Common.{◌≡◌, ◌+◌, ◌∙◌, ◌∷◌, [], ap, arith, length, map, refl, sym, ℕ}
use Rattle.widl_idl.specs.DefinitionTerms.{defs_term, space_term}
use Rattle.widl_script_tree.specs.Tables.{key_at}
use Rattle.widl_script.specs.Owners.{owner_there}
use Rattle.widl_script.proofs.OwnerNumbers.{by_number, named_step}
use Rattle.widl_script.proofs.owners.owners_of_names.Goals as goal

pub names-preserved : goal.names-preserved
names-preserved c = λ other.
    let spaces = (defs_term c.args.list.now).spaces in
    let name = c.as_slice-in-names.result.now in
    named_step (λ (n : ℕ). owner_there spaces (key_at c.args.tables.now n)) _ _ _ other c.names.number (c.in_ok-add_name.ensures other)
    (c.in_ok-spaces.ensures.owners name ∙ ap (λ ss. owner_there (map space_term ss) name) c.as_slice.ensures
    ∙ ap (owner_there spaces) (c.as_slice-in-names.ensures ∙ c.name.ensures)) (c.names.invariant other)

pub returns : goal.returns
returns c = λ number.
    let list = defs_term c.args.list.now in
    let end : c.names.number ≡ length c.args.tables.now.names = omega (arith, c.names-test.false, c.names.auto.number-end, c.name_count-number-end.ensures) in
    c.names.invariant number
    ∙ by_number c.args.tables.now list (owner_there list.spaces) number c.names.number end (λ text. refl)
    (λ unit. sym (ap (λ ss. owner_there (map space_term ss) ((65536 + unit) ∷ [])) c.as_slice.ensures) ∙ c.in_ok-spaces.ensures.none unit) c.requires.rules
