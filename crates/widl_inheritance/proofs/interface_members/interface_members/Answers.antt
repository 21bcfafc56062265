use Rattle.std.proofs.Common.{sym, ap, slice_get, option_map, ◌∙◌}
use Rattle.widl_idl.specs.PlainTrees.{PlainDefinition, plain_definitions}
use Rattle.widl_names.specs.Listings.{listed_members}
use Rattle.widl_inheritance.proofs.NumberedMembers.{none_there}
use Rattle.widl_inheritance.proofs.interface_members.interface_members.Goals as goal

pub returns-in-None : goal.returns-in-None
returns-in-None c =
    ap listed_members c.new.ensures.items
    ∙ sym (none_there (plain_definitions c.args.scope.now) c.args.number
    (ap (λ ds. option_map (λ (d : PlainDefinition). d.kind) (slice_get (plain_definitions ds) c.args.number)) (sym c.all.ensures.all) ∙ sym c.in-None.ensures))
