use Rattle.std.proofs.Common.{◌∙◌, ap, map, subst, sym}
use Rattle.widl_idl.specs.DefinitionTerms.{space_term}
use Rattle.widl_store.specs.Bounds.{HasRoom}
use Rattle.widl_store.proofs.FirstObjects.{room_there}
use Rattle.widl_store.proofs.initial_store.realm.Goals as goal

pub store_over-requires : goal.store_over-requires
store_over-requires c =
    subst (λ spaces. HasRoom 18 (map space_term spaces)) (sym (c.as_slice.ensures ∙ ap (λ defs. defs.spaces) c.defs.ensures.defs)) (room_there (record { defs = c.args.list.now.defs; fragments = c.args.list.now.fragments }) c.defs.ensures.merged)
