use Rattle.std.proofs.Common.{◌≡◌, ◌||◌, List, ℕ, take}
use Rattle.std.specs.Prelude.{bytes_eq}
use Rattle.std.specs.List.{list_any}
use Rattle.widl_idl.specs.DefinitionTerms.{IfaceTerm, SpaceTerm, defs_term}
use Rattle.widl_script_rules.specs.Surroundings.{has_key}
use Rattle.widl_script_rules.proofs.owner_names.owner_names.Given as goal

abbrev pub invariant-ifaces : goal.invariant-ifaces
invariant-ifaces l = (text : List ℕ) → has_key l.names.keys text ≡ list_any (λ (i : IfaceTerm). bytes_eq text i.name) (take l.iface-index (defs_term l.list).ifaces)

abbrev pub invariant-spaces : goal.invariant-spaces
invariant-spaces l = (text : List ℕ) → has_key l.names.keys text ≡
    (list_any (λ (i : IfaceTerm). bytes_eq text i.name) (defs_term l.list).ifaces || list_any (λ (n : SpaceTerm). bytes_eq text n.name) (take l.space-index (defs_term l.list).spaces))
