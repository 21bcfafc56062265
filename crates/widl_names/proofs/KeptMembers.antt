-- The members of the parts that are listed.
use Rattle.std.proofs.Common.{◌≡◌, ℕ, ◌++◌, Bool, true, false, cond, not, List, [], ◌∷◌, length, filter, flat_map, nat_eq, Some, arith, refl, sym, ap, ◌∙◌}
use Rattle.widl_idl.specs.declared.kind.Kind.{Kind}
use Rattle.widl_idl.specs.Meanings.{meaning, meant_kind}
use Rattle.widl_idl.specs.Parts.{members_in, merged_members, parts_of}
use Rattle.widl_idl.specs.PlainTrees.{PlainDefinition, PlainKind, PlainMember}
use Rattle.widl_names.specs.PartTables.{ListsParts, has_members, has_parts}

pub no_members : (members : List PlainMember) → not (nat_eq (length members) 0) ≡ false → members ≡ []
no_members [] e = refl
no_members (m ∷ members) e = absurd (grind arith)

members_by : (b : Bool) (part : PlainKind) (kept : List PlainKind) (rest : List PlainMember) → has_members part ≡ b → flat_map members_in kept ≡ rest → flat_map members_in (cond b (part ∷ kept) kept) ≡ members_in part ++ rest
members_by true part kept rest has e = ap (λ ms. members_in part ++ ms) e
members_by false part kept rest has e = e ∙ ap (λ ms. ms ++ rest) (sym (no_members (members_in part) has))

-- the members of the parts that have members are those of all parts
pub members_kept : (parts : List PlainKind) → flat_map members_in (filter has_members parts) ≡ flat_map members_in parts
members_kept [] = refl
members_kept (part ∷ parts) = members_by (has_members part) part (filter has_members parts) (flat_map members_in parts) refl (members_kept parts)

-- the members of the parts that are listed are the merged ones of the definition
pub merged_listed : (definitions : List PlainDefinition) (number : ℕ) (text : List ℕ) (kind : Kind) (parts : List PlainKind) → ListsParts definitions number parts → meaning definitions text ≡ Some number → meant_kind definitions text ≡ Some kind → has_parts kind ≡ true → flat_map members_in parts ≡ merged_members definitions kind text
merged_listed definitions number text kind parts lists means is has = ap (flat_map members_in) (lists text kind means is has) ∙ members_kept (parts_of definitions kind text)
