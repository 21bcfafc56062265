-- The depths of types by a table of the depths of typedefs.
use Rattle.std.proofs.Common.{◌≡◌, ℕ, ◌+◌, ◌<◌, Bool, true, false, cond, List, length, Option, None, Some, option_map, slice_get, arith, refl, sym, ap, ◌∙◌}
use Rattle.std.specs.Prelude.{option_and_then}
use Rattle.widl_idl.specs.declared.violation.Violation.{Violation}
use Rattle.widl_idl.specs.First.{FirstWhere, violation_at}
use Rattle.widl_idl.specs.Meanings.{meaning, meant}
use Rattle.widl_idl.specs.MergingRules.{NestsDeep}
use Rattle.widl_idl.specs.Nesting.{depth_of, meant_depth, named_depth, type_depth}
use Rattle.widl_idl.specs.PlainTypes.{PlainName, PlainType, plain_type}
use Rattle.widl_idl.specs.PlainTrees.{PlainDefinition, PlainKind, TypedefDefinition}
use Rattle.widl_idl.specs.Nodes.{TypeNode}
use Rattle.widl_idl.proofs.Order.{one_place}
use Rattle.widl_text.specs.declared.place.Place.{Place}
use Rattle.widl_merge.specs.Depths.{capped, is_deep, AreCapped, TellsDepths, kept_depth, table_depth}
use Rattle.widl_merge.proofs.CappedDepths.{type_same}

-- what the table has for a typedef is at most 17
kept_capped : (depths : List (Option ℕ)) (number : Option ℕ) → AreCapped depths → capped (kept_depth depths number) ≡ kept_depth depths number
kept_capped depths None all = refl
kept_capped depths (Some n) all = all.same n

meant_capped : (kept : Option ℕ) (kind : Option PlainKind) → capped kept ≡ kept → capped (meant_depth (λ ty. kept) kind) ≡ meant_depth (λ ty. kept) kind
meant_capped kept None same = refl
meant_capped kept (Some (TypedefDefinition t)) same = same
meant_capped kept (Some kind) same = let earliest : capped (meant_depth (λ ty. kept) (Some kind)) ≡ meant_depth (λ ty. kept) (Some kind) = refl in earliest

pub table_capped : (definitions : List PlainDefinition) (depths : List (Option ℕ)) (name : PlainName) → AreCapped depths → capped (table_depth definitions depths name) ≡ table_depth definitions depths name
unfolding table_depth
table_capped definitions depths name all = meant_capped (kept_depth depths (meaning definitions name.text)) (meant definitions name.text) (kept_capped depths (meaning definitions name.text) all)

-- the depth of the type that a name means, by the number that it means
pub table_is : (definitions : List PlainDefinition) (depths : List (Option ℕ)) (name : PlainName) (text : List ℕ) (number result : Option ℕ) → AreCapped depths → text ≡ name.text → number ≡ meaning definitions text → result ≡ meant_depth (λ ty. kept_depth depths number) (option_map (λ d. d.kind) (option_and_then (slice_get definitions) number)) → result ≡ capped (table_depth definitions depths name)
unfolding table_depth
table_is definitions depths name text number result all spelled means is =
    is ∙ ap (λ m. meant_depth (λ ty. kept_depth depths m) (option_map (λ d. d.kind) (option_and_then (slice_get definitions) m))) means
    ∙ ap (λ x. meant_depth (λ ty. kept_depth depths (meaning definitions x)) (meant definitions x)) spelled ∙ sym (table_capped definitions depths name all)

deep_within : (d : Option ℕ) → is_deep (capped d) ≡ true → (depth : ℕ) × (d ≡ Some depth) × (16 < depth)
deep_within None e = absurd (cc)
deep_within (Some n) e = (n, refl, grind arith)

not_deep : (d : Option ℕ) (depth : ℕ) → is_deep (capped d) ≡ false → d ≡ Some depth → 16 < depth → ⊥
not_deep None depth e f l = absurd (cc)
not_deep (Some n) depth e f l = let same : n ≡ depth = some_is f in grind arith
  where
    some_is : Some n ≡ Some depth → n ≡ depth
    some_is g = (cc)

-- where a type begins
abbrev pub place_of : PlainType → Place
place_of (plain_type at form question) = at

-- at a type's first token, by the depth that the table gives
pub deep_here : (definitions : List PlainDefinition) (depths : List (Option ℕ)) (t : PlainType) (depth : Option ℕ) (b : Bool) (found : Option Violation) → AreCapped depths → TellsDepths definitions depths → depth ≡ capped (type_depth (table_depth definitions depths) t) → b ≡ is_deep depth → found ≡ cond b (Some (violation_at (place_of t))) None → FirstWhere (NestsDeep definitions (TypeNode t)) found
deep_here definitions depths (plain_type at form question) depth b found all tells depth_is b_is is =
    one_place ((deep : ℕ) × (depth_of definitions t ≡ Some deep) × (16 < deep)) at b found
    (λ e. deep_within (depth_of definitions t) (sym tested ∙ e))
    (λ e h. not_deep (depth_of definitions t) h.0 (sym tested ∙ e) h.1 h.2)
    is
  where
    t : PlainType
    t = plain_type at form question

    agrees : (name : PlainName) → capped (named_depth definitions (length definitions + 1) name) ≡ capped (table_depth definitions depths name)
    agrees name = tells.tells name ∙ sym (table_capped definitions depths name all)

    tested : b ≡ is_deep (capped (depth_of definitions t))
    tested = b_is ∙ ap is_deep (depth_is ∙ sym (type_same (named_depth definitions (length definitions + 1)) (table_depth definitions depths) t (λ name c. agrees name)))
