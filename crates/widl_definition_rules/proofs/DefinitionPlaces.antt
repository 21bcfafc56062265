-- Annotations of a definition and its members, operations of a callback interface, and ellipses before the last argument.
use Rattle.std.proofs.Common.{◌≡◌, ℕ, ◌+◌, ◌<◌, ◌++◌, Bool, true, false, cond, ◌||◌, List, [], ◌∷◌, length, take, get_or, flat_map, is_some, Option, None, Some, arith, refl, sym, ap, subst, ◌∙◌}
use Rattle.std.specs.List.{cons_option, list_any}
use Rattle.std.proofs.lemmas.List.{length-append, map-append}
use Rattle.std.proofs.lemmas.List.Elements.{filter_map-append}
use Rattle.widl_idl.specs.declared.violation.Violation.{Violation}
use Rattle.widl_idl.specs.declared.tree.arguments.Argument.{Argument}
use Rattle.widl_idl.specs.declared.tree.members.Member.{Member}
use Rattle.widl_idl.specs.MergedMembers.{operation_in, operations_in}
use Rattle.widl_names.proofs.PlainLists.{mapped_more}
use Rattle.widl_definition_rules.specs.WrittenLists.{has_ellipsis}
use Rattle.widl_idl.specs.First.{FirstWhere, Somewhere, earlier}
use Rattle.widl_idl.specs.PlainTrees.{PlainArgument, PlainDefinition, PlainMember, PlainOperation, argument_of, arguments_of, member_of, members_of}
use Rattle.widl_idl.specs.PlainTypes.{PlainAttribute}
use Rattle.widl_idl.proofs.Order.{first_same}
use Rattle.widl_idl.proofs.Somewhere.{first_flat, one_item, somewhere_both, somewhere_one}
use Rattle.widl_overload.specs.rules.DefinitionRules.{AnnotatesNoType, IsAnnotation, attributes_of_no_type, has_early_ellipsis, is_variadic, members_written}

abbrev OfMember : PlainMember → Violation → Type 0
OfMember m s = Somewhere IsAnnotation (attributes_of_no_type m.attributes m.kind) s

abbrev member_lists : PlainMember → List (List PlainAttribute)
member_lists m = attributes_of_no_type m.attributes m.kind ∷ []

to_list : (members : List PlainMember) (s : Violation) → Somewhere OfMember members s → Somewhere (λ (m : PlainMember). Somewhere (Somewhere IsAnnotation) (member_lists m)) members s
to_list members s h = record { item = h.item; listed = h.listed; breaks = record { item = attributes_of_no_type h.item.attributes h.item.kind; listed = (0, omega arith, refl); breaks = h.breaks } }

from_list : (members : List PlainMember) (s : Violation) → Somewhere (λ (m : PlainMember). Somewhere (Somewhere IsAnnotation) (member_lists m)) members s → Somewhere OfMember members s
from_list members s h = record { item = h.item; listed = h.listed; breaks = one_item (Somewhere IsAnnotation) (attributes_of_no_type h.item.attributes h.item.kind) s h.breaks }

-- the least of a definition is the lesser of its own and that of its members
pub definition_annotated : (d : PlainDefinition) (attributes : List PlainAttribute) (members : List PlainMember) (own inner found : Option Violation) → attributes ≡ d.attributes → members ≡ members_written d.kind → FirstWhere (Somewhere IsAnnotation attributes) own → FirstWhere (Somewhere OfMember members) inner → found ≡ earlier own inner → FirstWhere (AnnotatesNoType d) found
definition_annotated d attributes members own inner found same are o i e =
    let of_members : FirstWhere (Somewhere OfMember (members_written d.kind)) inner = subst (λ ms. FirstWhere (Somewhere OfMember ms) inner) are i in
    let lists : FirstWhere (Somewhere (λ (m : PlainMember). Somewhere (Somewhere IsAnnotation) (member_lists m)) (members_written d.kind)) inner =
    first_same (Somewhere OfMember (members_written d.kind)) (Somewhere (λ (m : PlainMember). Somewhere (Somewhere IsAnnotation) (member_lists m)) (members_written d.kind)) inner (to_list (members_written d.kind)) (from_list (members_written d.kind)) of_members in
    subst (FirstWhere (AnnotatesNoType d)) (sym e)
    (somewhere_both (Somewhere IsAnnotation) (d.attributes ∷ []) (flat_map member_lists (members_written d.kind)) own inner
    (somewhere_one (Somewhere IsAnnotation) d.attributes own (subst (λ xs. FirstWhere (Somewhere IsAnnotation xs) own) same o))
    (first_flat (Somewhere IsAnnotation) member_lists (members_written d.kind) inner lists))

-- whether an argument other than the last has an ellipsis, where the last is known
early_last : (xs : List PlainArgument) (last : PlainArgument) → has_early_ellipsis (xs ++ last ∷ []) ≡ list_any (λ (a : PlainArgument). is_variadic a.kind) xs
early_last [] last = refl
early_last (a ∷ []) last = refl
early_last (a ∷ b ∷ more) last = ap (λ e. is_variadic a.kind || e) (early_last (b ∷ more) last)

any_mapped : (xs : List Argument) → list_any (λ (a : PlainArgument). is_variadic a.kind) (arguments_of xs) ≡ list_any has_ellipsis xs
any_mapped [] = refl
any_mapped (x ∷ xs) = ap (λ e. has_ellipsis x || e) (any_mapped xs)

-- the same of arguments of a tree
pub early_found : (xs others : List Argument) (last : Argument) (found : Bool) → xs ≡ others ++ last ∷ [] → found ≡ list_any has_ellipsis others → found ≡ has_early_ellipsis (arguments_of xs)
early_found xs others last found split e =
    e ∙ sym (any_mapped others) ∙ sym (early_last (arguments_of others) (argument_of last))
    ∙ ap has_early_ellipsis (sym (ap arguments_of split ∙ map-append argument_of others (last ∷ [])))

-- the operations of members, with one member more
operations_more : (members : List Member) (i : ℕ) (m : Member) → i < length members → m ≡ get_or members i m → operations_in (members_of (take (i + 1) members)) ≡ operations_in (members_of (take i members)) ++ operations_in (member_of m ∷ [])
operations_more members i m below is = ap operations_in (mapped_more member_of members i m below is) ∙ filter_map-append (λ (x : PlainMember). operation_in x.kind) (members_of (take i members)) (member_of m ∷ [])

one_operation : (m : PlainMember) (found : Option PlainOperation) (b : Bool) → operation_in m.kind ≡ found → b ≡ is_some found → length (operations_in (m ∷ [])) ≡ cond b 1 0
one_operation m None b is e = ap (λ o. length (cons_option o [])) is ∙ ap (λ t. cond t 1 0) (sym e)
one_operation m (Some o) b is e = ap (λ o. length (cons_option o [])) is ∙ ap (λ t. cond t 1 0) (sym e)

one_more : (n : ℕ) (b : Bool) → n + cond b 1 0 ≡ cond b (n + 1) n
one_more n true = refl
one_more n false = omega arith

-- their number, as the program counts them
pub count_more : (members : List Member) (i : ℕ) (m : Member) (old : ℕ) (b : Bool) → i < length members → m ≡ get_or members i m → b ≡ is_some (operation_in (member_of m).kind) → old ≡ length (operations_in (members_of (take i members))) → cond b (old + 1) old ≡ length (operations_in (members_of (take (i + 1) members)))
count_more members i m old b below is e was =
    sym (ap length (operations_more members i m below is) ∙ length-append (operations_in (members_of (take i members))) (operations_in (member_of m ∷ []))
    ∙ ap (λ n. length (operations_in (members_of (take i members))) + n) (one_operation (member_of m) (operation_in (member_of m).kind) b refl e) ∙ ap (λ n. n + cond b 1 0) (sym was) ∙ one_more old b)
