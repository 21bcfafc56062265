-- For proofs alone. The items of a container on its way to script, and their names, taken one after another.
use Rattle.std.proofs.Common.{◌≡◌, ℕ, suc, ◌+◌, ◌<◌, ◌≤◌, List, [], ◌∷◌, ◌++◌, drop, length, slice_get, slice_set, Some, refl, sym, ap, ◌∙◌, arith}
use Rattle.std.specs.declared.alloc.AllocError.{AllocError}
use Rattle.std.specs.Prelude.{Result, Ok, Err, IfOk}
use Rattle.std.proofs.Math.Seq.{drop-cons}
use Rattle.std.proofs.lemmas.List.{drop_all, drop-set-lt}
use Rattle.std.proofs.lemmas.Option.{get_or_from_slice_get, slice_get_within}
use Rattle.widl_text.specs.declared.key.Key.TheVariants as keys
use Rattle.widl_idl.specs.DefinitionTerms.{DefsTerm}
use Rattle.widl_value.specs.declared.value.Value.{Value}
use Rattle.widl_value.specs.IdlTerms.{IdlTerm, IdlTerms, EntryTerms, MemberTerms, no_values, more_values, no_entries, more_entries, no_members, more_members, packed_entries, packed_members, packed_values}
use Rattle.widl_steps.specs.Results.{entry_items, member_items, properties}
use Rattle.widl_convert.specs.Loads.{entry_items_load, item_load, items_load, member_items_load, value_load, weight}
use Rattle.widl_convert.specs.declared.moves.Move.{Move}

-- 1. One is taken, and another stands in its place

pub rest_of_taken : {X : Type 0} (xs ys : List X) (k : ℕ) (t new : X) → slice_get xs k ≡ Some t → ys ≡ slice_set xs k new → drop k xs ≡ t ∷ drop (k + 1) ys
rest_of_taken {X = X} xs ys k t new at put =
    let less : k < k + 1 = omega arith in
    let next : suc k ≡ k + 1 = omega arith in
    drop-cons xs k new (slice_get_within xs k t at)
    ∙ ap (λ (x : X). x ∷ drop (suc k) xs) (get_or_from_slice_get xs k t new at)
    ∙ ap (λ (n : ℕ). t ∷ drop n xs) next
    ∙ ap (λ (zs : List X). t ∷ zs) (sym (drop-set-lt (k + 1) xs k new less))
    ∙ ap (λ (zs : List X). t ∷ drop (k + 1) zs) (sym put)

pub item_taken : (items after : List IdlTerm) (k : ℕ) (w new : IdlTerm) → slice_get items k ≡ Some w → after ≡ slice_set items k new → packed_values (drop k items) ≡ more_values w (packed_values (drop (k + 1) after))
item_taken items after k w new at put = ap packed_values (rest_of_taken items after k w new at put)

-- 2. The properties of an object

pub property_made : (names more_names : List (List ℕ)) (made more_made : List Value) (k : ℕ) (name new : List ℕ) (v other : Value) → slice_get names k ≡ Some name → more_names ≡ slice_set names k new → slice_get made k ≡ Some v → more_made ≡ slice_set made k other → properties (drop k names) (drop k made) ≡ (keys.Name name, v) ∷ properties (drop (k + 1) more_names) (drop (k + 1) more_made)
property_made names more_names made more_made k name new v other at put at_made put_made =
    ap (λ (l : List (List ℕ)). properties l (drop k made)) (rest_of_taken names more_names k name new at put)
    ∙ ap (λ (l : List Value). properties (name ∷ drop (k + 1) more_names) l) (rest_of_taken made more_made k v other at_made put_made)

-- there are none without a value
none_without_values : (names : List (List ℕ)) → properties names [] ≡ []
none_without_values [] = refl
none_without_values (name ∷ names) = refl

pub no_names_left : (names : List (List ℕ)) (made : List Value) (k : ℕ) → length names ≤ k → properties (drop k names) (drop k made) ≡ []
no_names_left names made k past = ap (λ (l : List (List ℕ)). properties l (drop k made)) (drop_all k names past)

pub no_values_left : (names : List (List ℕ)) (made : List Value) (k : ℕ) → length made ≤ k → properties (drop k names) (drop k made) ≡ []
no_values_left names made k past = ap (λ (l : List Value). properties (drop k names) l) (drop_all k made past) ∙ none_without_values (drop k names)

-- 3. The names and the values of entries and of members

-- these values, and then those
abbrev pub before : List IdlTerm → IdlTerms → IdlTerms
before [] more = more
before (w ∷ ws) more = more_values w (before ws more)

pub before_none : (ws : List IdlTerm) → before ws no_values ≡ packed_values ws
before_none [] = refl
before_none (w ∷ ws) = ap (more_values w) (before_none ws)

pub before_more : (ws : List IdlTerm) (w : IdlTerm) (more : IdlTerms) → before (ws ++ w ∷ []) more ≡ before ws (more_values w more)
before_more [] w more = refl
before_more (u ∷ ws) w more = ap (more_values u) (before_more ws w more)

pub entry_taken : (entries after : List (List ℕ × IdlTerm)) (k : ℕ) (e new : List ℕ × IdlTerm) → slice_get entries k ≡ Some e → after ≡ slice_set entries k new → packed_entries (drop k entries) ≡ more_entries e.0 e.1 (packed_entries (drop (k + 1) after))
entry_taken entries after k e new at put = ap packed_entries (rest_of_taken entries after k e new at put)

pub member_taken : (members after : List (ℕ × ℕ × IdlTerm)) (k : ℕ) (m new : ℕ × ℕ × IdlTerm) → slice_get members k ≡ Some m → after ≡ slice_set members k new → packed_members (drop k members) ≡ more_members m.0 m.1 m.2 (packed_members (drop (k + 1) after))
member_taken members after k m new at put = ap packed_members (rest_of_taken members after k m new at put)

-- 4. What is left without a charge

pub entries_cost_items : (entries : EntryTerms) → items_load (entry_items entries) ≡ entry_items_load entries
entries_cost_items no_entries = refl
entries_cost_items (more_entries name w left) = ap (λ (n : ℕ). item_load + value_load w + n) (entries_cost_items left)

pub members_cost_items : (members : MemberTerms) → items_load (member_items members) ≡ member_items_load members
members_cost_items no_members = refl
members_cost_items (more_members dictionary number w left) = ap (λ (n : ℕ). item_load + value_load w + n) (members_cost_items left)

pub weighs : (r : Result Move AllocError) (n k : ℕ) → n ≡ k → IfOk r (λ m. (list : DefsTerm) → weight list m ≡ 2 + n) → IfOk r (λ m. (list : DefsTerm) → weight list m ≤ 2 + k)
weighs (Ok m) n k same x = λ list. (let w = x list in omega (arith, w, same))
weighs (Err e) n k same x = tt
