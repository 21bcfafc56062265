-- What the list of definitions has of members, with one member more.
use Rattle.std.proofs.Common.{◌≡◌, ℕ, suc, ◌+◌, ◌++◌, Bool, true, false, cond, ◌||◌, List, [], ◌∷◌, length, Option, None, Some, is_some, arith, refl, sym, ap, ◌∙◌, append_assoc}
use Rattle.std.specs.List.{filter_map, cons_option}
use Rattle.std.specs.Option.{option_or}
use Rattle.std.proofs.lemmas.List.{append-nil}
use Rattle.widl_text.specs.declared.place.Place.{Place}
use Rattle.widl_idl.specs.declared.interface.Slot.TheVariants as slot
use Rattle.widl_idl.specs.declared.interface.Stringify.{Stringify}
use Rattle.widl_idl.specs.declared.interface.Stringify.TheVariants as stringify
use Rattle.widl_idl.specs.MergedMembers.{attributes_in, first_in, has, is_pair_iterable, is_stringifier, is_stringifier_attribute, pair_in, pair_of, pairs_of, slots_after, slots_of_kind, slots_of_stringifier, stringifier_from, stringify_kind}
use Rattle.widl_idl.specs.PlainTypes.{PlainAnnotated, PlainAttribute}
use Rattle.widl_idl.specs.PlainTrees.{PlainDefinition, PlainMember, PlainMemberKind, ConstantMember, AttributeMember, OperationMember, ConstructorMember, StringifierMember, IterableMember, AsyncIterableMember, MaplikeMember, SetlikeMember}
use Rattle.widl_merge.specs.PutTogether.{first_stringifier, stringifier_slots}

slots_after_push : (before members : List PlainMember) (m : PlainMember) → slots_after before (members ++ m ∷ []) ≡ slots_after before members ++ slots_of_kind (before ++ members) m.kind
slots_after_push before [] m = append-nil (slots_of_kind before m.kind) ∙ ap (λ l. slots_of_kind l m.kind) (sym (append-nil before))
slots_after_push before (x ∷ more) m =
    ap (λ l. slots_of_kind before x.kind ++ l) (slots_after_push (before ++ x ∷ []) more m ∙ ap (λ l. slots_after (before ++ x ∷ []) more ++ slots_of_kind l m.kind) (append_assoc before (x ∷ []) more))
    ∙ sym (append_assoc (slots_of_kind before x.kind) (slots_after (before ++ x ∷ []) more) (slots_of_kind (before ++ x ∷ more) m.kind))

pub slots_push : (members : List PlainMember) (m : PlainMember) → slots_after [] (members ++ m ∷ []) ≡ slots_after [] members ++ slots_of_kind members m.kind
slots_push members m = slots_after_push [] members m

-- a stringifier after others, of which the attributes are counted from `number` on
abbrev pub next_stringifier : ℕ → List PlainMember → PlainMember → Stringify
next_stringifier number members m = stringify_kind (number + length (attributes_in members)) m.kind stringify.No stringify.No

module _ (members : List PlainMember) (m : PlainMember) where
  abbrev whole : ℕ → Stringify
  whole number = stringifier_from number (members ++ m ∷ [])

  abbrev Pushed : ℕ → Type 0
  Pushed number = whole number ≡ first_stringifier (stringifier_from number members) (next_stringifier number members m)

  -- after one of these kinds, by what is known of the members after it
  pushed_kind : (number : ℕ) (attributes : List PlainAttribute) (kind : PlainMemberKind) → Pushed number → Pushed (number + 1)
      → stringify_kind number kind (whole number) (whole (number + 1))
      ≡ first_stringifier (stringify_kind number kind (stringifier_from number members) (stringifier_from (number + 1) members)) (next_stringifier number (record { attributes = attributes; kind = kind } ∷ members) m)
  pushed_kind number attributes (ConstantMember k) same after = same
  pushed_kind number attributes (AttributeMember a) same after = by (is_stringifier_attribute a.kind)
    where
      place : number + 1 + length (attributes_in members) ≡ number + suc (length (attributes_in members))
      place = omega arith

      by : (b : Bool) → cond b (stringify.Attr number) (whole (number + 1)) ≡ first_stringifier (cond b (stringify.Attr number) (stringifier_from (number + 1) members)) (stringify_kind (number + suc (length (attributes_in members))) m.kind stringify.No stringify.No)
      by true = refl
      by false = after ∙ ap (λ n. first_stringifier (stringifier_from (number + 1) members) (stringify_kind n m.kind stringify.No stringify.No)) place
  pushed_kind number attributes (OperationMember o) same after = same
  pushed_kind number attributes (ConstructorMember c) same after = same
  pushed_kind number attributes (StringifierMember s) same after = refl
  pushed_kind number attributes (IterableMember i) same after = same
  pushed_kind number attributes (AsyncIterableMember i) same after = same
  pushed_kind number attributes (MaplikeMember k) same after = same
  pushed_kind number attributes (SetlikeMember s) same after = same

single_stringifier : (number : ℕ) (kind : PlainMemberKind) → stringify_kind number kind stringify.No stringify.No ≡ stringify_kind (number + 0) kind stringify.No stringify.No
single_stringifier number kind = let same : number ≡ number + 0 = omega arith in ap (λ n. stringify_kind n kind stringify.No stringify.No) same

stringifier_after : (number : ℕ) (members : List PlainMember) (m : PlainMember) → stringifier_from number (members ++ m ∷ []) ≡ first_stringifier (stringifier_from number members) (next_stringifier number members m)
stringifier_after number [] m = single_stringifier number m.kind
stringifier_after number (x ∷ more) m = pushed_kind more m number x.attributes x.kind (stringifier_after number more m) (stringifier_after (number + 1) more m)

pub stringifier_push : (members : List PlainMember) (m : PlainMember) → stringifier_from 0 (members ++ m ∷ []) ≡ first_stringifier (stringifier_from 0 members) (stringify_kind (length (attributes_in members)) m.kind stringify.No stringify.No)
stringifier_push members m = let same : 0 + length (attributes_in members) ≡ length (attributes_in members) = omega arith in stringifier_after 0 members m ∙ ap (λ n. first_stringifier (stringifier_from 0 members) (stringify_kind n m.kind stringify.No stringify.No)) same

abbrev is_there : Stringify → Bool
is_there stringify.No = false
is_there found = true

there_in_kind : (number : ℕ) (kind : PlainMemberKind) (next after : Stringify) (more : Bool) → is_there next ≡ more → is_there after ≡ more → is_there (stringify_kind number kind next after) ≡ (is_stringifier kind || more)
there_in_kind number (ConstantMember k) next after more e f = e
there_in_kind number (AttributeMember a) next after more e f = by (is_stringifier_attribute a.kind)
  where
    by : (b : Bool) → is_there (cond b (stringify.Attr number) after) ≡ (b || more)
    by true = refl
    by false = f
there_in_kind number (OperationMember o) next after more e f = e
there_in_kind number (ConstructorMember c) next after more e f = e
there_in_kind number (StringifierMember s) next after more e f = refl
there_in_kind number (IterableMember i) next after more e f = e
there_in_kind number (AsyncIterableMember i) next after more e f = e
there_in_kind number (MaplikeMember k) next after more e f = e
there_in_kind number (SetlikeMember s) next after more e f = e

has_stringifier : (number : ℕ) (members : List PlainMember) → is_there (stringifier_from number members) ≡ has is_stringifier members
has_stringifier number [] = refl
has_stringifier number (m ∷ more) = there_in_kind number m.kind (stringifier_from number more) (stringifier_from (number + 1) more) (has is_stringifier more) (has_stringifier number more) (has_stringifier (number + 1) more)

slots_there : (found : Stringify) → stringifier_slots found ≡ cond (is_there found) [] (slot.Stringifier ∷ [])
slots_there stringify.No = refl
slots_there stringify.Plain = refl
slots_there (stringify.Attr number) = refl

-- the slot of a stringifier is that of the first one
pub stringifier_slot : (members : List PlainMember) → stringifier_slots (stringifier_from 0 members) ≡ slots_of_stringifier members true
stringifier_slot members = slots_there (stringifier_from 0 members) ∙ ap (λ b. cond b [] (slot.Stringifier ∷ [])) (has_stringifier 0 members)

filter_map_push : {X Y : Type 0} (h : X → Option Y) (xs : List X) (x : X) → filter_map h (xs ++ x ∷ []) ≡ filter_map h xs ++ cons_option (h x) []
filter_map_push h [] x = refl
filter_map_push {Y = Y} h (y ∷ xs) x = by (h y) (filter_map_push h xs x)
  where
    by : (o : Option Y) → filter_map h (xs ++ x ∷ []) ≡ filter_map h xs ++ cons_option (h x) [] → cons_option o (filter_map h (xs ++ x ∷ [])) ≡ cons_option o (filter_map h xs) ++ cons_option (h x) []
    by None e = e
    by (Some z) e = ap (λ l. z ∷ l) e

-- the items of a kind, with a member that is none of them, or that is one
pub none_more : {X Y : Type 0} (h : X → Option Y) (xs : List X) (x : X) → h x ≡ None → filter_map h (xs ++ x ∷ []) ≡ filter_map h xs
none_more h xs x e = filter_map_push h xs x ∙ ap (λ o. filter_map h xs ++ cons_option o []) e ∙ append-nil (filter_map h xs)

pub one_more : {X Y : Type 0} (h : X → Option Y) (xs : List X) (x : X) (y : Y) → h x ≡ Some y → filter_map h (xs ++ x ∷ []) ≡ filter_map h xs ++ y ∷ []
one_more h xs x y e = filter_map_push h xs x ∙ ap (λ o. filter_map h xs ++ cons_option o []) e

first_push : {X : Type 0} (xs : List X) (o : Option X) → first_in (xs ++ cons_option o []) ≡ option_or (first_in xs) o
first_push [] None = refl
first_push [] (Some x) = refl
first_push (x ∷ xs) o = refl

module _ (definitions : List PlainDefinition) where
  pub pairs_push : (members : List PlainMember) (m : PlainMember) → pairs_of definitions (members ++ m ∷ []) ≡ option_or (pairs_of definitions members) (pair_in definitions m.kind)
  pairs_push members m = ap first_in (filter_map_push (λ (x : PlainMember). pair_in definitions x.kind) members m) ∙ first_push (filter_map (λ (x : PlainMember). pair_in definitions x.kind) members) (pair_in definitions m.kind)

  pair_there : (first : PlainAnnotated) (second : Option PlainAnnotated) → is_some (pair_of definitions first second) ≡ is_some second
  pair_there first None = refl
  pair_there first (Some second) = refl

  second_there : (first : PlainAnnotated) (second : Option PlainAnnotated) (at : Place) → is_pair_iterable (IterableMember (record { at = at; first = first; second = second })) ≡ is_some (pair_of definitions first second)
  second_there first None at = refl
  second_there first (Some second) at = refl

  pair_of_kind : (kind : PlainMemberKind) → is_pair_iterable kind ≡ is_some (pair_in definitions kind)
  pair_of_kind (ConstantMember k) = refl
  pair_of_kind (AttributeMember a) = refl
  pair_of_kind (OperationMember o) = refl
  pair_of_kind (ConstructorMember c) = refl
  pair_of_kind (StringifierMember s) = refl
  pair_of_kind (IterableMember i) = second_there i.first i.second i.at
  pair_of_kind (AsyncIterableMember i) = refl
  pair_of_kind (MaplikeMember k) = refl
  pair_of_kind (SetlikeMember s) = refl

  first_there : {X : Type 0} (o : Option X) (xs : List X) → is_some (first_in (cons_option o xs)) ≡ (is_some o || is_some (first_in xs))
  first_there None xs = refl
  first_there (Some x) xs = refl

  -- a pair iterable stands among the members where they have its types
  pub has_pairs : (members : List PlainMember) → has is_pair_iterable members ≡ is_some (pairs_of definitions members)
  has_pairs [] = refl
  has_pairs (m ∷ more) =
      ap (λ b. b || has is_pair_iterable more) (pair_of_kind m.kind) ∙ ap (λ b. is_some (pair_in definitions m.kind) || b) (has_pairs more)
      ∙ sym (first_there (pair_in definitions m.kind) (filter_map (λ (x : PlainMember). pair_in definitions x.kind) more))
