-- The entries and the arguments that are left of a resolution.
use Rattle.std.proofs.Common.{◌≡◌, ℕ, zero, suc, ◌+◌, ◌<◌, ◌≤◌, min, Bool, true, false, cond, List, [], ◌∷◌, length, take, drop, map, set, Option, None, Some, slice_get, arith, refl, sym, ap, subst, ◌∙◌}
use Rattle.std.specs.Prelude.{◌&&◌, nat_eq, nat_le}
use Rattle.std.specs.List.{Contains, slice_index_or}
use Rattle.std.specs.Option.{option_map_or, unwrap_or}
use Rattle.std.specs.Cmp.{nat_eq_equiv}
use Rattle.std.proofs.lemmas.Map.Views.{Contains-from_any, list_any-from_Contains}
use Rattle.std.proofs.lemmas.List.{drop_all, length-map, length-take}
use Rattle.widl_dialog.specs.Dialog.{End, Steps}
use Rattle.widl_idl.specs.declared.callee.Callee.{Callee}
use Rattle.widl_idl.specs.DefinitionTerms.{DefsTerm, SigTerm}
use Rattle.widl_overload.specs.sets.Entries.{declared_args, entry_for, overloads_of}
use Rattle.widl_overload.specs.sets.Sets.{TupleTerm, longest}
use Rattle.widl_value.specs.Classes.{class_of}
use Rattle.widl_value.specs.declared.class.Class.{Class}
use Rattle.widl_value.specs.declared.object.ObjRef.{ObjRef}
use Rattle.widl_value.specs.declared.value.Value.{Value}
use Rattle.widl_value.specs.IdlTerms.{IdlTerm}
use Rattle.widl_tables.specs.declared.kept_type.Kept.{Kept}
use Rattle.widl_tables.specs.declared.pick.Pick.{Pick}
use Rattle.widl_tables.specs.declared.pick.Pick.TheVariants.{Entry, Probe, Refuse}
use Rattle.widl_tables.specs.Kept.{argcount_of, entries_for, entries_of, entry_alone, kept_tuples, numbers_of, telling_place, choosing_place}
use Rattle.widl_tables.specs.Picks.{pick_kept, pick_of}
use Rattle.widl_tables.specs.EntriesByNumber.{has_entry}
use Rattle.widl_tables.proofs.Entries.{number_of_entry, numbers_more}
use Rattle.widl_tables.proofs.FewOverloads.{place_or_0}
use Rattle.widl_tables.proofs.PickLaws.{entry_is_kept, probe_is_kept}
use Rattle.widl_tables.proofs.Picking.{of_several}
use Rattle.widl_trace.specs.declared.code.Code.TheVariants as code
use Rattle.widl_steps.specs.Built.{built_today}
use Rattle.widl_steps.specs.Resolution.{argument, argument_given, argument_task, arguments, by_entry, by_pick, of_several as several_by, resolve, with_entries}
use Rattle.widl_steps.specs.Tasks.{Arguments, Defaults, Talk}
use Rattle.widl_steps.specs.Words.{fails}
use Rattle.widl_convert.specs.Entries.{AreSeveral, IsOpen, is_among, after_arguments, entries_left, entry_in, left_from, place_in, rise, sole}

-- 1. The arguments

-- the next one is taken, and another value stands in its place
pub next_argument : {X : Type 0} (args : List X) (m k : ℕ) (v x : X) → k < m → slice_get args k ≡ Some v → drop k (take m args) ≡ v ∷ drop (k + 1) (take m (set args k x))
next_argument [] m k v x below is = absurd (grind arith)
next_argument (a ∷ args) zero k v x below is = absurd (omega arith)
next_argument (a ∷ args) (suc m) zero v x below is = (let same : a ≡ v = cc in ap (λ (w : _). w ∷ take m args) same)
next_argument (a ∷ args) (suc m) (suc k) v x below is =
    let on : suc k + 1 ≡ suc (k + 1) = omega arith in
    next_argument args m k v x (omega arith) is ∙ ap (λ n. v ∷ drop n (take (suc m) (a ∷ set args k x))) (sym on)

pub none_left : {X : Type 0} (args : List X) (m k : ℕ) → min (length args) m ≤ k → drop k (take m args) ≡ []
none_left args m k past = drop_all k (take m args) (omega (arith, length-take m args, past))

-- 2. The numbers of overloads

more_rise : (b : Bool) (n : ℕ) (rest : List ℕ) → rise (n + 1) rest ≡ true → rise n (cond b (n ∷ rest) rest) ≡ true
more_rise true n rest h = (let self : nat_le n n ≡ true = grind arith in ap (λ b. b && rise (n + 1) rest) self ∙ h)
more_rise false n [] h = refl
more_rise false n (e ∷ rest) h = later (nat_le (n + 1) e) (rise (e + 1) rest) refl h
  where
    later : (b r : Bool) → b ≡ nat_le (n + 1) e → (b && r) ≡ true → (nat_le n e && r) ≡ true
    later true r is h = (let below : nat_le n e ≡ true = grind (arith, is) in ap (λ b. b && r) below ∙ h)
    later false r is h = absurd (cc)

-- the numbers of the entries of overloads rise
pub numbers_rise : (m n : ℕ) (sigs : List SigTerm) → rise n (numbers_of (entries_of m n sigs)) ≡ true
numbers_rise m n [] = refl
numbers_rise m n (s ∷ sigs) =
    ap (rise n) (numbers_more n s.args m (entries_of m (n + 1) sigs)) ∙ more_rise (has_entry s.args m) n (numbers_of (entries_of m (n + 1) sigs)) (numbers_rise m (n + 1) sigs)

-- 3. An entry alone

and_left : (a b : Bool) → (a && b) ≡ true → a ≡ true
and_left true b h = refl
and_left false b h = h

and_right : (a b : Bool) → (a && b) ≡ true → b ≡ true
and_right true b h = h
and_right false b h = absurd (cc)

module _ (f : ℕ → TupleTerm) (own : (e : ℕ) → (f e).overload ≡ e) where
  kept_by : (b : Bool) → TupleTerm → List TupleTerm → List TupleTerm
  kept_by b t rest = cond b (t ∷ rest) rest

  first_is : (e d : ℕ) (b : Bool) (numbers : List ℕ) → nat_eq d e ≡ b → entry_alone e (map f (d ∷ numbers)) ≡ kept_by b (f d) (entry_alone e (map f numbers))
  unfolding kept_by
  first_is e d b numbers is = ap (λ c. cond c (f d ∷ entry_alone e (map f numbers)) (entry_alone e (map f numbers))) (ap (λ k. nat_eq k e) (own d) ∙ is)

  none_alone : (e n : ℕ) (numbers : List ℕ) → e < n → rise n numbers ≡ true → entry_alone e (map f numbers) ≡ []
  unfolding kept_by
  none_alone e n [] below h = refl
  none_alone e n (d ∷ numbers) below h =
      let first : nat_le n d ≡ true = and_left (nat_le n d) (rise (d + 1) numbers) h in
      let other : nat_eq d e ≡ false = grind (arith, first, below) in
      first_is e d false numbers other ∙ none_alone e (d + 1) numbers (grind (arith, first, below)) (and_right (nat_le n d) (rise (d + 1) numbers) h)

  at_least : (n : ℕ) (numbers : List ℕ) (k e : ℕ) → rise n numbers ≡ true → k < length numbers → n ≤ slice_index_or numbers k e
  at_least n [] k e h below = absurd (omega arith)
  at_least n (d ∷ numbers) zero e h below = grind (arith, and_left (nat_le n d) (rise (d + 1) numbers) h)
  at_least n (d ∷ numbers) (suc k) e h below =
      let first : nat_le n d ≡ true = and_left (nat_le n d) (rise (d + 1) numbers) h in
      let later : d + 1 ≤ slice_index_or numbers k e = at_least (d + 1) numbers k e (and_right (nat_le n d) (rise (d + 1) numbers) h) (omega arith) in
      grind (arith, first, later)

  alone_at : (e n : ℕ) (numbers : List ℕ) (k : ℕ) → rise n numbers ≡ true → k < length numbers → slice_index_or numbers k e ≡ e → entry_alone e (map f numbers) ≡ f e ∷ []
  unfolding kept_by
  alone_at e n [] k h below at = absurd (omega arith)
  alone_at e n (d ∷ numbers) zero h below at =
      let same : nat_eq d e ≡ true = grind (arith, at) in
      first_is e d true numbers same
      ∙ ap (λ rest. f d ∷ rest) (none_alone e (d + 1) numbers (omega (arith, at)) (and_right (nat_le n d) (rise (d + 1) numbers) h))
      ∙ ap (λ k. f k ∷ []) at
  alone_at e n (d ∷ numbers) (suc k) h below at =
      let rest : rise (d + 1) numbers ≡ true = and_right (nat_le n d) (rise (d + 1) numbers) h in
      let later : d + 1 ≤ slice_index_or numbers k e = at_least (d + 1) numbers k e rest (omega arith) in
      let other : nat_eq d e ≡ false = grind (arith, at, later) in
      first_is e d false numbers other ∙ alone_at e (d + 1) numbers k rest (omega arith) at

  numbers_again : (numbers : List ℕ) → numbers_of (map f numbers) ≡ numbers
  numbers_again [] = refl
  numbers_again (e ∷ numbers) = (λ i. own e i ∷ numbers_again numbers i)

  alone_among : (e : ℕ) (numbers : List ℕ) → rise 0 numbers ≡ true → Contains numbers e → entry_alone e (map f numbers) ≡ f e ∷ []
  alone_among e numbers h has = alone_at e 0 numbers has.0 h has.1 has.2

  alone_is : (e : ℕ) (numbers : List ℕ) → rise 0 numbers ≡ true → Contains (numbers_of (map f numbers)) e → entry_alone e (map f numbers) ≡ f e ∷ []
  alone_is e numbers h has = alone_among e numbers h (subst (λ (l : List ℕ). Contains l e) (numbers_again numbers) has)

-- what is picked of what is kept is what the steps pick
pub pick_is : (list : DefsTerm) (kept : Kept) (overload : Option ℕ) (place : ℕ) (class : Class) (probed : Bool) (p : Pick) → AreSeveral kept → overload ≡ None → kept.place ≡ Some place
    → p ≡ pick_kept list (entries_for list kept.callee kept.argcount kept.overloads) kept.place class probed → pick_of list (entries_left list kept overload) place class probed ≡ p
pick_is list kept overload place class probed p several none here is =
    ap (λ o. pick_of list (entries_left list kept o) place class probed) none
    ∙ of_several list (λ (e : ℕ). entry_for e (declared_args list kept.callee e) kept.argcount) kept.overloads kept.place place class probed several.several here ∙ sym is

alone_left : (list : DefsTerm) (kept : Kept) (overload : Option ℕ) (e : ℕ) → AreSeveral kept → overload ≡ None → Contains (numbers_of (entries_left list kept overload)) e → entry_alone e (entries_left list kept overload) ≡ entry_in list kept e ∷ []
alone_left list kept overload e several none has =
    let f : ℕ → TupleTerm = λ (n : ℕ). entry_for n (declared_args list kept.callee n) kept.argcount in
    let same : entries_left list kept overload ≡ map f kept.overloads = ap (entries_left list kept) none in
    ap (entry_alone e) same
    ∙ alone_is f (λ n. number_of_entry n (declared_args list kept.callee n) kept.argcount) e kept.overloads several.rising (subst (λ (entries : List TupleTerm). Contains (numbers_of entries) e) same has)

pub entry_picked : (list : DefsTerm) (kept : Kept) (overload : Option ℕ) (place e : ℕ) (class : Class) (probed : Bool) → AreSeveral kept → overload ≡ None
    → pick_of list (entries_left list kept overload) place class probed ≡ Entry e → entry_alone e (entries_left list kept overload) ≡ entry_in list kept e ∷ []
entry_picked list kept overload place e class probed several none is = alone_left list kept overload e several none (entry_is_kept list (entries_left list kept overload) place class probed e is)

-- 4. What an overload declares

longest_of : (sigs : List SigTerm) (e : ℕ) → length (option_map_or (λ (s : SigTerm). s.args) (slice_get sigs e) []) ≤ longest sigs
longest_of [] e = grind arith
longest_of (s ∷ sigs) zero = omega arith
longest_of (s ∷ sigs) (suc e) = omega (arith, longest_of sigs e)

-- no overload of a callee declares more than the longest
pub declared_longest : (list : DefsTerm) (callee : Callee) (e : ℕ) → length (declared_args list callee e) ≤ longest (overloads_of list callee)
declared_longest list callee e = longest_of (overloads_of list callee) e

-- 5. The steps, by what is kept

first_takes : (list : DefsTerm) (callee : Callee) (f : ℕ → TupleTerm) (numbers : List ℕ) (first place : ℕ) (v : Value) (left : List Value) (made : List IdlTerm) → slice_get numbers 0 ≡ Some first
    → argument list callee place left made v (map f numbers) ≡ Steps (argument_task list callee (f first) (length made) v) (argument_given list callee place left made (map f numbers))
first_takes list callee f [] first place v left made is = absurd (cc)
first_takes list callee f (e ∷ more) first place v left made is =
    let same : e ≡ first = cc in
    ap (λ (n : ℕ). let d : Talk = Steps (argument_task list callee (f n) (length made) v) (argument_given list callee place left made (f e ∷ map f more)) in d) same

-- below the place the first entry takes the argument
pub by_first : (list : DefsTerm) (kept : Kept) (overload : Option ℕ) (first : ℕ) (v : Value) (left : List Value) (made : List IdlTerm) → overload ≡ None → slice_get kept.overloads 0 ≡ Some first
    → argument list kept.callee (place_in kept) left made v (entries_left list kept overload) ≡ Steps (argument_task list kept.callee (entry_in list kept first) (length made) v) (argument_given list kept.callee (place_in kept) left made (entries_left list kept overload))
by_first list kept overload first v left made none is =
    subst (λ (o : Option ℕ). ◌≡◌ {A = Talk} (argument list kept.callee (place_in kept) left made v (entries_left list kept o)) (Steps (argument_task list kept.callee (entry_in list kept first) (length made) v) (argument_given list kept.callee (place_in kept) left made (entries_left list kept o))))
    (sym none) (first_takes list kept.callee (λ (e : ℕ). entry_in list kept e) kept.overloads first (place_in kept) v left made is)

-- what is picked goes on as the steps pick it
module _ (list : DefsTerm) (kept : Kept) (overload : Option ℕ) (several : AreSeveral kept) (none : overload ≡ None) where
  -- of the value's class
  pick_of_class : (place : ℕ) (class : Class) (v : Value) (probed : Bool) (p q : Pick) → kept.place ≡ Some place → class ≡ class_of v → p ≡ q
      → p ≡ pick_kept list (entries_for list kept.callee kept.argcount kept.overloads) kept.place class probed → pick_of list (entries_left list kept overload) place (class_of v) probed ≡ q
  pick_of_class place class v probed p q here same is picks =
      ap (λ (c : Class). pick_of list (entries_left list kept overload) place c probed) (sym same) ∙ pick_is list kept overload place class probed p several none here picks ∙ is

  -- the entry that is picked is left alone
  pub entry_goes_on : (class : Class) (v : Value) (probed : Bool) (k : List TupleTerm → Talk) (e : ℕ) (p : Pick) → class ≡ class_of v → p ≡ Entry e
      → p ≡ pick_kept list (entries_for list kept.callee kept.argcount kept.overloads) kept.place class probed
      → by_entry k (entries_left list kept overload) (pick_of list (entries_left list kept overload) (place_in kept) (class_of v) probed) ≡ k (entry_in list kept e ∷ [])
  entry_goes_on class v probed k e p same is picks =
      let pick = pick_of_class (place_in kept) class v probed p (Entry e) several.placed same is picks in
      ap (by_entry k (entries_left list kept overload)) pick ∙ ap k (entry_picked list kept overload (place_in kept) e (class_of v) probed several none pick)

  pub picked_entry : (class : Class) (v : Value) (k : Option (ObjRef × ObjRef) → List TupleTerm → Talk) (e : ℕ) (p : Pick) → class ≡ class_of v → p ≡ Entry e
      → p ≡ pick_kept list (entries_for list kept.callee kept.argcount kept.overloads) kept.place class false
      → by_pick built_today list (place_in kept) v k (entries_left list kept overload) (pick_of list (entries_left list kept overload) (place_in kept) (class_of v) false) ≡ k None (entry_in list kept e ∷ [])
  picked_entry class v k e p same is picks =
      let pick = pick_of_class (place_in kept) class v false p (Entry e) several.placed same is picks in
      ap (by_pick built_today list (place_in kept) v k (entries_left list kept overload)) pick ∙ ap (k None) (entry_picked list kept overload (place_in kept) e (class_of v) false several none pick)

  -- no entry, or one for whose type a method is read
  pub picked_other : (class : Class) (v : Value) (k : Option (ObjRef × ObjRef) → List TupleTerm → Talk) (p q : Pick) → class ≡ class_of v → p ≡ q
      → p ≡ pick_kept list (entries_for list kept.callee kept.argcount kept.overloads) kept.place class false
      → by_pick built_today list (place_in kept) v k (entries_left list kept overload) (pick_of list (entries_left list kept overload) (place_in kept) (class_of v) false) ≡ by_pick built_today list (place_in kept) v k (entries_left list kept overload) q
  picked_other class v k p q same is picks = ap (by_pick built_today list (place_in kept) v k (entries_left list kept overload)) (pick_of_class (place_in kept) class v false p q several.placed same is picks)

  -- where no entry is picked
  no_entry : (k : List TupleTerm → Talk) (entries : List TupleTerm) (p : Pick) → ((e : ℕ) → p ≡ Entry e → ⊥) → by_entry k entries p ≡ fails code.NoMatch
  no_entry k entries (Entry e) not = absurd (not e refl)
  no_entry k entries (Probe e) not = refl
  no_entry k entries Refuse not = refl

  pub no_entry_goes_on : (class : Class) (v : Value) (probed : Bool) (k : List TupleTerm → Talk) (p : Pick) → class ≡ class_of v → ((e : ℕ) → p ≡ Entry e → ⊥)
      → p ≡ pick_kept list (entries_for list kept.callee kept.argcount kept.overloads) kept.place class probed
      → by_entry k (entries_left list kept overload) (pick_of list (entries_left list kept overload) (place_in kept) (class_of v) probed) ≡ fails code.NoMatch
  no_entry_goes_on class v probed k p same not picks = ap (by_entry k (entries_left list kept overload)) (pick_of_class (place_in kept) class v probed p p several.placed same refl picks) ∙ no_entry k (entries_left list kept overload) p not

  -- an overload for whose type a method is read is one of those that are kept
  pub probed_among : (class : Class) (v : Value) (e : ℕ) (p : Pick) → class ≡ class_of v → p ≡ Probe e
      → p ≡ pick_kept list (entries_for list kept.callee kept.argcount kept.overloads) kept.place class false → is_among kept e ≡ true
  probed_among class v e p same is picks =
      let pick = pick_of_class (place_in kept) class v false p (Probe e) several.placed same is picks in
      let has = probe_is_kept list (entries_left list kept overload) (place_in kept) (class_of v) false e pick in
      let entries : entries_left list kept overload ≡ entries_for list kept.callee kept.argcount kept.overloads = ap (entries_left list kept) none in
      list_any-from_Contains nat_eq_equiv e kept.overloads
      (subst (λ (numbers : List ℕ). Contains numbers e)
      (ap numbers_of entries ∙ numbers_again (λ (n : ℕ). entry_for n (declared_args list kept.callee n) kept.argcount) (λ n. number_of_entry n (declared_args list kept.callee n) kept.argcount) kept.overloads) has)

  -- and its entry is left alone
  pub probed_entry : (e : ℕ) → is_among kept e ≡ true → entry_alone e (entries_left list kept overload) ≡ entry_in list kept e ∷ []
  probed_entry e has =
      ap (λ (o : Option ℕ). entry_alone e (entries_left list kept o)) none
      ∙ alone_among (λ (n : ℕ). entry_for n (declared_args list kept.callee n) kept.argcount) (λ n. number_of_entry n (declared_args list kept.callee n) kept.argcount) e kept.overloads several.rising (Contains-from_any (λ (x y : ℕ) (h : nat_eq x y ≡ true). grind (arith, h)) e kept.overloads has)

-- 6. Where it begins

sole_left : (list : DefsTerm) (kept : Kept) (numbers : List ℕ) → numbers ≡ kept.overloads → entries_left list kept (sole numbers) ≡ entries_for list kept.callee kept.argcount numbers
sole_left list kept [] is = ap (entries_for list kept.callee kept.argcount) (sym is)
sole_left list kept (e ∷ []) is = refl
sole_left list kept (e ∷ g ∷ more) is = ap (entries_for list kept.callee kept.argcount) (sym is)

sole_several : (numbers : List ℕ) → 0 < length numbers → sole numbers ≡ None → 2 ≤ length numbers
sole_several [] some none = absurd (omega arith)
sole_several (e ∷ []) some none = absurd (cc)
sole_several (e ∷ g ∷ more) some none = omega arith

placed_by : (list : DefsTerm) (entries : List TupleTerm) → 2 ≤ length entries → choosing_place list entries ≡ Some (unwrap_or (choosing_place list entries) 0)
placed_by list [] several = absurd (omega arith)
placed_by list (t ∷ []) several = absurd (omega arith)
placed_by list (t ∷ u ∷ more) several = refl

-- where none is alone they are several
pub opened : (list : DefsTerm) (callee : Callee) (n : ℕ) (kept : Kept) (overload : Option ℕ) → kept.overloads ≡ numbers_of (kept_tuples list callee n) → kept.place ≡ choosing_place list (kept_tuples list callee n)
    → 0 < length kept.overloads → overload ≡ sole kept.overloads → IsOpen kept overload
opened list callee n kept overload numbers place some is none =
    let several : 2 ≤ length kept.overloads = sole_several kept.overloads some (sym is ∙ none) in
    let long : length (numbers_of (kept_tuples list callee n)) ≡ length (kept_tuples list callee n) = length-map (kept_tuples list callee n) (λ (t : TupleTerm). t.overload) in
    let entries : 2 ≤ length (kept_tuples list callee n) = omega (arith, several, ap length numbers, long) in
    record {
      several = several;
      rising = ap (rise 0) numbers ∙ numbers_rise (argcount_of list callee n) 0 (overloads_of list callee);
      placed = place ∙ placed_by list (kept_tuples list callee n) entries ∙ ap (λ (p : Option ℕ). Some (unwrap_or p 0)) (sym place);
    }

entries_begin : (list : DefsTerm) (callee : Callee) (entries : List TupleTerm) (place : ℕ) (args : List Value) → 0 < length entries → place ≡ telling_place list entries
    → with_entries list callee entries args ≡ Steps (Arguments callee entries place args []) End
entries_begin list callee [] place args some is = absurd (omega arith)
entries_begin list callee (t ∷ more) place args some is = ap (λ (p : ℕ). let d : Talk = Steps (Arguments callee (t ∷ more) p args []) End in d) (sym is)

begun_with : (list : DefsTerm) (callee : Callee) (kept : Kept) (overload : Option ℕ) (args : List Value) (made : List IdlTerm) → kept.callee ≡ callee → kept.argcount ≡ argcount_of list callee (length args)
    → kept.overloads ≡ numbers_of (kept_tuples list callee (length args)) → entries_for list callee kept.argcount kept.overloads ≡ kept_tuples list callee (length args)
    → kept.place ≡ choosing_place list (kept_tuples list callee (length args)) → 0 < length kept.overloads → overload ≡ sole kept.overloads → made ≡ []
    → ◌≡◌ {A = Talk} (Steps (Arguments kept.callee (entries_left list kept overload) (place_in kept) (left_from (length made) kept args) made) End) (resolve list callee args)
begun_with list callee kept overload args made same count numbers entries place some is none =
    let all : entries_left list kept overload ≡ kept_tuples list callee (length args)
    = ap (entries_left list kept) is ∙ sole_left list kept kept.overloads refl ∙ ap (λ (c : Callee). entries_for list c kept.argcount kept.overloads) same ∙ entries in
    let long : length (numbers_of (kept_tuples list callee (length args))) ≡ length (kept_tuples list callee (length args)) = length-map (kept_tuples list callee (length args)) (λ (t : TupleTerm). t.overload) in
    let tells : place_in kept ≡ telling_place list (kept_tuples list callee (length args)) = ap (λ (p : Option ℕ). unwrap_or p 0) place ∙ sym (place_or_0 list (kept_tuples list callee (length args))) in
    let taken : left_from (length made) kept args ≡ take (argcount_of list callee (length args)) args = ap (λ (m : List IdlTerm). drop (length m) (take kept.argcount args)) none ∙ ap (λ (n : ℕ). take n args) count in
    (λ i. let d : Talk = Steps (Arguments (same i) (all i) (place_in kept) (taken i) (none i)) End in d)
    ∙ sym (entries_begin list callee (kept_tuples list callee (length args)) (place_in kept) (take (argcount_of list callee (length args)) args) (omega (arith, some, ap length numbers, long)) tells)

-- the first step, by what is kept
pub begun : (list : DefsTerm) (callee : Callee) (n : ℕ) (kept : Kept) (overload : Option ℕ) (args : List Value) (made : List IdlTerm) → n ≡ length args → kept.callee ≡ callee → kept.argcount ≡ argcount_of list callee n
    → kept.overloads ≡ numbers_of (kept_tuples list callee n) → entries_for list callee kept.argcount kept.overloads ≡ kept_tuples list callee n
    → kept.place ≡ choosing_place list (kept_tuples list callee n) → 0 < length kept.overloads → overload ≡ sole kept.overloads → made ≡ []
    → ◌≡◌ {A = Talk} (Steps (Arguments kept.callee (entries_left list kept overload) (place_in kept) (left_from (length made) kept args) made) End) (resolve list callee args)
begun list callee n kept overload args made long same count numbers entries place some is none =
    begun_with list callee kept overload args made same (count ∙ ap (argcount_of list callee) long) (numbers ∙ ap (λ (k : ℕ). numbers_of (kept_tuples list callee k)) long) (entries ∙ ap (kept_tuples list callee) long)
    (place ∙ ap (λ (k : ℕ). choosing_place list (kept_tuples list callee k)) long) some is none

-- 7. From one argument to the next

last_of : (list : DefsTerm) (kept : Kept) (overload : Option ℕ) (entries : List TupleTerm) (made : List IdlTerm) → (overload ≡ None → 2 ≤ length entries) → entries ≡ entries_left list kept overload
    → arguments built_today list kept.callee entries (place_in kept) [] made ≡ after_arguments kept.callee overload made
last_of list kept None [] made several is = refl
last_of list kept None (t ∷ []) made several is = absurd (let long : 2 ≤ length (t ∷ []) = several refl in omega (arith, long))
last_of list kept None (t ∷ u ∷ more) made several is = refl
last_of list kept (Some e) [] made several is = absurd (cc)
last_of list kept (Some e) (t ∷ []) made several is =
    let same : t ≡ entry_in list kept e = cc in
    let number : t.overload ≡ e = ap (λ (u : TupleTerm). u.overload) same ∙ number_of_entry e (declared_args list kept.callee e) kept.argcount in
    ap (λ (n : ℕ). let d : Talk = Steps (Defaults kept.callee n made) End in d) number
last_of list kept (Some e) (t ∷ u ∷ more) made several is = absurd (cc)

-- no argument is left
pub last_is : (list : DefsTerm) (kept : Kept) (overload : Option ℕ) (left : List Value) (made : List IdlTerm) → IsOpen kept overload → left ≡ []
    → arguments built_today list kept.callee (entries_left list kept overload) (place_in kept) left made ≡ after_arguments kept.callee overload made
last_is list kept overload left made several none_left =
    let long : length (entries_for list kept.callee kept.argcount kept.overloads) ≡ length kept.overloads = length-map kept.overloads (λ (e : ℕ). entry_for e (declared_args list kept.callee e) kept.argcount) in
    let many : overload ≡ None → 2 ≤ length (entries_left list kept overload) = λ none. subst (λ (o : Option ℕ). 2 ≤ length (entries_left list kept o)) (sym none) (omega (arith, long, (several none).several)) in
    ap (λ (l : List Value). arguments built_today list kept.callee (entries_left list kept overload) (place_in kept) l made) none_left
    ∙ last_of list kept overload (entries_left list kept overload) made many refl

-- the next argument is taken
pub left_is : (kept : Kept) (args rest : List Value) (k : ℕ) (v x : Value) → k < min (length args) kept.argcount → slice_get args k ≡ Some v → rest ≡ set args k x → left_from k kept args ≡ v ∷ left_from (k + 1) kept rest
left_is kept args rest k v x below is taken = next_argument args kept.argcount k v x (omega (arith, below)) is ∙ ap (λ (l : List Value). v ∷ left_from (k + 1) kept l) (sym taken)

-- an argument that was taken, where an overload is left alone
pub next_alone : (list : DefsTerm) (kept : Kept) (overload : Option ℕ) (e : ℕ) (v : Value) (left : List Value) (made : List IdlTerm) → overload ≡ Some e
    → arguments built_today list kept.callee (entries_left list kept overload) (place_in kept) (v ∷ left) made
    ≡ Steps (argument_task list kept.callee (entry_in list kept e) (length made) v) (argument_given list kept.callee (place_in kept) left made (entries_left list kept overload))
next_alone list kept overload e v left made some =
    subst (λ (o : Option ℕ). ◌≡◌ {A = Talk} (arguments built_today list kept.callee (entries_left list kept o) (place_in kept) (v ∷ left) made) (Steps (argument_task list kept.callee (entry_in list kept e) (length made) v) (argument_given list kept.callee (place_in kept) left made (entries_left list kept o))))
    (sym some) refl

several_next : (list : DefsTerm) (callee : Callee) (entries : List TupleTerm) (place : ℕ) (v : Value) (left : List Value) (made : List IdlTerm) → 2 ≤ length entries → arguments built_today list callee entries place (v ∷ left) made ≡ several_by built_today list callee place left made v entries
several_next list callee [] place v left made several = absurd (omega arith)
several_next list callee (t ∷ []) place v left made several = absurd (omega arith)
several_next list callee (t ∷ u ∷ more) place v left made several = refl

-- an argument that was taken, where several entries are left
pub next_several : (list : DefsTerm) (kept : Kept) (overload : Option ℕ) (v : Value) (left : List Value) (made : List IdlTerm) → overload ≡ None → AreSeveral kept
    → arguments built_today list kept.callee (entries_left list kept overload) (place_in kept) (v ∷ left) made ≡ several_by built_today list kept.callee (place_in kept) left made v (entries_left list kept overload)
next_several list kept overload v left made none several =
    let long : length (entries_for list kept.callee kept.argcount kept.overloads) ≡ length kept.overloads = length-map kept.overloads (λ (e : ℕ). entry_for e (declared_args list kept.callee e) kept.argcount) in
    let many : 2 ≤ length (entries_left list kept overload) = subst (λ (o : Option ℕ). 2 ≤ length (entries_left list kept o)) (sym none) (omega (arith, long, several.several)) in
    several_next list kept.callee (entries_left list kept overload) (place_in kept) v left made many
