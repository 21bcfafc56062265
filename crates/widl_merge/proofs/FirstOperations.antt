-- The first operations of their names, and the numbers of the names, with one operation more.
use Rattle.std.proofs.Common.{◌≡◌, ℕ, zero, suc, ◌++◌, Bool, true, false, cond, ◌&&◌, ◌||◌, List, [], ◌∷◌, length, map, filter, slice_get, bytes_eq, Option, None, Some, is_some, arith, refl, sym, ap, ◌∙◌, append_assoc}
use Rattle.std.specs.List.{list_any}
use Rattle.std.specs.Cmp.Lexicographic.{bytes_decides}
use Rattle.std.proofs.Math.Bool.{or-false}
use Rattle.std.proofs.Math.ListN.{set}
use Rattle.std.proofs.lemmas.List.{append-nil, map-append}
use Rattle.std.proofs.lemmas.List.Elements.{filter-append}
use Rattle.std.proofs.lemmas.List.Folds.{list_any-append}
use Rattle.widl_idl.specs.MergedMembers.{are_overloads, firsts_after, op_name_of, operation_text, sig_of_operation}
use Rattle.widl_idl.specs.MergingRules.{both_or_none, is_static}
use Rattle.widl_idl.specs.PlainTrees.{PlainDefinition, PlainOperation}
use Rattle.widl_idl.specs.WrittenLiterals.{units_of}
use Rattle.widl_names.proofs.Pushed.{some_is}
use Rattle.widl_merge.specs.PutTogether.{AreNumbers, IsFirstAt, is_named}
use Rattle.widl_names.proofs.MappedLoops.{any_push}

same_kind_is : (a b : Bool) → both_or_none a b ≡ true → a ≡ b
same_kind_is true b e = sym e
same_kind_is false true e = absurd (cc)
same_kind_is false false e = refl

kind_itself : (a : Bool) → both_or_none a a ≡ true
kind_itself true = refl
kind_itself false = refl

both_true : (a b : Bool) → (a && b) ≡ true → (a ≡ true) × (b ≡ true)
both_true true b e = (refl, e)
both_true false b e = absurd (cc)

-- an operation of a name has this text and is static as it says
named_text : (text : List ℕ) (static : Bool) (o : PlainOperation) → is_named text static o ≡ true → text ≡ operation_text o.name
named_text text static o e = (bytes_decides text (operation_text o.name)).0 (both_true (bytes_eq text (operation_text o.name)) (both_or_none static (is_static o.kind)) e).0

named_kind : (text : List ℕ) (static : Bool) (o : PlainOperation) → is_named text static o ≡ true → static ≡ is_static o.kind
named_kind text static o e = same_kind_is static (is_static o.kind) (both_true (bytes_eq text (operation_text o.name)) (both_or_none static (is_static o.kind)) e).1

pub overloads_itself : (o : PlainOperation) → are_overloads o o ≡ true
overloads_itself o = ap (λ b. b && both_or_none (is_static o.kind) (is_static o.kind)) ((bytes_decides (operation_text o.name) (operation_text o.name)).1 refl) ∙ kind_itself (is_static o.kind)

-- what is asked of a name is asked of each operation of it
ask_named : {T : Type 0} (ask : List ℕ → Bool → T) (text : List ℕ) (static : Bool) (o : PlainOperation) → is_named text static o ≡ true → ask text static ≡ ask (operation_text o.name) (is_static o.kind)
ask_named ask text static o e = ap (λ t. ask t static) (named_text text static o e) ∙ ap (ask (operation_text o.name)) (named_kind text static o e)

absorbs : (seen here more : Bool) → (here ≡ true → seen ≡ true) → (seen || more) ≡ (seen || (here || more))
absorbs true here more e = refl
absorbs false true more e = absurd (let f = e refl in cc)
absorbs false false more e = refl

-- a name is that of one of the operations where it is that of one of the first of their names
named_firsts : (text : List ℕ) (static : Bool) (before operations : List PlainOperation) → list_any (is_named text static) (before ++ firsts_after before operations) ≡ list_any (is_named text static) (before ++ operations)
named_firsts text static before [] = refl
named_firsts text static before (o ∷ more) = by (list_any (are_overloads o) before) refl (named_firsts text static before more) (named_firsts text static (before ++ o ∷ []) more)
  where
    by : (b : Bool) → list_any (are_overloads o) before ≡ b
        → list_any (is_named text static) (before ++ firsts_after before more) ≡ list_any (is_named text static) (before ++ more)
        → list_any (is_named text static) ((before ++ o ∷ []) ++ firsts_after (before ++ o ∷ []) more) ≡ list_any (is_named text static) ((before ++ o ∷ []) ++ more)
        → list_any (is_named text static) (before ++ cond b (firsts_after before more) (o ∷ firsts_after (before ++ o ∷ []) more)) ≡ list_any (is_named text static) (before ++ o ∷ more)
    by true e left right =
        left ∙ list_any-append (is_named text static) before more
        ∙ absorbs (list_any (is_named text static) before) (is_named text static o) (list_any (is_named text static) more) (λ n. ask_named (λ t s. list_any (is_named t s) before) text static o n ∙ e)
        ∙ sym (list_any-append (is_named text static) before (o ∷ more))
    by false e left right =
        ap (list_any (is_named text static)) (sym (append_assoc before (o ∷ []) (firsts_after (before ++ o ∷ []) more)))
        ∙ right
        ∙ ap (list_any (is_named text static)) (append_assoc before (o ∷ []) more)

firsts_after_push : (before operations : List PlainOperation) (o : PlainOperation)
    → firsts_after before (operations ++ o ∷ []) ≡ firsts_after before operations ++ cond (list_any (are_overloads o) (before ++ firsts_after before operations)) [] (o ∷ [])
firsts_after_push before [] o = ap (λ l. cond (list_any (are_overloads o) l) [] (o ∷ [])) (sym (append-nil before))
firsts_after_push before (x ∷ more) o = by (list_any (are_overloads x) before) (firsts_after_push before more o) (firsts_after_push (before ++ x ∷ []) more o)
  where
    by : (b : Bool) → firsts_after before (more ++ o ∷ []) ≡ firsts_after before more ++ cond (list_any (are_overloads o) (before ++ firsts_after before more)) [] (o ∷ [])
        → firsts_after (before ++ x ∷ []) (more ++ o ∷ []) ≡ firsts_after (before ++ x ∷ []) more ++ cond (list_any (are_overloads o) ((before ++ x ∷ []) ++ firsts_after (before ++ x ∷ []) more)) [] (o ∷ [])
        → cond b (firsts_after before (more ++ o ∷ [])) (x ∷ firsts_after (before ++ x ∷ []) (more ++ o ∷ []))
        ≡ cond b (firsts_after before more) (x ∷ firsts_after (before ++ x ∷ []) more) ++ cond (list_any (are_overloads o) (before ++ cond b (firsts_after before more) (x ∷ firsts_after (before ++ x ∷ []) more))) [] (o ∷ [])
    by true left right = left
    by false left right = ap (λ l. x ∷ l) (right ∙ ap (λ l. firsts_after (before ++ x ∷ []) more ++ cond (list_any (are_overloads o) l) [] (o ∷ [])) (append_assoc before (x ∷ []) (firsts_after (before ++ x ∷ []) more)))

-- the first operations, with one operation more
pub firsts_push : (operations : List PlainOperation) (o : PlainOperation) → firsts_after [] (operations ++ o ∷ []) ≡ firsts_after [] operations ++ cond (list_any (are_overloads o) operations) [] (o ∷ [])
firsts_push operations o = firsts_after_push [] operations o ∙ ap (λ b. firsts_after [] operations ++ cond b [] (o ∷ [])) (named_firsts (operation_text o.name) (is_static o.kind) [] operations)

-- a list that is mapped by another function with the same values
pub map_same : {X Y : Type 0} (g h : X → Y) (xs : List X) → ((j : ℕ) (y : X) → slice_get xs j ≡ Some y → h y ≡ g y) → map h xs ≡ map g xs
map_same g h [] same = refl
map_same {Y = Y} g h (x ∷ xs) same = ap (λ (y : Y). y ∷ map h xs) (same 0 x refl) ∙ ap (λ ys. g x ∷ ys) (map_same g h xs (λ j y e. same (suc j) y e))

-- or which differs at one place
pub map_one : {X Y : Type 0} (g h : X → Y) (xs : List X) (k : ℕ) (x : X) → slice_get xs k ≡ Some x → ((j : ℕ) (y : X) → slice_get xs j ≡ Some y → (j ≡ k → ⊥) → h y ≡ g y) → map h xs ≡ set (map g xs) k (h x)
map_one g h [] k x at same = absurd (cc)
map_one {Y = Y} g h (x ∷ xs) zero y at same = ap (λ (z : Y). z ∷ map h xs) (ap h (some_is at)) ∙ ap (λ ys. h y ∷ ys) (map_same g h xs (λ j z e. same (suc j) z e (λ f. omega (arith, f))))
map_one {Y = Y} g h (x ∷ xs) (suc k) y at same = ap (λ (z : Y). z ∷ map h xs) (same 0 x refl (λ f. omega (arith, f))) ∙ ap (λ ys. g x ∷ ys) (map_one g h xs k y at (λ j z e ne. same (suc j) z e (λ f. ne (omega (arith, f)))))

pub filter_none : {X : Type 0} (test : X → Bool) (xs : List X) → list_any test xs ≡ false → filter test xs ≡ []
filter_none test [] e = refl
filter_none test (x ∷ xs) e = by (test x) e (filter_none test xs)
  where
    by : (b : Bool) → (b || list_any test xs) ≡ false → (list_any test xs ≡ false → filter test xs ≡ []) → cond b (x ∷ filter test xs) (filter test xs) ≡ []
    by true f more = absurd (cc)
    by false f more = more f

filter_push : {X : Type 0} (test : X → Bool) (xs : List X) (x : X) → filter test (xs ++ x ∷ []) ≡ filter test xs ++ cond (test x) (x ∷ []) []
filter_push test xs x = filter-append test xs (x ∷ [])

there_left : {X : Type 0} (xs : List X) (y : X) (k : ℕ) (x : X) → slice_get xs k ≡ Some x → slice_get (xs ++ y ∷ []) k ≡ Some x
there_left [] y k x e = absurd (cc)
there_left (z ∷ xs) y zero x e = e
there_left (z ∷ xs) y (suc k) x e = there_left xs y k x e

there_last : {X : Type 0} (xs : List X) (y : X) → slice_get (xs ++ y ∷ []) (length xs) ≡ Some y
there_last [] y = refl
there_last (z ∷ xs) y = there_last xs y

-- an item of a list with one more is one of the list, or the last
there_either : {X : Type 0} (xs : List X) (y : X) (k : ℕ) (x : X) (P : Type 0) → slice_get (xs ++ y ∷ []) k ≡ Some x → (slice_get xs k ≡ Some x → P) → (k ≡ length xs → x ≡ y → P) → P
there_either [] y zero x P e left last = last refl (sym (some_is e))
there_either [] y (suc k) x P e left last = absurd (cc)
there_either (z ∷ xs) y zero x P e left last = left e
there_either (z ∷ xs) y (suc k) x P e left last = there_either xs y k x P e left (λ f g. last (omega (arith, f)) g)

module _ (operations : List PlainOperation) (o : PlainOperation) (number : List ℕ → Bool → Option ℕ) (so : AreNumbers operations number) where
  abbrev pub firsts : List PlainOperation
  firsts = firsts_after [] operations

  -- the number that is kept for the name of this operation
  abbrev pub found : Option ℕ
  found = number (operation_text o.name) (is_static o.kind)

  pub seen : (answer : Option ℕ) → found ≡ answer → list_any (are_overloads o) operations ≡ is_some answer
  seen answer e = sym (so.known (operation_text o.name) (is_static o.kind)) ∙ ap is_some e

  -- one of the first operations has the name only at that number
  pub at_number : (j : ℕ) (y : PlainOperation) → slice_get firsts j ≡ Some y → are_overloads y o ≡ true → found ≡ Some j
  at_number j y e same = sym (ask_named number (operation_text y.name) (is_static y.kind) o same) ∙ so.each j y e

  -- a name that is known
  module _ (k : ℕ) (is : found ≡ Some k) where
    pub same_firsts : firsts_after [] (operations ++ o ∷ []) ≡ firsts
    same_firsts = firsts_push operations o ∙ ap (λ b. firsts ++ cond b [] (o ∷ [])) (seen (Some k) is) ∙ append-nil firsts

    known_still : (text : List ℕ) (static : Bool) (b : Bool) → is_named text static o ≡ b → list_any (is_named text static) operations ≡ (list_any (is_named text static) operations || b)
    known_still text static true e = let some : list_any (is_named text static) operations ≡ true = ask_named (λ t s. list_any (is_named t s) operations) text static o e ∙ seen (Some k) is in some ∙ sym (ap (λ b. b || true) some)
    known_still text static false e = sym (or-false (list_any (is_named text static) operations))

    pub numbers_known : AreNumbers (operations ++ o ∷ []) number
    numbers_known = record {
      known = λ text static. so.known text static ∙ known_still text static (is_named text static o) refl ∙ sym (any_push (is_named text static) operations o);
      there = λ text static j e. let f = so.there text static j e in record { first = f.first; at = ap (λ l. slice_get l j) same_firsts ∙ f.at; name = f.name; kind = f.kind };
      each = λ j y e. so.each j y (ap (λ l. slice_get l j) (sym same_firsts) ∙ e);
    }

  -- a name that is new
  module _ (is : found ≡ None) where
    pub firsts_more : firsts_after [] (operations ++ o ∷ []) ≡ firsts ++ o ∷ []
    firsts_more = firsts_push operations o ∙ ap (λ b. firsts ++ cond b [] (o ∷ [])) (seen None is)

    pub other_name : (j : ℕ) (y : PlainOperation) → slice_get firsts j ≡ Some y → (b : Bool) → are_overloads y o ≡ b → b ≡ false
    other_name j y e true n = let f = at_number j y e n in absurd (cc)
    other_name j y e false n = refl

    module _ (now : List ℕ → Bool → Option ℕ) (keeps : (text : List ℕ) (static : Bool) → now text static ≡ cond (is_named text static o) (Some (length firsts)) (number text static)) where
      known_more : (text : List ℕ) (static : Bool) → (b : Bool) → is_some (cond b (Some (length firsts)) (number text static)) ≡ (list_any (is_named text static) operations || b)
      known_more text static true = sym (grind arith)
      known_more text static false = so.known text static ∙ sym (or-false (list_any (is_named text static) operations))

      there_more : (text : List ℕ) (static : Bool) (j : ℕ) (b : Bool) → is_named text static o ≡ b → cond b (Some (length firsts)) (number text static) ≡ Some j → IsFirstAt (operations ++ o ∷ []) text static j
      there_more text static j true n e = record {
        first = o;
        at = ap (λ l. slice_get l j) firsts_more ∙ ap (slice_get (firsts ++ o ∷ [])) (sym (some_is e)) ∙ there_last firsts o;
        name = sym (named_text text static o n);
        kind = sym (named_kind text static o n);
      }
      there_more text static j false n e = let f = so.there text static j e in record {
        first = f.first;
        at = ap (λ l. slice_get l j) firsts_more ∙ there_left firsts o j f.first f.at;
        name = f.name;
        kind = f.kind;
      }

      each_left : (j : ℕ) (y : PlainOperation) → slice_get firsts j ≡ Some y → now (operation_text y.name) (is_static y.kind) ≡ Some j
      each_left j y e = keeps (operation_text y.name) (is_static y.kind) ∙ ap (λ b. cond b (Some (length firsts)) (number (operation_text y.name) (is_static y.kind))) (other_name j y e (are_overloads y o) refl) ∙ so.each j y e

      each_last : (j : ℕ) (y : PlainOperation) → j ≡ length firsts → y ≡ o → now (operation_text y.name) (is_static y.kind) ≡ Some j
      each_last j y e f =
          ap (λ (x : PlainOperation). now (operation_text x.name) (is_static x.kind)) f ∙ keeps (operation_text o.name) (is_static o.kind)
          ∙ ap (λ b. cond b (Some (length firsts)) (number (operation_text o.name) (is_static o.kind))) (overloads_itself o) ∙ ap Some (sym e)

      pub numbers_new : AreNumbers (operations ++ o ∷ []) now
      numbers_new = record {
        known = λ text static. ap is_some (keeps text static) ∙ known_more text static (is_named text static o) ∙ sym (any_push (is_named text static) operations o);
        there = λ text static j e. there_more text static j (is_named text static o) refl (sym (keeps text static) ∙ e);
        each = λ j y e. there_either firsts o j y (now (operation_text y.name) (is_static y.kind) ≡ Some j) (ap (λ l. slice_get l j) (sym firsts_more) ∙ e) (each_left j y) (each_last j y);
      }

  -- the terms of the names
  module _ (definitions : List PlainDefinition) where
    term_push : (f : PlainOperation) → op_name_of definitions (operations ++ o ∷ []) f ≡ record { name = units_of (operation_text f.name); fixed = is_static f.kind; sigs = map (sig_of_operation definitions) (filter (are_overloads f) operations ++ cond (are_overloads f o) (o ∷ []) []) }
    term_push f = ap (λ l. record { name = units_of (operation_text f.name); fixed = is_static f.kind; sigs = map (sig_of_operation definitions) l }) (filter_push (are_overloads f) operations o)

    pub term_other : (f : PlainOperation) → are_overloads f o ≡ false → op_name_of definitions (operations ++ o ∷ []) f ≡ op_name_of definitions operations f
    term_other f e = term_push f ∙ ap (λ l. record { name = units_of (operation_text f.name); fixed = is_static f.kind; sigs = map (sig_of_operation definitions) l }) (ap (λ b. filter (are_overloads f) operations ++ cond b (o ∷ []) []) e ∙ append-nil (filter (are_overloads f) operations))

    pub term_this : (f : PlainOperation) → are_overloads f o ≡ true → op_name_of definitions (operations ++ o ∷ []) f
        ≡ record { name = units_of (operation_text f.name); fixed = is_static f.kind; sigs = map (sig_of_operation definitions) (filter (are_overloads f) operations) ++ sig_of_operation definitions o ∷ [] }
    term_this f e = term_push f ∙ ap (λ sigs. record { name = units_of (operation_text f.name); fixed = is_static f.kind; sigs = sigs })
        (ap (λ b. map (sig_of_operation definitions) (filter (are_overloads f) operations ++ cond b (o ∷ []) [])) e ∙ map-append (sig_of_operation definitions) (filter (are_overloads f) operations) (o ∷ []))
