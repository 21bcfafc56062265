-- For proofs alone. The namespaces, their partials and their members, where no rule of merging is broken.
use Rattle.std.proofs.Common.{◌≡◌, ℕ, suc, ◌+◌, ◌<◌, ◌≤◌, ◌++◌, Bool, true, false, cond, nat_lt, List, [], ◌∷◌, length, slice_get, Option, None, Some, is_some, option_map, option_and_then, bytes_eq, sum_by, arith, refl, sym, ap, subst, ◌∙◌, append_assoc}
use Rattle.std.proofs.Math.Seq.{take-append_seam}
use Rattle.std.proofs.lemmas.List.{append-nil, length-append}
use Rattle.std.proofs.lemmas.List.Sums.{sum_by-cons, sum_by_push, sum_by-le-sum_by}
use Rattle.std.proofs.lemmas.Slice.Eq.{bytes_eq-Decides}
use Rattle.widl_idl.specs.declared.violation.Violation.{Violation}
use Rattle.widl_idl.specs.First.{AtOne, violation_at}
use Rattle.widl_idl.specs.Meanings.{is_text_of, main_name, meaning, meaning_from, meant}
use Rattle.widl_idl.specs.MergingRules.{AtName, IsSecondDefinition, PassesLimit, Portion}
use Rattle.widl_idl.specs.Parts.{adds_to, is_namespace, members_in}
use Rattle.widl_idl.specs.PlainTypes.{PlainName}
use Rattle.widl_idl.specs.PlainTrees.{PlainContainerOfMembers, PlainDefinition, PlainKind, NamespaceDefinition}
use Rattle.widl_store.specs.Bounds.{namespace_share, namespace_shares}

-- an item stands at its place
pub item_there : {X : Type 0} (before : List X) (x : X) (after : List X) → slice_get (before ++ x ∷ after) (length before) ≡ Some x
item_there [] x after = refl
item_there (y ∷ before) x after = item_there before x after

-- an item that breaks after those before it is one of the list
pub broken_at : {X : Type 0} (P : List X → X → Violation → Type 0) (xs before : List X) (x : X) (after : List X) (s : Violation) → xs ≡ before ++ x ∷ after → P before x s → AtOne P xs s
broken_at P xs before x after s e b = subst (λ l. AtOne P l s) (sym e) (record {
  index = length before;
  below = (let long = length-append before (x ∷ after) in omega (arith, long));
  item = x;
  is = item_there before x after;
  breaks = subst (λ l. P l x s) (sym (take-append_seam before (x ∷ after))) b;
})

next_split : {X : Type 0} (xs before : List X) (x : X) (after : List X) → xs ≡ before ++ x ∷ after → xs ≡ (before ++ x ∷ []) ++ after
next_split xs before x after e = e ∙ sym (append_assoc before (x ∷ []) after)

-- portions of which none passes the limit are within it together
pub within_limit : (all before portions : List Portion) → all ≡ before ++ portions → sum_by (λ (p : Portion). p.size) before ≤ 1000000 → ((s : Violation) → AtOne PassesLimit all s → ⊥) → sum_by (λ (p : Portion). p.size) all ≤ 1000000
within_limit all before [] e small none = subst (λ l. sum_by (λ (p : Portion). p.size) l ≤ 1000000) (sym (e ∙ append-nil before)) small
within_limit all before (p ∷ more) e small none = by (nat_lt 1000000 (sum_by (λ (p : Portion). p.size) before + p.size)) refl (λ n. within_limit all (before ++ p ∷ []) more (next_split all before p more e) n none)
  where
    by : (b : Bool) → nat_lt 1000000 (sum_by (λ (p : Portion). p.size) before + p.size) ≡ b → (sum_by (λ (p : Portion). p.size) (before ++ p ∷ []) ≤ 1000000 → sum_by (λ (p : Portion). p.size) all ≤ 1000000) → sum_by (λ (p : Portion). p.size) all ≤ 1000000
    by true h go = let past : 1000000 < sum_by (λ (p : Portion). p.size) before + p.size = grind arith in absurd (none (violation_at p.at) (broken_at PassesLimit all before p more (violation_at p.at) e ((small, past), refl)))
    by false h go =
        let room : sum_by (λ (p : Portion). p.size) before + p.size ≤ 1000000 = grind arith in
        let pushed = sum_by_push (λ (p : Portion). p.size) before p in
        go (omega (arith, pushed, room))

-- a name of which the definitions before have none means the one that has it
meaning_there : (n : ℕ) (before : List PlainDefinition) (d : PlainDefinition) (after : List PlainDefinition) (text : List ℕ) → is_text_of text (main_name d.kind) ≡ true → is_some (meaning_from n before text) ≡ false → meaning_from n (before ++ d ∷ after) text ≡ Some (n + length before)
meaning_there n [] d after text named none =
    let place : n ≡ n + 0 = omega arith in
    ap (λ b. cond b (Some n) (meaning_from (n + 1) after text)) named ∙ ap Some place
meaning_there n (e ∷ before) d after text named none = by (is_text_of text (main_name e.kind)) none (meaning_there (n + 1) before d after text named)
  where
    by : (b : Bool) → is_some (cond b (Some n) (meaning_from (n + 1) before text)) ≡ false
        → (is_some (meaning_from (n + 1) before text) ≡ false → meaning_from (n + 1) (before ++ d ∷ after) text ≡ Some (n + 1 + length before)) → cond b (Some n) (meaning_from (n + 1) (before ++ d ∷ after) text) ≡ Some (n + suc (length before))
    by true found later = absurd (cc)
    by false found later = let place : n + 1 + length before ≡ n + suc (length before) = omega arith in later found ∙ ap Some place

-- a name that means something means it with more definitions after
still_meant : (n : ℕ) (before more : List PlainDefinition) (text : List ℕ) → is_some (meaning_from n before text) ≡ true → is_some (meaning_from n (before ++ more) text) ≡ true
still_meant n [] more text found = absurd (cc)
still_meant n (e ∷ before) more text found = by (is_text_of text (main_name e.kind)) found (still_meant (n + 1) before more text)
  where
    by : (b : Bool) → is_some (cond b (Some n) (meaning_from (n + 1) before text)) ≡ true → (is_some (meaning_from (n + 1) before text) ≡ true → is_some (meaning_from (n + 1) (before ++ more) text) ≡ true) → is_some (cond b (Some n) (meaning_from (n + 1) (before ++ more) text)) ≡ true
    by true found later = refl
    by false found later = later found

-- and so does a name that the last definition has
last_meant : (n : ℕ) (before : List PlainDefinition) (d : PlainDefinition) (text : List ℕ) → is_text_of text (main_name d.kind) ≡ true → is_some (meaning_from n (before ++ d ∷ []) text) ≡ true
last_meant n [] d text named = ap (λ b. is_some (cond b (Some n) None)) named
last_meant n (e ∷ before) d text named = by (is_text_of text (main_name e.kind)) (last_meant (n + 1) before d text named)
  where
    by : (b : Bool) → is_some (meaning_from (n + 1) (before ++ d ∷ []) text) ≡ true → is_some (cond b (Some n) (meaning_from (n + 1) (before ++ d ∷ []) text)) ≡ true
    by true later = refl
    by false later = later

own_text : (text : List ℕ) → bytes_eq text text ≡ true
own_text text = grind (arith, bytes_eq-Decides text text)

not_both : (b : Bool) → (b ≡ true → ⊥) → b ≡ false
not_both true h = absurd (h refl)
not_both false h = refl

other_text : (xs ys : List ℕ) → bytes_eq xs ys ≡ false → bytes_eq ys xs ≡ false
other_text xs ys other = not_both (bytes_eq ys xs) (λ h. let same : ys ≡ xs = (bytes_eq-Decides ys xs).0 h in let bad : bytes_eq xs ys ≡ true = (bytes_eq-Decides xs ys).1 (sym same) in absurd (cc))

-- what a definition adds to the namespace of this name, where it is a partial one of it
abbrev pub added_to : List ℕ → PlainKind → ℕ
added_to text kind = cond (adds_to is_namespace text kind) (length (members_in kind)) 0

-- the same, where the first is the main definition of a namespace
abbrev pub main_adds : PlainKind → PlainKind → ℕ
main_adds (NamespaceDefinition n) kind = cond n.partial 0 (added_to n.name.text kind)
main_adds main kind = 0

-- what the main definition itself counts
abbrev pub main_share : PlainKind → ℕ
main_share (NamespaceDefinition n) = cond n.partial 0 (1 + length n.members)
main_share kind = 0

none_added : (m : PlainContainerOfMembers) (main : PlainKind) → is_text_of m.name.text (main_name main) ≡ false → main_adds main (NamespaceDefinition m) ≡ 0
none_added m (NamespaceDefinition n) other = by n.partial m.partial other
  where
    by : (p q : Bool) → is_text_of m.name.text (cond p None (Some n.name)) ≡ false → cond p 0 (cond (is_text_of n.name.text (cond q (Some m.name) None)) (length m.members) 0) ≡ 0
    by true q other = refl
    by false true other = ap (λ b. cond b (length m.members) 0) (other_text n.name.text m.name.text other)
    by false false other = refl
none_added m main other = refl

few_added : (m : PlainContainerOfMembers) (main : PlainKind) → main_adds main (NamespaceDefinition m) ≤ length m.members
few_added m (NamespaceDefinition n) = by n.partial (adds_to is_namespace n.name.text (NamespaceDefinition m))
  where
    by : (p b : Bool) → cond p 0 (cond b (length m.members) 0) ≤ length m.members
    by true b = omega arith
    by false true = omega arith
    by false false = omega arith
few_added m main = omega arith

-- what is no partial definition of a namespace adds nothing
no_addition : (main kind : PlainKind) → ((text : List ℕ) → adds_to is_namespace text kind ≡ false) → main_adds main kind ≡ 0
no_addition (NamespaceDefinition n) kind none = by n.partial
  where
    by : (p : Bool) → cond p 0 (added_to n.name.text kind) ≡ 0
    by true = refl
    by false = ap (λ b. cond b (length (members_in kind)) 0) (none n.name.text)
no_addition main kind none = refl

pub zero_sum : {X : Type 0} (f : X → ℕ) (xs : List X) → ((x : X) → f x ≡ 0) → sum_by f xs ≡ 0
zero_sum f [] none = refl
zero_sum f (x ∷ xs) none = let all = sum_by-cons f x xs in let here = none x in let rest = zero_sum f xs none in omega (arith, all, here, rest)

pub sums_added : {X : Type 0} (f g h : X → ℕ) (xs : List X) → ((x : X) → f x + g x ≡ h x) → sum_by f xs + sum_by g xs ≡ sum_by h xs
sums_added f g h [] same = refl
sums_added f g h (x ∷ xs) same =
    let a = sum_by-cons f x xs in
    let b = sum_by-cons g x xs in
    let c = sum_by-cons h x xs in
    let here = same x in
    let rest = sums_added f g h xs same in
    omega (arith, a, b, c, here, rest)

-- a table has one sum by rows and by columns
pub exchanged : {X Y : Type 0} (f : X → Y → ℕ) (xs : List X) (ys : List Y) → sum_by (λ x. sum_by (λ y. f x y) ys) xs ≡ sum_by (λ y. sum_by (λ x. f x y) xs) ys
exchanged f [] ys = sym (zero_sum (λ y. 0) ys (λ y. refl))
exchanged f (x ∷ xs) ys =
    sum_by-cons (λ x. sum_by (λ y. f x y) ys) x xs
    ∙ ap (λ n. sum_by (λ y. f x y) ys + n) (exchanged f xs ys)
    ∙ sums_added (λ y. f x y) (λ y. sum_by (λ x. f x y) xs) (λ y. sum_by (λ x. f x y) (x ∷ xs)) ys (λ y. sym (sum_by-cons (λ x. f x y) x xs))

module _ (definitions : List PlainDefinition) (once : (s : Violation) → AtOne IsSecondDefinition definitions s → ⊥) where
  -- the name of a main definition is that of none before
  first_with_name : (before : List PlainDefinition) (d : PlainDefinition) (after : List PlainDefinition) (text : List ℕ) → definitions ≡ before ++ d ∷ after → is_text_of text (main_name d.kind) ≡ true → is_some (meaning before text) ≡ false
  first_with_name before d after text e named = by (main_name d.kind) refl named
    where
      by : (o : Option PlainName) → main_name d.kind ≡ o → is_text_of text o ≡ true → is_some (meaning before text) ≡ false
      by None same named = absurd (cc)
      by (Some name) same named =
          let is : name.text ≡ text = (bytes_eq-Decides name.text text).0 named in
          not_both (is_some (meaning before text)) (λ h. once (violation_at name.at) (broken_at IsSecondDefinition definitions before d after (violation_at name.at) e
          (subst (λ o. AtName o (λ (n : PlainName). is_some (meaning before n.text) ≡ true) (violation_at name.at)) (sym same) (ap (λ t. is_some (meaning before t)) is ∙ h, refl))))

  -- so it means this definition
  pub means_there : (before : List PlainDefinition) (d : PlainDefinition) (after : List PlainDefinition) (text : List ℕ) → definitions ≡ before ++ d ∷ after → is_text_of text (main_name d.kind) ≡ true → meaning definitions text ≡ Some (length before)
  means_there before d after text e named =
      let place : 0 + length before ≡ length before = omega arith in
      ap (λ l. meaning l text) e ∙ meaning_there 0 before d after text named (first_with_name before d after text e named) ∙ ap Some place

  pub meant_there : (before : List PlainDefinition) (d : PlainDefinition) (after : List PlainDefinition) (text : List ℕ) → definitions ≡ before ++ d ∷ after → is_text_of text (main_name d.kind) ≡ true → meant definitions text ≡ Some d.kind
  meant_there before d after text e named =
      ap (λ o. option_map (λ (x : PlainDefinition). x.kind) (option_and_then (slice_get definitions) o)) (means_there before d after text e named)
      ∙ ap (λ l. option_map (λ (x : PlainDefinition). x.kind) (slice_get l (length before))) e
      ∙ ap (λ o. option_map (λ (x : PlainDefinition). x.kind) o) (item_there before d after)

  -- a partial definition adds nothing to main ones after one that has its name
  none_after : (before after : List PlainDefinition) (m : PlainContainerOfMembers) → definitions ≡ before ++ after → is_some (meaning before m.name.text) ≡ true → sum_by (λ (d : PlainDefinition). main_adds d.kind (NamespaceDefinition m)) after ≡ 0
  none_after before [] m e seen = refl
  none_after before (d ∷ after) m e seen =
      let all = sum_by-cons (λ (x : PlainDefinition). main_adds x.kind (NamespaceDefinition m)) d after in
      let here : main_adds d.kind (NamespaceDefinition m) ≡ 0 = none_added m d.kind (not_both (is_text_of m.name.text (main_name d.kind)) (λ h. let first = first_with_name before d after m.name.text e h in absurd (cc))) in
      let rest = none_after (before ++ d ∷ []) after m (next_split definitions before d after e) (still_meant 0 before (d ∷ []) m.name.text seen) in
      omega (arith, all, here, rest)

  -- and to all of them no more than its members
  few_after : (before after : List PlainDefinition) (m : PlainContainerOfMembers) → definitions ≡ before ++ after → sum_by (λ (d : PlainDefinition). main_adds d.kind (NamespaceDefinition m)) after ≤ length m.members
  few_after before [] m e = omega arith
  few_after before (d ∷ after) m e = by (is_text_of m.name.text (main_name d.kind)) refl (few_after (before ++ d ∷ []) after m (next_split definitions before d after e))
    where
      all : sum_by (λ (x : PlainDefinition). main_adds x.kind (NamespaceDefinition m)) (d ∷ after) ≡ main_adds d.kind (NamespaceDefinition m) + sum_by (λ (x : PlainDefinition). main_adds x.kind (NamespaceDefinition m)) after
      all = sum_by-cons (λ (x : PlainDefinition). main_adds x.kind (NamespaceDefinition m)) d after

      by : (b : Bool) → is_text_of m.name.text (main_name d.kind) ≡ b → sum_by (λ (x : PlainDefinition). main_adds x.kind (NamespaceDefinition m)) after ≤ length m.members → sum_by (λ (x : PlainDefinition). main_adds x.kind (NamespaceDefinition m)) (d ∷ after) ≤ length m.members
      by true named later =
          let here = few_added m d.kind in
          let rest = none_after (before ++ d ∷ []) after m (next_split definitions before d after e) (last_meant 0 before d m.name.text named) in
          omega (arith, all, here, rest)
      by false named later = let here = none_added m d.kind named in omega (arith, all, here, later)

  -- what a definition counts as a main one and adds to others is no more than its share
  shared : (kind : PlainKind) → main_share kind + sum_by (λ (d : PlainDefinition). main_adds d.kind kind) definitions ≤ namespace_share kind
  shared (NamespaceDefinition m) = by m.partial refl (few_after [] definitions m refl)
    where
      no_part : m.partial ≡ false → (text : List ℕ) → adds_to is_namespace text (NamespaceDefinition m) ≡ false
      no_part main text = ap (λ p. is_text_of text (cond p (Some m.name) None)) main

      by : (p : Bool) → m.partial ≡ p → sum_by (λ (d : PlainDefinition). main_adds d.kind (NamespaceDefinition m)) definitions ≤ length m.members → cond p 0 (1 + length m.members) + sum_by (λ (d : PlainDefinition). main_adds d.kind (NamespaceDefinition m)) definitions ≤ 1 + length m.members
      by true is few = omega (arith, few)
      by false is few = let none = zero_sum (λ (d : PlainDefinition). main_adds d.kind (NamespaceDefinition m)) definitions (λ d. no_addition d.kind (NamespaceDefinition m) (no_part is)) in omega (arith, none)
  shared kind = let none = zero_sum (λ (d : PlainDefinition). main_adds d.kind kind) definitions (λ d. no_addition d.kind kind (λ text. refl)) in omega (arith, none)

  -- the main definitions with what is added to them, in all
  pub all_shared : sum_by (λ (d : PlainDefinition). main_share d.kind + sum_by (λ (x : PlainDefinition). main_adds d.kind x.kind) definitions) definitions ≤ namespace_shares definitions
  all_shared =
      let rows = sums_added (λ (d : PlainDefinition). main_share d.kind) (λ (d : PlainDefinition). sum_by (λ (x : PlainDefinition). main_adds d.kind x.kind) definitions) (λ (d : PlainDefinition). main_share d.kind + sum_by (λ (x : PlainDefinition). main_adds d.kind x.kind) definitions) definitions (λ d. refl) in
      let columns = sums_added (λ (d : PlainDefinition). main_share d.kind) (λ (d : PlainDefinition). sum_by (λ (x : PlainDefinition). main_adds x.kind d.kind) definitions) (λ (d : PlainDefinition). main_share d.kind + sum_by (λ (x : PlainDefinition). main_adds x.kind d.kind) definitions) definitions (λ d. refl) in
      let turned = exchanged (λ (d : PlainDefinition) (x : PlainDefinition). main_adds d.kind x.kind) definitions definitions in
      let each = sum_by-le-sum_by (λ (d : PlainDefinition). main_share d.kind + sum_by (λ (x : PlainDefinition). main_adds x.kind d.kind) definitions) (λ (d : PlainDefinition). namespace_share d.kind) definitions (λ d. shared d.kind) in
      omega (arith, rows, columns, turned, each)
