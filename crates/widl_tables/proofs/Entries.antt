-- Entries by the numbers of their overloads.
use Rattle.std.proofs.Common.{◌≡◌, ℕ, suc, ◌+◌, ◌-◌, ◌<◌, ◌≤◌, ◌++◌, Bool, true, false, cond, nat_lt, List, [], ◌∷◌, length, drop, map, replicate, slice_get, Option, None, Some, arith, refl, sym, ap, subst, ◌∙◌}
use Rattle.std.specs.List.{list_any}
use Rattle.std.specs.Option.{option_map_or}
use Rattle.std.proofs.lemmas.List.{length-append, length-map, length-replicate, length-take}
use Rattle.widl_idl.specs.DefinitionTerms.{ArgTerm, DefsTerm, IfaceTerm, SigTerm}
use Rattle.widl_overload.specs.sets.Entries.{cut, entry_for, entry_of, is_variadic_list, optionalities_of, repeated, types_of}
use Rattle.widl_overload.specs.sets.Index.{apart_at, each_two}
use Rattle.widl_overload.specs.sets.Sets.{TupleTerm, are_free, is_variadic, with_tuple}
use Rattle.widl_overload.specs.sets.Standing.{args_in}
use Rattle.widl_tables.specs.Kept.{choosing_place, counted_args, entries_of, numbers_of, telling_from}
use Rattle.widl_tables.specs.EntriesByNumber.{entries_in, has_entry, telling_among}

-- 1. The entry of one overload

split_by : (b v a : Bool) (x y : TupleTerm) → cond b (cond v (Some x) None) (cond a (Some y) None) ≡ cond (cond b v a) (Some (cond b x y)) None
split_by true true a x y = refl
split_by true false a x y = refl
split_by false v true x y = refl
split_by false v false x y = refl

-- it has one or none
entry_is : (n : ℕ) (args : List ArgTerm) (m : ℕ) → entry_of n args m ≡ cond (has_entry args m) (Some (entry_for n args m)) None
entry_is n args m = split_by (nat_lt (length args) m) (is_variadic_list args) (are_free (optionalities_of (drop m args))) (repeated n args (m - length args)) (cut n args m)

number_by : (b : Bool) (n : ℕ) (args : List ArgTerm) (m : ℕ) → (cond b (repeated n args (m - length args)) (cut n args m)).overload ≡ n
number_by true n args m = refl
number_by false n args m = refl

-- an entry's number is its overload's
pub number_of_entry : (n : ℕ) (args : List ArgTerm) (m : ℕ) → (entry_for n args m).overload ≡ n
number_of_entry n args m = number_by (nat_lt (length args) m) n args m

-- 2. The numbers of the overloads that have one

numbers_by : (b : Bool) (t : TupleTerm) (rest : List TupleTerm) → numbers_of (with_tuple (cond b (Some t) None) rest) ≡ cond b (t.overload ∷ numbers_of rest) (numbers_of rest)
numbers_by true t rest = refl
numbers_by false t rest = refl

-- one overload more
pub numbers_more : (n : ℕ) (args : List ArgTerm) (m : ℕ) (rest : List TupleTerm) → numbers_of (with_tuple (entry_of n args m) rest) ≡ cond (has_entry args m) (n ∷ numbers_of rest) (numbers_of rest)
numbers_more n args m rest =
    ap (λ e. numbers_of (with_tuple e rest)) (entry_is n args m) ∙ numbers_by (has_entry args m) (entry_for n args m) rest
    ∙ ap (λ k. cond (has_entry args m) (k ∷ numbers_of rest) (numbers_of rest)) (number_of_entry n args m)

again_by : (b : Bool) (t : TupleTerm) (rest : List TupleTerm) (f : ℕ → TupleTerm) → f t.overload ≡ t → map f (numbers_of rest) ≡ rest → map f (numbers_of (with_tuple (cond b (Some t) None) rest)) ≡ with_tuple (cond b (Some t) None) rest
again_by true t rest f here h = (λ i. here i ∷ h i)
again_by false t rest f here h = h

module _ (all : List SigTerm) (m : ℕ) where
  abbrev of_number : ℕ → TupleTerm
  of_number e = entry_for e (args_in all e) m

  of_it : (n : ℕ) (s : SigTerm) → slice_get all n ≡ Some s → of_number n ≡ entry_for n s.args m
  of_it n s is = ap (λ (found : Option SigTerm). entry_for n (option_map_or (λ (s : SigTerm). s.args) found []) m) is

  again_from : (n : ℕ) (sigs : List SigTerm) → ((k : ℕ) → slice_get all (n + k) ≡ slice_get sigs k) → map of_number (numbers_of (entries_of m n sigs)) ≡ entries_of m n sigs
  again_from n [] h = refl
  again_from n (s ∷ sigs) h =
      let here : slice_get all n ≡ Some s = ap (slice_get all) (omega arith) ∙ h 0 in
      let rest : map of_number (numbers_of (entries_of m (n + 1) sigs)) ≡ entries_of m (n + 1) sigs = again_from (n + 1) sigs (λ k. ap (slice_get all) (omega arith) ∙ h (suc k)) in
      subst (λ (e : Option TupleTerm). map of_number (numbers_of (with_tuple e (entries_of m (n + 1) sigs))) ≡ with_tuple e (entries_of m (n + 1) sigs)) (sym (entry_is n s.args m))
      (again_by (has_entry s.args m) (entry_for n s.args m) (entries_of m (n + 1) sigs) of_number (ap of_number (number_of_entry n s.args m) ∙ of_it n s here) rest)

-- the entries of these numbers are those entries
pub entries_again : (sigs : List SigTerm) (m : ℕ) → entries_in sigs m (numbers_of (entries_of m 0 sigs)) ≡ entries_of m 0 sigs
entries_again sigs m = again_from sigs m 0 sigs (λ k. ap (slice_get sigs) (omega arith))

-- 3. How long they are

repeated_long : (args last : List ArgTerm) (count : ℕ) → list_any (λ (a : ArgTerm). is_variadic a.opt) last ≡ true → length (types_of args ++ option_map_or (λ (a : ArgTerm). replicate count a.ty) (slice_get last 0) []) ≡ length args + count
repeated_long args [] count h = cc
repeated_long args (a ∷ more) count h = length-append (types_of args) (replicate count a.ty) ∙ ap (λ k. length (types_of args) + k) (length-replicate count a.ty) ∙ ap (λ k. k + count) (length-map args (λ (a : ArgTerm). a.ty))

long_by : (b : Bool) (n : ℕ) (args : List ArgTerm) (m : ℕ) → b ≡ nat_lt (length args) m → cond b (is_variadic_list args) true ≡ true → length (cond b (repeated n args (m - length args)) (cut n args m)).types ≡ m
long_by true n args m less h = repeated_long args (drop (length args - 1) args) (m - length args) h ∙ (let below : length args < m = grind (arith, less) in omega arith)
long_by false n args m less h = (let above : m ≤ length args = grind (arith, less) in let size : length (types_of args) ≡ length args = length-map args (λ (a : ArgTerm). a.ty) in omega (arith, length-take m (types_of args)))

either_by : (b v a : Bool) → cond b v a ≡ true → cond b v true ≡ true
either_by true v a h = h
either_by false v a h = refl

entry_long : (n : ℕ) (args : List ArgTerm) (m : ℕ) → has_entry args m ≡ true → length (entry_for n args m).types ≡ m
entry_long n args m h = long_by (nat_lt (length args) m) n args m refl (either_by (nat_lt (length args) m) (is_variadic_list args) (are_free (optionalities_of (drop m args))) h)

abbrev EachLong : ℕ → List TupleTerm → Type 0
EachLong m [] = Unit {0}
EachLong m (t ∷ entries) = (length t.types ≡ m) × EachLong m entries

all_by : (b : Bool) (t : TupleTerm) (rest : List TupleTerm) (m : ℕ) → (b ≡ true → length t.types ≡ m) → EachLong m rest → EachLong m (with_tuple (cond b (Some t) None) rest)
all_by true t rest m h r = (h refl, r)
all_by false t rest m h r = r

each_long : (m n : ℕ) (sigs : List SigTerm) → EachLong m (entries_of m n sigs)
each_long m n [] = tt
each_long m n (s ∷ sigs) =
    subst (λ (e : Option TupleTerm). EachLong m (with_tuple e (entries_of m (n + 1) sigs))) (sym (entry_is n s.args m))
    (all_by (has_entry s.args m) (entry_for n s.args m) (entries_of m (n + 1) sigs) m (entry_long n s.args m) (each_long m (n + 1) sigs))

choosing_by : (list : DefsTerm) (m : ℕ) (entries : List TupleTerm) → EachLong m entries → telling_among list.ifaces m entries ≡ choosing_place list entries
choosing_by list m [] h = refl
choosing_by list m (t ∷ []) h = refl
choosing_by list m (t ∷ u ∷ more) h = ap (λ k. Some (telling_from list.ifaces (t ∷ u ∷ more) 0 k)) (sym h.0)

-- 4. What is kept

-- the entries of the numbers that are kept
pub kept_entries : (sigs all : List SigTerm) (m n : ℕ) (numbers : List ℕ) → sigs ≡ all → m ≡ counted_args sigs n → numbers ≡ numbers_of (entries_of m 0 sigs) → entries_in all m numbers ≡ entries_of (counted_args all n) 0 all
kept_entries sigs all m n numbers same counted listed =
    ap (entries_in all m) (listed ∙ ap (λ s. numbers_of (entries_of m 0 s)) same) ∙ entries_again all m ∙ ap (λ k. entries_of k 0 all) (counted ∙ ap (λ s. counted_args s n) same)

-- the place that tells them apart
pub kept_place : (list : DefsTerm) (sigs all : List SigTerm) (m n : ℕ) (numbers : List ℕ) → sigs ≡ all → m ≡ counted_args sigs n → numbers ≡ numbers_of (entries_of m 0 sigs)
    → telling_among list.ifaces m (entries_in sigs m numbers) ≡ choosing_place list (entries_of (counted_args all n) 0 all)
kept_place list sigs all m n numbers same counted listed =
    ap (λ s. telling_among list.ifaces m (entries_in s m numbers)) same
    ∙ ap (λ entries. telling_among list.ifaces m entries) (ap (entries_in all m) (listed ∙ ap (λ s. numbers_of (entries_of m 0 s)) same) ∙ entries_again all m)
    ∙ choosing_by list m (entries_of m 0 all) (each_long m 0 all)
    ∙ ap (λ k. choosing_place list (entries_of k 0 all)) (counted ∙ ap (λ s. counted_args s n) same)

-- one place more was tried
pub telling_more : (ifaces : List IfaceTerm) (entries : List TupleTerm) (place m : ℕ) → place < m → each_two (apart_at ifaces place) entries ≡ false → telling_from ifaces entries place (m - place) ≡ telling_from ifaces entries (place + 1) (m - (place + 1))
telling_more ifaces entries place m below none =
    let more : m - place ≡ suc (m - (place + 1)) = omega arith in
    ap (telling_from ifaces entries place) more ∙ ap (λ b. cond b place (telling_from ifaces entries (place + 1) (m - (place + 1)))) none
