-- The bounded sum, a definition at a time.
use Rattle.std.proofs.Common.{◌≡◌, ℕ, ◌+◌, ◌<◌, ◌≤◌, ◌++◌, Bool, true, false, cond, length-take-le, ◌&&◌, nat_lt, List, [], ◌∷◌, length, take, map, filter, get_or, Option, None, Some, option_and_then, unwrap_or, bytes_eq, arith, refl, sym, ap, subst, ◌∙◌, Bor, sum_by}
use Rattle.std.specs.Option.{option_map_or}
use Rattle.std.specs.Map.{update}
use Rattle.std.proofs.lemmas.List.{take_all, length-map, map-append, append_assoc, append-nil}
use Rattle.std.proofs.lemmas.List.Elements.{filter-append}
use Rattle.std.proofs.lemmas.List.Sums.{sum_by_push}
use Rattle.std.proofs.lemmas.Slice.Eq.{bytes_eq-Decides}
use Rattle.indexmap.specs.IndexMap.{IndexMap, get_by}
use Rattle.widl_idl.specs.declared.violation.Violation.{Violation}
use Rattle.widl_idl.specs.declared.tree.definitions.Definition.{Definition}
use Rattle.widl_idl.specs.PlainTrees.{PlainDefinition, PlainKind, definition_of}
use Rattle.widl_names.specs.Listings.{listed_definitions}
use Rattle.widl_names.proofs.PlainLists.{listed_more}
use Rattle.widl_names.proofs.Pushed.{at_one_push}
use Rattle.widl_idl.specs.First.{FirstWhere, AtOne, earlier, violation_at}
use Rattle.widl_idl.specs.MergingRules as written
use Rattle.widl_idl.specs.MergingRules.{PassesLimit, member_total, portion_of, portions_from}
use Rattle.widl_idl.specs.Parts.{adds_to, is_mixin, members_in}
use Rattle.widl_idl.proofs.Order.{one_place}
use Rattle.widl_merge.specs.declared.sums.Portion.{Portion}
use Rattle.widl_merge.specs.Portions.{AreFound, KeepsAdded, added_in, added_members, as_written, capped, capped_portion}

-- what is kept for a text, after a number was added for one
pub count_kept : {S : Type 0} (old new : IndexMap (Bor (List ℕ)) ℕ S) (text other : List ℕ) (size total : ℕ) → total ≡ capped (added_in old text + size)
    → get_by (λ k. bytes_eq other k.now) new ≡ update bytes_eq (λ words. get_by (λ k. bytes_eq words k.now) old) text (Some total) other
    → added_in new other ≡ cond (bytes_eq text other) (capped (added_in old other + size)) (added_in old other)
count_kept {S} old new text other size total t e = by_test (bytes_eq text other) refl
  where
    by_test : (b : Bool) → bytes_eq text other ≡ b → added_in new other ≡ cond b (capped (added_in old other + size)) (added_in old other)
    by_test true h = let same : text ≡ other = grind (arith, bytes_eq-Decides text other) in ap (λ o. unwrap_or o 0) (e ∙ ap (λ b. cond b (Some total) (get_by (λ k. bytes_eq other k.now) old)) h) ∙ t ∙ ap (λ words. capped (added_in old words + size)) same
    by_test false h = ap (λ o. unwrap_or o 0) (e ∙ ap (λ b. cond b (Some total) (get_by (λ k. bytes_eq other k.now) old)) h)

total_by : (b : Bool) (kinds : List PlainKind) (kind : PlainKind) → member_total (kinds ++ cond b (kind ∷ []) []) ≡ cond b (member_total kinds + length (members_in kind)) (member_total kinds)
total_by true kinds kind = sum_by_push (λ part. length (members_in part)) kinds kind
total_by false kinds kind = ap member_total (append-nil kinds)

filter_push : (test : PlainKind → Bool) (kinds : List PlainKind) (kind : PlainKind) → filter test (kinds ++ kind ∷ []) ≡ filter test kinds ++ cond (test kind) (kind ∷ []) []
filter_push test kinds kind = filter-append test kinds (kind ∷ [])

-- the members of the partial mixins of a name, with one definition more
added_push : (definitions : List PlainDefinition) (d : PlainDefinition) (text : List ℕ) → added_members (definitions ++ d ∷ []) text ≡ cond (adds_to is_mixin text d.kind) (added_members definitions text + length (members_in d.kind)) (added_members definitions text)
added_push definitions d text =
    ap (λ kinds. member_total (filter (adds_to is_mixin text) kinds)) (map-append (λ e. e.kind) definitions (d ∷ []))
    ∙ ap member_total (filter_push (adds_to is_mixin text) (map (λ e. e.kind) definitions) d.kind)
    ∙ total_by (adds_to is_mixin text d.kind) (filter (adds_to is_mixin text) (map (λ e. e.kind) definitions)) d.kind

capped_by : (b : Bool) (kept total size now : ℕ) → kept ≡ capped total → now ≡ cond b (capped (kept + size)) kept → now ≡ capped (cond b (total + size) total)
capped_by true kept total size now k e = omega arith
capped_by false kept total size now k e = e ∙ k

pub added_step : {S : Type 0} (old new : IndexMap (Bor (List ℕ)) ℕ S) (definitions : List (Bor Definition)) (i : ℕ) (d : Bor Definition) → i < length definitions → d ≡ get_or definitions i d
    → ((text : List ℕ) → added_in new text ≡ cond (adds_to is_mixin text (definition_of d.now).kind) (capped (added_in old text + length (members_in (definition_of d.now).kind))) (added_in old text))
    → KeepsAdded old (listed_definitions (take i definitions)) → KeepsAdded new (listed_definitions (take (i + 1) definitions))
added_step old new definitions i d below is adds kept = λ text.
    capped_by (adds_to is_mixin text (definition_of d.now).kind) (added_in old text) (added_members (listed_definitions (take i definitions)) text) (length (members_in (definition_of d.now).kind)) (added_in new text) (kept text) (adds text)
    ∙ ap capped (sym (added_push (listed_definitions (take i definitions)) (definition_of d.now) text) ∙ ap (λ ds. added_members ds text) (sym (listed_more definitions i d below is)))

pub added_all : {S : Type 0} (kept : IndexMap (Bor (List ℕ)) ℕ S) (definitions : List (Bor Definition)) (i : ℕ) → length definitions ≤ i → KeepsAdded kept (listed_definitions (take i definitions)) → KeepsAdded kept (listed_definitions definitions)
added_all kept definitions i past k = subst (λ ds. KeepsAdded kept (listed_definitions ds)) (take_all i definitions past) k

-- the portions of the definitions, with one definition more
portions_push : (all : List PlainDefinition) (n : ℕ) (definitions : List PlainDefinition) (d : PlainDefinition) → portions_from all n (definitions ++ d ∷ []) ≡ portions_from all n definitions ++ portion_of all (n + length definitions) d.kind
portions_push all n [] d = let z : n ≡ n + 0 = omega arith in append-nil (portion_of all n d.kind) ∙ ap (λ k. portion_of all k d.kind) z
portions_push all n (first ∷ more) d =
    let k : n + 1 + length more ≡ n + length (first ∷ more) = omega arith in
    ap (λ ps. portion_of all n first.kind ++ ps) (portions_push all (n + 1) more d ∙ ap (λ m. portions_from all (n + 1) more ++ portion_of all m d.kind) k)
    ∙ sym (append_assoc (portion_of all n first.kind) (portions_from all (n + 1) more) (portion_of all (n + length (first ∷ more)) d.kind))

-- the sum of the portions as far as its limit, and the first violation at which it passes the limit
pub record SumsUp (portions : List written.Portion) (sum : ℕ) (best : Option Violation) : Type 0 where
  pub total : sum ≡ capped (sum_by (λ p. p.size) portions)
  pub earliest : FirstWhere (AtOne PassesLimit portions) best

pub nothing_summed : SumsUp [] 0 None
nothing_summed = record { total = refl; earliest = λ s u. absurd (let below = u.below in omega arith) }

passed_at : (sum : ℕ) (before : List written.Portion) (y : written.Portion) (p : Portion) (found : Option Violation) → sum ≡ capped (sum_by (λ p. p.size) before) → p.at ≡ y.at → p.size ≡ capped y.size
    → found ≡ cond (nat_lt sum 1000001 && nat_lt 1000000 (capped (sum + p.size))) (Some (violation_at p.at)) None → FirstWhere (PassesLimit before y) found
passed_at sum before y p found total at size e =
    one_place ((sum_by (λ p. p.size) before ≤ 1000000) × (1000000 < sum_by (λ p. p.size) before + y.size)) y.at (nat_lt sum 1000001 && nat_lt 1000000 (capped (sum + p.size))) found
    (λ h. (grind arith, grind arith)) (λ h q. let first = q.0 in let second = q.1 in grind arith) (e ∙ ap (λ place. cond (nat_lt sum 1000001 && nat_lt 1000000 (capped (sum + p.size))) (Some (violation_at place)) None) at)

earlier_none : (best : Option Violation) → earlier best None ≡ best
earlier_none None = refl
earlier_none (Some best) = refl

head_is : {x y : written.Portion} {xs ys : List written.Portion} → x ∷ xs ≡ y ∷ ys → x ≡ y
head_is e = (cc)

pub portion_step : (portions q : List written.Portion) (r : Option Portion) (sum after : ℕ) (best found now : Option Violation) → AreFound r q → found ≡ option_and_then (λ p. cond (nat_lt sum 1000001 && nat_lt 1000000 (capped (sum + p.size))) (Some (violation_at p.at)) None) r
    → now ≡ earlier best found → after ≡ option_map_or (λ p. capped (sum + p.size)) r sum → SumsUp portions sum best → SumsUp (portions ++ q) after now
portion_step portions [] None sum after best found now are e n a s = record {
  total = a ∙ s.total ∙ ap (λ ps. capped (sum_by (λ p. p.size) ps)) (sym (append-nil portions));
  earliest = subst (λ ps. FirstWhere (AtOne PassesLimit ps) now) (sym (append-nil portions)) (subst (FirstWhere (AtOne PassesLimit portions)) (sym (n ∙ ap (earlier best) e ∙ earlier_none best)) s.earliest);
}
portion_step portions (y ∷ []) (Some p) sum after best found now are e n a s =
    let same : as_written p ≡ capped_portion y = head_is are in
    let size : p.size ≡ capped y.size = ap (λ x. x.size) same in
    let more : sum_by (λ p. p.size) (portions ++ y ∷ []) ≡ sum_by (λ p. p.size) portions + y.size = sum_by_push (λ p. p.size) portions y in
    let before = s.total in
    record {
      total = omega (arith, a, size, more, before);
      earliest = subst (FirstWhere (AtOne PassesLimit (portions ++ y ∷ []))) (sym n) (at_one_push PassesLimit portions y best found s.earliest (passed_at sum portions y p found s.total (ap (λ x. x.at) same) size e));
    }
portion_step portions (y ∷ ys) None sum after best found now are e n a s = absurd (cc)
portion_step portions [] (Some p) sum after best found now are e n a s = absurd (cc)
portion_step portions (y ∷ z ∷ zs) (Some p) sum after best found now are e n a s = absurd (cc)

-- one definition more, as a loop over the definitions has it
pub sum_step : (all : List PlainDefinition) (definitions : List (Bor Definition)) (i : ℕ) (d : Bor Definition) (r : Option Portion) (sum after : ℕ) (best found now : Option Violation) → i < length definitions → d ≡ get_or definitions i d
    → AreFound r (portion_of all i (definition_of d.now).kind) → found ≡ option_and_then (λ p. cond (nat_lt sum 1000001 && nat_lt 1000000 (capped (sum + p.size))) (Some (violation_at p.at)) None) r
    → now ≡ earlier best found → after ≡ option_map_or (λ p. capped (sum + p.size)) r sum → SumsUp (portions_from all 0 (listed_definitions (take i definitions))) sum best
    → SumsUp (portions_from all 0 (listed_definitions (take (i + 1) definitions))) after now
sum_step all definitions i d r sum after best found now below is are e n a s =
    let before = listed_definitions (take i definitions) in
    let size : length before ≡ i = length-map (take i definitions) (λ e. definition_of e.now) ∙ length-take-le i definitions (omega (arith, below)) in
    let place : 0 + length before ≡ i = omega (arith, size) in
    let more : portions_from all 0 (listed_definitions (take (i + 1) definitions)) ≡ portions_from all 0 before ++ portion_of all i (definition_of d.now).kind =
    ap (portions_from all 0) (listed_more definitions i d below is) ∙ portions_push all 0 before (definition_of d.now) ∙ ap (λ k. portions_from all 0 before ++ portion_of all k (definition_of d.now).kind) place in
    subst (λ ps. SumsUp ps after now) (sym more) (portion_step (portions_from all 0 before) (portion_of all i (definition_of d.now).kind) r sum after best found now are e n a s)

pub sum_all : (all : List PlainDefinition) (definitions : List (Bor Definition)) (i : ℕ) (sum : ℕ) (best : Option Violation) → length definitions ≤ i → listed_definitions definitions ≡ all → SumsUp (portions_from all 0 (listed_definitions (take i definitions))) sum best
    → FirstWhere (AtOne PassesLimit (portions_from all 0 all)) best
sum_all all definitions i sum best past same s = subst (λ ds. FirstWhere (AtOne PassesLimit (portions_from all 0 ds)) best) (ap listed_definitions (take_all i definitions past) ∙ same) s.earliest
