-- How many members an interface, a namespace and a dictionary have, where no rule of merging is broken.
use Rattle.std.proofs.Common.{◌≡◌, ℕ, zero, suc, ◌+◌, ◌<◌, ◌≤◌, ◌++◌, Bool, true, false, cond, ◌&&◌, nat_eq, nat_lt, List, [], ◌∷◌, length, map, filter, flat_map, slice_get, Option, None, Some, option_map, bytes_eq, sum_by, arith, refl, sym, ap, subst, ◌∙◌, append_assoc}
use Rattle.std.proofs.Math.Seq.{take-append_seam}
use Rattle.std.proofs.Math.Bool.{and-false}
use Rattle.std.proofs.lemmas.List.{append-nil, length-append}
use Rattle.std.proofs.lemmas.List.Concat.{length-flat_map}
use Rattle.std.proofs.lemmas.List.Sums.{sum_by-append, sum_by-cons, sum_by_push}
use Rattle.std.proofs.lemmas.Slice.Eq.{bytes_eq-Decides}
use Rattle.widl_idl.specs.declared.kind.Kind.{Kind}
use Rattle.widl_idl.specs.declared.kind.Kind.TheVariants as kinds
use Rattle.widl_idl.specs.declared.violation.Violation.{Violation}
use Rattle.widl_idl.specs.First.{AtOne, violation_at}
use Rattle.widl_idl.specs.Meanings.{declared_name, is_partial, is_text_of, kind_of, main_name, meaning, meant, meant_kind}
use Rattle.widl_idl.specs.MergingRules.{PassesLimit, Portion, includes_portion, is_kind, is_number, member_total, part_portion, portion_of, portions_from, takes_part}
use Rattle.widl_idl.specs.Parts.{adds_to, dictionary_members_in, is_interface, is_mixin, is_namespace, members_in, mixed_parts, own_parts, parts_beside, parts_mixed_by}
use Rattle.widl_idl.specs.PlainTypes.{PlainName}
use Rattle.widl_idl.specs.PlainTrees.{PlainDefinition, PlainKind, PlainMember, IncludesStatement, InterfaceDefinition, MixinDefinition, NamespaceDefinition}
use Rattle.widl_names.proofs.NamedParts.{meant_at}
use Rattle.widl_names.proofs.Pushed.{some_is}

abbrev size_of : List Portion → ℕ
size_of portions = sum_by (λ (p : Portion). p.size) portions

item_there : {X : Type 0} (before : List X) (x : X) (after : List X) → slice_get (before ++ x ∷ after) (length before) ≡ Some x
item_there [] x after = refl
item_there (y ∷ before) x after = item_there before x after

passes_at : (all before : List Portion) (p : Portion) (after : List Portion) (s : Violation) → all ≡ before ++ p ∷ after → PassesLimit before p s → AtOne PassesLimit all s
passes_at all before p after s e broken = subst (λ l. AtOne PassesLimit l s) (sym e) (record {
  index = length before;
  below = (let long = length-append before (p ∷ after) in omega (arith, long));
  item = p;
  is = item_there before p after;
  breaks = subst (λ l. PassesLimit l p s) (sym (take-append_seam before (p ∷ after))) broken;
})

-- portions of which none passes the limit are within it together
within_limit : (all before portions : List Portion) → all ≡ before ++ portions → size_of before ≤ 1000000 → ((s : Violation) → AtOne PassesLimit all s → ⊥) → size_of all ≤ 1000000
within_limit all before [] e small none = subst (λ l. size_of l ≤ 1000000) (sym (e ∙ append-nil before)) small
within_limit all before (p ∷ more) e small none = by (nat_lt 1000000 (size_of before + p.size)) refl (λ n. within_limit all (before ++ p ∷ []) more (e ∙ sym (append_assoc before (p ∷ []) more)) n none)
  where
    by : (b : Bool) → nat_lt 1000000 (size_of before + p.size) ≡ b → (size_of (before ++ p ∷ []) ≤ 1000000 → size_of all ≤ 1000000) → size_of all ≤ 1000000
    by true h go = let past : 1000000 < size_of before + p.size = grind arith in absurd (none (violation_at p.at) (passes_at all before p more (violation_at p.at) e ((small, past), refl)))
    by false h go =
        let room : size_of before + p.size ≤ 1000000 = grind arith in
        let pushed = sum_by_push (λ (q : Portion). q.size) before p in
        go (omega (arith, pushed, room))

-- the members of these parts
total_members : (parts : List PlainKind) → length (flat_map members_in parts) ≡ member_total parts
total_members parts = length-flat_map members_in parts

module _ (definitions : List PlainDefinition) where
  abbrev portions : ℕ → List PlainDefinition → List Portion
  portions number some = portions_from definitions number some

  -- the portion of one definition is among all of them
  portion_within : (some : List PlainDefinition) (number k : ℕ) (d : PlainDefinition) → slice_get some k ≡ Some d → size_of (portion_of definitions (number + k) d.kind) ≤ size_of (portions number some)
  portion_within [] number k d is = absurd (cc)
  portion_within (x ∷ some) number zero d is =
      let same : x ≡ d = some_is is in
      let both = sum_by-append (λ (p : Portion). p.size) (portion_of definitions number x.kind) (portions (number + 1) some) in
      let place : number ≡ number + 0 = omega arith in
      subst (λ n. size_of (portion_of definitions n d.kind) ≤ size_of (portions number (x ∷ some))) place (subst (λ (y : PlainDefinition). size_of (portion_of definitions number y.kind) ≤ size_of (portions number (x ∷ some))) same (omega (arith, both)))
  portion_within (x ∷ some) number (suc k) d is =
      let both = sum_by-append (λ (p : Portion). p.size) (portion_of definitions number x.kind) (portions (number + 1) some) in
      let place : number + 1 + k ≡ number + suc k = omega arith in
      let rest = subst (λ n. size_of (portion_of definitions n d.kind) ≤ size_of (portions (number + 1) some)) place (portion_within some (number + 1) k d is) in
      omega (arith, both, rest)

  -- what each definition counts at most its portion is no more in all
  shares_within : (share : PlainKind → ℕ) → ((number : ℕ) (kind : PlainKind) → share kind ≤ size_of (portion_of definitions number kind)) → (number : ℕ) (some : List PlainDefinition) → sum_by (λ (d : PlainDefinition). share d.kind) some ≤ size_of (portions number some)
  shares_within share few number [] = omega arith
  shares_within share few number (d ∷ some) =
      let all = sum_by-cons (λ (x : PlainDefinition). share x.kind) d some in
      let both = sum_by-append (λ (p : Portion). p.size) (portion_of definitions number d.kind) (portions (number + 1) some) in
      let here = few number d.kind in
      let rest = shares_within share few (number + 1) some in
      omega (arith, all, both, here, rest)

  text_is : (text : List ℕ) (name : PlainName) → bytes_eq name.text text ≡ true → name.text ≡ text
  text_is text name e = (bytes_eq-Decides name.text text).0 e

  -- the partial parts of this name
  abbrev partial_share : (PlainKind → Bool) → List ℕ → PlainKind → ℕ
  partial_share is_one text kind = cond (adds_to is_one text kind) (length (members_in kind)) 0

  partial_total : (is_one : PlainKind → Bool) (text : List ℕ) (some : List PlainDefinition) → member_total (filter (adds_to is_one text) (map (λ (d : PlainDefinition). d.kind) some)) ≡ sum_by (λ (d : PlainDefinition). partial_share is_one text d.kind) some
  partial_total is_one text [] = refl
  partial_total is_one text (d ∷ some) = by (adds_to is_one text d.kind) refl (partial_total is_one text some)
    where
      by : (b : Bool) → adds_to is_one text d.kind ≡ b
          → member_total (filter (adds_to is_one text) (map (λ (x : PlainDefinition). x.kind) some)) ≡ sum_by (λ (x : PlainDefinition). partial_share is_one text x.kind) some
          → member_total (cond b (d.kind ∷ filter (adds_to is_one text) (map (λ (x : PlainDefinition). x.kind) some)) (filter (adds_to is_one text) (map (λ (x : PlainDefinition). x.kind) some))) ≡ sum_by (λ (x : PlainDefinition). partial_share is_one text x.kind) (d ∷ some)
      by true is rest =
          let left = sum_by-cons (λ (k : PlainKind). length (members_in k)) d.kind (filter (adds_to is_one text) (map (λ (x : PlainDefinition). x.kind) some)) in
          let right = sum_by-cons (λ (x : PlainDefinition). partial_share is_one text x.kind) d some in
          let here : partial_share is_one text d.kind ≡ length (members_in d.kind) = ap (λ b. cond b (length (members_in d.kind)) 0) is in
          omega (arith, left, right, here, rest)
      by false is rest =
          let right = sum_by-cons (λ (x : PlainDefinition). partial_share is_one text x.kind) d some in
          let here : partial_share is_one text d.kind ≡ 0 = ap (λ b. cond b (length (members_in d.kind)) 0) is in
          omega (arith, right, here, rest)

  -- a partial part of a name that means a definition of its kind takes part in the sum
  partial_taken : (text : List ℕ) (number : ℕ) (k : PlainKind) (name : PlainName) (members : List PlainMember) (p : Bool) → is_partial k ≡ p → meant_kind definitions text ≡ Some (kind_of k) → is_kind (kind_of k) (Some (kind_of k)) ≡ true
      → cond (is_text_of text (cond p (Some name) None)) (length members) 0 ≤ size_of (part_portion definitions number k name members)
  partial_taken text number k name members false partial means itself = omega arith
  partial_taken text number k name members true partial means itself = by (bytes_eq name.text text) refl
    where
      by : (b : Bool) → bytes_eq name.text text ≡ b → cond b (length members) 0 ≤ size_of (part_portion definitions number k name members)
      by false other = omega arith
      by true same =
          let takes : takes_part definitions number k name.text ≡ true =
          ap (λ q. cond q (is_kind (kind_of k) (meant_kind definitions name.text)) (is_number number (meaning definitions name.text))) partial
          ∙ ap (λ t. is_kind (kind_of k) (meant_kind definitions t)) (text_is text name same) ∙ ap (is_kind (kind_of k)) means ∙ itself in
          let there : size_of (part_portion definitions number k name members) ≡ 0 + (1 + length members) = ap (λ b. size_of (cond b (record { at = name.at; size = 1 + length members } ∷ []) [])) takes in
          omega (arith, there)

  interface_partial : (text : List ℕ) → meant_kind definitions text ≡ Some kinds.Interface → (number : ℕ) (kind : PlainKind) → partial_share is_interface text kind ≤ size_of (portion_of definitions number kind)
  interface_partial text means number (InterfaceDefinition i) = partial_taken text number (InterfaceDefinition i) i.name i.members i.partial refl means refl
  interface_partial text means number kind = omega arith

  namespace_partial : (text : List ℕ) → meant_kind definitions text ≡ Some kinds.Namespace → (number : ℕ) (kind : PlainKind) → partial_share is_namespace text kind ≤ size_of (portion_of definitions number kind)
  namespace_partial text means number (NamespaceDefinition n) = partial_taken text number (NamespaceDefinition n) n.name n.members n.partial refl means refl
  namespace_partial text means number kind = omega arith

  -- and so does the main part
  main_taken : (text : List ℕ) (number : ℕ) (k : PlainKind) (name : PlainName) (members : List PlainMember) (p : Bool) → is_partial k ≡ p → is_text_of text (cond p None (Some name)) ≡ true → meaning definitions text ≡ Some number
      → length members ≤ size_of (part_portion definitions number k name members)
  main_taken text number k name members true partial named means = absurd (cc)
  main_taken text number k name members false partial named means =
      let itself : nat_eq number number ≡ true = grind arith in
      let takes : takes_part definitions number k name.text ≡ true =
      ap (λ q. cond q (is_kind (kind_of k) (meant_kind definitions name.text)) (is_number number (meaning definitions name.text))) partial
      ∙ ap (λ t. is_number number (meaning definitions t)) (text_is text name named) ∙ ap (is_number number) means ∙ itself in
      let there : size_of (part_portion definitions number k name members) ≡ 0 + (1 + length members) = ap (λ b. size_of (cond b (record { at = name.at; size = 1 + length members } ∷ []) [])) takes in
      omega (arith, there)

  -- what an includes statement mixes in is no more than its portion
  no_mixin : (text : List ℕ) (main : Option PlainKind) → is_kind kinds.Mixin (option_map kind_of main) ≡ false → parts_beside is_mixin definitions text main ≡ []
  no_mixin text None e = refl
  no_mixin text (Some (MixinDefinition m)) e = absurd (cc)
  no_mixin text (Some kind) e = refl

  mixed_share : (text : List ℕ) → meant_kind definitions text ≡ Some kinds.Interface → (number : ℕ) (kind : PlainKind) → member_total (parts_mixed_by definitions text kind) ≤ size_of (portion_of definitions number kind)
  mixed_share text means number (IncludesStatement i) = by (bytes_eq i.interface.text text) refl (is_kind kinds.Mixin (meant_kind definitions i.mixin.text)) refl
    where
      by : (b : Bool) → bytes_eq i.interface.text text ≡ b → (m : Bool) → is_kind kinds.Mixin (meant_kind definitions i.mixin.text) ≡ m → member_total (cond b (own_parts is_mixin definitions i.mixin.text) []) ≤ size_of (includes_portion definitions i.interface i.mixin)
      by false other m mixin = omega arith
      by true same false mixin = subst (λ parts. member_total parts ≤ size_of (includes_portion definitions i.interface i.mixin)) (sym (no_mixin i.mixin.text (meant definitions i.mixin.text) mixin)) (omega arith)
      by true same true mixin =
          let into : is_kind kinds.Interface (meant_kind definitions i.interface.text) ≡ true = ap (λ t. is_kind kinds.Interface (meant_kind definitions t)) (text_is text i.interface same) ∙ ap (is_kind kinds.Interface) means in
          let there : size_of (includes_portion definitions i.interface i.mixin) ≡ 0 + (1 + member_total (own_parts is_mixin definitions i.mixin.text)) =
          ap (λ b. size_of (cond (b && is_kind kinds.Mixin (meant_kind definitions i.mixin.text)) (record { at = i.interface.at; size = 1 + member_total (own_parts is_mixin definitions i.mixin.text) } ∷ []) [])) into
          ∙ ap (λ b. size_of (cond b (record { at = i.interface.at; size = 1 + member_total (own_parts is_mixin definitions i.mixin.text) } ∷ []) [])) mixin in
          omega (arith, there)
  mixed_share text means number kind = omega arith

  mixed_total : (text : List ℕ) (some : List PlainDefinition) → member_total (flat_map (λ (d : PlainDefinition). parts_mixed_by definitions text d.kind) some) ≡ sum_by (λ (d : PlainDefinition). member_total (parts_mixed_by definitions text d.kind)) some
  mixed_total text [] = refl
  mixed_total text (d ∷ some) =
      let left = sum_by-append (λ (k : PlainKind). length (members_in k)) (parts_mixed_by definitions text d.kind) (flat_map (λ (x : PlainDefinition). parts_mixed_by definitions text x.kind) some) in
      let right = sum_by-cons (λ (x : PlainDefinition). member_total (parts_mixed_by definitions text x.kind)) d some in
      let rest = mixed_total text some in
      omega (arith, left, right, rest)

  -- the main part and the partial ones
  own_total : (is_one : PlainKind → Bool) (text : List ℕ) (main : PlainKind) → meant definitions text ≡ Some main → is_one main ≡ true
      → member_total (own_parts is_one definitions text) ≡ length (members_in main) + sum_by (λ (d : PlainDefinition). partial_share is_one text d.kind) definitions
  own_total is_one text main means is =
      let parts : own_parts is_one definitions text ≡ main ∷ filter (adds_to is_one text) (map (λ (d : PlainDefinition). d.kind) definitions) =
      ap (parts_beside is_one definitions text) means ∙ ap (λ b. cond b (main ∷ filter (adds_to is_one text) (map (λ (d : PlainDefinition). d.kind) definitions)) []) is in
      let whole = ap member_total parts in
      let split = sum_by-cons (λ (k : PlainKind). length (members_in k)) main (filter (adds_to is_one text) (map (λ (d : PlainDefinition). d.kind) definitions)) in
      let partials = partial_total is_one text definitions in
      omega (arith, whole, split, partials)

  module _ (text : List ℕ) (number : ℕ) (means : meaning definitions text ≡ Some number) (d : PlainDefinition) (is : slice_get definitions number ≡ Some d) (named : is_text_of text (main_name d.kind) ≡ true) where
    meant_there : meant definitions text ≡ Some d.kind
    meant_there = meant_at definitions number text d means is

    kind_there : (kind : Kind) → kind_of d.kind ≡ kind → meant_kind definitions text ≡ Some kind
    kind_there kind e = ap (option_map kind_of) meant_there ∙ ap Some e

    module _ (limit : (s : Violation) → AtOne PassesLimit (portions 0 definitions) s → ⊥) where
      all_within : size_of (portions 0 definitions) ≤ 1000000
      all_within = within_limit (portions 0 definitions) [] (portions 0 definitions) refl (omega arith) limit

      interface_main : (kind : PlainKind) → d.kind ≡ kind → kind_of kind ≡ kinds.Interface → (length (members_in kind) ≤ size_of (portion_of definitions number kind)) × (is_interface kind ≡ true)
      interface_main (InterfaceDefinition i) e of_kind = (main_taken text number (InterfaceDefinition i) i.name i.members i.partial refl (subst (λ k. is_text_of text (main_name k) ≡ true) e named) means, refl)
      interface_main kind e of_kind = absurd (cc)

      namespace_main : (kind : PlainKind) → d.kind ≡ kind → kind_of kind ≡ kinds.Namespace → (length (members_in kind) ≤ size_of (portion_of definitions number kind)) × (is_namespace kind ≡ true)
      namespace_main (NamespaceDefinition n) e of_kind = (main_taken text number (NamespaceDefinition n) n.name n.members n.partial refl (subst (λ k. is_text_of text (main_name k) ≡ true) e named) means, refl)
      namespace_main kind e of_kind = absurd (cc)

      portion_there : size_of (portion_of definitions number d.kind) ≤ size_of (portions 0 definitions)
      portion_there = let place : 0 + number ≡ number = omega arith in subst (λ n. size_of (portion_of definitions n d.kind) ≤ size_of (portions 0 definitions)) place (portion_within definitions 0 number d is)

      -- an interface has at most three times as many members as the limit says
      pub interface_few : kind_of d.kind ≡ kinds.Interface → length (flat_map members_in (own_parts is_interface definitions text ++ mixed_parts definitions text)) ≤ 3000000
      interface_few of_kind =
          let main = interface_main d.kind refl of_kind in
          let all = all_within in
          let there = portion_there in
          let own = own_total is_interface text d.kind meant_there main.1 in
          let partials = shares_within (partial_share is_interface text) (interface_partial text (kind_there kinds.Interface of_kind)) 0 definitions in
          let mixed = mixed_total text definitions in
          let mixins = shares_within (λ k. member_total (parts_mixed_by definitions text k)) (mixed_share text (kind_there kinds.Interface of_kind)) 0 definitions in
          let both = sum_by-append (λ (k : PlainKind). length (members_in k)) (own_parts is_interface definitions text) (mixed_parts definitions text) in
          let size = total_members (own_parts is_interface definitions text ++ mixed_parts definitions text) in
          let first = main.0 in
          omega (arith, all, there, own, partials, mixed, mixins, both, size, first)

      -- and a namespace twice as many
      pub namespace_few : kind_of d.kind ≡ kinds.Namespace → length (flat_map members_in (own_parts is_namespace definitions text)) ≤ 3000000
      namespace_few of_kind =
          let main = namespace_main d.kind refl of_kind in
          let all = all_within in
          let there = portion_there in
          let own = own_total is_namespace text d.kind meant_there main.1 in
          let partials = shares_within (partial_share is_namespace text) (namespace_partial text (kind_there kinds.Namespace of_kind)) 0 definitions in
          let size = total_members (own_parts is_namespace definitions text) in
          let first = main.0 in
          omega (arith, all, there, own, partials, size, first)

    -- a dictionary has no more members than are written
    main_no_part : (p : Bool) (name : Option PlainName) → is_text_of text (cond p None name) ≡ true → is_text_of text (cond p name None) ≡ false
    main_no_part true name e = absurd (cc)
    main_no_part false name e = refl

    no_partial : (is_one : PlainKind → Bool) (kind : PlainKind) → is_text_of text (main_name kind) ≡ true → adds_to is_one text kind ≡ false
    no_partial is_one kind e = ap (λ b. is_one kind && b) (main_no_part (is_partial kind) (declared_name kind) e) ∙ and-false (is_one kind)

    beside_total : (is_one : PlainKind → Bool) (some : List PlainDefinition) → sum_by (λ (k : PlainKind). length (dictionary_members_in k)) (filter (adds_to is_one text) (map (λ (x : PlainDefinition). x.kind) some)) ≤ sum_by (λ (x : PlainDefinition). length (dictionary_members_in x.kind)) some
    beside_total is_one [] = omega arith
    beside_total is_one (x ∷ some) = by (adds_to is_one text x.kind) (beside_total is_one some)
      where
        by : (b : Bool) → sum_by (λ (k : PlainKind). length (dictionary_members_in k)) (filter (adds_to is_one text) (map (λ (y : PlainDefinition). y.kind) some)) ≤ sum_by (λ (y : PlainDefinition). length (dictionary_members_in y.kind)) some
            → sum_by (λ (k : PlainKind). length (dictionary_members_in k)) (cond b (x.kind ∷ filter (adds_to is_one text) (map (λ (y : PlainDefinition). y.kind) some)) (filter (adds_to is_one text) (map (λ (y : PlainDefinition). y.kind) some))) ≤ sum_by (λ (y : PlainDefinition). length (dictionary_members_in y.kind)) (x ∷ some)
        by true rest =
            let left = sum_by-cons (λ (k : PlainKind). length (dictionary_members_in k)) x.kind (filter (adds_to is_one text) (map (λ (y : PlainDefinition). y.kind) some)) in
            let right = sum_by-cons (λ (y : PlainDefinition). length (dictionary_members_in y.kind)) x some in
            omega (arith, left, right, rest)
        by false rest = let right = sum_by-cons (λ (y : PlainDefinition). length (dictionary_members_in y.kind)) x some in omega (arith, right, rest)

    main_beside : (is_one : PlainKind → Bool) (some : List PlainDefinition) (k : ℕ) → slice_get some k ≡ Some d
        → length (dictionary_members_in d.kind) + sum_by (λ (x : PlainKind). length (dictionary_members_in x)) (filter (adds_to is_one text) (map (λ (x : PlainDefinition). x.kind) some)) ≤ sum_by (λ (x : PlainDefinition). length (dictionary_members_in x.kind)) some
    main_beside is_one [] k at = absurd (cc)
    main_beside is_one (x ∷ some) zero at = subst (λ (y : PlainDefinition). length (dictionary_members_in d.kind) + sum_by (λ (z : PlainKind). length (dictionary_members_in z)) (filter (adds_to is_one text) (map (λ (z : PlainDefinition). z.kind) (y ∷ some))) ≤ sum_by (λ (z : PlainDefinition). length (dictionary_members_in z.kind)) (y ∷ some)) (sym (some_is at)) here
      where
        here : length (dictionary_members_in d.kind) + sum_by (λ (z : PlainKind). length (dictionary_members_in z)) (filter (adds_to is_one text) (map (λ (z : PlainDefinition). z.kind) (d ∷ some))) ≤ sum_by (λ (z : PlainDefinition). length (dictionary_members_in z.kind)) (d ∷ some)
        here =
            let out : filter (adds_to is_one text) (map (λ (z : PlainDefinition). z.kind) (d ∷ some)) ≡ filter (adds_to is_one text) (map (λ (z : PlainDefinition). z.kind) some) =
            ap (λ b. cond b (d.kind ∷ filter (adds_to is_one text) (map (λ (z : PlainDefinition). z.kind) some)) (filter (adds_to is_one text) (map (λ (z : PlainDefinition). z.kind) some))) (no_partial is_one d.kind named) in
            let same = ap (sum_by (λ (z : PlainKind). length (dictionary_members_in z))) out in
            let right = sum_by-cons (λ (z : PlainDefinition). length (dictionary_members_in z.kind)) d some in
            let rest = beside_total is_one some in
            omega (arith, same, right, rest)
    main_beside is_one (x ∷ some) (suc k) at = by (adds_to is_one text x.kind) (main_beside is_one some k at)
      where
        by : (b : Bool) → length (dictionary_members_in d.kind) + sum_by (λ (z : PlainKind). length (dictionary_members_in z)) (filter (adds_to is_one text) (map (λ (z : PlainDefinition). z.kind) some)) ≤ sum_by (λ (z : PlainDefinition). length (dictionary_members_in z.kind)) some
            → length (dictionary_members_in d.kind) + sum_by (λ (z : PlainKind). length (dictionary_members_in z)) (cond b (x.kind ∷ filter (adds_to is_one text) (map (λ (z : PlainDefinition). z.kind) some)) (filter (adds_to is_one text) (map (λ (z : PlainDefinition). z.kind) some))) ≤ sum_by (λ (z : PlainDefinition). length (dictionary_members_in z.kind)) (x ∷ some)
        by true rest =
            let left = sum_by-cons (λ (z : PlainKind). length (dictionary_members_in z)) x.kind (filter (adds_to is_one text) (map (λ (z : PlainDefinition). z.kind) some)) in
            let right = sum_by-cons (λ (z : PlainDefinition). length (dictionary_members_in z.kind)) x some in
            omega (arith, left, right, rest)
        by false rest = let right = sum_by-cons (λ (z : PlainDefinition). length (dictionary_members_in z.kind)) x some in omega (arith, right, rest)

    pub dictionary_few : (is_one : PlainKind → Bool) → is_one d.kind ≡ true → length (flat_map dictionary_members_in (own_parts is_one definitions text)) ≤ sum_by (λ (x : PlainDefinition). length (dictionary_members_in x.kind)) definitions
    dictionary_few is_one one =
        let parts : own_parts is_one definitions text ≡ d.kind ∷ filter (adds_to is_one text) (map (λ (x : PlainDefinition). x.kind) definitions) =
        ap (parts_beside is_one definitions text) meant_there ∙ ap (λ b. cond b (d.kind ∷ filter (adds_to is_one text) (map (λ (x : PlainDefinition). x.kind) definitions)) []) one in
        let size = length-flat_map dictionary_members_in (own_parts is_one definitions text) in
        let whole = ap (sum_by (λ (k : PlainKind). length (dictionary_members_in k))) parts in
        let split = sum_by-cons (λ (k : PlainKind). length (dictionary_members_in k)) d.kind (filter (adds_to is_one text) (map (λ (x : PlainDefinition). x.kind) definitions)) in
        let few = main_beside is_one definitions number is in
        omega (arith, size, whole, split, few)
