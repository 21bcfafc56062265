-- The steps by which the first store grows.
use Rattle.std.proofs.Common.{◌≡◌, ℕ, zero, suc, ◌+◌, ◌<◌, Bool, true, false, nat_eq, List, [], ◌∷◌, ◌++◌, length, get_or, drop, Some, refl, sym, ap, subst, ◌∙◌, ◌⊎◌, inl, inr, true≢false, eqb-true, arith, append_assoc, map, if◌then◌else◌, length-append}
use Rattle.std.specs.Prelude.{codes, pos, ◌&&◌}
use Rattle.std.proofs.lemmas.List.{map-append, length-map, get_or_default}
use Rattle.std.proofs.Math.Seq.{drop-cons}
use Rattle.widl_idl.specs.declared.argument.Arg.{Arg}
use Rattle.widl_idl.specs.declared.namespace.Space.{Space}
use Rattle.widl_idl.specs.declared.operation.OpName.{OpName}
use Rattle.widl_idl.specs.DefinitionTerms.{SpaceTerm, OpNameTerm, arg_term, attr_term, op_name_term, space_term}
use Rattle.widl_overload.specs.sets.Sets.{is_end, is_free}
use Rattle.widl_store.specs.declared.homes.SpaceHome.{SpaceHome}
use Rattle.widl_store.specs.declared.inner.Builtin.{Builtin}
use Rattle.widl_store.specs.declared.property.Prop.{Prop}
use Rattle.widl_store.specs.declared.property.Prop.TheVariants.{Plain}
use Rattle.widl_store.specs.Effects.{with_props, new_object}
use Rattle.widl_store.specs.Inners.{BuiltinPart, SpacePart}
use Rattle.widl_store.specs.Intrinsics.{intrinsics}
use Rattle.widl_store.specs.Objects.{Obj, StoreState, with_prop, length_key, plain_object}
use Rattle.widl_store.specs.Plans.{object_of, object_on, function, function_entries, name, number, tag, with_entries, fixed_flags}
use Rattle.widl_store.specs.Realm.{needed, needed_with, unset_slots, functions_from, operations_from, namespace_object, namespace_plans, namespaces_from, homes_from, after, realm_plans, realm_over}
use Rattle.widl_store.specs.Sound.{Sound}
use Rattle.widl_store.proofs.PlanObjects.{realm_sound, intrinsics_are_18}
use Rattle.widl_text.specs.declared.key.Key.{Key}
use Rattle.widl_text.specs.declared.key.Key.TheVariants.{Name, Sym}
use Rattle.widl_value.specs.declared.number.Number.TheVariants.{Whole}
use Rattle.widl_value.specs.declared.object.Shape.TheVariants.{Callable}
use Rattle.widl_value.specs.declared.value.Value.TheVariants.{Num, Str}

abbrev set_one : Key → Prop → Obj → Obj
set_one key prop o = with_props o (with_prop o.props key prop)

-- a property that is put, by what its key and its value are
pub set_as : (o new : Obj) (k key : Key) (p prop : Prop) → new ≡ with_props o (with_prop o.props k p) → k ≡ key → p ≡ prop → new ≡ with_props o (with_prop o.props key prop)
set_as o new k key p prop is key_is prop_is = is ∙ ap (λ x. set_one x p o) key_is ∙ ap (λ x. set_one key x o) prop_is

-- a function, and its two properties
pub function_described : (n : ℕ) (text : List ℕ) (o1 o2 o3 : Obj) → o2 ≡ set_one (number n).0 (number n).1 o1 → o3 ≡ set_one (name text).0 (name text).1 o2 → o3 ≡ with_props o1 (with_entries o1.props (function_entries n text))
function_described n text o1 o2 o3 first second = second ∙ ap (set_one (name text).0 (name text).1) first

pub function_made : (what : Builtin) (n : ℕ) (text : List ℕ) (o1 o2 : Obj) → o1 ≡ new_object (Some (plain_object 1)) Callable (BuiltinPart what) → o2 ≡ with_props o1 (with_entries o1.props (function_entries n text)) → o2 ≡ object_of (function what n text)
function_made what n text o1 o2 made described = described ∙ ap (λ o. with_props o (with_entries o.props (function_entries n text))) made

entries_last : (props entries : List (Key × Prop)) (key : Key) (prop : Prop) → with_entries props (entries ++ (key, prop) ∷ []) ≡ with_prop (with_entries props entries) key prop
entries_last props [] key prop = refl
entries_last props (e ∷ es) key prop = entries_last (with_prop props e.0 e.1) es key prop

-- a namespace object, its operations and its tag
pub members_made : (id : ℕ) (s : Space) (ops : List OpName) (o1 o2 o3 : Obj) (text : List ℕ) (p : Prop) → ops ≡ s.ops → o2 ≡ with_props o1 (with_entries o1.props (operations_from (id + 1) (map op_name_term ops))) → text ≡ s.name → p ≡ Plain (Str text) fixed_flags → o3 ≡ with_props o2 (with_prop o2.props (Sym 2) p) → o3 ≡ with_props o1 (with_entries o1.props (operations_from (id + 1) (map op_name_term s.ops) ++ tag s.name ∷ []))
members_made id s ops o1 o2 o3 text p are_ops first is_name is_text second =
    second
    ∙ ap (set_one (Sym 2) p) (first ∙ ap (λ l. with_props o1 (with_entries o1.props (operations_from (id + 1) (map op_name_term l)))) are_ops)
    ∙ ap (λ q. set_one (Sym 2) q (with_props o1 (with_entries o1.props (operations_from (id + 1) (map op_name_term s.ops))))) (is_text ∙ ap (λ t. Plain (Str t) fixed_flags) is_name)
    ∙ ap (λ l. with_props o1 l) (sym (entries_last o1.props (operations_from (id + 1) (map op_name_term s.ops)) (Sym 2) (Plain (Str s.name) fixed_flags)))

pub namespace_made : (id : ℕ) (s : Space) (slots : ℕ) (o1 o2 : Obj) → slots ≡ length s.attrs → o1 ≡ object_of (object_on 0 (SpacePart (unset_slots slots)) []) → o2 ≡ with_props o1 (with_entries o1.props (operations_from (id + 1) (map op_name_term s.ops) ++ tag s.name ∷ [])) → o2 ≡ object_of (namespace_object id (space_term s))
namespace_made id s slots o1 o2 counted_slots made set =
    set
    ∙ ap (λ o. with_props o (with_entries o.props (operations_from (id + 1) (map op_name_term s.ops) ++ tag s.name ∷ [])))
    (made ∙ ap (λ n. object_of (object_on 0 (SpacePart (unset_slots n)) [])) (counted_slots ∙ sym (length-map s.attrs attr_term)))

-- an argument before those that were counted
counted : (free : Bool) (n : ℕ) → (0 < n) ⊎ (free ≡ false) → n + 1 ≡ needed_with free n
counted false n other = refl
counted true zero (inl more) = absurd (omega arith)
counted true zero (inr bad) = absurd (true≢false bad)
counted true (suc n) other = go (nat_eq (suc n) 0) refl
  where
    go : (b : Bool) → nat_eq (suc n) 0 ≡ b → suc n + 1 ≡ (if true && b then 0 else suc n + 1)
    go true t = absurd (let bad : suc n ≡ 0 = eqb-true (suc n) 0 t in omega arith)
    go false t = refl

pub needed_more : (args : List Arg) (arg : Arg) (i j n : ℕ) → i ≡ suc j → j < length args → arg ≡ get_or args j arg → n ≡ needed (map arg_term (drop i args)) → (0 < n) ⊎ (is_free arg.opt (is_end (map arg_term (drop (suc j) args))) ≡ false) → n + 1 ≡ needed (map arg_term (drop j args))
needed_more args arg i j n next small is so_far other =
    counted (is_free arg.opt (is_end (map arg_term (drop (suc j) args)))) n other
    ∙ ap (needed_with (is_free arg.opt (is_end (map arg_term (drop (suc j) args))))) (so_far ∙ ap (λ k. needed (map arg_term (drop k args))) next)
    ∙ ap (λ a. needed (map arg_term (a ∷ drop (suc j) args))) is
    ∙ ap (λ l. needed (map arg_term l)) (sym (drop-cons args j arg small))

-- no argument is left past the last one
pub past_end : (args : List Arg) (j : ℕ) → j < length args → nat_eq (j + 1) (length args) ≡ is_end (map arg_term (drop (suc j) args))
past_end [] j small = absurd (omega arith)
past_end (a ∷ []) zero small = refl
past_end (a ∷ b ∷ args) zero small = grind arith
past_end (a ∷ args) (suc j) small = (let e : nat_eq (suc j + 1) (suc (length args)) ≡ nat_eq (j + 1) (length args) = grind arith in e) ∙ past_end args j (omega arith)

-- the same, where some were counted
pub counted_more : (args : List Arg) (i j n : ℕ) → i ≡ suc j → j < length args → n ≡ needed (map arg_term (drop i args)) → 0 < n → n + 1 ≡ needed (map arg_term (drop j args))
counted_more [] i j n next small so_far more = absurd (omega arith)
counted_more (a ∷ args) i j n next small so_far more = needed_more (a ∷ args) (get_or (a ∷ args) j a) i j n next small (get_or_default (a ∷ args) j a (get_or (a ∷ args) j a) small) so_far (inl more)

pub length_functions : (space place : ℕ) (ops : List OpNameTerm) → length (functions_from space place ops) ≡ length ops
length_functions space place [] = refl
length_functions space place (op ∷ ops) = ap suc (length_functions space (place + 1) ops)

pub longer : (objs : List Obj) (k : ℕ) (s : SpaceTerm) → length (objs ++ map object_of (namespace_plans (length objs) k s)) ≡ after (length objs) s
longer objs k s =
    let one : length (objs ++ map object_of (namespace_plans (length objs) k s)) ≡ length objs + length (map object_of (namespace_plans (length objs) k s)) = length-append objs (map object_of (namespace_plans (length objs) k s)) in
    let two : length (map object_of (namespace_plans (length objs) k s)) ≡ suc (length (functions_from k 0 s.members.ops)) = length-map (namespace_plans (length objs) k s) object_of in
    omega (arith, one, two, length_functions k 0 s.members.ops)

pub next_space : (spaces : List Space) (i : ℕ) (s : Space) → i < length spaces → s ≡ get_or spaces i s → drop i spaces ≡ s ∷ drop (i + 1) spaces
next_space spaces i s small is =
    drop-cons spaces i s small ∙ ap (λ x. x ∷ drop (suc i) spaces) (sym is) ∙ ap (λ k. s ∷ drop k spaces) (let e : suc i ≡ i + 1 = omega arith in e)

-- one more namespace
pub objects_step : (objs next : List Obj) (spaces : List Space) (i k : ℕ) (s : Space) → i < length spaces → s ≡ get_or spaces i s → k ≡ i → next ≡ objs ++ map object_of (namespace_plans (length objs) k (space_term s)) → next ++ map object_of (namespaces_from (length next) (i + 1) (map space_term (drop (i + 1) spaces))) ≡ objs ++ map object_of (namespaces_from (length objs) i (map space_term (drop i spaces)))
objects_step objs next spaces i k s small is number grown =
    let plans = namespace_plans (length objs) i (space_term s) in
    let rest = map space_term (drop (i + 1) spaces) in
    let now : next ≡ objs ++ map object_of plans = grown ∙ ap (λ m. objs ++ map object_of (namespace_plans (length objs) m (space_term s))) number in
    ap (λ l. l ++ map object_of (namespaces_from (length l) (i + 1) rest)) now
    ∙ ap (λ n. (objs ++ map object_of plans) ++ map object_of (namespaces_from n (i + 1) rest)) (longer objs i (space_term s))
    ∙ append_assoc objs (map object_of plans) (map object_of (namespaces_from (after (length objs) (space_term s)) (i + 1) rest))
    ∙ ap (λ l. objs ++ l) (sym (map-append object_of plans (namespaces_from (after (length objs) (space_term s)) (i + 1) rest)))
    ∙ ap (λ l. objs ++ map object_of (namespaces_from (length objs) i (map space_term l))) (sym (next_space spaces i s small is))

pub homes_step : (objs next : List Obj) (homes more : List SpaceHome) (spaces : List Space) (i k : ℕ) (home : SpaceHome) (s : Space) → i < length spaces → s ≡ get_or spaces i s → home ≡ record { object = length objs; slots = length s.attrs } → more ≡ homes ++ home ∷ [] → next ≡ objs ++ map object_of (namespace_plans (length objs) k (space_term s)) → more ++ homes_from (length next) (map space_term (drop (i + 1) spaces)) ≡ homes ++ homes_from (length objs) (map space_term (drop i spaces))
homes_step objs next homes more spaces i k home s small is at put grown =
    let rest = map space_term (drop (i + 1) spaces) in
    let here : SpaceHome = record { object = length objs; slots = length (space_term s).members.attrs } in
    let same : home ≡ here = at ∙ ap (λ n. record { object = length objs; slots = n }) (sym (length-map s.attrs attr_term)) in
    ap (λ l. l ++ homes_from (length next) rest) (put ∙ ap (λ h. homes ++ h ∷ []) same)
    ∙ ap (λ n. (homes ++ here ∷ []) ++ homes_from n rest) (ap length grown ∙ longer objs k (space_term s))
    ∙ append_assoc homes (here ∷ []) (homes_from (after (length objs) (space_term s)) rest)
    ∙ ap (λ l. homes ++ homes_from (length objs) (map space_term l)) (sym (next_space spaces i s small is))

-- the whole
pub realm_objects : (spaces : List Space) (first all : List Obj) → first ≡ map object_of intrinsics → all ≡ first ++ map object_of (namespaces_from (length first) 0 (map space_term spaces)) → all ≡ map object_of (realm_plans (map space_term spaces))
realm_objects spaces first all first_is all_is =
    all_is
    ∙ ap (λ l. l ++ map object_of (namespaces_from (length l) 0 (map space_term spaces))) first_is
    ∙ ap (λ n. map object_of intrinsics ++ map object_of (namespaces_from n 0 (map space_term spaces))) (length-map intrinsics object_of ∙ intrinsics_are_18)
    ∙ sym (map-append object_of intrinsics (namespaces_from 18 0 (map space_term spaces)))

pub realm_homes : (spaces : List Space) (first : List Obj) (none all : List SpaceHome) → first ≡ map object_of intrinsics → none ≡ [] → all ≡ none ++ homes_from (length first) (map space_term spaces) → all ≡ homes_from 18 (map space_term spaces)
realm_homes spaces first none all first_is none_is all_is =
    all_is
    ∙ ap (λ l. l ++ homes_from (length first) (map space_term spaces)) none_is
    ∙ ap (λ n. homes_from n (map space_term spaces)) (ap length first_is ∙ length-map intrinsics object_of ∙ intrinsics_are_18)

pub realm_made : (spaces : List Space) (objs : List Obj) (homes : List SpaceHome) (store : StoreState) → objs ≡ map object_of (realm_plans (map space_term spaces)) → homes ≡ homes_from 18 (map space_term spaces) → store ≡ record { objects = objs; homes = record { ifaces = []; spaces = homes } } → store ≡ realm_over (map space_term spaces)
unfolding realm_over
realm_made spaces objs homes store a b is = is ∙ (λ i. record { objects = a i; homes = record { ifaces = []; spaces = b i } })

pub realm_is_sound : (spaces : List Space) (objs : List Obj) → objs ≡ map object_of (realm_plans (map space_term spaces)) → Sound objs
realm_is_sound spaces objs is = subst Sound (sym is) (realm_sound (map space_term spaces))
