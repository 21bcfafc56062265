-- For proofs alone. Each action keeps all that a world holds live, and gives live replies.
use Rattle.std.proofs.Common.{◌≡◌, ℕ, ◌-◌, Bool, true, false, List, [], ◌∷◌, ◌++◌, Option, Some, None, length, refl, subst, if◌then◌else◌}
use Rattle.std.proofs.lemmas.Bool.{cond_both}
use Rattle.std.specs.Prelude.{nat_lt, bytes_eq}
use Rattle.std.specs.Map.{lookup}
use Rattle.std.specs.declared.result.Result.{Result}
use Rattle.std.specs.declared.result.Result.TheVariants as results
use Rattle.widl_dialog.specs.Runs.{Did, Went, Stops}
use Rattle.widl_idl.specs.declared.callee.Owner.{Owner}
use Rattle.widl_idl.specs.DefinitionTerms.{DefsTerm}
use Rattle.widl_value.specs.declared.object.ObjRef.{ObjRef}
use Rattle.widl_value.specs.declared.value.Value.{Value}
use Rattle.widl_value.specs.declared.value.Value.TheVariants as values
use Rattle.widl_store.specs.declared.effects.Put.{Put}
use Rattle.widl_store.specs.declared.effects.Put.TheVariants as puts
use Rattle.widl_store.specs.declared.effects.PutFault.{PutFault}
use Rattle.widl_store.specs.declared.effects.PutFault.TheVariants as putting
use Rattle.widl_store.specs.declared.homes.Home.{Home}
use Rattle.widl_store.specs.declared.homes.Home.TheVariants as homes
use Rattle.widl_store.specs.declared.property.Prop.{Prop}
use Rattle.widl_store.specs.declared.property.Prop.TheVariants as props
use Rattle.widl_text.specs.declared.key.Key.{Key}
use Rattle.widl_text.specs.Limits.{most_open_calls}
use Rattle.widl_store.specs.Inners.{InnerTerm}
use Rattle.widl_store.specs.OwnKeys.{keys_at}
use Rattle.widl_store.specs.Objects.{Obj, StoreState, IsLive, home_of, own_at}
use Rattle.widl_store.specs.Effects.{is_fixed, put_answer, put_of, put_in, defined, delete_of, deleted}
use Rattle.widl_store.specs.Found.{found_at}
use Rattle.widl_script_tree.specs.Trees.{Text}
use Rattle.widl_runs.specs.declared.stop.Stop.{Stop}
use Rattle.widl_runs.specs.declared.stop.Stop.TheVariants as stops
use Rattle.widl_runs.specs.Worlds.{Bindings, Context, World, value_of, with_value, value_or_undefined, is_local, local_value, with_local, owner_named, owner_object, global_value, named_value, this_value, outer_contexts}
use Rattle.widl_runs.specs.Actions.{Action, Pay, Write, TestDepth, Enter, Leave, FindBody, ReadThis, ReadName, BindName, TakeSymbol, AddObject, FindProperty, PutProperty, DefineProperty, DeleteProperty, FindKeys, FindOwn, FindInner, ChangePart, Reach, Reply, IsDone, IsValue, IsObject, IsProperty, IsPut, IsDefined, IsDeleted, AreKeys, IsInner, own_keys_of, inner_at, with_change, event_cost, put_result, define_result, is_put, is_made, with_store, with_new, new_reference, act, ObjectPrototype, prototype}
use Rattle.widl_runs.specs.Jobs.{Program}
use Rattle.widl_runs.specs.Fitting.{HasPrototypes}
use Rattle.widl_runs.proofs.LiveParts.{Grows, LiveValue, LiveFound, LiveSeen, LiveObjects, LiveBindings, LiveContexts, LivePut, LiveReply, more_bindings, more_contexts, more_put}
use Rattle.widl_runs.proofs.LiveJobs.{LiveAction, HasShape, live_bound}
use Rattle.widl_runs.proofs.LiveStores.{live_found, live_own_at, live_inner_at, Kept, kept_defined, kept_put, kept_deleted, kept_changed, made_new}

-- all that a world holds is live
pub record LiveWorld (w : World) : Type 0 where
  pub prototypes : HasPrototypes w.store.objects
  pub objects : (let os : List Obj = w.store.objects in LiveObjects os os)
  pub homes : (home : Home) (o : ObjRef) → home_of w.store.homes home ≡ Some o → IsLive w.store.objects o
  pub globals : LiveBindings w.store.objects w.globals
  pub contexts : LiveContexts w.store.objects w.contexts

-- the second world holds what the first held, and is as live
pub record Lives (w v : World) (r : Reply) : Type 0 where
  pub grows : Grows w.store.objects v.store.objects
  pub world : LiveWorld v
  pub reply : LiveReply v.store.objects r

abbrev pub LivesOn : World → Did World Reply Stop → Type 0
LivesOn w (Went v r) = Lives w v r
LivesOn w (Stops s) = Unit {0}

-- 1. Replies

module _ (objects : List Obj) (first : HasPrototypes objects) where
  live_done : LiveReply objects IsDone
  live_done = record { value = tt; object = first ObjectPrototype; property = tt; put = tt; inner = tt }

  live_value : (v : Value) → LiveValue objects v → LiveReply objects (IsValue v)
  live_value v l = record { value = l; object = first ObjectPrototype; property = tt; put = tt; inner = tt }

  live_object : (o : ObjRef) → IsLive objects o → LiveReply objects (IsObject o)
  live_object o l = record { value = tt; object = l; property = tt; put = tt; inner = tt }

  live_property : (found : Option Prop) → LiveFound objects found → LiveReply objects (IsProperty found)
  live_property found l = record { value = tt; object = first ObjectPrototype; property = l; put = tt; inner = tt }

  live_put : (answer : Result Put PutFault) → LivePut objects answer → LiveReply objects (IsPut answer)
  live_put answer l = record { value = tt; object = first ObjectPrototype; property = tt; put = l; inner = tt }

  live_seen : (inner : Option InnerTerm) → LiveSeen objects inner → LiveReply objects (IsInner inner)
  live_seen inner l = record { value = tt; object = first ObjectPrototype; property = tt; put = tt; inner = l }

  live_keys : (keys : List Key) → LiveReply objects (AreKeys keys)
  live_keys keys = record { value = tt; object = first ObjectPrototype; property = tt; put = tt; inner = tt }

-- 2. Names

module _ (objects : List Obj) where
  live_bound_value : (bs : Bindings) (name : Text) → LiveBindings objects bs → LiveValue objects (value_or_undefined (value_of bs name))
  live_bound_value [] name l = tt
  live_bound_value (b ∷ bs) name l = cond_both (bytes_eq name b.0) (Some b.1) (lookup (bytes_eq name) bs) (λ (found : Option Value). LiveValue objects (value_or_undefined found)) (λ e. l.0) (λ e. live_bound_value bs name l.1)

  live_local : (cs : List Context) (name : Text) → LiveContexts objects cs → LiveValue objects (value_or_undefined (local_value cs name))
  live_local [] name l = tt
  live_local (c ∷ cs) name l = live_bound_value c.locals name l.0.1

  live_with_local : (cs : List Context) (name : Text) (v : Value) → LiveContexts objects cs → LiveValue objects v → LiveContexts objects (with_local cs name v)
  live_with_local [] name v l x = tt
  live_with_local (c ∷ cs) name v l x = ((l.0.0, live_bound objects c.locals name v l.0.1 x), l.1)

  live_this : (cs : List Context) → LiveContexts objects cs → LiveValue objects (this_value cs)
  live_this [] l = tt
  live_this (c ∷ cs) l = l.0.0

  live_outer : (cs : List Context) → LiveContexts objects cs → LiveContexts objects (outer_contexts cs)
  live_outer [] l = tt
  live_outer (c ∷ cs) l = l.1

  live_home : (home : Option ObjRef) (mine : Option ObjRef) → mine ≡ home → ((o : ObjRef) → mine ≡ Some o → IsLive objects o) → LiveValue objects (global_value None home)
  live_home None mine is each = tt
  live_home (Some o) mine is each = each o is

  live_global : (found : Option Value) (home : Option ObjRef) → LiveValue objects (value_or_undefined found) → LiveValue objects (global_value None home) → LiveValue objects (global_value found home)
  live_global None home l x = x
  live_global (Some v) home l x = l

live_owner : (store : StoreState) (owner : Option Owner) → ((home : Home) (o : ObjRef) → home_of store.homes home ≡ Some o → IsLive store.objects o) → LiveValue store.objects (global_value None (owner_object store owner))
live_owner store None each = tt
live_owner store (Some owner) each = live_home store.objects (home_of store.homes (homes.Owner owner)) (home_of store.homes (homes.Owner owner)) refl (each (homes.Owner owner))

live_named : (list : DefsTerm) (w : World) (name : Text) → LiveWorld w → LiveValue w.store.objects (named_value list w name)
live_named list w name l =
    let os : List Obj = w.store.objects in
    let held : Option Value = value_of w.globals name in
    let home : Option ObjRef = owner_object w.store (owner_named list name) in
    let global : LiveValue os (global_value held home) = live_global os held home (live_bound_value os w.globals name l.globals) (live_owner w.store (owner_named list name) l.homes) in
    cond_both (is_local w.contexts name) (value_or_undefined (local_value w.contexts name)) (global_value held home) (LiveValue os) (λ e. live_local os w.contexts name l.contexts) (λ e. global)

-- 3. Worlds

same_grows : (objects : List Obj) → Grows objects objects
same_grows objects o l = l

paid_lives : (b : Bool) (w : World) (units : ℕ) → LiveWorld w → LivesOn w (if b then Stops stops.Budget else Went (record w { units = units }) IsDone)
paid_lives true w units l = tt
paid_lives false w units l = record {
  grows = same_grows w.store.objects;
  world = record { prototypes = l.prototypes; objects = l.objects; homes = l.homes; globals = l.globals; contexts = l.contexts };
  reply = live_done w.store.objects l.prototypes;
}

written_lives : (b : Bool) (w v : World) (units : ℕ) → v.store ≡ w.store → LiveWorld v → LivesOn w (if b then Stops stops.Budget else Went (record v { units = units }) IsDone)
written_lives true w v units e l = tt
written_lives false w v units e l = record {
  grows = subst (λ (t : StoreState). Grows t.objects v.store.objects) e (same_grows v.store.objects);
  world = record { prototypes = l.prototypes; objects = l.objects; homes = l.homes; globals = l.globals; contexts = l.contexts };
  reply = live_done v.store.objects l.prototypes;
}

deep_lives : (b : Bool) (w : World) → LiveWorld w → LivesOn w (if b then Went w IsDone else Stops stops.Depth)
deep_lives true w l = record { grows = same_grows w.store.objects; world = l; reply = live_done w.store.objects l.prototypes }
deep_lives false w l = tt

bound_lives : (b : Bool) (w : World) (name : Text) (v : Value) → LiveWorld w → LiveValue w.store.objects v → LivesOn w (Went (if b then record w { contexts = with_local w.contexts name v } else record w { globals = with_value w.globals name v }) IsDone)
bound_lives true w name v l x = record {
  grows = same_grows w.store.objects;
  world = record { prototypes = l.prototypes; objects = l.objects; homes = l.homes; globals = l.globals; contexts = live_with_local w.store.objects w.contexts name v l.contexts x };
  reply = live_done w.store.objects l.prototypes;
}
bound_lives false w name v l x = record {
  grows = same_grows w.store.objects;
  world = record { prototypes = l.prototypes; objects = l.objects; homes = l.homes; globals = live_bound w.store.objects w.globals name v l.globals x; contexts = l.contexts };
  reply = live_done w.store.objects l.prototypes;
}

pub more_prototypes : (objects more : List Obj) → Grows objects more → HasPrototypes objects → HasPrototypes more
more_prototypes objects more grows first = λ p. grows (prototype p) (first p)

stored : (w : World) (more : List Obj) → LiveWorld w → Kept w.store.objects more → LiveWorld (with_store w more)
stored w more l kept = record {
  prototypes = more_prototypes w.store.objects more kept.grows l.prototypes;
  objects = kept.live;
  homes = λ home o is. kept.grows o (l.homes home o is);
  globals = more_bindings w.store.objects more kept.grows w.globals l.globals;
  contexts = more_contexts w.store.objects more kept.grows w.contexts l.contexts;
}

-- a change that is made, or not
put_lives : (b : Bool) (w : World) (more : List Obj) (answer : Result Put PutFault) → LiveWorld w → Kept w.store.objects more → LivePut w.store.objects answer → LivesOn w (Went (if b then with_store w more else w) (IsPut answer))
put_lives true w more answer l kept x =
    let world = stored w more l kept in
    record { grows = kept.grows; world = world; reply = live_put more world.prototypes answer (more_put w.store.objects more kept.grows answer x) }
put_lives false w more answer l kept x = record { grows = same_grows w.store.objects; world = l; reply = live_put w.store.objects l.prototypes answer x }

-- a reply that holds no reference
pub record Bare (r : Reply) : Type 0 where
  pub each : (objects : List Obj) → HasPrototypes objects → LiveReply objects r

made_lives : (b : Bool) (w : World) (more : List Obj) (r : Reply) → LiveWorld w → Kept w.store.objects more → Bare r → LivesOn w (Went (if b then with_store w more else w) r)
made_lives true w more r l kept bare = let world = stored w more l kept in record { grows = kept.grows; world = world; reply = bare.each more world.prototypes }
made_lives false w more r l kept bare = record { grows = same_grows w.store.objects; world = l; reply = bare.each w.store.objects l.prototypes }

live_put_answer : (objects : List Obj) (found : Option Prop) (v : Value) → LiveFound objects found → LiveValue objects v → LivePut objects (put_answer found v)
live_put_answer objects None v l x = tt
live_put_answer objects (Some (props.Plain held flags)) v l x = cond_both flags.writable (results.Ok puts.Done) (results.Err (putting.ReadOnly flags)) (LivePut objects) (λ e. tt) (λ e. tt)
live_put_answer objects (Some (props.Accessor getter None flags)) v l x = tt
live_put_answer objects (Some (props.Accessor getter (Some setter) flags)) v l x = (l.1, x)

live_put_of : (b : Bool) (objects : List Obj) (found : Option Prop) (v : Value) → LiveFound objects found → LiveValue objects v → LivePut objects (put_of b found v)
live_put_of true objects found v l x = tt
live_put_of false objects found v l x = live_put_answer objects found v l x

-- 4. Each action

pub lives : (p : Program) (q : Action) (w : World) → LiveWorld w → LiveAction p w.store.objects q → LivesOn w (act p.list q w)
lives p Pay w l a = paid_lives (nat_lt w.units 1) w (w.units - 1) l
lives p (Write event) w l a =
    let cost : ℕ = event_cost p.list event in
    let v : World = record w { lines = w.lines ++ event ∷ [] } in
    written_lives (nat_lt w.units cost) w v (w.units - cost) refl (record { prototypes = l.prototypes; objects = l.objects; homes = l.homes; globals = l.globals; contexts = l.contexts })
lives p TestDepth w l a = deep_lives (nat_lt (length w.contexts) most_open_calls) w l
lives p (Enter context) w l a = record {
  grows = same_grows w.store.objects;
  world = record { prototypes = l.prototypes; objects = l.objects; homes = l.homes; globals = l.globals; contexts = (a, l.contexts) };
  reply = live_done w.store.objects l.prototypes;
}
lives p Leave w l a = record {
  grows = same_grows w.store.objects;
  world = record { prototypes = l.prototypes; objects = l.objects; homes = l.homes; globals = l.globals; contexts = live_outer w.store.objects w.contexts l.contexts };
  reply = live_done w.store.objects l.prototypes;
}
lives p (FindBody object) w l a = record {
  grows = same_grows w.store.objects;
  world = l;
  reply = record { value = tt; object = l.prototypes ObjectPrototype; property = tt; put = tt; inner = tt };
}
lives p ReadThis w l a = record {
  grows = same_grows w.store.objects;
  world = l;
  reply = live_value w.store.objects l.prototypes (this_value w.contexts) (live_this w.store.objects w.contexts l.contexts);
}
lives p (ReadName name) w l a = record {
  grows = same_grows w.store.objects;
  world = l;
  reply = live_value w.store.objects l.prototypes (named_value p.list w name) (live_named p.list w name l);
}
lives p (BindName name v) w l a = bound_lives (is_local w.contexts name) w name v l a
lives p TakeSymbol w l a = record {
  grows = same_grows w.store.objects;
  world = record { prototypes = l.prototypes; objects = l.objects; homes = l.homes; globals = l.globals; contexts = l.contexts };
  reply = live_value w.store.objects l.prototypes (values.Sym w.next_symbol) tt;
}
lives p (AddObject plan) w l a =
    let made = made_new w.store.objects plan l.objects a.1 in
    let more : List Obj = with_new w.store.objects plan in
    let world = stored w more l made.kept in
    record { grows = made.kept.grows; world = world; reply = live_object more world.prototypes (new_reference (length w.store.objects) plan) made.live }
lives p (FindProperty object key) w l a = record {
  grows = same_grows w.store.objects;
  world = l;
  reply = live_property w.store.objects l.prototypes (found_at w.store.objects object.id key) (live_found w.store.objects w.store.objects object.id key l.objects);
}
lives p (PutProperty object key v) w l a =
    let os : List Obj = w.store.objects in
    let answer : Result Put PutFault = put_result os object key v in
    put_lives (is_put answer) w (put_in os object.id key v) answer l (kept_put os object.id key v l.objects a.1) (live_put_of (is_fixed os object.id key) os (found_at os object.id key) v (live_found os os object.id key l.objects) a.1)
lives p (DefineProperty object key prop) w l a =
    let os : List Obj = w.store.objects in
    made_lives (is_made (define_result os object key)) w (defined os object.id key prop) (IsDefined (define_result os object key)) l (kept_defined os object.id key prop l.objects a.1) (record { each = λ objects first. record { value = tt; object = first ObjectPrototype; property = tt; put = tt; inner = tt } })
lives p (DeleteProperty object key) w l a =
    let os : List Obj = w.store.objects in
    made_lives (is_made (delete_of (own_at os object.id key))) w (deleted os object.id key) (IsDeleted (delete_of (own_at os object.id key))) l (kept_deleted os object.id key l.objects) (record { each = λ objects first. record { value = tt; object = first ObjectPrototype; property = tt; put = tt; inner = tt } })
lives p (FindKeys o) w l a = record {
  grows = same_grows w.store.objects;
  world = l;
  reply = live_keys w.store.objects l.prototypes (own_keys_of (keys_at w.store.objects o.id));
}
lives p (FindOwn o key) w l a = record {
  grows = same_grows w.store.objects;
  world = l;
  reply = live_property w.store.objects l.prototypes (own_at w.store.objects o.id key) (live_own_at w.store.objects w.store.objects o.id key l.objects);
}
lives p (FindInner o) w l a = record {
  grows = same_grows w.store.objects;
  world = l;
  reply = live_seen w.store.objects l.prototypes (inner_at w.store.objects o) (live_inner_at w.store.objects w.store.objects o l.objects);
}
lives p (ChangePart o change) w l a =
    let kept = kept_changed w.store.objects o change l.objects a.1 in
    let more : List Obj = with_change w.store.objects o change in
    let world = stored w more l kept in
    record { grows = kept.grows; world = world; reply = live_done more world.prototypes }
lives p (Reach end) w l a = tt

-- 5. A new object has the shape that it is added with

abbrev pub ShapedDid : Action → Did World Reply Stop → Type 0
ShapedDid q (Went v r) = HasShape q r
ShapedDid q (Stops s) = Unit {0}

shaped_each : (q : Action) (did : Did World Reply Stop) → ((r : Reply) → HasShape q r) → ShapedDid q did
shaped_each q (Went v r) each = each r
shaped_each q (Stops s) each = tt

pub shaped : (list : DefsTerm) (q : Action) (w : World) → ShapedDid q (act list q w)
shaped list Pay w = shaped_each Pay (act list Pay w) (λ r. tt)
shaped list (Write event) w = shaped_each (Write event) (act list (Write event) w) (λ r. tt)
shaped list TestDepth w = shaped_each TestDepth (act list TestDepth w) (λ r. tt)
shaped list (Enter context) w = shaped_each (Enter context) (act list (Enter context) w) (λ r. tt)
shaped list Leave w = shaped_each Leave (act list Leave w) (λ r. tt)
shaped list (FindBody object) w = shaped_each (FindBody object) (act list (FindBody object) w) (λ r. tt)
shaped list ReadThis w = shaped_each ReadThis (act list ReadThis w) (λ r. tt)
shaped list (ReadName name) w = shaped_each (ReadName name) (act list (ReadName name) w) (λ r. tt)
shaped list (BindName name v) w = shaped_each (BindName name v) (act list (BindName name v) w) (λ r. tt)
shaped list TakeSymbol w = shaped_each TakeSymbol (act list TakeSymbol w) (λ r. tt)
shaped list (AddObject plan) w = refl
shaped list (FindProperty object key) w = shaped_each (FindProperty object key) (act list (FindProperty object key) w) (λ r. tt)
shaped list (PutProperty object key v) w = shaped_each (PutProperty object key v) (act list (PutProperty object key v) w) (λ r. tt)
shaped list (DefineProperty object key prop) w = shaped_each (DefineProperty object key prop) (act list (DefineProperty object key prop) w) (λ r. tt)
shaped list (DeleteProperty object key) w = shaped_each (DeleteProperty object key) (act list (DeleteProperty object key) w) (λ r. tt)
shaped list (FindKeys object) w = shaped_each (FindKeys object) (act list (FindKeys object) w) (λ r. tt)
shaped list (FindOwn object key) w = shaped_each (FindOwn object key) (act list (FindOwn object key) w) (λ r. tt)
shaped list (FindInner object) w = shaped_each (FindInner object) (act list (FindInner object) w) (λ r. tt)
shaped list (ChangePart object change) w = shaped_each (ChangePart object change) (act list (ChangePart object change) w) (λ r. tt)
shaped list (Reach end) w = shaped_each (Reach end) (act list (Reach end) w) (λ r. tt)
