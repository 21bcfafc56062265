-- For proofs alone. Contexts that are entered and left.
use Rattle.std.proofs.Common.{◌≡◌, ℕ, false, zero, suc, ◌+◌, ◌<◌, min, List, [], ◌∷◌, ◌++◌, Option, Some, None, length, map, drop, get_or, sym, ap, ◌∙◌, refl, arith, nat_eq, IfSome, IfNone, slice_get, slice_set, Result, Ok, Err, OnOk}
use Rattle.std.proofs.Math.ListN.{drop_of_length-le}
use Rattle.std.proofs.Math.Seq.{drop-cons}
use Rattle.indexmap.specs.IndexMap.{insert_entry}
use Rattle.widl_dialog.specs.Dialog.{End, Steps}
use Rattle.widl_dialog.specs.Runs.{Went}
use Rattle.widl_value.specs.declared.object.ObjRef.{ObjRef}
use Rattle.widl_value.specs.declared.value.Value.{Value}
use Rattle.widl_script_tree.specs.Trees.{Text, StatementTrees, ScriptTree}
use Rattle.widl_script_tree.specs.Tables.{Tables, name_at, statements_tree, function_at, script_tree}
use Rattle.widl_script_tree.specs.declared.row.Row.{Row}
use Rattle.widl_store.specs.Objects.{StoreState}
use Rattle.widl_store.specs.declared.inner.Builtin.{Builtin}
use Rattle.widl_trace.specs.EventTerms.{EventTerm}
use Rattle.widl_engine.specs.declared.ends.Completion.{Completion}
use Rattle.widl_runs.specs.Actions.{IsDone}
use Rattle.widl_steps.specs.CallTasks.{Function}
use Rattle.widl_runs.specs.Calls.{closes, function_in}
use Rattle.widl_runs.specs.Jobs.{Program, Doing, RunStatements, Talk}
use Rattle.widl_runs.specs.Worlds as worlds
use Rattle.widl_runs.specs.Worlds.{World, Bindings, bound_parameters, function_context, builtin_context, outer_contexts}
use Rattle.widl_engine.specs.declared.contexts.Context.{Context}
use Rattle.widl_engine.specs.declared.contexts.Place.{Place}
use Rattle.widl_engine.specs.declared.due.Due.TheVariants as due
use Rattle.widl_engine.specs.declared.frames.Frame.TheVariants as frame
use Rattle.widl_engine.specs.declared.jobs.Job.TheVariants as job
use Rattle.widl_engine.specs.declared.moves.Move.{Move}
use Rattle.widl_engine.specs.declared.moves.Move.TheVariants as move
use Rattle.widl_engine.specs.Calling.{talked}
use Rattle.widl_engine.specs.Frames.{completion_end, move_of}
use Rattle.widl_engine.specs.Place.{named, context_of, outer_of, contexts_of, contexts_in, world_of, OtherContexts, Performed}
use Rattle.widl_engine.proofs.Acting.{Done, performed, outer_push}
use Rattle.widl_engine.proofs.Functions.{names_in, params_in, body_in}
use Rattle.widl_engine.proofs.NameLaws.{bind_named}
use Rattle.widl_engine.proofs.TakenBack.{rest_of_taken}

pub on_ok : {V E : Type 0} {A B : Type 0} (r : Result V E) → OnOk r A → (A → B) → OnOk r B
on_ok (Ok v) h f = f h
on_ok (Err e) h f = tt

pub entered : (s : Tables) (x y : Place) (inner c : Context) → y.globals ≡ x.globals → y.next_symbol ≡ x.next_symbol → y.here ≡ Some inner → x.here ≡ Some c → y.outer.items ≡ x.outer.items ++ c ∷ [] → OtherContexts s x y (context_of s inner ∷ contexts_in s x)
entered s x y inner c globals symbol now before outer = record {
  globals = globals;
  symbol = symbol;
  contexts =
      ap (λ (h : Option Context). contexts_of s h y.outer.items) now
      ∙ ap (λ (cs : List worlds.Context). context_of s inner ∷ cs) (ap (outer_of s) outer ∙ outer_push s x.outer.items c ∙ ap (λ (h : Option Context). contexts_of s h x.outer.items) (sym before));
}

pub left : (s : Tables) (x y : Place) (c : Context) (r : Option Context) → y.globals ≡ x.globals → y.next_symbol ≡ x.next_symbol → x.here ≡ Some c → y.here ≡ r → IfSome r (λ d. x.outer.items ≡ y.outer.items ++ d ∷ []) → IfNone r (x.outer.items ≡ []) → OtherContexts s x y (outer_contexts (contexts_in s x))
left s x y c (Some d) globals symbol before now some none = record {
  globals = globals;
  symbol = symbol;
  contexts =
      ap (λ (h : Option Context). contexts_of s h y.outer.items) now
      ∙ sym (outer_push s y.outer.items d)
      ∙ ap (outer_of s) (sym some)
      ∙ ap (λ (h : Option Context). outer_contexts (contexts_of s h x.outer.items)) (sym before);
}
left s x y c None globals symbol before now some none = record {
  globals = globals;
  symbol = symbol;
  contexts =
      ap (λ (h : Option Context). contexts_of s h y.outer.items) now
      ∙ ap (outer_of s) (sym none)
      ∙ ap (λ (h : Option Context). outer_contexts (contexts_of s h x.outer.items)) (sym before);
}

pub world_now : (s : Tables) (t : StoreState) (x y : Place) (now : List worlds.Context) (k : ℕ) (ls : List EventTerm) → OtherContexts s x y now → record (world_of s t x k ls) { contexts = now } ≡ world_of s t y k ls
world_now s t x y now k ls o =
    let g = sym o.globals in
    let n = sym o.symbol in
    let cs = sym o.contexts in
    λ i. let w : World = record { store = t; globals = named (name_at s) (g i); next_symbol = n i; lines = ls; units = k; contexts = cs i } in w

pub left_performed : (p : Program) (s : Tables) (t : StoreState) (x y : Place) (c : Completion) (next : Move) → OtherContexts s x y (outer_contexts (contexts_in s x)) → move_of p s next ≡ End (completion_end c) → Performed p s (due.Leave c) t x t y next
left_performed p s t x y c next o goes = performed IsDone (λ k ls. ap (λ (w : World). let d : Done = Went w IsDone in d) (world_now s t x y (outer_contexts (contexts_in s x)) k ls o)) goes

pub enter_performed : (p : Program) (s : Tables) (t : StoreState) (x y : Place) (n : ℕ) (this : Value) (args : List Value) (inner : Context) (row : Row) → p.script ≡ script_tree s → context_of s inner ≡ function_context (function_in (script_tree s) n) this args → OtherContexts s x y (context_of s inner ∷ contexts_in s x) → row ≡ (function_at s n).body → Performed p s (due.Enter n this args) t x t y (move.Steps frame.Called (job.Statements row))
enter_performed p s t x y n this args inner row script is o rows =
    performed IsDone
    (λ k ls.
    ap (λ (sc : ScriptTree). let d : Done = Went (record (world_of s t x k ls) { contexts = function_context (function_in sc n) this args ∷ contexts_in s x }) IsDone in d) script
    ∙ ap (λ (c : worlds.Context). let d : Done = Went (record (world_of s t x k ls) { contexts = c ∷ contexts_in s x }) IsDone in d) (sym is)
    ∙ ap (λ (w : World). let d : Done = Went w IsDone in d) (world_now s t x y (context_of s inner ∷ contexts_in s x) k ls o))
    (ap (λ (b : StatementTrees). let d : Doing = Steps (RunStatements b) closes in d) (ap (statements_tree s) rows ∙ sym (body_in s n) ∙ ap (λ (sc : ScriptTree). (function_in sc n).body) (sym script)))

-- a function that isn't written in the script
pub builtin_performed : (p : Program) (s : Tables) (t : StoreState) (x y : Place) (f : ObjRef) (function : Builtin) (this that : Value) (args : List Value) (next : Move) → that ≡ this → OtherContexts s x y (builtin_context that ∷ contexts_in s x) → move_of p s next ≡ Steps (Talk (Function f function this args false)) talked → Performed p s (due.EnterBuiltin f function this args) t x t y next
builtin_performed p s t x y f function this that args next same o goes =
    performed IsDone
    (λ k ls.
    ap (λ (v : Value). let d : Done = Went (record (world_of s t x k ls) { contexts = builtin_context v ∷ contexts_in s x }) IsDone in d) (sym same)
    ∙ ap (λ (w : World). let d : Done = Went w IsDone in d) (world_now s t x y (builtin_context that ∷ contexts_in s x) k ls o))
    goes

pub new_context : (s : Tables) (number : ℕ) (this : Value) (args : List Value) (params : List ℕ) (locals : List (ℕ × Value)) → params ≡ (function_at s number).params → named (name_at s) locals ≡ bound_parameters [] (map (name_at s) params) args → context_of s (record { this = this; function = Some number; locals = locals }) ≡ function_context (function_in (script_tree s) number) this args
new_context s number this args params locals same bound =
    let names = sym (names_in s number) in
    let texts : map (name_at s) params ≡ (function_in (script_tree s) number).params = ap (map (name_at s)) same ∙ sym (params_in s number) in
    let values : named (name_at s) locals ≡ bound_parameters [] (function_in (script_tree s) number).params args = bound ∙ ap (λ (ps : List Text). bound_parameters [] ps args) texts in
    λ i. let c : worlds.Context = record { this = this; names = names i; locals = values i } in c

bound_none : (bs : Bindings) (ps : List Text) → bound_parameters bs ps [] ≡ bs
bound_none bs [] = refl
bound_none bs (p ∷ ps) = refl

pub bound_end : (text : ℕ → Text) (bs : Bindings) (params : List ℕ) (args : List Value) (n : ℕ) → n ≡ min (length params) (length args) → bound_parameters bs (map text (drop n params)) (drop n args) ≡ bs
bound_end text bs [] args n e =
    let none : drop n (let l : List ℕ = [] in l) ≡ [] = drop_of_length-le [] (omega arith) in
    ap (λ (ps : List ℕ). bound_parameters bs (map text ps) (drop n args)) none
bound_end text bs (p ∷ ps) [] n e =
    let none : drop n (let l : List Value = [] in l) ≡ [] = drop_of_length-le [] (omega arith) in
    ap (λ (vs : List Value). bound_parameters bs (map text (drop n (p ∷ ps))) vs) none ∙ bound_none bs (map text (drop n (p ∷ ps)))
bound_end text bs (p ∷ ps) (v ∷ vs) zero e =
    let impossible : ⊥ = omega (arith, e) in
    absurd impossible
bound_end text bs (p ∷ ps) (v ∷ vs) (suc n) e =
    let less : n ≡ min (length ps) (length vs) = omega (arith, e) in
    bound_end text bs ps vs n less

pub bound_next : (s : Tables) (differ : (i j : ℕ) → name_at s i ≡ name_at s j → i ≡ j) (es fs : List (ℕ × Value)) (params : List ℕ) (args more : List Value) (k p : ℕ) (v new : Value) → k < length params → k < length args → p ≡ get_or params k 0 → slice_get args k ≡ Some v → more ≡ slice_set args k new → fs ≡ insert_entry nat_eq es p v → bound_parameters (named (name_at s) fs) (map (name_at s) (drop (k + 1) params)) (drop (k + 1) more) ≡ bound_parameters (named (name_at s) es) (map (name_at s) (drop k params)) (drop k args)
bound_next s differ es fs params args more k p v new within inside at there put is =
    let next : suc k ≡ k + 1 = omega arith in
    let rest : List Text = map (name_at s) (drop (k + 1) params) in
    let first : drop k params ≡ p ∷ drop (k + 1) params = drop-cons params k 0 within ∙ ap (λ (q : ℕ). q ∷ drop (suc k) params) (sym at) ∙ ap (λ (m : ℕ). p ∷ drop m params) next in
    ap (λ (bs : Bindings). bound_parameters bs rest (drop (k + 1) more)) (ap (named (name_at s)) is ∙ bind_named s differ p v es)
    ∙ ap (λ (vs : List Value). bound_parameters (named (name_at s) es) (name_at s p ∷ rest) vs) (sym (rest_of_taken args more k v new inside there put))
    ∙ ap (λ (ps : List ℕ). bound_parameters (named (name_at s) es) (map (name_at s) ps) (drop k args)) (sym first)
