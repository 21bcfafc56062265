-- For proofs alone. A move that is known by an equation, as where jobs alone lead.
use Rattle.std.proofs.Common.{◌≡◌, IfOk, sym, ap, ◌∙◌}
use Rattle.std.specs.declared.result.Result.{Result}
use Rattle.std.specs.declared.result.Result.TheVariants as results
use Rattle.std.specs.declared.alloc.AllocError.{AllocError}
use Rattle.widl_idl.specs.MergedSets.{MergedSet}
use Rattle.widl_script_tree.specs.Tables.{Tables}
use Rattle.widl_runs.specs.Jobs.{Program, Doing}
use Rattle.widl_engine.specs.declared.moves.Move.{Move}
use Rattle.widl_engine.specs.Frames.{LeadsTo, move_of, program_of}
use Rattle.widl_engine.specs.ReadOver.{IsReadOver}
use Rattle.widl_engine.proofs.Leading.{leads_is}

-- the work of a thing that is known
pub leads_by : {X : Type 0} (set : MergedSet) (s : Tables) (work : Program → X → Doing) (x known : X) (r : Result Move AllocError) → x ≡ known → IfOk r (λ m. (p : Program) → move_of p s m ≡ work p known) → IfOk r (λ m. IsReadOver (program_of set s).list s → LeadsTo (program_of set s) s (work (program_of set s) x) m)
leads_by set s work x known (results.Ok m) same is = λ read. leads_is (program_of set s) s (work (program_of set s) x) m (is (program_of set s) ∙ ap (work (program_of set s)) (sym same))
leads_by set s work x known (results.Err e) same is = tt

-- the same, where it is known over all tables
pub leads_over : {X : Type 0} (set : MergedSet) (s : Tables) (work : Program → Tables → X → Doing) (x known : X) (r : Result Move AllocError) → x ≡ known → IfOk r (λ m. (p : Program) (t : Tables) → move_of p t m ≡ work p t known) → IfOk r (λ m. IsReadOver (program_of set s).list s → LeadsTo (program_of set s) s (work (program_of set s) s x) m)
leads_over set s work x known (results.Ok m) same is = λ read. leads_is (program_of set s) s (work (program_of set s) s x) m (is (program_of set s) s ∙ ap (work (program_of set s) s) (sym same))
leads_over set s work x known (results.Err e) same is = tt
