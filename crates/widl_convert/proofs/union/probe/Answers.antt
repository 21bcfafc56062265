use Rattle.std.proofs.Common.{◌≡◌, Result, refl, sym, subst, ◌∙◌}
use Rattle.std.specs.Prelude.{IfOk}
use Rattle.std.specs.declared.alloc.AllocError.{AllocError}
use Rattle.widl_idl.specs.DefinitionTerms.{DefsTerm, defs_term}
use Rattle.widl_idl.specs.Terms.{packed, type_terms}
use Rattle.widl_value.specs.declared.object.ObjRef.{ObjRef}
use Rattle.widl_value.specs.declared.value.Value.{Value}
use Rattle.widl_value.specs.declared.value.Value.TheVariants as values
use Rattle.widl_trace.specs.declared.code.Code.{Code}
use Rattle.widl_trace.specs.declared.code.Code.TheVariants as code
use Rattle.widl_tables.specs.declared.pick.Pick.TheVariants.{Probe}
use Rattle.widl_steps.specs.Built.{built_today}
use Rattle.widl_steps.specs.Scalars.{convert_plain}
use Rattle.widl_steps.specs.Tasks.{Talk}
use Rattle.widl_steps.specs.Unions.{member_picked}
use Rattle.widl_steps.specs.Words.{fails, object}
use Rattle.widl_convert.specs.declared.moves.Move.{Move}
use Rattle.widl_convert.specs.Frames.{move_dialog}
use Rattle.widl_convert.proofs.union.probe.Goals as goal
use Rattle.widl_convert.proofs.union.probe.Goals.{in-Obj, in_default}

abbrev Goes : DefsTerm → Talk → Result Move AllocError → Type 0
Goes list d r = IfOk r (λ m. move_dialog list m ≡ d)

-- a value that is no object fails
no_object : (reason : Code) (k : ObjRef → Talk) (v : Value) → ((o : ObjRef) → v ≡ values.Obj o → ⊥) → object reason k v ≡ fails reason
no_object reason k values.Undefined other = refl
no_object reason k values.Null other = refl
no_object reason k (values.Bool b) other = refl
no_object reason k (values.Num n) other = refl
no_object reason k (values.Str units) other = refl
no_object reason k (values.Sym n) other = refl
no_object reason k (values.Obj o) other = absurd (other o refl)

pub returns-clause-dialog : goal.returns-clause-dialog
returns-clause-dialog c =
    let list = defs_term c.args.tables.now.defs in
    let probed : Value → Talk = λ v. member_picked (convert_plain built_today list) built_today list (packed (type_terms c.args.members.now)) v (Probe c.args.place) in
    elim c.match-value.branch [
      | in-Obj w ↦ subst (Goes list (probed c.args.value)) (sym w.result-is) (subst (λ (v : Value). Goes list (probed v) w.probe_object.result) (sym w.in-Obj.is) w.probe_object.ensures.dialog)
      | in_default w ↦ subst (Goes list (probed c.args.value)) (sym w.result-is) (w.throws.ensures.dialog list ∙ sym (no_object code.Union _ c.args.value w.in_default.not-Obj))
    ]
