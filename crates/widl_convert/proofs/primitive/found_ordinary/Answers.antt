use Rattle.std.proofs.Common.{◌≡◌, sym, subst, refl, Result}
use Rattle.std.specs.Prelude.{IfOk}
use Rattle.std.specs.declared.alloc.AllocError.{AllocError}
use Rattle.widl_idl.specs.DefinitionTerms.{DefsTerm}
use Rattle.widl_value.specs.declared.object.ObjRef.{ObjRef}
use Rattle.widl_value.specs.declared.value.Value.{Value}
use Rattle.widl_value.specs.declared.value.Value.TheVariants as values
use Rattle.widl_steps.specs.Primitives.{found_ordinary}
use Rattle.widl_steps.specs.Tasks.{Talk}
use Rattle.widl_convert.specs.declared.moves.Move.{Move}
use Rattle.widl_convert.specs.Frames.{move_dialog, otherwise_of}
use Rattle.widl_convert.proofs.primitive.found_ordinary.Goals as goal
use Rattle.widl_convert.proofs.primitive.found_ordinary.Goals.{in-Obj, in_default}

abbrev Goes : Talk → Result Move AllocError → Type 0
Goes d r = IfOk r (λ m. (list : DefsTerm) → move_dialog list m ≡ d)

-- a value that is no object is passed over
passed_over : (o : ObjRef) (d : Talk) (v : Value) → ((p : ObjRef) → v ≡ values.Obj p → ⊥) → found_ordinary o d v ≡ d
passed_over o d values.Undefined other = refl
passed_over o d values.Null other = refl
passed_over o d (values.Bool b) other = refl
passed_over o d (values.Num n) other = refl
passed_over o d (values.Str units) other = refl
passed_over o d (values.Sym n) other = refl
passed_over o d (values.Obj p) other = absurd (other p refl)

pub returns : goal.returns
returns c =
    let otherwise : Talk = otherwise_of c.args.otherwise c.args.obj in
    elim c.match-value.branch [
      | in-Obj w ↦
          subst (Goes (found_ordinary c.args.obj otherwise c.args.value)) (sym w.result-is)
          (subst (λ (v : Value). Goes (found_ordinary c.args.obj otherwise v) w.call_ordinary.result) (sym w.in-Obj.is) w.call_ordinary.ensures)
      | in_default w ↦
          subst (Goes (found_ordinary c.args.obj otherwise c.args.value)) (sym w.result-is)
          (subst (λ (d : Talk). Goes d w.try_next.result) (sym (passed_over c.args.obj otherwise c.args.value w.in_default.not-Obj)) w.try_next.ensures)
    ]
