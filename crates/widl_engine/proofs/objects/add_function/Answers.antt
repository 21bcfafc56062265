use Rattle.std.proofs.Common.{◌∙◌, ◌<◌, ap, sym, subst, ℕ, length, pos}
use Rattle.std.proofs.lemmas.List.{length-map}
use Rattle.widl_text.specs.declared.key.Key.TheVariants.{Name}
use Rattle.widl_value.specs.declared.number.Number.TheVariants.{Whole}
use Rattle.widl_value.specs.declared.object.ObjRef.{ObjRef}
use Rattle.widl_value.specs.declared.value.Value.TheVariants.{Num}
use Rattle.widl_store.specs.declared.property.Prop.TheVariants.{Plain}
use Rattle.widl_store.specs.Plans.{fixed_flags}
use Rattle.widl_store.specs.Objects.{StoreState}
use Rattle.widl_script_tree.specs.declared.function.Function.{Function}
use Rattle.widl_script_tree.specs.Tables.{key_at, name_at, function_at}
use Rattle.widl_engine.specs.Frames.{parameters_of}
use Rattle.widl_runs.specs.Actions.{FunctionPrototype}
use Rattle.widl_engine.proofs.Coming.{number_named}
use Rattle.widl_engine.proofs.NewObjects.{function_free, function_measured, function_live, function_free_again, function_added}
use Rattle.widl_engine.proofs.objects.add_function.Goals as goal

pub add-requires-clause-proto : goal.add-requires-clause-proto
add-requires-clause-proto c = c.requires.prototypes FunctionPrototype

pub define-requires-clause-free : goal.define-requires-clause-free
define-requires-clause-free c =
    function_free c.args.store.now.objects c.add.new.self.objects c.in_ok-object.object.id c.args.number _ (ap (λ (t : StoreState). t.objects) c.in_ok-object.ensures.ok) (ap (λ (r : ObjRef). r.id) c.in_ok-object.ensures.reference)

pub define-requires-2-clause-live : goal.define-requires-2-clause-live
define-requires-2-clause-live c =
    function_live c.args.store.now.objects c.define.new.store.objects c.in_ok-object.object c.args.number (Name c.in_ok-of_ascii.field-0) (Plain (Num c.number_of-count.result) fixed_flags)
    (function_measured c.args.store.now.objects c.add.new.self.objects c.define.new.store.objects c.in_ok-object.object.id c.args.number (Name c.in_ok-of_ascii.field-0) (Plain (Num c.number_of-count.result) fixed_flags) (ap (λ (t : StoreState). t.objects) c.in_ok-object.ensures.ok) (ap (λ (r : ObjRef). r.id) c.in_ok-object.ensures.reference) (ap (λ (t : StoreState). t.objects) c.in_ok-define.ensures))
    c.in_ok-object.ensures.reference

pub define-requires-2-clause-free : goal.define-requires-2-clause-free
define-requires-2-clause-free c =
    function_free_again c.args.store.now.objects c.define.new.store.objects c.in_ok-object.object.id c.args.number c.in_ok-of_ascii.field-0 c.in_ok-of_ascii-2.field-0 (Plain (Num c.number_of-count.result) fixed_flags)
    (function_measured c.args.store.now.objects c.add.new.self.objects c.define.new.store.objects c.in_ok-object.object.id c.args.number (Name c.in_ok-of_ascii.field-0) (Plain (Num c.number_of-count.result) fixed_flags) (ap (λ (t : StoreState). t.objects) c.in_ok-object.ensures.ok) (ap (λ (r : ObjRef). r.id) c.in_ok-object.ensures.reference) (ap (λ (t : StoreState). t.objects) c.in_ok-define.ensures))
    (ap (λ (r : ObjRef). r.id) c.in_ok-object.ensures.reference) c.in_ok-of_ascii.ensures c.in_ok-of_ascii-2.ensures

pub returns : goal.returns
returns c = record {
  reference = c.in_ok-object.ensures.reference;
  store =
      function_added c.args.store.now c.add.new.self c.define.new.store c.define-2.new.store c.in_ok-object.object.id c.args.number c.in_ok-of_ascii.field-0 c.in_ok-of_ascii-2.field-0 (name_at c.args.script.now (function_at c.args.script.now c.args.number).name) c.in_ok-name.name c.number_of-count.result (parameters_of c.args.script.now c.args.number)
      c.in_ok-object.ensures.ok c.in_ok-define.ensures c.in_ok-define-2.ensures (ap (λ (r : ObjRef). r.id) c.in_ok-object.ensures.reference) c.in_ok-of_ascii.ensures c.in_ok-of_ascii-2.ensures
      (c.in_ok-name.ensures ∙ c.name.ensures ∙ ap (λ (f : Function). key_at c.args.script.now f.name) c.function-function.ensures.function ∙ sym (number_named c.args.script.now (function_at c.args.script.now c.args.number).name (subst (λ (f : Function). f.name < length c.args.script.now.names) c.function-function.ensures.function (c.function-function.ensures.parts c.requires.there).name)))
      (c.number_of-count.ensures ∙ ap (λ (n : ℕ). Whole (pos n)) (c.len.ensures ∙ ap (λ (f : Function). length f.params) c.function-function.ensures.function ∙ sym (length-map (function_at c.args.script.now c.args.number).params (name_at c.args.script.now))));
}
