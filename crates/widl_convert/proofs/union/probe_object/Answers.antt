use Rattle.std.proofs.Common.{◌≡◌, true, option_map, slice_get, sym, ap, ◌∙◌}
use Rattle.std.specs.Option.{option_and_then}
use Rattle.widl_dialog.specs.Dialog.{Say}
use Rattle.widl_text.specs.declared.key.Key.TheVariants.{Sym}
use Rattle.widl_idl.specs.declared.types.IdlType.{IdlType}
use Rattle.widl_idl.specs.DefinitionTerms.{defs_term}
use Rattle.widl_idl.specs.Flattened.{flattened_members, unannotated}
use Rattle.widl_idl.specs.Terms.{packed, type_term, type_terms}
use Rattle.widl_value.specs.Classes.{class_of}
use Rattle.widl_value.specs.declared.class.Class.{Class}
use Rattle.widl_value.specs.declared.object.ObjRef.{ObjRef}
use Rattle.widl_value.specs.declared.value.Value.TheVariants.{Obj}
use Rattle.widl_tables.specs.Picks.{pick_member_of}
use Rattle.widl_steps.specs.AskTerms.{GetAsk}
use Rattle.widl_steps.specs.Built.{built_today}
use Rattle.widl_steps.specs.Scalars.{convert_plain}
use Rattle.widl_steps.specs.Sequences.{element_of, if_sequences, iterator_symbol}
use Rattle.widl_steps.specs.Unions.{member_from, to_member, without_iterator}
use Rattle.widl_steps.specs.Words.{method_or, normal}
use Rattle.widl_convert.specs.declared.union.UnionProbe.{UnionProbe}
use Rattle.widl_convert.specs.Frames.{union_to}
use Rattle.widl_convert.proofs.union.probe_object.Goals as goal

pub returns-clause-dialog : goal.returns-clause-dialog
returns-clause-dialog c =
    let list = defs_term c.args.tables.now.defs in
    let ts = packed (type_terms c.args.members.now) in
    let element : option_map type_term c.in_ok-element.element ≡ option_and_then element_of (slice_get (flattened_members ts) c.args.place) = c.in_ok-element.ensures.whole ∙ c.element_at.ensures in
    let otherwise : to_member (convert_plain built_today list) (option_map (λ (t : IdlType). unannotated (type_term t)) c.in_ok-otherwise.otherwise) (Obj c.args.obj)
    ≡ without_iterator (convert_plain built_today list) ts (Obj c.args.obj) (pick_member_of list ts (class_of (Obj c.args.obj)) true)
    = ap (λ m. to_member (convert_plain built_today list) m (Obj c.args.obj)) c.in_ok-otherwise.ensures.unannotated
    ∙ sym (c.later_member.ensures (convert_plain built_today list) (Obj c.args.obj))
    ∙ ap (λ (k : Class). without_iterator (convert_plain built_today list) ts (Obj c.args.obj) (pick_member_of list ts k true)) c.class.ensures in
    c.asks.ensures.dialog list
    ∙ ap (λ (p : UnionProbe). Say (GetAsk p.obj (Sym iterator_symbol)) (normal (union_to list p))) c.in_ok-new.ensures.ok
    ∙ (λ i. Say (GetAsk c.args.obj (Sym iterator_symbol)) (normal (method_or (otherwise i) (λ (method : ObjRef). if_sequences built_today (member_from c.args.obj method (element i))))))
