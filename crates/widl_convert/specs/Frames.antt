-- For proofs and contracts alone; no step names these words. What a suspended conversation still does: the dialog of each thing that it is made of.
use Rattle.std.specs.Prelude.{ℕ, ◌+◌, false, true, List, [], ◌∷◌, ◌++◌, drop, length, map, codes, None, Some, option_map}
use Rattle.widl_dialog.specs.Dialog.{End, Say, Steps}
use Rattle.widl_text.specs.declared.key.Key.{Key}
use Rattle.widl_idl.specs.declared.callee.Callee.{Callee}
use Rattle.widl_idl.specs.DefinitionTerms.{DefsTerm}
use Rattle.widl_idl.specs.declared.types.IdlType.{IdlType}
use Rattle.widl_idl.specs.Flattened.{unannotated}
use Rattle.widl_idl.specs.Terms.{StringType, type_term}
use Rattle.widl_overload.specs.sets.Entries.{declared_args, entry_for, type_at}
use Rattle.widl_overload.specs.sets.Sets.{TupleTerm}
use Rattle.widl_value.specs.Classes.{class_of}
use Rattle.widl_value.specs.declared.idl_value.IdlValue.{IdlValue}
use Rattle.widl_value.specs.declared.number.Number.{Number}
use Rattle.widl_value.specs.declared.object.ObjRef.{ObjRef}
use Rattle.widl_value.specs.declared.value.Value.{Value}
use Rattle.widl_value.specs.declared.value.Value.TheVariants as values
use Rattle.widl_value.specs.IdlTerms.{IdlTerm, IdlTerms, entry_term, idl_term, idl_terms, member_terms, packed_values}
use Rattle.widl_scalar.specs.Enumerations.{value_place}
use Rattle.widl_scalar.specs.Scalars.{integer_of}
use Rattle.widl_tables.specs.declared.pick.Pick.{Pick}
use Rattle.widl_tables.specs.Kept.{entry_alone}
use Rattle.widl_tables.specs.Picks.{pick_of}
use Rattle.widl_tables.specs.MemberOrder.{members_in_order}
use Rattle.widl_trace.specs.declared.code.Code.TheVariants as code
use Rattle.widl_steps.specs.AskTerms.{AnswerTerm, ask_term}
use Rattle.widl_steps.specs.Dictionaries.{member_value, with_value}
use Rattle.widl_steps.specs.Primitives.{found_method, found_ordinary, primitive_result, tried, try_method}
use Rattle.widl_steps.specs.Built.{built_today}
use Rattle.widl_steps.specs.Records.{entry_value, key_value, keys_in, named_entry, own_entry, with_entry}
use Rattle.widl_steps.specs.Resolution.{by_entry, default_at, kept}
use Rattle.widl_steps.specs.Scalars.{convert_plain, enumeration_result, integer_result, length_value, string_result}
use Rattle.widl_steps.specs.Sequences.{element, found_iterator_method, if_sequences, told_done, turn_given, with_iterator, with_next}
use Rattle.widl_steps.specs.Tasks.{Container, ArrayOf, ObjectOf, Task, Primitive, Scalar, Convert, SequenceFrom, Turns, Entries, Members, Resolve, Arguments, Default, Defaults, Out, OutItems, OutUnits, TaskEnd, Gives, Plain, Picks, Throw, Rethrow, Profile, Talk}
use Rattle.widl_steps.specs.Unions.{member_from, to_member}
use Rattle.widl_steps.specs.Words.{done, fails, given, method_or, normal, number, returned, returns, text}
use Rattle.widl_convert.specs.declared.containers.Container.{Container as MadeOf}
use Rattle.widl_convert.specs.declared.containers.Container.TheVariants as containers
use Rattle.widl_convert.specs.declared.containers.Filled.{Filled}
use Rattle.widl_convert.specs.declared.containers.Outgoing.{Outgoing}
use Rattle.widl_convert.specs.declared.frames.Frame.{Frame}
use Rattle.widl_convert.specs.declared.frames.Frame.TheVariants as frames
use Rattle.widl_convert.specs.declared.frames.IdlFrame.{IdlFrame}
use Rattle.widl_convert.specs.declared.frames.IdlFrame.TheVariants as idls
use Rattle.widl_convert.specs.declared.frames.NumberFrame.{NumberFrame}
use Rattle.widl_convert.specs.declared.frames.NumberFrame.TheVariants as numbers
use Rattle.widl_convert.specs.declared.frames.TextFrame.{TextFrame}
use Rattle.widl_convert.specs.declared.frames.TextFrame.TheVariants as texts
use Rattle.widl_convert.specs.declared.frames.ValueFrame.{ValueFrame}
use Rattle.widl_convert.specs.declared.frames.ValueFrame.TheVariants as plains
use Rattle.widl_convert.specs.declared.jobs.Job.{Job}
use Rattle.widl_convert.specs.declared.jobs.Job.TheVariants as jobs
use Rattle.widl_convert.specs.declared.moves.Ending.{Ending}
use Rattle.widl_convert.specs.declared.moves.Ending.TheVariants as endings
use Rattle.widl_convert.specs.declared.moves.Move.{Move}
use Rattle.widl_convert.specs.declared.moves.Move.TheVariants as moves
use Rattle.widl_convert.specs.declared.outcome.Outcome.{Outcome}
use Rattle.widl_convert.specs.declared.outcome.Outcome.TheVariants as outcomes
use Rattle.widl_convert.specs.declared.primitive.Otherwise.{Otherwise}
use Rattle.widl_convert.specs.declared.primitive.Otherwise.TheVariants.{ValueOf, ToString, Nothing}
use Rattle.widl_convert.specs.declared.primitive.PrimitiveWait.{PrimitiveWait}
use Rattle.widl_convert.specs.declared.primitive.PrimitiveWait.TheVariants.{Method, MethodResult, Ordinary, OrdinaryResult}
use Rattle.widl_convert.specs.declared.record.NamedProperty.{NamedProperty}
use Rattle.widl_convert.specs.declared.record.Properties.{Properties}
use Rattle.widl_convert.specs.declared.record.Property.{Property}
use Rattle.widl_convert.specs.declared.record.Recorded.{Recorded}
use Rattle.widl_convert.specs.declared.resolution.Probe.{Probe}
use Rattle.widl_convert.specs.declared.resolution.Resolution.{Resolution}
use Rattle.widl_convert.specs.declared.sequence.Iteration.{Iteration}
use Rattle.widl_convert.specs.declared.sequence.SequenceWait.{SequenceWait}
use Rattle.widl_convert.specs.declared.sequence.SequenceWait.TheVariants as sequences
use Rattle.widl_convert.specs.declared.union.UnionProbe.{UnionProbe}
use Rattle.widl_convert.specs.declared.waits.MemberWait.{MemberWait}
use Rattle.widl_convert.specs.declared.waits.ValueWait.{ValueWait}
use Rattle.widl_convert.specs.declared.waits.ValueWait.TheVariants as value_waits
use Rattle.widl_convert.specs.declared.waits.Wait.{Wait}
use Rattle.widl_convert.specs.declared.waits.Wait.TheVariants as waits
use Rattle.widl_convert.specs.Members.{declared_at, member_at, members_left}
use Rattle.widl_convert.specs.Entries.{declared_type, entries_left, left_from, place_in}

-- 1. Tasks and their ends

-- a resolution goes on with the argument at a place, after these values
abbrev pub resolution_task : DefsTerm → Resolution → ℕ → List IdlTerm → Task
resolution_task list r place made = Arguments r.kept.callee (entries_left list r.kept r.overload) (place_in r.kept) (left_from place r.kept r.args) made

-- a word of a resolution of which the next argument is taken, where that stands
abbrev pub taken : {A : Type 0} → (DefsTerm → Callee → ℕ → List Value → List IdlTerm → A) → DefsTerm → Resolution → A
taken word list r = word list r.kept.callee (place_in r.kept) (left_from (length (idl_terms r.made) + 1) r.kept r.args) (idl_terms r.made)

abbrev pub entries_of : DefsTerm → Resolution → List TupleTerm
entries_of list r = entries_left list r.kept r.overload

-- the turns of an iterator go on after these elements
abbrev pub iteration_task : Iteration → List IdlTerm → Task
iteration_task i made = Turns (type_term i.element) i.iterator i.next made

-- the entries of a record so far
abbrev pub entries_in : List (List ℕ × IdlValue) → List (List ℕ × IdlTerm)
entries_in made = map entry_term made

-- the keys of an object that are left, and the record that goes on with them after these entries
abbrev pub keys_left : Properties → List Key
keys_left p = drop p.next p.keys

abbrev pub properties_task : Properties → List (List ℕ × IdlTerm) → Task
properties_task p made = Entries p.of.kind (type_term p.of.ty) p.of.obj (keys_left p) made

-- what is made of the items of a container
abbrev pub container_term : MadeOf → Container
container_term containers.Array = ArrayOf
container_term (containers.Object names) = ObjectOf names

-- the items of a container that are left, and the container that goes on with them after these values
abbrev pub items_left : Outgoing → IdlTerms
items_left o = packed_values (drop o.next (idl_terms o.items))

abbrev pub outgoing_task : Outgoing → List Value → Task
outgoing_task o made = OutItems (container_term o.container) (items_left o) made

abbrev pub units_task : Filled → Task
units_task f = OutUnits f.left (container_term f.container) f.made

abbrev pub job_of : DefsTerm → Job → Task
job_of list (jobs.Primitive hint v) = Primitive hint v
job_of list (jobs.Scalar want v) = Scalar want v
job_of list (jobs.Convert t v) = Convert (type_term t) v
job_of list (jobs.Argument at count v) = Convert (type_at (entry_for at.overload (declared_args list at.callee at.overload) count) at.place) v
job_of list (jobs.SequenceFrom s) = SequenceFrom (type_term s.element) s.obj s.method
job_of list (jobs.Turns i) = iteration_task i.value (idl_terms i.value.made)
job_of list (jobs.Entries p) = properties_task p.value (entries_in p.value.made)
job_of list (jobs.Resolve call) = Resolve call.callee call.args
job_of list (jobs.Arguments r) = resolution_task list r.value (length (idl_terms r.value.made)) (idl_terms r.value.made)
job_of list (jobs.Default at) = Default (declared_type list at.callee at.overload at.place) (default_at list at.callee at.overload at.place)
job_of list (jobs.Defaults b) = Defaults b.callee b.overload (idl_terms b.made)
job_of list (jobs.Dictionary n o) = Members n o (members_in_order list n) []
job_of list (jobs.Members f) = Members f.value.dictionary f.value.object (members_left list f.value.left) (member_terms f.value.made)
job_of list (jobs.Member at v) = Convert (member_at list at).ty v
job_of list (jobs.MemberDefault at) = Default (member_at list at).ty (member_at list at).value
job_of list (jobs.Out t w) = Out (type_term t) (idl_term w)
job_of list (jobs.OutItems o) = outgoing_task o.value o.value.made
job_of list (jobs.OutUnits f) = units_task f

abbrev pub outcome_end : Outcome → TaskEnd
outcome_end (outcomes.Idl w) = Gives (idl_term w)
outcome_end (outcomes.Chosen overload ws) = Picks overload (idl_terms ws)
outcome_end (outcomes.Script v) = Plain v

abbrev pub end_of : Ending → TaskEnd
end_of (endings.Done outcome) = outcome_end outcome
end_of (endings.Throw reason) = Throw reason
end_of (endings.Rethrow v) = Rethrow v
end_of (endings.Profile n) = Profile n

-- 2. What comes after a value that was waited for

-- the ordinary methods that are left
abbrev pub otherwise_of : Otherwise → ObjRef → Talk
otherwise_of ValueOf o = try_method o (codes "valueOf") (fails code.Primitive)
otherwise_of ToString o = try_method o (codes "toString") (fails code.Primitive)
otherwise_of Nothing o = fails code.Primitive

abbrev pub primitive_to : PrimitiveWait → Value → Talk
primitive_to (Method hint o) = found_method hint o
primitive_to MethodResult = primitive_result
primitive_to (Ordinary o otherwise) = found_ordinary o (otherwise_of otherwise o)
primitive_to (OrdinaryResult o otherwise) = tried (otherwise_of otherwise o)

-- the later tests of an argument without a method
abbrev pub later_pick : DefsTerm → Resolution → ObjRef → Pick
later_pick list r o = pick_of list (entries_of list r) (place_in r.kept) (class_of (values.Obj o)) true

-- the argument is taken: it becomes a sequence by its method, or the later tests decide
abbrev pub probe_to : DefsTerm → Probe → Value → Talk
probe_to list p =
    method_or (by_entry (taken kept list p.resolution.value (values.Obj p.obj) None) (entries_of list p.resolution.value) (later_pick list p.resolution.value p.obj))
    (λ method. if_sequences built_today (taken kept list p.resolution.value (values.Obj p.obj) (Some (p.obj, method)) (entry_alone p.overload (entries_of list p.resolution.value))))

abbrev pub sequence_to : SequenceWait → Value → Talk
sequence_to (sequences.Method t o) = found_iterator_method (type_term t) o
sequence_to (sequences.Iterator t) = with_iterator (type_term t)
sequence_to (sequences.Next t iterator) = with_next (type_term t) iterator
sequence_to (sequences.Turn i) = turn_given (type_term i.value.element) i.value.iterator i.value.next (idl_terms i.value.made)
sequence_to (sequences.Done i turn) = told_done (type_term i.value.element) i.value.iterator i.value.next (idl_terms i.value.made) turn
sequence_to (sequences.Element i) = element (type_term i.value.element) i.value.iterator i.value.next (idl_terms i.value.made)

abbrev pub property_to : NamedProperty → Value → Talk
property_to p = entry_value p.left.value.of.kind (type_term p.left.value.of.ty) p.left.value.of.obj (keys_left p.left.value) (entries_in p.left.value.made) p.name

-- the member is taken
abbrev pub member_to : DefsTerm → MemberWait → Value → Talk
member_to list w = member_value w.filling.value.dictionary w.filling.value.object (declared_at list w.at) (members_left list w.filling.value.left) (member_terms w.filling.value.made)

-- the sequence of a union, by the method; or the member that takes an object without one
abbrev pub union_to : DefsTerm → UnionProbe → Value → Talk
union_to list p =
    method_or (to_member (convert_plain built_today list) (option_map (λ (t : IdlType). unannotated (type_term t)) p.otherwise) (values.Obj p.obj))
    (λ method. if_sequences built_today (member_from p.obj method (option_map type_term p.element)))

abbrev pub value_to : DefsTerm → ValueWait → Value → Talk
value_to list (value_waits.Primitive w) = primitive_to w
value_to list (value_waits.Probe p) = probe_to list p
value_to list (value_waits.Sequence w) = sequence_to w
value_to list (value_waits.Property p) = property_to p
value_to list (value_waits.Member w) = member_to list w
value_to list (value_waits.UnionProbe p) = union_to list p.value
value_to list value_waits.NewArray = returns
value_to list value_waits.NewObject = returns

-- 3. What comes after an answer

abbrev pub keys_to : Recorded → AnswerTerm → Talk
keys_to r a = Steps (Entries r.kind (type_term r.ty) r.obj (keys_in a) []) End

abbrev pub own_to : Property → AnswerTerm → Talk
own_to p = own_entry p.left.value.of.kind (type_term p.left.value.of.ty) p.left.value.of.obj p.key (keys_left p.left.value) (entries_in p.left.value.made)

abbrev pub after : DefsTerm → Wait → AnswerTerm → Talk
after list (waits.Value w) = normal (value_to list w)
after list (waits.Keys r) = keys_to r
after list (waits.Own p) = own_to p
after list (waits.Unit w) = done (member_to list w values.Undefined)
after list (waits.Item f) = done (Steps (units_task f) End)

-- 4. What comes after the end of a task

abbrev pub plain_to : ValueFrame → Value → Talk
plain_to (plains.Scalar want) v = Steps (Scalar want v) End
plain_to (plains.Item o) v = Steps (outgoing_task o.value (o.value.made ++ v ∷ [])) End

abbrev pub number_to : NumberFrame → Number → Talk
number_to numbers.Length n = returns (length_value n)
number_to (numbers.Integer kind mode) n = integer_result (integer_of n kind mode)

abbrev pub text_to : DefsTerm → TextFrame → List ℕ → Talk
text_to list (texts.String kind) units = string_result kind units
text_to list (texts.Enumeration n) units = enumeration_result n (value_place list.choices n units)

abbrev pub idl_to : DefsTerm → IdlFrame → IdlTerm → Talk
idl_to list (idls.Argument r) w = Steps (resolution_task list r.value (length (idl_terms r.value.made) + 1) (idl_terms r.value.made ++ w ∷ [])) End
idl_to list (idls.Defaulted b) w = Steps (Defaults b.callee b.overload (idl_terms b.made ++ w ∷ [])) End
idl_to list (idls.Element i) w = Steps (iteration_task i.value (idl_terms i.value.made ++ w ∷ [])) End
idl_to list (idls.Property p) w = Steps (properties_task p.left.value (with_entry p.name w (entries_in p.left.value.made))) End
idl_to list (idls.Member m) w = Steps (Members m.filling.value.dictionary m.filling.value.object (members_left list m.filling.value.left) (with_value (declared_at list m.at) w (member_terms m.filling.value.made))) End

abbrev pub named_to : Property → TaskEnd → Talk
named_to p = named_entry p.left.value.of.kind (type_term p.left.value.of.ty) p.left.value.of.obj p.key (keys_left p.left.value) (entries_in p.left.value.made)

-- an enumerable property goes on with the key of its entry
abbrev pub enumerable_to : Property → Talk
enumerable_to p = Steps (Convert (StringType p.left.value.of.kind false) (key_value p.key)) (named_to p)

abbrev pub returned_to : DefsTerm → Frame → TaskEnd → Talk
returned_to list (frames.Value f) = returned (plain_to f)
returned_to list (frames.Number f) = number (number_to f)
returned_to list (frames.Text f) = text (text_to list f)
returned_to list (frames.Idl f) = given (idl_to list f)
returned_to list (frames.Key p) = named_to p

-- 5. Moves

abbrev pub move_dialog : DefsTerm → Move → Talk
move_dialog list (moves.Asks p) = Say (ask_term p.ask) (after list p.wait)
move_dialog list (moves.Gives r) = End (end_of r)
move_dialog list (moves.Steps f j) = Steps (job_of list j) (returned_to list f)
move_dialog list (moves.Goes j) = Steps (job_of list j) End
