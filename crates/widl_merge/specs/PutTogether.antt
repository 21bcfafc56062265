-- For proofs alone. The members of an interface or a namespace, put together a member at a time, as the program has them.
use Rattle.std.specs.Prelude.{if◌then◌else◌, ◌≡◌, ℕ, ◌<◌, ◌^◌, ◌++◌, Bool, ◌&&◌, List, [], ◌∷◌, length, map, slice_get, slice_set, Option, Some, option_map, bytes_eq, is_some}
use Rattle.std.specs.List.{list_any}
use Rattle.std.specs.Borrow.{Bor}
use Rattle.indexmap.specs.IndexMap.{IndexMap}
use Rattle.widl_idl.specs.declared.interface.Slot.{Slot}
use Rattle.widl_idl.specs.declared.interface.Slot.TheVariants as slot
use Rattle.widl_idl.specs.declared.interface.Stringify.{Stringify}
use Rattle.widl_idl.specs.declared.interface.Stringify.TheVariants as stringify
use Rattle.widl_idl.specs.declared.operation.OpName.{OpName}
use Rattle.widl_idl.specs.declared.signature.Sig.{Sig}
use Rattle.widl_idl.specs.DefinitionTerms.{sig_term, op_name_term, attr_term, constant_term, pair_term}
use Rattle.widl_idl.specs.MergedMembers.{attr_of, attributes_in, constant_of, constants_in, constructors_of, firsts_after, members_term, op_names_of, operation_text, operations_in, pairs_of, slots_after, stringifier_from}
use Rattle.widl_idl.specs.MergingRules.{both_or_none, is_static}
use Rattle.widl_idl.specs.PlainTrees.{PlainDefinition, PlainMember, PlainMemberKind, OperationMember, PlainOperation}
use Rattle.widl_idl.specs.PlainTypes.{PlainAttribute}
use Rattle.widl_names.specs.Numbers.{number_in}
use Rattle.widl_merge.specs.declared.merged_members.MergedMembers.{MergedMembers}

-- these are the members of an interface or a namespace, as the list of definitions has them
pub record ArePutTogether (definitions : List PlainDefinition) (members : List PlainMember) (m : MergedMembers) : Type 0 where
  pub terms : members_term definitions members ≡ record { ops = map op_name_term m.ops; attrs = map attr_term m.attrs; consts = map constant_term m.consts; order = m.order }
  pub ctors : map sig_term m.ctors ≡ constructors_of definitions members
  pub text : m.text ≡ stringifier_from 0 members
  pub pairs : option_map pair_term m.pairs ≡ pairs_of definitions members

-- the number that is kept for a name, of static operations or of others
abbrev pub number_named : {S : Type 0} → IndexMap (Bor (List ℕ)) ℕ S → IndexMap (Bor (List ℕ)) ℕ S → List ℕ → Bool → Option ℕ
number_named regular fixed text static = if static then number_in fixed text else number_in regular text

-- whether an operation has this name, static or not
abbrev pub is_named : List ℕ → Bool → PlainOperation → Bool
is_named text static o = bytes_eq text (operation_text o.name) && both_or_none static (is_static o.kind)

-- the first operation of a name, at the number of the name
pub record IsFirstAt (operations : List PlainOperation) (text : List ℕ) (static : Bool) (k : ℕ) : Type 0 where
  pub first : PlainOperation
  pub at : slice_get (firsts_after [] operations) k ≡ Some first
  pub name : operation_text first.name ≡ text
  pub kind : is_static first.kind ≡ static

-- the names of these operations have the numbers of their first operations
pub record AreNumbers (operations : List PlainOperation) (number : List ℕ → Bool → Option ℕ) : Type 0 where
  pub known : (text : List ℕ) (static : Bool) → is_some (number text static) ≡ list_any (is_named text static) operations
  pub there : (text : List ℕ) (static : Bool) (k : ℕ) → number text static ≡ Some k → IsFirstAt operations text static k
  pub each : (k : ℕ) (o : PlainOperation) → slice_get (firsts_after [] operations) k ≡ Some o → number (operation_text o.name) (is_static o.kind) ≡ Some k

-- 32 bits can number what comes next, and each number that is kept for a name is that of operations
pub record HasRoom (m : MergedMembers) (number : List ℕ → Bool → Option ℕ) : Type 0 where
  pub ops : length m.ops < 2 ^ 32
  pub attrs : length m.attrs < 2 ^ 32
  pub consts : length m.consts < 2 ^ 32
  pub named : (text : List ℕ) (static : Bool) (k : ℕ) → number text static ≡ Some k → k < length m.ops

-- the members so far, with the numbers of the names of their operations
pub record Gathered (definitions : List PlainDefinition) (members : List PlainMember) (m : MergedMembers) (number : List ℕ → Bool → Option ℕ) : Type 0 where
  pub ctors : map sig_term m.ctors ≡ constructors_of definitions members
  pub ops : map op_name_term m.ops ≡ op_names_of definitions (operations_in members)
  pub attrs : map attr_term m.attrs ≡ map (attr_of definitions) (attributes_in members)
  pub consts : map constant_term m.consts ≡ map (constant_of definitions) (constants_in members)
  pub order : m.order ≡ slots_after [] members
  pub text : m.text ≡ stringifier_from 0 members
  pub pairs : option_map pair_term m.pairs ≡ pairs_of definitions members
  pub numbers : AreNumbers (operations_in members) number

-- a member more, which is no operation
abbrev pub Grows : List PlainDefinition → List PlainAttribute → PlainMemberKind → MergedMembers → MergedMembers → Type 0
Grows definitions attributes kind old new = (members : List PlainMember) (number : List ℕ → Bool → Option ℕ) → Gathered definitions members old number → Gathered definitions (members ++ record { attributes = attributes; kind = kind } ∷ []) new number

-- an operation more, with the numbers of names before and after it
abbrev pub GrowsByOperation : List PlainDefinition → PlainOperation → MergedMembers → (List ℕ → Bool → Option ℕ) → MergedMembers → (List ℕ → Bool → Option ℕ) → Type 0
GrowsByOperation definitions o old number new now_number = (members : List PlainMember) (attributes : List PlainAttribute) → Gathered definitions members old number → Gathered definitions (members ++ record { attributes = attributes; kind = OperationMember o } ∷ []) new now_number

-- a member more, with the numbers of names before and after it
abbrev pub GrowsByMember : List PlainDefinition → PlainMember → MergedMembers → (List ℕ → Bool → Option ℕ) → MergedMembers → (List ℕ → Bool → Option ℕ) → Type 0
GrowsByMember definitions member old number new now_number = (members : List PlainMember) → Gathered definitions members old number → Gathered definitions (members ++ member ∷ []) new now_number

-- the stringifier: the first one
abbrev pub first_stringifier : Stringify → Stringify → Stringify
first_stringifier stringify.No next = next
first_stringifier first next = first

-- its slot, where there was none before
abbrev pub stringifier_slots : Stringify → List Slot
stringifier_slots stringify.No = slot.Stringifier ∷ []
stringifier_slots first = []

-- the stringifier of members with one more: the first one, whose slot comes where it does
abbrev pub GetsStringifier : MergedMembers → MergedMembers → Stringify → Type 0
GetsStringifier old new next = new ≡ record old { text = first_stringifier old.text next; order = old.order ++ stringifier_slots old.text }

-- a signature more for the name of this number
pub record HasOverload (old new : List OpName) (k : ℕ) (sig : Sig) : Type 0 where
  pub op : OpName
  pub at : slice_get old k ≡ Some op
  pub becomes : new ≡ slice_set old k (record { name = op.name; fixed = op.fixed; sigs = op.sigs ++ sig ∷ [] })

-- a name more, with one signature
abbrev pub HasName : List OpName → List OpName → List ℕ → Bool → Sig → Type 0
HasName old new name fixed sig = new ≡ old ++ record { name = name; fixed = fixed; sigs = sig ∷ [] } ∷ []
