-- The members of a merged list, and their types: 32 bits can number them, where few enough are written.
use Rattle.std.proofs.Common.{◌≡◌, suc, ◌+◌, ◌*◌, ◌<◌, ◌≤◌, ◌++◌, Bool, true, false, cond, List, [], ◌∷◌, length, map, filter, filter_map, get_or, Option, None, Some, option_map, arith, subst}
use Rattle.std.specs.List.{All, list_any}
use Rattle.std.proofs.lemmas.List.{length-append, length-map}
use Rattle.std.proofs.lemmas.List.Elements.{All-nil, All-cons, All-head, All-tail, All-filter, All-map, All-weaker}
use Rattle.std.proofs.lemmas.List.Sums.{length-filter, count_by-le-length}
use Rattle.widl_idl.specs.declared.argument.Arg.{Arg}
use Rattle.widl_idl.specs.declared.callback.Callback.{Callback}
use Rattle.widl_idl.specs.declared.dictionary.Dict.{Dict}
use Rattle.widl_idl.specs.declared.dictionary.Member.{Member}
use Rattle.widl_idl.specs.declared.interface.Iface.{Iface}
use Rattle.widl_idl.specs.declared.interface.Pair.{Pair}
use Rattle.widl_idl.specs.declared.interface.Slot.{Slot}
use Rattle.widl_idl.specs.declared.interface.Slot.TheVariants as slot
use Rattle.widl_idl.specs.declared.namespace.Space.{Space}
use Rattle.widl_idl.specs.declared.operation.OpName.{OpName}
use Rattle.widl_idl.specs.declared.signature.Sig.{Sig}
use Rattle.widl_idl.specs.Counts.{AnyItem, IsNumbered, NumberedAttr, NumberedCallback, NumberedConstant, NumberedDictionary, NumberedInterface, NumberedNamespace, NumberedOp, NumberedPairs, NumberedSig, NumberedType}
use Rattle.widl_idl.specs.DefinitionTerms.{ArgTerm, AttrTerm, ConstantTerm, DictTerm, IfaceTerm, MemberTerm, MembersTerm, OpNameTerm, PairTerm, SigTerm, arg_term, attr_term, callback_term, constant_term, dict_term, iface_term, member_term, op_name_term, pair_term, sig_term, space_term}
use Rattle.widl_idl.specs.MergedMembers.{MemberAttribute, are_overloads, arg_of, attr_of, attribute_in, attributes_in, constant_in, constant_of, constants_in, constructor_in, constructors_of, first_in, firsts_after, has, is_pair, is_pair_iterable, is_stringifier, is_stringifier_attribute, member_of, members_term, op_name_of, operation_in, operations_in, pair_in, pair_of, pairs_of, sig_of_operation, slots_after, slots_of_kind, slots_of_stringifier}
use Rattle.widl_idl.specs.Nodes.{LiteralNode, NameNode, nodes_of_annotated, nodes_of_argument, nodes_of_argument_kind, nodes_of_arguments, nodes_of_attributes, nodes_of_member_kind, nodes_of_optional_name, nodes_of_optional_type, nodes_of_type}
use Rattle.widl_idl.specs.PlainTrees.{PlainArgument, PlainConstant, PlainDefinition, PlainDictionaryMember, PlainMember, PlainMemberKind, PlainOperation, AttributeMember, ConstantMember, ConstructorMember, IterableMember, OperationMember, StringifierMember}
use Rattle.widl_idl.specs.PlainTypes.{PlainAnnotated, PlainAttribute, PlainType}
use Rattle.widl_idl.specs.Terms.{type_term}
use Rattle.widl_idl.specs.WrittenTypes.{meaning_alone, meaning_with, notes_of, typedefs}
use Rattle.widl_names.proofs.Pushed.{some_is}
use Rattle.widl_merge.proofs.NumberedMeanings.{FewTypedefs, Fits, annotated_type_numbered, fits_left, fits_rest, fits_right, one_annotated, type_numbered}
use Rattle.widl_merge.proofs.WrittenParts.{DictionaryMemberFits, MemberFits, all_found, found_few}

-- lists of terms, and the lists that have these terms
from_terms : {X Y : Type 0} (term : X → Y) (P : X → Type 0) (Q : Y → Type 0) → ((x : X) → Q (term x) → P x) → (xs : List X) → All Q (map term xs) → All P xs
from_terms term P Q so [] all = All-nil P
from_terms term P Q so (x ∷ xs) all = All-cons P x xs (so x (All-head Q (term x) (map term xs) all)) (from_terms term P Q so xs (All-tail Q (term x) (map term xs) all))

pub numbered_by : {X Y : Type 0} (term : X → Y) (P : X → Type 0) (Q : Y → Type 0) → ((x : X) → Q (term x) → P x) → (xs : List X) → IsNumbered Q (map term xs) → IsNumbered P xs
numbered_by term P Q so xs n = record { few = (let same = length-map xs term in let few = n.few in omega (arith, same, few)); each = from_terms term P Q so xs n.each }

numbered_map : {X Y : Type 0} (f : X → Y) (Q : Y → Type 0) (xs : List X) → length xs < 4294967296 → All (λ x. Q (f x)) xs → IsNumbered Q (map f xs)
numbered_map f Q xs few all = record { few = (let same = length-map xs f in omega (arith, same, few)); each = All-map Q f xs all }

numbered_found : {X Y : Type 0} (h : X → Option Y) (P : X → Type 0) (Q : Y → Type 0) → ((x : X) (y : Y) → P x → h x ≡ Some y → Q y) → (xs : List X) → length xs < 4294967296 → All P xs → IsNumbered Q (filter_map h xs)
numbered_found h P Q so xs few all = record { few = (let less = found_few h xs in omega (arith, less, few)); each = all_found h P Q so xs all }

-- what is said of lists of definitions, of their terms
abbrev NumberedArgTerm : ArgTerm → Type 0
NumberedArgTerm a = NumberedType a.ty

pub record NumberedSigTerm (s : SigTerm) : Type 0 where
  pub args : IsNumbered NumberedArgTerm s.args
  pub returned : NumberedType s.returned

abbrev pub NumberedOpTerm : OpNameTerm → Type 0
NumberedOpTerm o = IsNumbered NumberedSigTerm o.sigs

abbrev NumberedAttrTerm : AttrTerm → Type 0
NumberedAttrTerm a = NumberedType a.ty

abbrev NumberedConstantTerm : ConstantTerm → Type 0
NumberedConstantTerm k = NumberedType k.ty

abbrev NumberedMemberTerm : MemberTerm → Type 0
NumberedMemberTerm m = NumberedType m.ty

abbrev pub NumberedPairTerm : Option PairTerm → Type 0
NumberedPairTerm None = Unit {0}
NumberedPairTerm (Some pair) = NumberedType pair.key × NumberedType pair.value

pub record NumberedMembersTerm (m : MembersTerm) : Type 0 where
  pub ops : IsNumbered NumberedOpTerm m.ops
  pub attrs : IsNumbered NumberedAttrTerm m.attrs
  pub consts : IsNumbered NumberedConstantTerm m.consts
  pub order : IsNumbered AnyItem m.order

pub record NumberedIfaceTerm (i : IfaceTerm) : Type 0 where
  pub ctors : IsNumbered NumberedSigTerm i.ctors
  pub members : NumberedMembersTerm i.members
  pub pairs : NumberedPairTerm i.pairs

abbrev pub NumberedDictTerm : DictTerm → Type 0
NumberedDictTerm d = IsNumbered NumberedMemberTerm d.members

sig_numbered : (s : Sig) → NumberedSigTerm (sig_term s) → NumberedSig s
sig_numbered s n = record { args = numbered_by arg_term (λ (a : Arg). NumberedType (type_term a.ty)) NumberedArgTerm (λ a so. so) s.args n.args; returned = n.returned }

op_numbered : (o : OpName) → NumberedOpTerm (op_name_term o) → NumberedOp o
op_numbered o n = numbered_by sig_term NumberedSig NumberedSigTerm sig_numbered o.sigs n

pair_numbered : (p : Option Pair) → NumberedPairTerm (option_map pair_term p) → NumberedPairs p
pair_numbered None n = tt
pair_numbered (Some p) n = n

pub interface_numbered : (i : Iface) → NumberedIfaceTerm (iface_term i) → NumberedInterface i
interface_numbered i n = record {
  ctors = numbered_by sig_term NumberedSig NumberedSigTerm sig_numbered i.ctors n.ctors;
  ops = numbered_by op_name_term NumberedOp NumberedOpTerm op_numbered i.ops n.members.ops;
  attrs = numbered_by attr_term NumberedAttr NumberedAttrTerm (λ a so. so) i.attrs n.members.attrs;
  consts = numbered_by constant_term NumberedConstant NumberedConstantTerm (λ k so. so) i.consts n.members.consts;
  pairs = pair_numbered i.pairs n.pairs;
  order = n.members.order;
}

pub namespace_numbered : (s : Space) → NumberedMembersTerm (space_term s).members → NumberedNamespace s
namespace_numbered s n = record {
  ops = numbered_by op_name_term NumberedOp NumberedOpTerm op_numbered s.ops n.ops;
  attrs = numbered_by attr_term NumberedAttr NumberedAttrTerm (λ a so. so) s.attrs n.attrs;
  consts = numbered_by constant_term NumberedConstant NumberedConstantTerm (λ k so. so) s.consts n.consts;
  order = n.order;
}

pub dictionary_numbered : (d : Dict) → NumberedDictTerm (dict_term d) → NumberedDictionary d
dictionary_numbered d n = numbered_by member_term (λ (m : Member). NumberedType (type_term m.ty)) NumberedMemberTerm (λ m so. so) d.members n

pub callback_numbered : (c : Callback) → NumberedSigTerm (callback_term c).sig → NumberedCallback c
callback_numbered c n = sig_numbered c.sig n

-- the slots of members are at most two for each
few_if : (b : Bool) (s : Slot) → length (cond b [] (s ∷ [])) ≤ 1
few_if true s = omega arith
few_if false s = omega arith

stringifier_slots : (before : List PlainMember) (b : Bool) → length (slots_of_stringifier before b) ≤ 1
stringifier_slots before true = few_if (has is_stringifier before) slot.Stringifier
stringifier_slots before false = omega arith

pair_slots : (b c : Bool) → length (cond b (cond c [] (slot.Pairs ∷ [])) []) ≤ 1
pair_slots true c = few_if c slot.Pairs
pair_slots false c = omega arith

kind_slots : (before : List PlainMember) (kind : PlainMemberKind) → length (slots_of_kind before kind) ≤ 2
kind_slots before (OperationMember o) = let few = few_if (list_any (are_overloads o) (operations_in before)) (slot.Op (length (firsts_after [] (operations_in before)))) in omega (arith, few)
kind_slots before (AttributeMember a) = let few = stringifier_slots before (is_stringifier_attribute a.kind) in omega (arith, few)
kind_slots before (ConstantMember k) = omega arith
kind_slots before (StringifierMember s) = let few = stringifier_slots before true in omega (arith, few)
kind_slots before (IterableMember i) = let few = pair_slots (is_pair i.second) (has is_pair_iterable before) in omega (arith, few)
kind_slots before kind = omega arith

few_slots : (before members : List PlainMember) → length (slots_after before members) ≤ 2 * length members
few_slots before [] = omega arith
few_slots before (m ∷ more) =
    let here = kind_slots before m.kind in
    let rest = few_slots (before ++ m ∷ []) more in
    let both = length-append (slots_of_kind before m.kind) (slots_after (before ++ m ∷ []) more) in
    omega (arith, here, rest, both)

pub few_firsts : (before operations : List PlainOperation) → length (firsts_after before operations) ≤ length operations
few_firsts before [] = omega arith
few_firsts before (o ∷ more) = by (list_any (are_overloads o) before) (few_firsts before more) (few_firsts (before ++ o ∷ []) more)
  where
    by : (b : Bool) → length (firsts_after before more) ≤ length more → length (firsts_after (before ++ o ∷ []) more) ≤ length more → length (cond b (firsts_after before more) (o ∷ firsts_after (before ++ o ∷ []) more)) ≤ suc (length more)
    by true left right = omega (arith, left)
    by false left right = omega (arith, right)

module _ (definitions : List PlainDefinition) (few : FewTypedefs (typedefs definitions)) where
  alone : (t : PlainType) → Fits (nodes_of_type t) → NumberedType (meaning_alone definitions t)
  alone t fits = type_numbered definitions few [] t fits

  with : (attributes : List PlainAttribute) (t : PlainAnnotated) → Fits (nodes_of_annotated t) → NumberedType (meaning_with definitions attributes t)
  with attributes t fits = annotated_type_numbered definitions few (notes_of attributes) t fits

  argument_type : (a : PlainArgument) → Fits (nodes_of_argument a) → Fits (nodes_of_annotated a.ty)
  argument_type a fits = fits_left (nodes_of_annotated a.ty) (nodes_of_argument_kind a.kind) (fits_right (nodes_of_attributes a.attributes) (nodes_of_annotated a.ty ++ nodes_of_argument_kind a.kind) fits)

  one_argument : (a : PlainArgument) → 1 ≤ length (nodes_of_argument a)
  one_argument a =
      let one = one_annotated a.ty in
      let outer = length-append (nodes_of_attributes a.attributes) (nodes_of_annotated a.ty ++ nodes_of_argument_kind a.kind) in
      let inner = length-append (nodes_of_annotated a.ty) (nodes_of_argument_kind a.kind) in
      omega (arith, one, outer, inner)

  arguments_few : (arguments : List PlainArgument) → length arguments ≤ length (nodes_of_arguments arguments)
  arguments_few [] = omega arith
  arguments_few (a ∷ more) =
      let one = one_argument a in
      let rest = arguments_few more in
      let both = length-append (nodes_of_argument a) (nodes_of_arguments more) in
      omega (arith, one, rest, both)

  arguments_each : (arguments : List PlainArgument) → Fits (nodes_of_arguments arguments) → All (λ a. NumberedArgTerm (arg_of definitions a)) arguments
  arguments_each [] fits = All-nil (λ a. NumberedArgTerm (arg_of definitions a))
  arguments_each (a ∷ more) fits =
      All-cons (λ x. NumberedArgTerm (arg_of definitions x)) a more (with a.attributes a.ty (argument_type a (fits_left (nodes_of_argument a) (nodes_of_arguments more) fits))) (arguments_each more (fits_right (nodes_of_argument a) (nodes_of_arguments more) fits))

  pub arguments_numbered : (arguments : List PlainArgument) → Fits (nodes_of_arguments arguments) → IsNumbered NumberedArgTerm (map (arg_of definitions) arguments)
  arguments_numbered arguments fits = numbered_map (arg_of definitions) NumberedArgTerm arguments (let less = arguments_few arguments in omega (arith, less, fits)) (arguments_each arguments fits)

  abbrev OperationFits : PlainOperation → Type 0
  OperationFits o = Fits (nodes_of_type o.returned ++ nodes_of_arguments o.arguments)

  pub returns_numbered : (returned : PlainType) → Fits (nodes_of_type returned) → NumberedType (meaning_alone definitions returned)
  returns_numbered returned fits = alone returned fits

  operation_sig : (o : PlainOperation) → OperationFits o → NumberedSigTerm (sig_of_operation definitions o)
  operation_sig o fits = record {
    args = arguments_numbered o.arguments (fits_right (nodes_of_type o.returned) (nodes_of_arguments o.arguments) fits);
    returned = alone o.returned (fits_left (nodes_of_type o.returned) (nodes_of_arguments o.arguments) fits);
  }

  operation_fits : (kind : PlainMemberKind) (o : PlainOperation) → Fits (nodes_of_member_kind kind) → operation_in kind ≡ Some o → OperationFits o
  operation_fits (OperationMember p) o fits e = subst OperationFits (some_is e) (fits_right (nodes_of_optional_name p.name) (nodes_of_type p.returned ++ nodes_of_arguments p.arguments) fits)
  operation_fits kind o fits e = absurd (cc)

  pub operations_fit : (members : List PlainMember) → All MemberFits members → All OperationFits (operations_in members)
  operations_fit members all = all_found (λ (m : PlainMember). operation_in m.kind) MemberFits OperationFits (λ m o fits e. operation_fits m.kind o fits e) members all

  pub first_operation_sig : (operations : List PlainOperation) (o : PlainOperation) → All OperationFits operations → first_in operations ≡ Some o → NumberedSigTerm (sig_of_operation definitions o)
  first_operation_sig [] o all e = absurd (cc)
  first_operation_sig (p ∷ more) o all e = operation_sig o (subst OperationFits (some_is e) (All-head OperationFits p more all))

  constructor_found : (kind : PlainMemberKind) (s : SigTerm) → Fits (nodes_of_member_kind kind) → constructor_in definitions kind ≡ Some s → NumberedSigTerm s
  constructor_found (ConstructorMember c) s fits e = subst NumberedSigTerm (some_is e) (record { args = arguments_numbered c.arguments fits; returned = tt })
  constructor_found kind s fits e = absurd (cc)

  abbrev AttributeFits : MemberAttribute → Type 0
  AttributeFits a = Fits (nodes_of_annotated a.attribute.ty)

  attribute_found : (attributes : List PlainAttribute) (kind : PlainMemberKind) (a : MemberAttribute) → Fits (nodes_of_member_kind kind) → attribute_in attributes kind ≡ Some a → AttributeFits a
  attribute_found attributes (AttributeMember b) a fits e = subst AttributeFits (some_is e) (fits_rest (NameNode b.name) (nodes_of_annotated b.ty) fits)
  attribute_found attributes kind a fits e = absurd (cc)

  abbrev ConstantFits : PlainConstant → Type 0
  ConstantFits k = Fits (nodes_of_type k.ty)

  constant_found : (kind : PlainMemberKind) (k : PlainConstant) → Fits (nodes_of_member_kind kind) → constant_in kind ≡ Some k → ConstantFits k
  constant_found (ConstantMember b) k fits e = subst ConstantFits (some_is e) (fits_rest (LiteralNode b.value) (nodes_of_type b.ty) (fits_rest (NameNode b.name) (LiteralNode b.value ∷ nodes_of_type b.ty) fits))
  constant_found kind k fits e = absurd (cc)

  pair_given : (first : PlainAnnotated) (second : Option PlainAnnotated) (p : PairTerm) → Fits (nodes_of_annotated first ++ nodes_of_optional_type second) → pair_of definitions first second ≡ Some p → NumberedPairTerm (Some p)
  pair_given first None p fits e = absurd (cc)
  pair_given first (Some second) p fits e =
      subst (λ q. NumberedPairTerm (Some q)) (some_is e) (with [] first (fits_left (nodes_of_annotated first) (nodes_of_annotated second) fits), with [] second (fits_right (nodes_of_annotated first) (nodes_of_annotated second) fits))

  pair_found : (kind : PlainMemberKind) (p : PairTerm) → Fits (nodes_of_member_kind kind) → pair_in definitions kind ≡ Some p → NumberedPairTerm (Some p)
  pair_found (IterableMember i) p fits e = pair_given i.first i.second p fits e
  pair_found kind p fits e = absurd (cc)

  first_pair : (pairs : List PairTerm) → All (λ p. NumberedPairTerm (Some p)) pairs → NumberedPairTerm (first_in pairs)
  first_pair [] all = tt
  first_pair (p ∷ more) all = All-head (λ q. NumberedPairTerm (Some q)) p more all

  -- the members of an interface or a namespace
  module _ (members : List PlainMember) (small : length members ≤ 3000000) (all : All MemberFits members) where
    abbrev operations : List PlainOperation
    operations = operations_in members

    operations_small : length operations ≤ 3000000
    operations_small = let less = found_few (λ (m : PlainMember). operation_in m.kind) members in omega (arith, less, small)

    name_numbered : (first : PlainOperation) → NumberedOpTerm (op_name_of definitions operations first)
    name_numbered first = numbered_map (sig_of_operation definitions) NumberedSigTerm (filter (are_overloads first) operations)
        (let same = length-filter (are_overloads first) operations in let less = count_by-le-length (are_overloads first) operations in let few_all = operations_small in omega (arith, same, less, few_all))
        (All-weaker OperationFits (λ o. NumberedSigTerm (sig_of_operation definitions o)) operation_sig (filter (are_overloads first) operations) (All-filter (are_overloads first) OperationFits operations (operations_fit members all)))

    pub members_numbered : NumberedMembersTerm (members_term definitions members)
    members_numbered = record {
      ops = numbered_map (op_name_of definitions operations) NumberedOpTerm (firsts_after [] operations) (let less = few_firsts [] operations in let few_all = operations_small in omega (arith, less, few_all)) (λ k d below. name_numbered (get_or (firsts_after [] operations) k d));
      attrs = numbered_map (attr_of definitions) NumberedAttrTerm (attributes_in members) (let less = found_few (λ (m : PlainMember). attribute_in m.attributes m.kind) members in omega (arith, less, small))
          (All-weaker AttributeFits (λ a. NumberedAttrTerm (attr_of definitions a)) (λ a fits. with a.attributes a.attribute.ty fits) (attributes_in members) (all_found (λ (m : PlainMember). attribute_in m.attributes m.kind) MemberFits AttributeFits (λ m a fits e. attribute_found m.attributes m.kind a fits e) members all));
      consts = numbered_map (constant_of definitions) NumberedConstantTerm (constants_in members) (let less = found_few (λ (m : PlainMember). constant_in m.kind) members in omega (arith, less, small))
          (All-weaker ConstantFits (λ k. NumberedConstantTerm (constant_of definitions k)) (λ k fits. alone k.ty fits) (constants_in members) (all_found (λ (m : PlainMember). constant_in m.kind) MemberFits ConstantFits (λ m k fits e. constant_found m.kind k fits e) members all));
      order = record { few = (let less = few_slots [] members in omega (arith, less, small)); each = λ k d below. tt };
    }

    pub constructors_numbered : IsNumbered NumberedSigTerm (constructors_of definitions members)
    constructors_numbered = numbered_found (λ (m : PlainMember). constructor_in definitions m.kind) MemberFits NumberedSigTerm (λ m s fits e. constructor_found m.kind s fits e) members (omega (arith, small)) all

    pub pairs_numbered : NumberedPairTerm (pairs_of definitions members)
    pairs_numbered = first_pair (filter_map (λ (m : PlainMember). pair_in definitions m.kind) members) (all_found (λ (m : PlainMember). pair_in definitions m.kind) MemberFits (λ p. NumberedPairTerm (Some p)) (λ m p fits e. pair_found m.kind p fits e) members all)

  -- the members of a dictionary
  pub dictionary_members_numbered : (members : List PlainDictionaryMember) → length members < 4294967296 → All DictionaryMemberFits members → IsNumbered NumberedMemberTerm (map (member_of definitions) members)
  dictionary_members_numbered members small all = numbered_map (member_of definitions) NumberedMemberTerm members small (All-weaker DictionaryMemberFits (λ m. NumberedMemberTerm (member_of definitions m)) (λ m fits. with m.attributes m.ty fits) members all)
