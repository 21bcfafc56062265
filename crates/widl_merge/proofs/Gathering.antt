-- The members of an interface or a namespace, gathered a member at a time.
use Rattle.std.proofs.Common.{◌≡◌, ◌⊎◌, inl, inr, ℕ, ◌+◌, ◌<◌, ◌≤◌, ◌^◌, ◌++◌, Bool, true, false, cond, ◌&&◌, bytes_eq, List, [], ◌∷◌, length, take, map, get_or, Option, None, Some, is_some, option_map, arith, refl, sym, ap, subst, ◌∙◌, append_assoc, Bor}
use Rattle.std.specs.Cmp.Lexicographic.{bytes_decides}
use Rattle.std.specs.Global.{Box}
use Rattle.std.specs.Option.{option_or}
use Rattle.std.proofs.lemmas.List.{append-nil, length-map, map-append}
use Rattle.std.proofs.lemmas.Option.{slice_get_within}
use Rattle.widl_text.specs.declared.place.Place.{Place}
use Rattle.widl_idl.specs.declared.attribute.Attr.{Attr}
use Rattle.widl_idl.specs.declared.constant.Constant.{Constant}
use Rattle.widl_idl.specs.declared.interface.Pair.{Pair}
use Rattle.widl_idl.specs.declared.interface.Slot.{Slot}
use Rattle.widl_idl.specs.declared.interface.Slot.TheVariants as slot
use Rattle.widl_idl.specs.declared.interface.Stringify.{Stringify}
use Rattle.widl_idl.specs.declared.interface.Stringify.TheVariants as stringify
use Rattle.widl_idl.specs.declared.operation.OpName.{OpName}
use Rattle.widl_idl.specs.declared.signature.Sig.{Sig}
use Rattle.widl_idl.specs.declared.tree.iterables.AsyncIterable.{AsyncIterable}
use Rattle.widl_idl.specs.declared.tree.iterables.Maplike.{Maplike}
use Rattle.widl_idl.specs.declared.tree.iterables.Setlike.{Setlike}
use Rattle.widl_idl.specs.declared.tree.members.Member.{Member}
use Rattle.widl_idl.specs.declared.tree.members.MemberKind.{MemberKind}
use Rattle.widl_idl.specs.declared.tree.members.MemberKind.TheVariants as member_kind
use Rattle.widl_idl.specs.DefinitionTerms.{attr_term, constant_term, op_name_term, pair_term, sig_term}
use Rattle.widl_idl.specs.MergedMembers.{attr_of, attribute_in, attributes_in, constant_in, constant_of, constants_in, constructor_in, constructors_of, firsts_after, has, is_pair, is_pair_iterable, is_stringifier_attribute, op_name_of, op_names_of, operation_in, operation_text, operations_in, pair_in, pair_of, pairs_of, sig_of_operation, slots_after, slots_of_kind, slots_of_stringifier, stringifier_from, stringify_kind}
use Rattle.widl_idl.specs.MergingRules.{both_or_none, is_static}
use Rattle.widl_idl.specs.PlainTypes.{PlainAnnotated, PlainAttribute, attribute_of}
use Rattle.widl_idl.specs.PlainTrees.{PlainAttributeMember, PlainConstant, PlainConstructor, PlainDefinition, PlainIterable, PlainMember, PlainMemberKind, PlainOperation, ConstantMember, AttributeMember, OperationMember, ConstructorMember, StringifierMember, IterableMember, AsyncIterableMember, MaplikeMember, SetlikeMember, member_kind_of, member_of}
use Rattle.widl_idl.specs.WrittenLiterals.{units_of}
use Rattle.widl_names.proofs.PlainLists.{mapped_more}
use Rattle.widl_merge.specs.declared.merged_members.MergedMembers.{MergedMembers}
use Rattle.widl_merge.specs.PutTogether.{AreNumbers, ArePutTogether, Gathered, GetsStringifier, HasName, HasOverload, HasRoom, first_stringifier, is_named, stringifier_slots}
use Rattle.widl_merge.proofs.NumberedMembers.{few_firsts}
use Rattle.widl_merge.proofs.WrittenParts.{found_few}
use Rattle.widl_merge.proofs.FirstOperations.{numbers_known, numbers_new, seen}
use Rattle.widl_merge.proofs.OperationTerms.{known_means, new_means}
use Rattle.widl_merge.proofs.MemberSteps.{has_pairs, none_more, one_more, pairs_push, slots_push, stringifier_push, stringifier_slot}
use Rattle.widl_names.specs.Listings.{listed_members}

-- an item more
terms_more : {X T : Type 0} (term : X → T) (xs new : List X) (x : X) (ts : List T) (t : T) → new ≡ xs ++ x ∷ [] → term x ≡ t → map term xs ≡ ts → map term new ≡ ts ++ t ∷ []
terms_more term xs new x ts t grown is so = ap (map term) grown ∙ map-append term xs (x ∷ []) ∙ ap (λ l. l ++ term x ∷ []) so ∙ ap (λ u. ts ++ u ∷ []) is

slots_more : (xs new : List Slot) (x : Slot) (ts : List Slot) (t : Slot) → new ≡ xs ++ x ∷ [] → x ≡ t → xs ≡ ts → new ≡ ts ++ t ∷ []
slots_more xs new x ts t grown is so = grown ∙ ap (λ l. l ++ x ∷ []) so ∙ ap (λ u. ts ++ u ∷ []) is

module _ (definitions : List PlainDefinition) (members : List PlainMember) (m : PlainMember) where
  abbrev grown : List PlainMember
  grown = members ++ m ∷ []

  -- the members of a kind, by what the next member is
  operations_same : operation_in m.kind ≡ None → operations_in members ≡ operations_in grown
  operations_same e = sym (none_more (λ (x : PlainMember). operation_in x.kind) members m e)

  attributes_same : attribute_in m.attributes m.kind ≡ None → map (attr_of definitions) (attributes_in members) ≡ map (attr_of definitions) (attributes_in grown)
  attributes_same e = ap (map (attr_of definitions)) (sym (none_more (λ (x : PlainMember). attribute_in x.attributes x.kind) members m e))

  constants_same : constant_in m.kind ≡ None → map (constant_of definitions) (constants_in members) ≡ map (constant_of definitions) (constants_in grown)
  constants_same e = ap (map (constant_of definitions)) (sym (none_more (λ (x : PlainMember). constant_in x.kind) members m e))

  constructors_same : constructor_in definitions m.kind ≡ None → constructors_of definitions members ≡ constructors_of definitions grown
  constructors_same e = sym (none_more (λ (x : PlainMember). constructor_in definitions x.kind) members m e)

  pairs_same : pair_in definitions m.kind ≡ None → pairs_of definitions members ≡ pairs_of definitions grown
  pairs_same e = sym (pairs_push definitions members m ∙ ap (option_or (pairs_of definitions members)) e ∙ or_none (pairs_of definitions members))
    where
      or_none : {X : Type 0} (o : Option X) → option_or o None ≡ o
      or_none None = refl
      or_none (Some x) = refl

  first_stays : (s : Stringify) → first_stringifier s stringify.No ≡ s
  first_stays stringify.No = refl
  first_stays stringify.Plain = refl
  first_stays (stringify.Attr n) = refl

  text_same : stringify_kind (length (attributes_in members)) m.kind stringify.No stringify.No ≡ stringify.No → stringifier_from 0 members ≡ stringifier_from 0 grown
  text_same e = sym (stringifier_push members m ∙ ap (first_stringifier (stringifier_from 0 members)) e ∙ first_stays (stringifier_from 0 members))

  order_same : slots_of_kind members m.kind ≡ [] → slots_after [] members ≡ slots_after [] grown
  order_same e = sym (slots_push members m ∙ ap (λ l. slots_after [] members ++ l) e ∙ append-nil (slots_after [] members))

-- whether a member is of a kind that the list leaves out
abbrev pub is_unsupported : PlainMemberKind → Bool
is_unsupported (AsyncIterableMember i) = true
is_unsupported (MaplikeMember m) = true
is_unsupported (SetlikeMember s) = true
is_unsupported kind = false

-- a member that leaves all as it is
pub nothing_more : (definitions : List PlainDefinition) (members : List PlainMember) (m : PlainMember) (old : MergedMembers) (number : List ℕ → Bool → Option ℕ)
    → operation_in m.kind ≡ None → attribute_in m.attributes m.kind ≡ None → constant_in m.kind ≡ None → constructor_in definitions m.kind ≡ None → pairs_of definitions members ≡ pairs_of definitions (members ++ m ∷ [])
    → stringify_kind (length (attributes_in members)) m.kind stringify.No stringify.No ≡ stringify.No → slots_of_kind members m.kind ≡ []
    → Gathered definitions members old number → Gathered definitions (members ++ m ∷ []) old number
nothing_more definitions members m old number o a k c p s l g = record {
  ctors = g.ctors ∙ constructors_same definitions members m c;
  ops = g.ops ∙ ap (op_names_of definitions) (operations_same definitions members m o);
  attrs = g.attrs ∙ attributes_same definitions members m a;
  consts = g.consts ∙ constants_same definitions members m k;
  order = g.order ∙ order_same definitions members m l;
  text = g.text ∙ text_same definitions members m s;
  pairs = g.pairs ∙ p;
  numbers = subst (λ os. AreNumbers os number) (operations_same definitions members m o) g.numbers;
}

module _ (definitions : List PlainDefinition) (members : List PlainMember) (attributes : List PlainAttribute) (old : MergedMembers) (number : List ℕ → Bool → Option ℕ) (g : Gathered definitions members old number) where
  abbrev with_kind : PlainMemberKind → PlainMember
  with_kind kind = record { attributes = attributes; kind = kind }

  pub constructor_more : (c : PlainConstructor) (sig : Sig) (ctors : List Sig) → ctors ≡ old.ctors ++ sig ∷ [] → Some (sig_term sig) ≡ constructor_in definitions (ConstructorMember c)
      → Gathered definitions (members ++ with_kind (ConstructorMember c) ∷ []) (record { ctors = ctors; ops = old.ops; attrs = old.attrs; consts = old.consts; text = old.text; pairs = old.pairs; order = old.order }) number
  constructor_more c sig ctors e is = let m = with_kind (ConstructorMember c) in record {
    ctors = terms_more sig_term old.ctors ctors sig _ (sig_term sig) e refl g.ctors ∙ sym (one_more (λ (x : PlainMember). constructor_in definitions x.kind) members m (sig_term sig) (sym is));
    ops = g.ops ∙ ap (op_names_of definitions) (operations_same definitions members m refl);
    attrs = g.attrs ∙ attributes_same definitions members m refl;
    consts = g.consts ∙ constants_same definitions members m refl;
    order = g.order ∙ order_same definitions members m refl;
    text = g.text ∙ text_same definitions members m refl;
    pairs = g.pairs ∙ pairs_same definitions members m refl;
    numbers = subst (λ os. AreNumbers os number) (operations_same definitions members m refl) g.numbers;
  }

  -- how many there are
  constant_count : length old.consts ≡ length (constants_in members)
  constant_count = sym (length-map old.consts constant_term) ∙ ap length g.consts ∙ length-map (constants_in members) (constant_of definitions)

  attribute_count : length old.attrs ≡ length (attributes_in members)
  attribute_count = sym (length-map old.attrs attr_term) ∙ ap length g.attrs ∙ length-map (attributes_in members) (attr_of definitions)

  operation_count : length old.ops ≡ length (firsts_after [] (operations_in members))
  operation_count = sym (length-map old.ops op_name_term) ∙ ap length g.ops ∙ length-map (firsts_after [] (operations_in members)) _

  pub constant_more : (k : PlainConstant) (constant : Constant) (consts : List Constant) (order : List Slot) (place : ℕ) → consts ≡ old.consts ++ constant ∷ [] → constant_term constant ≡ constant_of definitions k
      → place ≡ length old.consts → order ≡ old.order ++ slot.Constant place ∷ []
      → Gathered definitions (members ++ with_kind (ConstantMember k) ∷ []) (record { ctors = old.ctors; ops = old.ops; attrs = old.attrs; consts = consts; text = old.text; pairs = old.pairs; order = order }) number
  constant_more k constant consts order place e is at f = let m = with_kind (ConstantMember k) in record {
    ctors = g.ctors ∙ constructors_same definitions members m refl;
    ops = g.ops ∙ ap (op_names_of definitions) (operations_same definitions members m refl);
    attrs = g.attrs ∙ attributes_same definitions members m refl;
    consts = terms_more constant_term old.consts consts constant _ (constant_of definitions k) e is g.consts ∙ sym (ap (map (constant_of definitions)) (one_more (λ (x : PlainMember). constant_in x.kind) members m k refl) ∙ map-append (constant_of definitions) (constants_in members) (k ∷ []));
    order = slots_more old.order order (slot.Constant place) _ (slot.Constant (length (constants_in members))) f (ap slot.Constant (at ∙ constant_count)) g.order ∙ sym (slots_push members m);
    text = g.text ∙ text_same definitions members m refl;
    pairs = g.pairs ∙ pairs_same definitions members m refl;
    numbers = subst (λ os. AreNumbers os number) (operations_same definitions members m refl) g.numbers;
  }

  -- of an attribute that is no stringifier, and of one that is
  pub attribute_more : (a : PlainAttributeMember) (attr : Attr) (attrs : List Attr) (order slots : List Slot) (text : Stringify) (place : ℕ) → attrs ≡ old.attrs ++ attr ∷ []
      → attr_term attr ≡ attr_of definitions (record { attributes = attributes; attribute = a }) → place ≡ length old.attrs → slots ≡ old.order ++ slot.Attr place ∷ []
      → (b : Bool) → is_stringifier_attribute a.kind ≡ b → text ≡ first_stringifier old.text (cond b (stringify.Attr place) stringify.No) → order ≡ slots ++ cond b (stringifier_slots old.text) []
      → Gathered definitions (members ++ with_kind (AttributeMember a) ∷ []) (record { ctors = old.ctors; ops = old.ops; attrs = attrs; consts = old.consts; text = text; pairs = old.pairs; order = order }) number
  attribute_more a attr attrs order slots text place e is at f b kind said rest = record {
    ctors = g.ctors ∙ constructors_same definitions members m refl;
    ops = g.ops ∙ ap (op_names_of definitions) (operations_same definitions members m refl);
    attrs = terms_more attr_term old.attrs attrs attr _ (attr_of definitions (record { attributes = attributes; attribute = a })) e is g.attrs ∙ sym (ap (map (attr_of definitions)) (one_more (λ (x : PlainMember). attribute_in x.attributes x.kind) members m (record { attributes = attributes; attribute = a }) refl) ∙ map-append (attr_of definitions) (attributes_in members) (record { attributes = attributes; attribute = a } ∷ []));
    consts = g.consts ∙ constants_same definitions members m refl;
    order = slots_are;
    text = text_is;
    pairs = g.pairs ∙ pairs_same definitions members m refl;
    numbers = subst (λ os. AreNumbers os number) (operations_same definitions members m refl) g.numbers;
  }
    where
      m : PlainMember
      m = with_kind (AttributeMember a)

      text_is : text ≡ stringifier_from 0 (members ++ m ∷ [])
      text_is =
          said ∙ ap (λ s. first_stringifier s (cond b (stringify.Attr place) stringify.No)) g.text
          ∙ ap (λ n. first_stringifier (stringifier_from 0 members) (cond b (stringify.Attr n) stringify.No)) (at ∙ attribute_count)
          ∙ ap (λ c. first_stringifier (stringifier_from 0 members) (cond c (stringify.Attr (length (attributes_in members))) stringify.No)) (sym kind)
          ∙ sym (stringifier_push members m)

      stringifier_slots_are : (c : Bool) → cond c (stringifier_slots old.text) [] ≡ slots_of_stringifier members c
      stringifier_slots_are true = ap stringifier_slots g.text ∙ stringifier_slot members
      stringifier_slots_are false = refl

      slots_are : order ≡ slots_after [] (members ++ m ∷ [])
      slots_are =
          rest ∙ ap (λ l. l ++ cond b (stringifier_slots old.text) []) (f ∙ ap (λ n. old.order ++ slot.Attr n ∷ []) (at ∙ attribute_count))
          ∙ ap (λ c. (old.order ++ slot.Attr (length (attributes_in members)) ∷ []) ++ cond c (stringifier_slots old.text) []) (sym kind)
          ∙ ap (λ l. (old.order ++ slot.Attr (length (attributes_in members)) ∷ []) ++ l) (stringifier_slots_are (is_stringifier_attribute a.kind))
          ∙ (append_assoc old.order (slot.Attr (length (attributes_in members)) ∷ []) (slots_of_stringifier members (is_stringifier_attribute a.kind)))
          ∙ ap (λ l. l ++ slot.Attr (length (attributes_in members)) ∷ slots_of_stringifier members (is_stringifier_attribute a.kind)) g.order
          ∙ sym (slots_push members m)

  -- an attribute that is no stringifier
  pub plain_attribute : (a : PlainAttributeMember) (attr : Attr) (attrs : List Attr) (order : List Slot) (place : ℕ) → attrs ≡ old.attrs ++ attr ∷ []
      → attr_term attr ≡ attr_of definitions (record { attributes = attributes; attribute = a }) → place ≡ length old.attrs → order ≡ old.order ++ slot.Attr place ∷ [] → is_stringifier_attribute a.kind ≡ false
      → Gathered definitions (members ++ with_kind (AttributeMember a) ∷ []) (record { ctors = old.ctors; ops = old.ops; attrs = attrs; consts = old.consts; text = old.text; pairs = old.pairs; order = order }) number
  plain_attribute a attr attrs order place e is at f kind =
      attribute_more a attr attrs order order old.text place e is at f false kind (sym (first_stays definitions members (with_kind (AttributeMember a)) old.text)) (sym (append-nil order))

  -- and one that is
  pub text_attribute : (a : PlainAttributeMember) (attr : Attr) (attrs : List Attr) (slots : List Slot) (place : ℕ) (new : MergedMembers) → attrs ≡ old.attrs ++ attr ∷ []
      → attr_term attr ≡ attr_of definitions (record { attributes = attributes; attribute = a }) → place ≡ length old.attrs → slots ≡ old.order ++ slot.Attr place ∷ [] → is_stringifier_attribute a.kind ≡ true
      → GetsStringifier (record { ctors = old.ctors; ops = old.ops; attrs = attrs; consts = old.consts; text = old.text; pairs = old.pairs; order = slots }) new (stringify.Attr place)
      → Gathered definitions (members ++ with_kind (AttributeMember a) ∷ []) new number
  text_attribute a attr attrs slots place new e is at f kind gets = subst (λ n. Gathered definitions (members ++ with_kind (AttributeMember a) ∷ []) n number) (sym gets)
      (attribute_more a attr attrs (slots ++ stringifier_slots old.text) slots (first_stringifier old.text (stringify.Attr place)) place e is at f true kind refl refl)

  -- a stringifier without an attribute
  pub stringifier_more : (place : Place) (new : MergedMembers) → GetsStringifier old new stringify.Plain → Gathered definitions (members ++ with_kind (StringifierMember place) ∷ []) new number
  stringifier_more place new gets = let m = with_kind (StringifierMember place) in subst (λ n. Gathered definitions (members ++ m ∷ []) n number) (sym gets) (record {
    ctors = g.ctors ∙ constructors_same definitions members m refl;
    ops = g.ops ∙ ap (op_names_of definitions) (operations_same definitions members m refl);
    attrs = g.attrs ∙ attributes_same definitions members m refl;
    consts = g.consts ∙ constants_same definitions members m refl;
    order = ap (λ l. old.order ++ l) (ap stringifier_slots g.text ∙ stringifier_slot members) ∙ ap (λ l. l ++ slots_of_stringifier members true) g.order ∙ sym (slots_push members m);
    text = ap (λ s. first_stringifier s stringify.Plain) g.text ∙ sym (stringifier_push members m);
    pairs = g.pairs ∙ pairs_same definitions members m refl;
    numbers = subst (λ os. AreNumbers os number) (operations_same definitions members m refl) g.numbers;
  })

  pair_second : (first : PlainAnnotated) (second : Option PlainAnnotated) → is_pair second ≡ is_some (pair_of definitions first second)
  pair_second first None = refl
  pair_second first (Some second) = refl

  mapped_there : (o : Option Pair) → is_some (option_map pair_term o) ≡ is_some o
  mapped_there None = refl
  mapped_there (Some p) = refl

  has_then : has is_pair_iterable members ≡ is_some old.pairs
  has_then = has_pairs definitions members ∙ ap is_some (sym g.pairs) ∙ mapped_there old.pairs

  some_first : {X : Type 0} (o p : Option X) → is_some o ≡ true → option_or o p ≡ o
  some_first None p e = absurd (cc)
  some_first (Some x) p e = refl

  none_either : {X : Type 0} (b : Bool) → cond {A = List X} b [] [] ≡ []
  none_either true = refl
  none_either false = refl

  -- an iterable after a pair iterable
  pub second_iterable : (i : PlainIterable) → is_some old.pairs ≡ true → Gathered definitions (members ++ with_kind (IterableMember i) ∷ []) old number
  second_iterable i there = let m = with_kind (IterableMember i) in
      nothing_more definitions members m old number refl refl refl refl
      (sym (pairs_push definitions members m ∙ some_first (pairs_of definitions members) (pair_in definitions (IterableMember i)) (sym (has_pairs definitions members) ∙ has_then ∙ there))) refl
      (ap (λ h. cond (is_pair i.second) (cond h [] (slot.Pairs ∷ [])) []) (has_then ∙ there) ∙ none_either (is_pair i.second)) g

  -- an iterable of values alone
  pub single_iterable : (i : PlainIterable) → None ≡ pair_of definitions i.first i.second → Gathered definitions (members ++ with_kind (IterableMember i) ∷ []) old number
  single_iterable i none = let m = with_kind (IterableMember i) in
      nothing_more definitions members m old number refl refl refl refl (pairs_same definitions members m (sym none)) refl
      (ap (λ b. cond b (cond (has is_pair_iterable members) [] (slot.Pairs ∷ [])) []) (pair_second i.first i.second ∙ ap is_some (sym none))) g

  -- the first pair iterable
  pub first_iterable : (i : PlainIterable) (pair : Pair) (order : List Slot) → old.pairs ≡ None → Some (pair_term pair) ≡ pair_of definitions i.first i.second → order ≡ old.order ++ slot.Pairs ∷ []
      → Gathered definitions (members ++ with_kind (IterableMember i) ∷ []) (record { ctors = old.ctors; ops = old.ops; attrs = old.attrs; consts = old.consts; text = old.text; pairs = Some pair; order = order }) number
  first_iterable i pair order none is e = let m = with_kind (IterableMember i) in record {
    ctors = g.ctors ∙ constructors_same definitions members m refl;
    ops = g.ops ∙ ap (op_names_of definitions) (operations_same definitions members m refl);
    attrs = g.attrs ∙ attributes_same definitions members m refl;
    consts = g.consts ∙ constants_same definitions members m refl;
    order = slots_more old.order order slot.Pairs _ slot.Pairs e refl g.order ∙ sym (slots_push members m ∙ ap (λ b. slots_after [] members ++ cond b (cond (has is_pair_iterable members) [] (slot.Pairs ∷ [])) []) (pair_second i.first i.second ∙ ap is_some (sym is))
        ∙ ap (λ b. slots_after [] members ++ cond b [] (slot.Pairs ∷ [])) (has_then ∙ ap is_some none));
    text = g.text ∙ text_same definitions members m refl;
    pairs = is ∙ ap (λ o. option_or o (pair_of definitions i.first i.second)) (sym (sym g.pairs ∙ ap (option_map pair_term) none)) ∙ sym (pairs_push definitions members m);
    numbers = subst (λ os. AreNumbers os number) (operations_same definitions members m refl) g.numbers;
  }

  operations_more : (o : PlainOperation) → operations_in members ++ o ∷ [] ≡ operations_in (members ++ with_kind (OperationMember o) ∷ [])
  operations_more o = sym (one_more (λ (x : PlainMember). operation_in x.kind) members (with_kind (OperationMember o)) o refl)

  -- an operation of a name that is known
  pub overload_more : (o : PlainOperation) (sig : Sig) (ops : List OpName) (k : ℕ) → number (operation_text o.name) (is_static o.kind) ≡ Some k → HasOverload old.ops ops k sig → sig_term sig ≡ sig_of_operation definitions o
      → Gathered definitions (members ++ with_kind (OperationMember o) ∷ []) (record { ctors = old.ctors; ops = ops; attrs = old.attrs; consts = old.consts; text = old.text; pairs = old.pairs; order = old.order }) number
  overload_more o sig ops k known more is = let m = with_kind (OperationMember o) in record {
    ctors = g.ctors ∙ constructors_same definitions members m refl;
    ops = known_means definitions (operations_in members) o number g.numbers old.ops ops sig g.ops is k known more ∙ ap (op_names_of definitions) (operations_more o);
    attrs = g.attrs ∙ attributes_same definitions members m refl;
    consts = g.consts ∙ constants_same definitions members m refl;
    order = g.order ∙ order_same definitions members m (ap (λ b. cond b [] (slot.Op (length (firsts_after [] (operations_in members))) ∷ [])) (seen (operations_in members) o number g.numbers (Some k) known));
    text = g.text ∙ text_same definitions members m refl;
    pairs = g.pairs ∙ pairs_same definitions members m refl;
    numbers = subst (λ os. AreNumbers os number) (operations_more o) (numbers_known (operations_in members) o number g.numbers k known);
  }

  bytes_turned : (xs ys : List ℕ) → bytes_eq xs ys ≡ bytes_eq ys xs
  bytes_turned xs ys = by (bytes_eq xs ys) refl (bytes_eq ys xs) refl
    where
      by : (b : Bool) → bytes_eq xs ys ≡ b → (c : Bool) → bytes_eq ys xs ≡ c → b ≡ c
      by true e true f = refl
      by true e false f = let t : bytes_eq ys xs ≡ true = (bytes_decides ys xs).1 (sym ((bytes_decides xs ys).0 e)) in absurd (cc)
      by false e true f = let t : bytes_eq xs ys ≡ true = (bytes_decides xs ys).1 (sym ((bytes_decides ys xs).0 f)) in absurd (cc)
      by false e false f = refl

  -- the first operation of a name
  pub name_more : (o : PlainOperation) (sig : Sig) (ops : List OpName) (order : List Slot) (text : List ℕ) (fixed : Bool) (place : ℕ) (now : List ℕ → Bool → Option ℕ) → text ≡ operation_text o.name → fixed ≡ is_static o.kind → number text fixed ≡ None
      → HasName old.ops ops (units_of text) fixed sig → place ≡ length old.ops → sig_term sig ≡ sig_of_operation definitions o
      → ((other : List ℕ) (static : Bool) → now other static ≡ cond (bytes_eq text other && both_or_none static fixed) (Some place) (number other static)) → order ≡ old.order ++ slot.Op place ∷ []
      → Gathered definitions (members ++ with_kind (OperationMember o) ∷ []) (record { ctors = old.ctors; ops = ops; attrs = old.attrs; consts = old.consts; text = old.text; pairs = old.pairs; order = order }) now
  name_more o sig ops order text fixed place now is_text is_fixed none more at is keeps e = let m = with_kind (OperationMember o) in record {
    ctors = g.ctors ∙ constructors_same definitions members m refl;
    ops = new_means definitions (operations_in members) o number g.numbers old.ops ops sig g.ops is unknown text fixed is_text is_fixed more ∙ ap (op_names_of definitions) (operations_more o);
    attrs = g.attrs ∙ attributes_same definitions members m refl;
    consts = g.consts ∙ constants_same definitions members m refl;
    order = slots_more old.order order (slot.Op place) _ (slot.Op (length (firsts_after [] (operations_in members)))) e (ap slot.Op counted) g.order ∙ sym (slots_push members m ∙ ap (λ b. slots_after [] members ++ cond b [] (slot.Op (length (firsts_after [] (operations_in members))) ∷ [])) (seen (operations_in members) o number g.numbers None unknown));
    text = g.text ∙ text_same definitions members m refl;
    pairs = g.pairs ∙ pairs_same definitions members m refl;
    numbers = subst (λ os. AreNumbers os now) (operations_more o) (numbers_new (operations_in members) o number g.numbers unknown now kept);
  }
    where
      unknown : number (operation_text o.name) (is_static o.kind) ≡ None
      unknown = ap (λ t. number t (is_static o.kind)) (sym is_text) ∙ ap (number text) (sym is_fixed) ∙ none

      counted : place ≡ length (firsts_after [] (operations_in members))
      counted = at ∙ operation_count

      kept : (other : List ℕ) (static : Bool) → now other static ≡ cond (is_named other static o) (Some (length (firsts_after [] (operations_in members)))) (number other static)
      kept other static =
          keeps other static ∙ ap (λ t. cond (bytes_eq t other && both_or_none static fixed) (Some place) (number other static)) is_text
          ∙ ap (λ f. cond (bytes_eq (operation_text o.name) other && both_or_none static f) (Some place) (number other static)) is_fixed
          ∙ ap (λ b. cond (b && both_or_none static (is_static o.kind)) (Some place) (number other static)) (bytes_turned (operation_text o.name) other)
          ∙ ap (λ n. cond (is_named other static o) (Some n) (number other static)) counted

-- no members
pub gathered_none : (definitions : List PlainDefinition) (number : List ℕ → Bool → Option ℕ) → ((text : List ℕ) (static : Bool) → number text static ≡ None) → Gathered definitions [] (record { ctors = []; ops = []; attrs = []; consts = []; text = stringify.No; pairs = None; order = [] }) number
gathered_none definitions number none = record {
  ctors = refl;
  ops = refl;
  attrs = refl;
  consts = refl;
  order = refl;
  text = refl;
  pairs = refl;
  numbers = record {
    known = λ text static. ap is_some (none text static);
    there = λ text static k e. let f = none text static in absurd (cc);
    each = λ k o e. absurd (cc);
  };
}

-- a member more, as a loop over the members has it
pub gathered_step : (definitions : List PlainDefinition) (members : List (Bor Member)) (i : ℕ) (m : Bor Member) (new : MergedMembers) (number : List ℕ → Bool → Option ℕ) → i < length members → m ≡ get_or members i m
    → Gathered definitions (listed_members (take i members) ++ member_of m.now ∷ []) new number → Gathered definitions (listed_members (take (i + 1) members)) new number
gathered_step definitions members i m new number below is = subst (λ l. Gathered definitions l new number) (sym (mapped_more (λ (x : Bor Member). member_of x.now) members i m below is))

-- all members
pub gathered_all : (definitions : List PlainDefinition) (members : List PlainMember) (m : MergedMembers) (number : List ℕ → Bool → Option ℕ) → Gathered definitions members m number → ArePutTogether definitions members m
gathered_all definitions members m number g = record {
  terms = sym (ap (λ l. record { ops = l; attrs = map attr_term m.attrs; consts = map constant_term m.consts; order = m.order }) g.ops
      ∙ ap (λ l. record { ops = op_names_of definitions (operations_in members); attrs = l; consts = map constant_term m.consts; order = m.order }) g.attrs
      ∙ ap (λ l. record { ops = op_names_of definitions (operations_in members); attrs = map (attr_of definitions) (attributes_in members); consts = l; order = m.order }) g.consts
      ∙ ap (λ l. record { ops = op_names_of definitions (operations_in members); attrs = map (attr_of definitions) (attributes_in members); consts = map (constant_of definitions) (constants_in members); order = l }) g.order);
  ctors = g.ctors;
  text = g.text;
  pairs = g.pairs;
}

-- a member of this kind
pub of_kind : (definitions : List PlainDefinition) (members : List PlainMember) (m : Member) (kind : MemberKind) (new : MergedMembers) (number : List ℕ → Bool → Option ℕ) → m.kind ≡ kind
    → Gathered definitions (members ++ record { attributes = map attribute_of m.attributes; kind = member_kind_of kind } ∷ []) new number → Gathered definitions (members ++ member_of m ∷ []) new number
of_kind definitions members m kind new number is = subst (λ k. Gathered definitions (members ++ record { attributes = map attribute_of m.attributes; kind = member_kind_of k } ∷ []) new number) (sym is)

-- a member that is neither of the list nor changes it
pub no_more : (definitions : List PlainDefinition) (members : List PlainMember) (attributes : List PlainAttribute) (kind : PlainMemberKind) (old : MergedMembers) (number : List ℕ → Bool → Option ℕ) → is_unsupported kind ≡ true
    → Gathered definitions members old number → Gathered definitions (members ++ record { attributes = attributes; kind = kind } ∷ []) old number
no_more definitions members attributes (AsyncIterableMember i) old number e = let m : PlainMember = record { attributes = attributes; kind = AsyncIterableMember i } in nothing_more definitions members m old number refl refl refl refl (pairs_same definitions members m refl) refl refl
no_more definitions members attributes (MaplikeMember k) old number e = let m : PlainMember = record { attributes = attributes; kind = MaplikeMember k } in nothing_more definitions members m old number refl refl refl refl (pairs_same definitions members m refl) refl refl
no_more definitions members attributes (SetlikeMember k) old number e = let m : PlainMember = record { attributes = attributes; kind = SetlikeMember k } in nothing_more definitions members m old number refl refl refl refl (pairs_same definitions members m refl) refl refl
no_more definitions members attributes (ConstantMember k) old number e = absurd (cc)
no_more definitions members attributes (AttributeMember a) old number e = absurd (cc)
no_more definitions members attributes (OperationMember o) old number e = absurd (cc)
no_more definitions members attributes (ConstructorMember k) old number e = absurd (cc)
no_more definitions members attributes (StringifierMember s) old number e = absurd (cc)
no_more definitions members attributes (IterableMember i) old number e = absurd (cc)

pub none_of : {X : Type 0} (o : Option X) → is_some o ≡ false → o ≡ None
none_of None e = refl
none_of (Some x) e = absurd (cc)

pub unsupported_more : (definitions : List PlainDefinition) (members : List PlainMember) (m : Member) (old : MergedMembers) (number : List ℕ → Bool → Option ℕ)
    → ((x : Box AsyncIterable) × (m.kind ≡ member_kind.AsyncIterable x)) ⊎ (((x : Box Maplike) × (m.kind ≡ member_kind.Maplike x)) ⊎ ((x : Box Setlike) × (m.kind ≡ member_kind.Setlike x)))
    → Gathered definitions members old number → Gathered definitions (members ++ member_of m ∷ []) old number
unsupported_more definitions members m old number (inl p) g = of_kind definitions members m (member_kind.AsyncIterable p.0) old number p.1 (no_more definitions members (map attribute_of m.attributes) (member_kind_of (member_kind.AsyncIterable p.0)) old number refl g)
unsupported_more definitions members m old number (inr (inl p)) g = of_kind definitions members m (member_kind.Maplike p.0) old number p.1 (no_more definitions members (map attribute_of m.attributes) (member_kind_of (member_kind.Maplike p.0)) old number refl g)
unsupported_more definitions members m old number (inr (inr p)) g = of_kind definitions members m (member_kind.Setlike p.0) old number p.1 (no_more definitions members (map attribute_of m.attributes) (member_kind_of (member_kind.Setlike p.0)) old number refl g)

-- the numbers of members that are no more than 32 bits can count, and those that are kept for names
pub gathered_room : (definitions : List PlainDefinition) (members : List PlainMember) (m : MergedMembers) (number : List ℕ → Bool → Option ℕ) → Gathered definitions members m number → length members < 2 ^ 32 → HasRoom m number
gathered_room definitions members m number g few = record {
  ops = (let less = names_few in omega (arith, names, less, few));
  attrs =
      let same = sym (length-map m.attrs attr_term) ∙ ap length g.attrs ∙ length-map (attributes_in members) (attr_of definitions) in
      let found = found_few (λ (x : PlainMember). attribute_in x.attributes x.kind) members in
      omega (arith, same, found, few);
  consts =
      let same = sym (length-map m.consts constant_term) ∙ ap length g.consts ∙ length-map (constants_in members) (constant_of definitions) in
      let found = found_few (λ (x : PlainMember). constant_in x.kind) members in
      omega (arith, same, found, few);
  named = λ text static k e.
      let first = g.numbers.there text static k e in
      let within = slice_get_within (firsts_after [] (operations_in members)) k first.first first.at in
      omega (arith, names, within);
}
  where
    names : length m.ops ≡ length (firsts_after [] (operations_in members))
    names = sym (length-map m.ops op_name_term) ∙ ap length g.ops ∙ length-map (firsts_after [] (operations_in members)) (op_name_of definitions (operations_in members))

    names_few : length (firsts_after [] (operations_in members)) ≤ length members
    names_few =
        let firsts = few_firsts [] (operations_in members) in
        let found = found_few (λ (x : PlainMember). operation_in x.kind) members in
        omega (arith, firsts, found)
