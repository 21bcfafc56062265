-- The merged list of definitions that break no rule of merging: 32 bits can number what is in it, where they can count what is written.
use Rattle.std.proofs.Common.{◌≡◌, ℕ, ◌+◌, ◌<◌, ◌≤◌, ◌^◌, ◌++◌, Bool, true, false, cond, List, [], ◌∷◌, length, map, filter_map, flat_map, get_or, slice_get, Option, None, Some, arith, refl, sym, ap, subst, ◌∙◌}
use Rattle.std.specs.List.{All}
use Rattle.std.proofs.lemmas.List.{length-append, length-map}
use Rattle.std.proofs.lemmas.List.Concat.{length-flat_map}
use Rattle.std.proofs.lemmas.List.Sums.{get_or-le-sum_by, sum_by-le-sum_by}
use Rattle.std.proofs.lemmas.Option.{get_or_from_slice_get, slice_get-get_or, slice_get_within}
use Rattle.std.proofs.lemmas.Slice.Eq.{bytes_eq-Decides}
use Rattle.widl_idl.specs.declared.defs.Defs.{Defs}
use Rattle.widl_idl.specs.declared.enumeration.Choice.{Choice}
use Rattle.widl_idl.specs.declared.kind.Kind.TheVariants as kinds
use Rattle.widl_idl.specs.declared.violation.Violation.{Violation}
use Rattle.widl_idl.specs.Counts.{IsNumbered, IsNumberedList, NumberedCallback, NumberedDictionary, NumberedEnumeration, NumberedInterface, NumberedNamespace}
use Rattle.widl_idl.specs.DefinitionTerms.{CallbackTerm, DefsTerm, DictTerm, IfaceTerm, SpaceTerm, callback_term, defs_term, dict_term, iface_term, space_term}
use Rattle.widl_idl.specs.First.{AtOne}
use Rattle.widl_idl.specs.Meanings.{declared_name, is_text_of, kind_of, main_name, meaning}
use Rattle.widl_idl.specs.MergedList.{callback_by, callback_if, callback_interface_if, dictionary_if, dictionary_of, enumeration_if, interface_if, interface_of, merged_from, namespace_if, namespace_of}
use Rattle.widl_idl.specs.MergedMembers.{first_in, operations_in}
use Rattle.widl_idl.specs.MergingRules.{PassesLimit, portions_from}
use Rattle.widl_idl.specs.Nodes.{nodes_inside, nodes_of, nodes_of_arguments, nodes_of_attributes, nodes_of_definition, nodes_of_dictionary_member, nodes_of_optional_name, nodes_of_type}
use Rattle.widl_idl.specs.Parts.{dictionary_members_in, is_dictionary, merged_dictionary_members, merged_members}
use Rattle.widl_idl.specs.PlainTypes.{PlainName}
use Rattle.widl_idl.specs.PlainTrees.{PlainContainerOfMembers, PlainDefinition, PlainDictionary, PlainDictionaryMember, PlainInterface, PlainKind, PlainOperation, CallbackFunctionDefinition, CallbackInterfaceDefinition, DictionaryDefinition, EnumerationDefinition, InterfaceDefinition, NamespaceDefinition}
use Rattle.widl_idl.specs.WrittenLiterals.{units_of}
use Rattle.widl_idl.specs.WrittenTypes.{typedefs}
use Rattle.widl_names.proofs.Pushed.{some_is}
use Rattle.widl_merge.specs.Countable.{IsCountable, values_in}
use Rattle.widl_merge.proofs.Growing.{same_list}
use Rattle.widl_merge.proofs.NumberedMeanings.{FewTypedefs, Fits, fits_left, fits_right}
use Rattle.widl_merge.proofs.WrittenParts.{DefinitionFits, KindFits, all_at, all_found, callback_members_fit, definitions_fit, dictionary_fits, found_few, interface_members_fit, namespace_members_fit, typedefs_few}
use Rattle.widl_merge.proofs.MemberTotals.{dictionary_few, interface_few, namespace_few}
use Rattle.widl_merge.proofs.NumberedMembers.{NumberedDictTerm, NumberedIfaceTerm, NumberedMembersTerm, NumberedSigTerm, arguments_numbered, callback_numbered, constructors_numbered, dictionary_members_numbered, dictionary_numbered, first_operation_sig, interface_numbered, members_numbered, namespace_numbered, numbered_by, operations_fit, pairs_numbered, returns_numbered}

-- a name is its own
pub own_text : (name : PlainName) → is_text_of name.text (Some name) ≡ true
own_text name = grind (arith, bytes_eq-Decides name.text name.text)

-- each member of a dictionary is a node
one_each : (members : List PlainDictionaryMember) → length members ≤ length (flat_map nodes_of_dictionary_member members)
one_each [] = omega arith
one_each (m ∷ more) =
    let rest = one_each more in
    let both = length-append (nodes_of_dictionary_member m) (flat_map nodes_of_dictionary_member more) in
    omega (arith, rest, both)

dictionary_nodes : (kind : PlainKind) → length (dictionary_members_in kind) ≤ length (nodes_inside kind)
dictionary_nodes (DictionaryDefinition d) = one_each d.members
dictionary_nodes kind = omega arith

definition_nodes : (d : PlainDefinition) → length (dictionary_members_in d.kind) ≤ length (nodes_of_definition d)
definition_nodes d =
    let inside = dictionary_nodes d.kind in
    let outer = length-append (nodes_of_attributes d.attributes) (nodes_of_optional_name (declared_name d.kind) ++ nodes_inside d.kind) in
    let inner = length-append (nodes_of_optional_name (declared_name d.kind)) (nodes_inside d.kind) in
    omega (arith, inside, outer, inner)

module _ (definitions : List PlainDefinition) (few : length definitions < 2 ^ 32) (countable : IsCountable definitions)
    (means : (n : ℕ) (d : PlainDefinition) (name : PlainName) → slice_get definitions n ≡ Some d → main_name d.kind ≡ Some name → meaning definitions name.text ≡ Some n)
    (limit : (s : Violation) → AtOne PassesLimit (portions_from definitions 0 definitions) s → ⊥) where
  fits : Fits (nodes_of definitions)
  fits = omega (arith, countable)

  all_fit : All DefinitionFits definitions
  all_fit = definitions_fit definitions fits

  few_typedefs : FewTypedefs (typedefs definitions)
  few_typedefs = typedefs_few definitions all_fit

  -- one of the definitions
  abbrev Listed : PlainDefinition → Type 0
  Listed d = (n : ℕ) × (slice_get definitions n ≡ Some d)

  all_listed : All Listed definitions
  all_listed = λ k d below. (k, slice_get-get_or definitions k d below)

  kind_fits : (d : PlainDefinition) → Listed d → KindFits d.kind
  kind_fits d at = all_at DefinitionFits definitions at.0 d all_fit at.1

  numbered_mains : {X Y : Type 0} (choose : PlainKind → Option Y) (term : X → Y) (P : X → Type 0) (Q : Y → Type 0) → ((x : X) → Q (term x) → P x) → ((d : PlainDefinition) (y : Y) → Listed d → choose d.kind ≡ Some y → Q y)
      → (xs : List X) → map term xs ≡ filter_map (λ (d : PlainDefinition). choose d.kind) definitions → IsNumbered P xs
  numbered_mains choose term P Q so found xs same = numbered_by term P Q so xs (subst (IsNumbered Q) (sym same) (record {
    few = (let less = found_few (λ (d : PlainDefinition). choose d.kind) definitions in omega (arith, less, few));
    each = all_found (λ (d : PlainDefinition). choose d.kind) Listed Q found definitions all_listed;
  }))

  module _ (d : PlainDefinition) (at : Listed d) where
    means_it : (name : PlainName) → main_name d.kind ≡ Some name → meaning definitions name.text ≡ Some at.0
    means_it name named = means at.0 d name at.1 named

    has_name : (name : PlainName) → main_name d.kind ≡ Some name → is_text_of name.text (main_name d.kind) ≡ true
    has_name name named = ap (is_text_of name.text) named ∙ own_text name

    interface_is : (i : PlainInterface) → d.kind ≡ InterfaceDefinition i → i.partial ≡ false → NumberedIfaceTerm (interface_of definitions i)
    interface_is i is main =
        let named : main_name d.kind ≡ Some i.name = ap main_name is ∙ ap (λ p. cond p None (Some i.name)) main in
        let small = interface_few definitions i.name.text at.0 (means_it i.name named) d at.1 (has_name i.name named) limit (ap kind_of is) in
        let fit = interface_members_fit definitions all_fit i.name.text in
        record {
          ctors = constructors_numbered definitions few_typedefs (merged_members definitions kinds.Interface i.name.text) small fit;
          members = members_numbered definitions few_typedefs (merged_members definitions kinds.Interface i.name.text) small fit;
          pairs = pairs_numbered definitions few_typedefs (merged_members definitions kinds.Interface i.name.text) small fit;
        }

    interface_found : (kind : PlainKind) (t : IfaceTerm) → d.kind ≡ kind → interface_if definitions kind ≡ Some t → NumberedIfaceTerm t
    interface_found (InterfaceDefinition i) t is e = by i.partial refl e
      where
        by : (p : Bool) → i.partial ≡ p → cond p None (Some (interface_of definitions i)) ≡ Some t → NumberedIfaceTerm t
        by true partial e = absurd (cc)
        by false main e = subst NumberedIfaceTerm (some_is e) (interface_is i is main)
    interface_found kind t is e = absurd (cc)

    abbrev NumberedSpaceTerm : SpaceTerm → Type 0
    NumberedSpaceTerm s = NumberedMembersTerm s.members

    namespace_is : (n : PlainContainerOfMembers) → d.kind ≡ NamespaceDefinition n → n.partial ≡ false → NumberedSpaceTerm (namespace_of definitions n)
    namespace_is n is main =
        let named : main_name d.kind ≡ Some n.name = ap main_name is ∙ ap (λ p. cond p None (Some n.name)) main in
        let small = namespace_few definitions n.name.text at.0 (means_it n.name named) d at.1 (has_name n.name named) limit (ap kind_of is) in
        members_numbered definitions few_typedefs (merged_members definitions kinds.Namespace n.name.text) small (namespace_members_fit definitions all_fit n.name.text)

    namespace_found : (kind : PlainKind) (t : SpaceTerm) → d.kind ≡ kind → namespace_if definitions kind ≡ Some t → NumberedSpaceTerm t
    namespace_found (NamespaceDefinition n) t is e = by n.partial refl e
      where
        by : (p : Bool) → n.partial ≡ p → cond p None (Some (namespace_of definitions n)) ≡ Some t → NumberedSpaceTerm t
        by true partial e = absurd (cc)
        by false main e = subst NumberedSpaceTerm (some_is e) (namespace_is n is main)
    namespace_found kind t is e = absurd (cc)

    dictionary_is : (x : PlainDictionary) → d.kind ≡ DictionaryDefinition x → x.partial ≡ false → NumberedDictTerm (dictionary_of definitions x)
    dictionary_is x is main =
        let named : main_name d.kind ≡ Some x.name = ap main_name is ∙ ap (λ p. cond p None (Some x.name)) main in
        let less = dictionary_few definitions x.name.text at.0 (means_it x.name named) d at.1 (has_name x.name named) is_dictionary (ap is_dictionary is) in
        let total = sum_by-le-sum_by (λ (y : PlainDefinition). length (dictionary_members_in y.kind)) (λ (y : PlainDefinition). length (nodes_of_definition y)) definitions definition_nodes in
        let size = length-flat_map nodes_of_definition definitions in
        let whole = fits in
        dictionary_members_numbered definitions few_typedefs (merged_dictionary_members definitions x.name.text) (omega (arith, less, total, size, whole)) (dictionary_fits definitions all_fit is_dictionary x.name.text)

    dictionary_found : (kind : PlainKind) (t : DictTerm) → d.kind ≡ kind → dictionary_if definitions kind ≡ Some t → NumberedDictTerm t
    dictionary_found (DictionaryDefinition x) t is e = by x.partial refl e
      where
        by : (p : Bool) → x.partial ≡ p → cond p None (Some (dictionary_of definitions x)) ≡ Some t → NumberedDictTerm t
        by true partial e = absurd (cc)
        by false main e = subst NumberedDictTerm (some_is e) (dictionary_is x is main)
    dictionary_found kind t is e = absurd (cc)

    enumeration_found : (kind : PlainKind) (t : Choice) → d.kind ≡ kind → enumeration_if definitions kind ≡ Some t → NumberedEnumeration t
    enumeration_found (EnumerationDefinition x) t is e = subst NumberedEnumeration (some_is e) (record {
      few =
          let listed = get_or-le-sum_by (λ (y : PlainDefinition). length (values_in y.kind)) definitions at.0 d (slice_get_within definitions at.0 d at.1) in
          let there : length (values_in (get_or definitions at.0 d).kind) ≡ length x.values = ap (λ (y : PlainDefinition). length (values_in y.kind)) (get_or_from_slice_get definitions at.0 d d at.1) ∙ ap (λ k. length (values_in k)) is in
          let same = length-map x.values (λ v. units_of v.text) in
          omega (arith, listed, there, same, countable);
      each = λ k y below. tt;
    })
    enumeration_found kind t is e = absurd (cc)

    abbrev NumberedCallbackTerm : CallbackTerm → Type 0
    NumberedCallbackTerm c = NumberedSigTerm c.sig

    callback_found : (kind : PlainKind) (t : CallbackTerm) → d.kind ≡ kind → callback_if definitions kind ≡ Some t → NumberedCallbackTerm t
    callback_found (CallbackFunctionDefinition c) t is e =
        let f : Fits (nodes_of_type c.returned ++ nodes_of_arguments c.arguments) = subst KindFits is (kind_fits d at) in
        subst NumberedCallbackTerm (some_is e) (record {
          args = arguments_numbered definitions few_typedefs c.arguments (fits_right (nodes_of_type c.returned) (nodes_of_arguments c.arguments) f);
          returned = returns_numbered definitions few_typedefs c.returned (fits_left (nodes_of_type c.returned) (nodes_of_arguments c.arguments) f);
        })
    callback_found kind t is e = absurd (cc)

    called_by : (name : PlainName) (operations : List PlainOperation) (o : Option PlainOperation) → first_in operations ≡ o → ((p : PlainOperation) → first_in operations ≡ Some p → NumberedSigTerm (callback_by definitions name (Some p)).sig) → NumberedCallbackTerm (callback_by definitions name o)
    called_by name operations None is so = record { args = record { few = omega arith; each = λ k y below. absurd (omega (arith, below)) }; returned = tt }
    called_by name operations (Some p) is so = so p is

    callback_interface_found : (kind : PlainKind) (t : CallbackTerm) → d.kind ≡ kind → callback_interface_if definitions kind ≡ Some t → NumberedCallbackTerm t
    callback_interface_found (CallbackInterfaceDefinition c) t is e =
        let f : KindFits (CallbackInterfaceDefinition c) = subst KindFits is (kind_fits d at) in
        let all = operations_fit definitions few_typedefs c.members (callback_members_fit c.members f) in
        subst NumberedCallbackTerm (some_is e) (called_by c.name (operations_in c.members) (first_in (operations_in c.members)) refl (λ p first. first_operation_sig definitions few_typedefs (operations_in c.members) p all first))
    callback_interface_found kind t is e = absurd (cc)

  -- the merged list
  pub numbered_list : (defs : Defs) → defs_term defs ≡ merged_from definitions → IsNumberedList defs
  numbered_list defs same = record {
    ifaces = numbered_mains (interface_if definitions) iface_term NumberedInterface NumberedIfaceTerm interface_numbered (λ d t at e. interface_found d at d.kind t refl e) defs.ifaces (ap (λ (t : DefsTerm). t.ifaces) same);
    spaces = numbered_mains (namespace_if definitions) space_term NumberedNamespace (λ (s : SpaceTerm). NumberedMembersTerm s.members) namespace_numbered (λ d t at e. namespace_found d at d.kind t refl e) defs.spaces (ap (λ (t : DefsTerm). t.spaces) same);
    dicts = numbered_mains (dictionary_if definitions) dict_term NumberedDictionary NumberedDictTerm dictionary_numbered (λ d t at e. dictionary_found d at d.kind t refl e) defs.dicts (ap (λ (t : DefsTerm). t.dicts) same);
    choices = numbered_mains (enumeration_if definitions) (λ (c : Choice). c) NumberedEnumeration NumberedEnumeration (λ c so. so) (λ d t at e. enumeration_found d at d.kind t refl e) defs.choices (same_list defs.choices ∙ ap (λ (t : DefsTerm). t.choices) same);
    callback_fns = numbered_mains (callback_if definitions) callback_term NumberedCallback (λ (c : CallbackTerm). NumberedSigTerm c.sig) callback_numbered (λ d t at e. callback_found d at d.kind t refl e) defs.callback_fns (ap (λ (t : DefsTerm). t.callback_fns) same);
    callback_ifaces = numbered_mains (callback_interface_if definitions) callback_term NumberedCallback (λ (c : CallbackTerm). NumberedSigTerm c.sig) callback_numbered (λ d t at e. callback_interface_found d at d.kind t refl e) defs.callback_ifaces (ap (λ (t : DefsTerm). t.callback_ifaces) same);
  }
