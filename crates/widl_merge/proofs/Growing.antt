-- Lists of definitions with one definition more.
use Rattle.std.proofs.Common.{◌≡◌, ℕ, ◌+◌, ◌<◌, ◌≤◌, ◌++◌, List, [], ◌∷◌, length, take, map, filter_map, get_or, Option, None, Some, arith, refl, sym, ap, subst, ◌∙◌, Bor, option_to_list}
use Rattle.std.specs.Prelude.{Result, Ok, Err, OnOk}
use Rattle.std.proofs.lemmas.List.{append-nil, map-append, take_all}
use Rattle.std.proofs.lemmas.List.Elements.{filter_map-append}
use Rattle.widl_idl.specs.declared.callback.Callback.{Callback}
use Rattle.widl_idl.specs.declared.defs.Defs.{Defs}
use Rattle.widl_idl.specs.declared.dictionary.Dict.{Dict}
use Rattle.widl_idl.specs.declared.interface.Iface.{Iface}
use Rattle.widl_idl.specs.declared.namespace.Space.{Space}
use Rattle.widl_idl.specs.declared.enumeration.Choice.{Choice}
use Rattle.widl_idl.specs.declared.tree.definitions.Definition.{Definition}
use Rattle.widl_idl.specs.DefinitionTerms.{DefsTerm, callback_term, defs_term, dict_term, iface_term, space_term}
use Rattle.widl_idl.specs.MergedList.{callback_if, callback_interface_if, dictionary_if, enumeration_if, interface_if, namespace_if}
use Rattle.widl_idl.specs.PlainTrees.{CallbackFunctionDefinition, CallbackInterfaceDefinition, DictionaryDefinition, EnumerationDefinition, InterfaceDefinition, NamespaceDefinition, PlainCallback, PlainCallbackInterface, PlainContainerOfMembers, PlainDefinition, PlainDictionary, PlainEnumeration, PlainInterface, PlainKind, definition_of}
use Rattle.widl_names.specs.Listings.{listed_definitions}
use Rattle.widl_names.proofs.PlainLists.{listed_more, mapped_more}
use Rattle.widl_merge.specs.GrownLists.{Adds, AreListed, Grows, merged_among}

module _ {X Y : Type 0} (term : X → Y) where
  -- a list that stays
  pub adds_nothing : (xs : List X) → Adds term None xs xs
  adds_nothing xs = sym (append-nil (map term xs))

  -- a list with one item more
  pub adds_item : (found : Y) (x : X) (old new : List X) → new ≡ old ++ x ∷ [] → term x ≡ found → Adds term (Some found) old new
  adds_item found x old new added is = ap (map term) added ∙ map-append term old (x ∷ []) ∙ ap (λ y. map term old ++ y ∷ []) is

  -- the same, as a call adds the item, where something is found
  pub pushed_adds : {U E : Type 0} (found : Y) (all : Option Y) (x : X) (old new : List X) (r : Result U E) → OnOk r (new ≡ old ++ x ∷ []) → term x ≡ found → all ≡ Some found → OnOk r (Adds term all old new)
  pushed_adds found all x old new (Ok u) added is same = subst (λ o. Adds term o old new) (sym same) (adds_item found x old new added is)
  pushed_adds found all x old new (Err e) added is same = added

  one_found : (found : Option Y) {Z : Type 0} (h : Z → Option Y) (z : Z) → h z ≡ found → option_to_list found ≡ filter_map h (z ∷ [])
  one_found None h z e = grind (arith, e)
  one_found (Some y) h z e = grind (arith, e)

  -- a list that has what is found of some has then what is found of one more
  pub found_more : {Z : Type 0} (h : Z → Option Y) (some : List Z) (z : Z) (old new : List X) → Adds term (h z) old new → map term old ≡ filter_map h some → map term new ≡ filter_map h (some ++ z ∷ [])
  found_more h some z old new adds so = adds ∙ ap (λ l. l ++ option_to_list (h z)) so ∙ ap (λ l. filter_map h some ++ l) (one_found (h z) h z refl) ∙ sym (filter_map-append h some (z ∷ []))

  -- the same where something is found of each
  pub made_more : {Z : Type 0} (f : Z → Y) (zs : List Z) (i : ℕ) (z : Z) (old new : List X) → i < length zs → z ≡ get_or zs i z → Adds term (Some (f z)) old new → map term old ≡ map f (take i zs) → map term new ≡ map f (take (i + 1) zs)
  made_more f zs i z old new below is adds so = adds ∙ ap (λ l. l ++ f z ∷ []) so ∙ sym (mapped_more f zs i z below is)

-- what each item is read by, and then what that is
pub map_twice : {X Y Z : Type 0} (f : Y → Z) (g : X → Y) (xs : List X) → map (λ x. f (g x)) xs ≡ map f (map g xs)
map_twice f g [] = refl
map_twice f g (x ∷ xs) = ap (λ l. f (g x) ∷ l) (map_twice f g xs)

pub same_list : (xs : List Choice) → map (λ (c : Choice). c) xs ≡ xs
same_list [] = refl
same_list (x ∷ xs) = ap (λ l. x ∷ l) (same_list xs)

same_defs : (a b : DefsTerm) → a.ifaces ≡ b.ifaces → a.spaces ≡ b.spaces → a.dicts ≡ b.dicts → a.choices ≡ b.choices → a.callback_fns ≡ b.callback_fns → a.callback_ifaces ≡ b.callback_ifaces → a ≡ b
same_defs a b i s d e c k = λ j. record { ifaces = i j; spaces = s j; dicts = d j; choices = e j; callback_fns = c j; callback_ifaces = k j }

-- the list of no definitions
pub none_listed : (all : List PlainDefinition) (defs : Defs) → defs.ifaces ≡ [] → defs.spaces ≡ [] → defs.dicts ≡ [] → defs.choices ≡ [] → defs.callback_fns ≡ [] → defs.callback_ifaces ≡ [] → AreListed all [] defs
none_listed all defs i s d e c k = same_defs (defs_term defs) (merged_among all []) (ap (map iface_term) i) (ap (map space_term) s) (ap (map dict_term) d) e (ap (map callback_term) c) (ap (map callback_term) k)

module _ (all : List PlainDefinition) where
  -- with one definition more
  pub grown : (some : List PlainDefinition) (d : PlainDefinition) (old new : Defs) → AreListed all some old → Grows all d.kind old new → AreListed all (some ++ d ∷ []) new
  grown some d old new so grows =
      same_defs (defs_term new) (merged_among all (some ++ d ∷ []))
      (found_more iface_term (λ (x : PlainDefinition). interface_if all x.kind) some d old.ifaces new.ifaces grows.ifaces (ap (λ t. t.ifaces) so))
      (found_more space_term (λ (x : PlainDefinition). namespace_if all x.kind) some d old.spaces new.spaces grows.spaces (ap (λ t. t.spaces) so))
      (found_more dict_term (λ (x : PlainDefinition). dictionary_if all x.kind) some d old.dicts new.dicts grows.dicts (ap (λ t. t.dicts) so))
      (sym (same_list new.choices) ∙ found_more (λ (c : Choice). c) (λ (x : PlainDefinition). enumeration_if all x.kind) some d old.choices new.choices grows.choices (same_list old.choices ∙ ap (λ t. t.choices) so))
      (found_more callback_term (λ (x : PlainDefinition). callback_if all x.kind) some d old.callback_fns new.callback_fns grows.callback_fns (ap (λ t. t.callback_fns) so))
      (found_more callback_term (λ (x : PlainDefinition). callback_interface_if all x.kind) some d old.callback_ifaces new.callback_ifaces grows.callback_ifaces (ap (λ t. t.callback_ifaces) so))

  -- the same, as a loop over the definitions has it
  pub listed_step : (list : List (Bor Definition)) (i : ℕ) (d : Bor Definition) (old new : Defs) → i < length list → d ≡ get_or list i d → Grows all (definition_of d.now).kind old new → AreListed all (listed_definitions (take i list)) old → AreListed all (listed_definitions (take (i + 1) list)) new
  listed_step list i d old new below is grows so = subst (λ some. AreListed all some new) (sym (listed_more list i d below is)) (grown (listed_definitions (take i list)) (definition_of d.now) old new so grows)

  -- after the last definition
  pub all_listed : (list : List (Bor Definition)) (i : ℕ) (defs : Defs) → length list ≤ i → listed_definitions list ≡ all → AreListed all (listed_definitions (take i list)) defs → AreListed all all defs
  all_listed list i defs past same so = subst (λ some. AreListed all some defs) (ap listed_definitions (take_all i list past) ∙ same) so

-- of the six lists that of the definition's kind grows
module _ (all : List PlainDefinition) (kind : PlainKind) (old : Defs) where
  pub interface_grows : (i : PlainInterface) (new : List Iface) → kind ≡ InterfaceDefinition i → Adds iface_term (interface_if all (InterfaceDefinition i)) old.ifaces new → Grows all kind old (record old { ifaces = new })
  interface_grows i new is adds = subst (λ k. Grows all k old (record old { ifaces = new })) (sym is) (record {
    ifaces = adds;
    spaces = adds_nothing space_term old.spaces;
    dicts = adds_nothing dict_term old.dicts;
    choices = adds_nothing (λ (c : Choice). c) old.choices;
    callback_fns = adds_nothing callback_term old.callback_fns;
    callback_ifaces = adds_nothing callback_term old.callback_ifaces;
  })

  pub namespace_grows : (n : PlainContainerOfMembers) (new : List Space) → kind ≡ NamespaceDefinition n → Adds space_term (namespace_if all (NamespaceDefinition n)) old.spaces new → Grows all kind old (record old { spaces = new })
  namespace_grows n new is adds = subst (λ k. Grows all k old (record old { spaces = new })) (sym is) (record {
    ifaces = adds_nothing iface_term old.ifaces;
    spaces = adds;
    dicts = adds_nothing dict_term old.dicts;
    choices = adds_nothing (λ (c : Choice). c) old.choices;
    callback_fns = adds_nothing callback_term old.callback_fns;
    callback_ifaces = adds_nothing callback_term old.callback_ifaces;
  })

  pub dictionary_grows : (d : PlainDictionary) (new : List Dict) → kind ≡ DictionaryDefinition d → Adds dict_term (dictionary_if all (DictionaryDefinition d)) old.dicts new → Grows all kind old (record old { dicts = new })
  dictionary_grows d new is adds = subst (λ k. Grows all k old (record old { dicts = new })) (sym is) (record {
    ifaces = adds_nothing iface_term old.ifaces;
    spaces = adds_nothing space_term old.spaces;
    dicts = adds;
    choices = adds_nothing (λ (c : Choice). c) old.choices;
    callback_fns = adds_nothing callback_term old.callback_fns;
    callback_ifaces = adds_nothing callback_term old.callback_ifaces;
  })

  pub enumeration_grows : (e : PlainEnumeration) (new : List Choice) → kind ≡ EnumerationDefinition e → Adds (λ (c : Choice). c) (enumeration_if all (EnumerationDefinition e)) old.choices new → Grows all kind old (record old { choices = new })
  enumeration_grows e new is adds = subst (λ k. Grows all k old (record old { choices = new })) (sym is) (record {
    ifaces = adds_nothing iface_term old.ifaces;
    spaces = adds_nothing space_term old.spaces;
    dicts = adds_nothing dict_term old.dicts;
    choices = adds;
    callback_fns = adds_nothing callback_term old.callback_fns;
    callback_ifaces = adds_nothing callback_term old.callback_ifaces;
  })

  pub callback_grows : (c : PlainCallback) (new : List Callback) → kind ≡ CallbackFunctionDefinition c → Adds callback_term (callback_if all (CallbackFunctionDefinition c)) old.callback_fns new → Grows all kind old (record old { callback_fns = new })
  callback_grows c new is adds = subst (λ k. Grows all k old (record old { callback_fns = new })) (sym is) (record {
    ifaces = adds_nothing iface_term old.ifaces;
    spaces = adds_nothing space_term old.spaces;
    dicts = adds_nothing dict_term old.dicts;
    choices = adds_nothing (λ (e : Choice). e) old.choices;
    callback_fns = adds;
    callback_ifaces = adds_nothing callback_term old.callback_ifaces;
  })

  pub callback_interface_grows : (c : PlainCallbackInterface) (new : List Callback) → kind ≡ CallbackInterfaceDefinition c → Adds callback_term (callback_interface_if all (CallbackInterfaceDefinition c)) old.callback_ifaces new → Grows all kind old (record old { callback_ifaces = new })
  callback_interface_grows c new is adds = subst (λ k. Grows all k old (record old { callback_ifaces = new })) (sym is) (record {
    ifaces = adds_nothing iface_term old.ifaces;
    spaces = adds_nothing space_term old.spaces;
    dicts = adds_nothing dict_term old.dicts;
    choices = adds_nothing (λ (e : Choice). e) old.choices;
    callback_fns = adds_nothing callback_term old.callback_fns;
    callback_ifaces = adds;
  })
