-- The terms of operations by their names, with one operation more.
use Rattle.std.proofs.Common.{◌≡◌, ℕ, ◌++◌, Bool, true, false, List, [], ◌∷◌, map, slice_get, Option, None, Some, option_map, refl, sym, ap, ◌∙◌}
use Rattle.std.proofs.Math.ListN.{set}
use Rattle.std.proofs.lemmas.List.{map-append, map-set}
use Rattle.std.proofs.lemmas.Option.{slice_get-map}
use Rattle.widl_idl.specs.declared.operation.OpName.{OpName}
use Rattle.widl_idl.specs.declared.signature.Sig.{Sig}
use Rattle.widl_idl.specs.DefinitionTerms.{OpNameTerm, SigTerm, op_name_term, sig_term}
use Rattle.widl_idl.specs.MergedMembers.{are_overloads, firsts_after, op_name_of, op_names_of, operation_text, sig_of_operation}
use Rattle.widl_idl.specs.MergingRules.{is_static}
use Rattle.widl_idl.specs.PlainTrees.{PlainDefinition, PlainOperation}
use Rattle.widl_idl.specs.WrittenLiterals.{units_of}
use Rattle.widl_names.proofs.Pushed.{some_is}
use Rattle.widl_merge.specs.PutTogether.{AreNumbers, HasName, HasOverload, IsFirstAt, is_named}
use Rattle.widl_merge.proofs.FirstOperations.{at_number, filter_none, firsts_more, map_one, map_same, other_name, overloads_itself, same_firsts, seen, term_other, term_this}

abbrev with_signature : OpNameTerm → SigTerm → OpNameTerm
with_signature t s = record { name = t.name; fixed = t.fixed; sigs = t.sigs ++ s ∷ [] }

module _ (definitions : List PlainDefinition) (operations : List PlainOperation) (o : PlainOperation) (number : List ℕ → Bool → Option ℕ) (so : AreNumbers operations number) (old new : List OpName) (sig : Sig)
    (means : map op_name_term old ≡ op_names_of definitions operations) (is : sig_term sig ≡ sig_of_operation definitions o) where
  abbrev before : PlainOperation → OpNameTerm
  before = op_name_of definitions operations

  abbrev after : PlainOperation → OpNameTerm
  after = op_name_of definitions (operations ++ o ∷ [])

  abbrev all_firsts : List PlainOperation
  all_firsts = firsts_after [] operations

  -- a signature more for a name that is known
  module _ (k : ℕ) (known : number (operation_text o.name) (is_static o.kind) ≡ Some k) (more : HasOverload old new k sig) where
    here : IsFirstAt operations (operation_text o.name) (is_static o.kind) k
    here = so.there (operation_text o.name) (is_static o.kind) k known

    of_name : are_overloads here.first o ≡ true
    of_name = ap (λ t. is_named t (is_static here.first.kind) o) here.name ∙ ap (λ s. is_named (operation_text o.name) s o) here.kind ∙ overloads_itself o

    other : (j : ℕ) (y : PlainOperation) → slice_get all_firsts j ≡ Some y → (j ≡ k → ⊥) → (b : Bool) → are_overloads y o ≡ b → b ≡ false
    other j y at ne true e = let same : Some j ≡ Some k = sym (at_number operations o number so j y at e) ∙ known in absurd (ne (some_is same))
    other j y at ne false e = refl

    term_there : op_name_term more.op ≡ before here.first
    term_there = some_is (sym (ap (option_map op_name_term) more.at) ∙ sym (slice_get-map op_name_term old k) ∙ ap (λ l. slice_get l k) means ∙ slice_get-map before all_firsts k ∙ ap (option_map before) here.at)

    abbrev longer : OpName
    longer = record { name = more.op.name; fixed = more.op.fixed; sigs = more.op.sigs ++ sig ∷ [] }

    term_longer : op_name_term longer ≡ after here.first
    term_longer =
        ap (λ l. record { name = more.op.name; fixed = more.op.fixed; sigs = l }) (map-append sig_term more.op.sigs (sig ∷ []))
        ∙ ap (λ t. with_signature t (sig_term sig)) term_there ∙ ap (with_signature (before here.first)) is
        ∙ sym (term_this operations o number so definitions here.first of_name)

    pub known_means : map op_name_term new ≡ op_names_of definitions (operations ++ o ∷ [])
    known_means =
        ap (map op_name_term) more.becomes ∙ map-set op_name_term old k longer ∙ ap (λ l. set l k (op_name_term longer)) means ∙ ap (set (map before all_firsts) k) term_longer
        ∙ sym (map_one before after all_firsts k here.first here.at (λ j y at ne. term_other operations o number so definitions y (other j y at ne (are_overloads y o) refl)))
        ∙ ap (map after) (sym (same_firsts operations o number so k known))

  -- a name that is new
  module _ (unknown : number (operation_text o.name) (is_static o.kind) ≡ None) (text : List ℕ) (fixed : Bool) (is_text : text ≡ operation_text o.name) (is_fixed : fixed ≡ is_static o.kind) (more : HasName old new (units_of text) fixed sig) where
    abbrev single : OpName
    single = record { name = units_of text; fixed = fixed; sigs = sig ∷ [] }

    term_single : op_name_term single ≡ after o
    term_single =
        ap (λ t. record { name = units_of t; fixed = fixed; sigs = sig_term sig ∷ [] }) is_text ∙ ap (λ f. record { name = units_of (operation_text o.name); fixed = f; sigs = sig_term sig ∷ [] }) is_fixed
        ∙ ap (λ s. record { name = units_of (operation_text o.name); fixed = is_static o.kind; sigs = s ∷ [] }) is
        ∙ ap (λ l. record { name = units_of (operation_text o.name); fixed = is_static o.kind; sigs = map (sig_of_operation definitions) l ++ sig_of_operation definitions o ∷ [] }) (sym (filter_none (are_overloads o) operations (seen operations o number so None unknown)))
        ∙ sym (term_this operations o number so definitions o (overloads_itself o))

    pub new_means : map op_name_term new ≡ op_names_of definitions (operations ++ o ∷ [])
    new_means =
        ap (map op_name_term) more ∙ map-append op_name_term old (single ∷ []) ∙ ap (λ l. l ++ op_name_term single ∷ []) means ∙ ap (λ t. map before all_firsts ++ t ∷ []) term_single
        ∙ ap (λ l. l ++ after o ∷ []) (sym (map_same before after all_firsts (λ j y at. term_other operations o number so definitions y (other_name operations o number so unknown j y at (are_overloads y o) refl))))
        ∙ sym (map-append after all_firsts (o ∷ [])) ∙ ap (map after) (sym (firsts_more operations o number so unknown))
