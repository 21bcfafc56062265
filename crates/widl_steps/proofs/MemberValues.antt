-- The members of a dictionary's value stand in the order of conversion.
use Rattle.std.proofs.Common.{◌≡◌, ◌⊎◌, inl, inr, ℕ, zero, suc, Bool, true, if◌then◌else◌, List, [], ◌∷◌, ◌++◌, Option, None, Some, refl, sym, ap, subst, ◌∙◌}
use Rattle.std.proofs.lemmas.List.{append_assoc, append-nil}
use Rattle.widl_idl.specs.DefinitionTerms.{DefsTerm}
use Rattle.widl_idl.specs.Terms.{DictionaryType}
use Rattle.widl_value.specs.declared.object.ObjRef.{ObjRef}
use Rattle.widl_value.specs.declared.value.Value.{Value}
use Rattle.widl_value.specs.declared.value.Value.TheVariants as values
use Rattle.widl_value.specs.IdlTerms.{IdlTerm, DictionaryValue, packed_members}
use Rattle.widl_trace.specs.declared.code.Code.TheVariants as code
use Rattle.widl_steps.specs.Built.{Built}
use Rattle.widl_steps.specs.ContainerLaws.{AreMembersOf, IsDictionaryOf, MembersStandInOrder}
use Rattle.widl_steps.specs.Dictionaries.{with_value, members, dictionary_of, to_dictionary}
use Rattle.widl_steps.specs.Laws.{Said}
use Rattle.widl_tables.specs.MemberOrder.{DeclaredMember, members_in_order}
use Rattle.widl_steps.specs.Tasks.{Members, Throw}
use Rattle.widl_steps.specs.Words.{not_built}
use Rattle.widl_steps.proofs.MemberReads.{Given, goes_on_to, not_given, of_answer, of_undefined, steps}

module _ (built : Built) (list : DefsTerm) (n : ℕ) (w : IdlTerm) (is_built : built.to_type (DictionaryType n) ≡ true) where
  abbrev All : List DeclaredMember → List (ℕ × ℕ × IdlTerm) → Type 0
  All left made = (more : List (ℕ × ℕ × IdlTerm)) × (w ≡ DictionaryValue n (packed_members (made ++ more))) × AreMembersOf left more

  -- one member more, or one that was left out
  put : (m : DeclaredMember) (left : List DeclaredMember) (made next : List (ℕ × ℕ × IdlTerm)) → (next ≡ made) ⊎ ((u : IdlTerm) × (next ≡ with_value m u made)) → All left next → All (m ∷ left) made
  put m left made next (inl same) all = (all.0, all.1 ∙ ap (λ (ms : List (ℕ × ℕ × IdlTerm)). DictionaryValue n (packed_members (ms ++ all.0))) same, inl all.2)
  put m left made next (inr given) all =
      let here : ℕ × ℕ × IdlTerm = (m.dictionary, m.number, given.0) in (
        here ∷ all.0,
        all.1 ∙ ap (λ (ms : List (ℕ × ℕ × IdlTerm)). DictionaryValue n (packed_members (ms ++ all.0))) given.1 ∙ ap (λ (ms : List (ℕ × ℕ × IdlTerm)). DictionaryValue n (packed_members ms)) (append_assoc made (here ∷ []) all.0),
        inr (given.0, all.0, refl, all.2),
      )

  by_members : (o : Option ObjRef) (left : List DeclaredMember) (made : List (ℕ × ℕ × IdlTerm)) (talk : Said) → Given built list (steps built list (Members n o left made)) talk w → Given built list (members n o left made) talk w
  by_members o left made talk x = subst (λ (b : Bool). Given built list (if b then members n o left made else not_built) talk w) is_built x

  all_members : (o : Option ObjRef) (left : List DeclaredMember) (made : List (ℕ × ℕ × IdlTerm)) (talk : Said) → Given built list (members n o left made) talk w → All left made
  all_members o [] made talk (zero, x) = absurd x
  all_members o [] made [] (suc f, x) = ([], (let e = x in cc) ∙ ap (λ (ms : List (ℕ × ℕ × IdlTerm)). DictionaryValue n (packed_members ms)) (sym (append-nil made)), refl)
  all_members o [] made (p ∷ talk) (suc f, x) = absurd x
  all_members (Some o) (m ∷ left) made talk (zero, x) = absurd x
  all_members (Some o) (m ∷ left) made [] (suc f, x) = absurd (cc)
  all_members (Some o) (m ∷ left) made (p ∷ talk) (suc f, x) =
      let s = of_answer built list n (Some o) m left made w o p.1 talk x.1 (f, x.2) in
      put m left made s.made s.is_made (all_members (Some o) left s.made s.more (by_members (Some o) left s.made s.more s.rest))
  all_members None (m ∷ left) made talk (zero, x) = absurd x
  all_members None (m ∷ left) made [] (suc f, x) = absurd (cc)
  all_members None (m ∷ left) made (p ∷ talk) (suc f, x) =
      let s = of_undefined built list n None m left made w m.member.value talk (f, x.2) in
      put m left made s.made s.is_made (all_members None left s.made s.more (by_members None left s.made s.more s.rest))

  of_dictionary : (o : Option ObjRef) (talk : Said) → Given built list (dictionary_of list n o) talk w → IsDictionaryOf list n w
  of_dictionary o talk x = all_members o (members_in_order list n) [] talk (by_members o (members_in_order list n) [] talk (goes_on_to built list n o (members_in_order list n) [] w talk x))

  of_value : (v : Value) (talk : Said) → Given built list (to_dictionary list n v) talk w → IsDictionaryOf list n w
  of_value values.Undefined talk x = of_dictionary None talk x
  of_value values.Null talk x = of_dictionary None talk x
  of_value (values.Obj o) talk x = of_dictionary (Some o) talk x
  of_value (values.Bool b) talk x = absurd (not_given built list (Throw code.Dictionary) talk w (λ u h. absurd (cc)) x)
  of_value (values.Num i) talk x = absurd (not_given built list (Throw code.Dictionary) talk w (λ u h. absurd (cc)) x)
  of_value (values.Str units) talk x = absurd (not_given built list (Throw code.Dictionary) talk w (λ u h. absurd (cc)) x)
  of_value (values.Sym i) talk x = absurd (not_given built list (Throw code.Dictionary) talk w (λ u h. absurd (cc)) x)

pub members_stand : (built : Built) (list : DefsTerm) → MembersStandInOrder built list
members_stand built list n v talk w is_built x =
    of_value built list n w is_built v talk (subst (λ (b : Bool). Given built list (if b then to_dictionary list n v else not_built) talk w) is_built x)
