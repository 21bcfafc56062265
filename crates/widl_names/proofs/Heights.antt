-- How deep what types mean nests: by that the recursion over their parts ends.
use Rattle.std.proofs.Common.{◌≡◌, ℕ, ◌+◌, ◌<◌, ◌≤◌, ◌++◌, Bool, true, false, cond, zero, suc, List, [], ◌∷◌, length, map, get_or, Option, None, Some, slice_get, arith, refl, sym, ap, ◌∙◌, max}
use Rattle.widl_idl.specs.declared.tree.types.AnnotatedType.{AnnotatedType}
use Rattle.widl_idl.specs.PlainTrees.{PlainDefinition}
use Rattle.widl_idl.specs.PlainTypes.{PlainForm, PlainType, form_term}
use Rattle.widl_idl.specs.Resolution.{Note, Typedef, WrittenType, WithoutParts, TypedefName, SequenceOf, RecordOf, PromiseOf, NullableOf, UnionOf, annotated, is_nullable_twice, nullable_of, resolved, resolved_typedef, typedef_in}
use Rattle.widl_idl.specs.Terms.{TypeTerm, TypeTerms, SequenceType, RecordType, PromiseType, NullableType, UnionType, IntegerType, StringType, no_types, more_types, packed}
use Rattle.widl_idl.specs.WrittenTypes.{typedefs, written_form}
use Rattle.widl_names.specs.declared.resolver.Use.{Use}
use Rattle.widl_names.specs.TypeUses.{Leads, MeansWritten, form_meaning, meaning_at, meaning_of_use, questioned}

abbrev mutual
  -- how many levels of parts a type has, where a `?` is none
  pub height : TypeTerm → ℕ
  height (SequenceType t) = height t + 1
  height (RecordType key t) = height t + 1
  height (PromiseType t) = height t + 1
  height (NullableType t) = height t
  height (UnionType ts) = heights ts + 1
  height t = 0

  pub heights : TypeTerms → ℕ
  heights no_types = 0
  heights (more_types t ts) = max (height t) (heights ts)

height_annotated : (notes : List Note) (t : TypeTerm) → height (annotated notes t) ≡ height t
height_annotated notes (IntegerType kind mode) = refl
height_annotated notes (StringType kind null_empty) = refl
height_annotated notes t = refl

height_nullable : (t : TypeTerm) → height (nullable_of t) ≡ height t
height_nullable t = go (is_nullable_twice t)
  where
    go : (b : Bool) → height (cond b t (NullableType t)) ≡ height t
    go true = refl
    go false = refl

height_questioned : (n : ℕ) (t : TypeTerm) → height (questioned n t) ≡ height t
height_questioned zero t = refl
height_questioned (suc n) t = height_nullable (questioned n t) ∙ height_questioned n t

-- annotations change no height
height_resolved : (f : ℕ → List Note → TypeTerm) → ((n : ℕ) (notes more : List Note) → height (f n notes) ≡ height (f n more)) → (notes more : List Note) (w : WrittenType) → height (resolved f notes w) ≡ height (resolved f more w)
height_resolved f same notes more (WithoutParts t) = height_annotated notes t ∙ sym (height_annotated more t)
height_resolved f same notes more (TypedefName n) = same n notes more
height_resolved f same notes more (SequenceOf own t) = refl
height_resolved f same notes more (RecordOf key own t) = refl
height_resolved f same notes more (PromiseOf t) = refl
height_resolved f same notes more (NullableOf t) = height_nullable (resolved f notes t) ∙ height_resolved f same notes more t ∙ sym (height_nullable (resolved f more t))
height_resolved f same notes more (UnionOf union) = refl

height_found : (f : ℕ → List Note → TypeTerm) → ((n : ℕ) (notes more : List Note) → height (f n notes) ≡ height (f n more)) → (notes more : List Note) (found : Option Typedef) → height (resolved_typedef f notes found) ≡ height (resolved_typedef f more found)
height_found f same notes more None = refl
height_found f same notes more (Some t) = height_resolved f same (notes ++ t.notes) (more ++ t.notes) t.written

height_typedef : (all : List Typedef) (levels n : ℕ) (notes more : List Note) → height (typedef_in all levels n notes) ≡ height (typedef_in all levels n more)
height_typedef all zero n notes more = refl
height_typedef all (suc levels) n notes more = height_found (typedef_in all levels) (height_typedef all levels) notes more (slice_get all n)

module _ (definitions : List PlainDefinition) where
  height_form : (levels : ℕ) (notes more : List Note) (form : PlainForm) → height (form_meaning definitions levels notes form) ≡ height (form_meaning definitions levels more form)
  height_form levels notes more form = height_resolved (typedef_in (typedefs definitions) levels) (height_typedef (typedefs definitions) levels) notes more (written_form definitions form)

  -- a use of a type has the height of its form
  height_use : (notes more : List Note) (u : Use) → height (meaning_of_use definitions notes u) ≡ height (form_meaning definitions u.typedefs more (form_term u.form.now))
  height_use notes more u = height_questioned u.questions (form_meaning definitions u.typedefs notes (form_term u.form.now)) ∙ height_form u.typedefs notes more (form_term u.form.now)

  -- so has the use that leads to it
  pub height_led : (u v : Use) → Leads definitions u v → height (meaning_of_use definitions [] u) ≡ height (form_meaning definitions v.typedefs [] (form_term v.form.now))
  height_led u v l = let m = l.same [] in ap height m.2 ∙ height_use m.0 [] v

  -- and the written type
  pub height_written : (u : Use) (t : PlainType) (levels : ℕ) (notes : List Note) → MeansWritten u t → u.typedefs ≡ levels → height (meaning_of_use definitions [] u) ≡ height (meaning_at definitions levels notes t)
  height_written u t levels notes w count =
      height_use [] notes u
      ∙ sym (height_questioned u.questions (form_meaning definitions u.typedefs notes (form_term u.form.now)))
      ∙ ap height (w.same definitions notes)
      ∙ ap (λ l. height (meaning_at definitions l notes t)) count

-- a member is no higher than the union
pub lower_member : (f : AnnotatedType → TypeTerm) (members : List AnnotatedType) (i : ℕ) (member : AnnotatedType) → i < length members → member ≡ get_or members i member → height (f member) ≤ heights (packed (map f members))
lower_member f [] i member below is = absurd (omega (arith, below))
lower_member f (m ∷ members) zero member below is = let same : height (f member) ≡ height (f m) = ap (λ x. height (f x)) is in omega (arith, same)
lower_member f (m ∷ members) (suc i) member below is = let rest = lower_member f members i member (omega (arith, below)) is in omega (arith, rest)
