-- How much of a type is made: the whole type, or its outline.
use Rattle.widl_idl.specs.Terms.{TypeTerm, TypeTerms, AnyType, SequenceType, RecordType, PromiseType, NullableType, UnionType, no_types, more_types}
use Rattle.widl_names.specs.declared.extent.Extent.{Extent}
use Rattle.widl_names.specs.declared.extent.Extent.TheVariants.{Whole, Outline}

-- what stands inside a sequence, a record or a promise: in an outline `any`
abbrev pub made_inside : Extent → TypeTerm → TypeTerm
made_inside Whole t = t
made_inside Outline t = AnyType

module _ (extent : Extent) where
  abbrev mutual
    pub made : TypeTerm → TypeTerm
    made (SequenceType t) = SequenceType (made_inside extent t)
    made (RecordType key t) = RecordType key (made_inside extent t)
    made (PromiseType t) = PromiseType (made_inside extent t)
    made (NullableType t) = NullableType (made t)
    made (UnionType ts) = UnionType (made_members ts)
    made t = t

    pub made_members : TypeTerms → TypeTerms
    made_members no_types = no_types
    made_members (more_types t ts) = more_types (made t) (made_members ts)

-- a type as far as rules on types look into it
abbrev pub outline : TypeTerm → TypeTerm
outline t = made Outline t
