-- When two types are distinguishable (Web IDL, "distinguishable").
use Rattle.std.specs.Prelude.{Bool, true, false, ◌||◌, ◌&&◌, not, List, [], ◌∷◌, nat_eq, nat_lt, Option, None, Some, unwrap_or}
use Rattle.std.specs.List.{list_any, list_all}
use Rattle.widl_idl.specs.DefinitionTerms.{IfaceTerm}
use Rattle.widl_idl.specs.Terms.{TypeTerm, TypeTerms, AnyType, UndefinedType, BooleanType, IntegerType, StringType, EnumerationType, InterfaceType, CallbackFunctionType, CallbackInterfaceType, DictionaryType, ObjectType, SequenceType, RecordType, PromiseType, NullableType, UnionType, no_types, more_types}
use Rattle.widl_idl.specs.Flattened.{flattened_members, includes_nullable_type, nullable_members, unannotated}
use Rattle.widl_overload.specs.declared.category.Category.{Category}
use Rattle.widl_overload.specs.declared.category.Category.TheVariants.{Never, Undefined, Boolean, Numeric, String, Object, Interface, Function, DictionaryLike, SequenceLike}
use Rattle.widl_overload.specs.sets.Inheritance.{inherits}

-- the category of an innermost type; `any` and promises have none
abbrev pub category : TypeTerm → Category
category AnyType = Never
category UndefinedType = Undefined
category BooleanType = Boolean
category (IntegerType kind mode) = Numeric
category (StringType kind null_empty) = String
category (EnumerationType n) = String
category (InterfaceType n) = Interface n
category (CallbackFunctionType n) = Function
category (CallbackInterfaceType n) = DictionaryLike
category (DictionaryType n) = DictionaryLike
category ObjectType = Object
category (SequenceType t) = SequenceLike
category (RecordType key t) = DictionaryLike
category (PromiseType t) = Never
category (NullableType t) = Never
category (UnionType ts) = Never

abbrev pub is_same : Category → Category → Bool
is_same Undefined Undefined = true
is_same Boolean Boolean = true
is_same Numeric Numeric = true
is_same String String = true
is_same Object Object = true
is_same (Interface m) (Interface n) = true
is_same Function Function = true
is_same DictionaryLike DictionaryLike = true
is_same SequenceLike SequenceLike = true
is_same c d = false

-- two categories that some value can't tell apart, though they differ
abbrev pub overlaps : Category → Category → Bool
overlaps Object (Interface n) = true
overlaps Object Function = true
overlaps Object DictionaryLike = true
overlaps Object SequenceLike = true
overlaps Undefined DictionaryLike = true
overlaps c d = false

abbrev pub is_never : Category → Bool
is_never Never = true
is_never c = false

module _ (ifaces : List IfaceTerm) where
  -- two different interfaces, neither of which inherits from the other
  abbrev pub are_unrelated : Category → Category → Bool
  are_unrelated (Interface m) (Interface n) = not (nat_eq m n) && (not (inherits ifaces m n) && not (inherits ifaces n m))
  are_unrelated c d = false

  -- different categories are distinguishable but for those that overlap, and the same category only for unrelated interfaces
  abbrev pub categories_apart : Category → Category → Bool
  categories_apart c d = not (is_never c || is_never d) && (are_unrelated c d || not (is_same c d || (overlaps c d || overlaps d c)))

  abbrev pub are_apart : TypeTerm → TypeTerm → Bool
  are_apart t u = categories_apart (category t) (category u)

abbrev pub is_dictionary : TypeTerm → Bool
is_dictionary (DictionaryType n) = true
is_dictionary t = false

-- a dictionary, or a union with one among its flattened members
abbrev pub has_dictionary : TypeTerm → Bool
has_dictionary (UnionType ts) = list_any is_dictionary (flattened_members ts)
has_dictionary t = is_dictionary t

-- rule 1: one of two types includes a nullable type, where the other includes one too or has a dictionary
abbrev pub nullable_clash : TypeTerm → TypeTerm → Bool
nullable_clash t u = (includes_nullable_type t && (includes_nullable_type u || has_dictionary u)) || (includes_nullable_type u && has_dictionary t)

abbrev pub listed : TypeTerms → List TypeTerm
listed no_types = []
listed (more_types t ts) = t ∷ listed ts

-- the member types of a union or a nullable union, as they stand
abbrev pub union_members : TypeTerm → Option (List TypeTerm)
union_members (NullableType t) = union_members t
union_members (UnionType ts) = Some (listed ts)
union_members t = None

-- the member types of a union or a nullable union; another type alone
abbrev pub members_or_itself : TypeTerm → List TypeTerm
members_or_itself t = unwrap_or (union_members t) (t ∷ [])

-- a type without its annotation and without nullable
abbrev pub innermost : TypeTerm → TypeTerm
innermost (NullableType t) = innermost t
innermost t = unannotated t

module _ (ifaces : List IfaceTerm) where
  -- what rule 1 leaves to the others for a type that is no union: by rule 3 each member of the other one, if that is a union; by rule 4 else the two innermost types
  abbrev mutual
    pub single_apart : TypeTerm → TypeTerm → Bool
    single_apart t (NullableType u) = single_apart t u
    single_apart t (UnionType us) = single_from_each t us
    single_apart t u = are_apart ifaces (innermost t) (unannotated u)

    pub single_from_each : TypeTerm → TypeTerms → Bool
    single_from_each t no_types = true
    single_from_each t (more_types u us) = (not (nullable_clash t u) && single_apart t u) && single_from_each t us

  -- the same for any two types, of which the first one stands here once more without its `?`: by rules 2 and 3 each of its members, if it is a union, and each member of the other one, or that one itself
  abbrev mutual
    pub members_apart : TypeTerm → TypeTerm → TypeTerm → Bool
    members_apart (NullableType p) t u = members_apart p t u
    members_apart (UnionType ts) t u = each_from_members ts u
    members_apart p t u = single_apart t u

    pub each_from_members : TypeTerms → TypeTerm → Bool
    each_from_members no_types u = true
    each_from_members (more_types t ts) u = list_all (λ n. not (nullable_clash t n) && members_apart t t n) (members_or_itself u) && each_from_members ts u

  -- whether two types are distinguishable: the first rule is asked of them, and then of each two that the others come to
  abbrev pub distinguishable : TypeTerm → TypeTerm → Bool
  distinguishable t u = not (nullable_clash t u) && members_apart t t u

  -- rules 2, 3 and 4, where members are compared so: each member of the one union and each of the other; each member of the one union and the other type; the two innermost types
  abbrev pub by_members : (TypeTerm → TypeTerm → Bool) → Option (List TypeTerm) → Option (List TypeTerm) → TypeTerm → TypeTerm → Bool
  by_members test (Some ts) (Some us) t u = list_all (λ m. list_all (test m) us) ts
  by_members test (Some ts) None t u = list_all (λ m. test m u) ts
  by_members test None (Some us) t u = list_all (test t) us
  by_members test None None t u = are_apart ifaces (innermost t) (innermost u)

  -- the four rules in order
  abbrev pub by_rules : (TypeTerm → TypeTerm → Bool) → TypeTerm → TypeTerm → Bool
  by_rules test t u = not (nullable_clash t u) && by_members test (union_members t) (union_members u) t u

-- a type is nullable, or it is a union with one nullable member or more
abbrev pub has_nullable : TypeTerm → Bool
has_nullable (NullableType t) = true
has_nullable (UnionType ts) = nat_lt 0 (nullable_members ts)
has_nullable t = false

-- the first rule with that in place of "includes a nullable type"
abbrev pub any_nullable_clash : TypeTerm → TypeTerm → Bool
any_nullable_clash t u = (has_nullable t && (has_nullable u || has_dictionary u)) || (has_nullable u && has_dictionary t)

-- each union in a type, as its flattening reaches them, has at least one member
abbrev mutual
  pub HaveMembers : TypeTerm → Type 0
  HaveMembers (NullableType t) = HaveMembers t
  HaveMembers (UnionType no_types) = ⊥
  HaveMembers (UnionType (more_types t ts)) = HaveMembers t × AllHaveMembers ts
  HaveMembers t = Unit {0}

  pub AllHaveMembers : TypeTerms → Type 0
  AllHaveMembers no_types = Unit {0}
  AllHaveMembers (more_types t ts) = HaveMembers t × AllHaveMembers ts
