-- How deep types nest once their typedefs are replaced, and which typedefs a typedef names.
-- Source: Web IDL, "Typedefs".
use Rattle.std.specs.Prelude.{ℕ, ◌+◌, ◌++◌, zero, suc, max, List, [], ◌∷◌, length, Option, None, Some, option_map, flat_map, map}
use Rattle.widl_idl.specs.PlainTypes.{PlainName, PlainForm, PlainType, PlainAnnotated, PlainMembers, PlainNamed, PlainContainer, PlainRecord, PlainPromise, PlainUnion, plain_type, plain_annotated, no_plain, more_plain}
use Rattle.widl_idl.specs.PlainTrees.{PlainDefinition, PlainKind, MixinDefinition, NamespaceDefinition, TypedefDefinition}
use Rattle.widl_idl.specs.Meanings.{meaning, meant}

-- the deeper of two types, where both depths are known
abbrev pub deeper : Option ℕ → Option ℕ → Option ℕ
deeper None other = None
deeper (Some depth) other = option_map (max depth) other

-- a type around another one
abbrev pub one_deeper : Option ℕ → Option ℕ
one_deeper depth = option_map (λ d. d + 1) depth

module _ (named : PlainName → Option ℕ) where
  abbrev mutual
    -- the depth of a type, where `named` tells that of a name: a type without parts has the depth 1, and a `?` adds nothing
    pub form_depth : PlainForm → Option ℕ
    form_depth (PlainNamed name) = named name
    form_depth (PlainContainer container inner) = one_deeper (annotated_depth inner)
    form_depth (PlainRecord key inner) = one_deeper (annotated_depth inner)
    form_depth (PlainPromise inner) = one_deeper (type_depth inner)
    form_depth (PlainUnion members) = one_deeper (union_depth members)
    form_depth form = Some 1

    pub type_depth : PlainType → Option ℕ
    type_depth (plain_type at form question) = form_depth form

    pub annotated_depth : PlainAnnotated → Option ℕ
    annotated_depth (plain_annotated at attributes inner) = type_depth inner

    pub union_depth : PlainMembers → Option ℕ
    union_depth no_plain = Some 0
    union_depth (more_plain member more) = deeper (annotated_depth member) (union_depth more)

-- the depth of the type that a name means: that of a typedef's type, 1 of every other type, and none of what is no type
abbrev pub meant_depth : (PlainAnnotated → Option ℕ) → Option PlainKind → Option ℕ
meant_depth typedef None = None
meant_depth typedef (Some (TypedefDefinition d)) = typedef d.ty
meant_depth typedef (Some (MixinDefinition m)) = None
meant_depth typedef (Some (NamespaceDefinition n)) = None
meant_depth typedef (Some kind) = Some 1

-- the same, where typedefs lead at most so many levels down; none where they lead deeper
abbrev pub named_depth : List PlainDefinition → ℕ → PlainName → Option ℕ
named_depth definitions zero name = None
named_depth definitions (suc levels) name = meant_depth (annotated_depth (named_depth definitions levels)) (meant definitions name.text)

-- the depth of a type after its typedefs are replaced; none where a name in it or in these is no type, or a typedef reaches itself, since others lead fewer levels down than there are definitions
abbrev pub depth_of : List PlainDefinition → PlainType → Option ℕ
depth_of definitions t = type_depth (named_depth definitions (length definitions + 1)) t

abbrev mutual
  -- the names in a type
  pub form_names : PlainForm → List PlainName
  form_names (PlainNamed name) = name ∷ []
  form_names (PlainContainer container inner) = annotated_names inner
  form_names (PlainRecord key inner) = annotated_names inner
  form_names (PlainPromise inner) = type_names inner
  form_names (PlainUnion members) = union_names members
  form_names form = []

  pub type_names : PlainType → List PlainName
  type_names (plain_type at form question) = form_names form

  pub annotated_names : PlainAnnotated → List PlainName
  annotated_names (plain_annotated at attributes inner) = type_names inner

  pub union_names : PlainMembers → List PlainName
  union_names no_plain = []
  union_names (more_plain member more) = annotated_names member ++ union_names more

abbrev pub number_if_typedef : Option ℕ → Option PlainKind → List ℕ
number_if_typedef (Some number) (Some (TypedefDefinition d)) = number ∷ []
number_if_typedef number kind = []

-- the number of the typedef that a name means, if it means one
abbrev pub typedef_named : List PlainDefinition → PlainName → List ℕ
typedef_named definitions name = number_if_typedef (meaning definitions name.text) (meant definitions name.text)

-- the typedefs that a typedef names, at any depth of its type
abbrev pub typedefs_in : List PlainDefinition → PlainKind → List ℕ
typedefs_in definitions (TypedefDefinition d) = flat_map (typedef_named definitions) (annotated_names d.ty)
typedefs_in definitions kind = []

-- for each definition the typedefs that it names, where it is one itself
abbrev pub typedef_links : List PlainDefinition → List (List ℕ)
typedef_links definitions = map (λ d. typedefs_in definitions d.kind) definitions
