-- Arguments have one spelling each.
use Rattle.std.proofs.Common.{◌≡◌, true, Option, List, [], ◌∷◌, refl}
use Rattle.std.specs.Prelude.{not}
use Rattle.widl_idl.specs.declared.tree.arguments.Argument.{Argument}
use Rattle.widl_idl.specs.declared.tree.arguments.ArgumentKind.{ArgumentKind}
use Rattle.widl_idl.specs.declared.tree.arguments.ArgumentKind.TheVariants as kind
use Rattle.widl_idl.specs.declared.tree.names.Name.{Name}
use Rattle.widl_idl.specs.declared.tree.types.AnnotatedType.{AnnotatedType}
use Rattle.widl_idl.specs.TypeTrees.{tree_of_annotated}
use Rattle.widl_lex.specs.Tokens.{Lexeme}
use Rattle.widl_grammar.specs.declared.rule.Rule.TheVariants.{ArgumentName}
use Rattle.widl_grammar.specs.declared.terminal.Terminal.{Terminal}
use Rattle.widl_grammar.specs.declared.terminal.Terminal.TheVariants as t
use Rattle.widl_syntax.specs.Signs.{Sign, at, word, after, ◌⧺◌}
use Rattle.widl_syntax.specs.UnparsedNames.{any_name}
use Rattle.widl_syntax.specs.UnparsedMembers.{argument_rest, argument, in_parentheses, optional_arguments}
use Rattle.widl_syntax.proofs.Unique.Same.{SameName, SameOption, SameAnnotatedType, SameArgumentKind, SameArgument, SameArguments}
use Rattle.widl_syntax.proofs.Reading.{is_among}
use Rattle.widl_syntax.proofs.Unique.Ahead.{Keeps, NoneAhead, IsAhead, Anywhere, begins_else, first_keeps, ahead_none}
use Rattle.widl_syntax.proofs.Unique.Tells.{Tells, told, under, nothing_told, and_tells, then_tells, given, place_then, word_then, apart, apart_back, word_apart, clash_apart, and_else, up_to}
use Rattle.widl_syntax.proofs.Unique.Items.{SeparatedTell, not_before, begins_another, option_tells, separated_tell}
use Rattle.widl_syntax.proofs.Unique.Names.{any_name_tells, extended_attributes_tell, after_attributes, default_value_tells}
use Rattle.widl_syntax.proofs.Unique.Types.{begin_no_type, annotated_tells, bare_tells, bare_keeps}

rest_keeps : {F : List Lexeme → Type 0} (k : ArgumentKind) (ty : AnnotatedType) (name : List Sign) (ts : List Terminal) → begin_no_type ts ≡ true → not (is_among ts t.Optional) ≡ true → Keeps (NoneAhead ts) F (argument_rest k ty name)
rest_keeps kind.Required ty name ts h o = first_keeps _ (bare_keeps (tree_of_annotated ty) ts h)
rest_keeps (kind.Optional default) ty name ts h o = begins_else (argument_rest (kind.Optional default) ty name) ts o
rest_keeps (kind.Variadic place) ty name ts h o = first_keeps _ (bare_keeps (tree_of_annotated ty) ts h)

-- an argument after its extended attributes, where no `=` follows
abbrev RestTells : ArgumentKind → ArgumentKind → Type 0
RestTells a b = (x y : AnnotatedType) (m n : Name) → Tells (SameArgumentKind a b × SameAnnotatedType x y × SameName m n) (NoneAhead (t.Equals ∷ [])) (argument_rest a x (any_name ArgumentName m)) (argument_rest b y (any_name ArgumentName n))

rest_tells : (a b : ArgumentKind) → RestTells a b
rest_tells kind.Required kind.Required x y m n =
    told (under (and_else refl refl (bare_tells (tree_of_annotated x) (tree_of_annotated y)) (any_name_tells ArgumentName m n))) (λ p. (tt, p.0, p.1))
rest_tells (kind.Optional d) (kind.Optional e) x y m n =
    told (word_then t.Optional (and_else refl refl (annotated_tells (tree_of_annotated x) (tree_of_annotated y)) (then_tells (any_name_tells ArgumentName m n) (default_value_tells d e)))) (λ p. (p.1.1, p.0, p.1.0))
rest_tells (kind.Variadic p) (kind.Variadic q) x y m n =
    told (under (and_else refl refl (bare_tells (tree_of_annotated x) (tree_of_annotated y)) (place_then p q (word_then t.Ellipsis (any_name_tells ArgumentName m n))))) (λ s. (s.1.0, s.0, s.1.1))
rest_tells kind.Required (kind.Variadic q) x y m n =
    given (bare_tells (tree_of_annotated x) (tree_of_annotated y)) (λ p. apart_back (clash_apart (at q ⧺ word t.Ellipsis ⧺ any_name ArgumentName n) (any_name ArgumentName m) refl)) (begins_else _ _ refl) (begins_else _ _ refl)
rest_tells (kind.Variadic p) kind.Required x y m n =
    given (bare_tells (tree_of_annotated x) (tree_of_annotated y)) (λ s. apart (clash_apart (at p ⧺ word t.Ellipsis ⧺ any_name ArgumentName m) (any_name ArgumentName n) refl)) (begins_else _ _ refl) (begins_else _ _ refl)
rest_tells (kind.Optional d) kind.Required x y m n = apart (word_apart (argument_rest (kind.Optional d) x (any_name ArgumentName m)) _ refl (first_keeps _ (bare_keeps (tree_of_annotated y) (t.Optional ∷ []) refl)))
rest_tells (kind.Optional d) (kind.Variadic q) x y m n = apart (word_apart (argument_rest (kind.Optional d) x (any_name ArgumentName m)) _ refl (first_keeps _ (bare_keeps (tree_of_annotated y) (t.Optional ∷ []) refl)))
rest_tells kind.Required (kind.Optional e) x y m n = apart_back (word_apart (argument_rest (kind.Optional e) y (any_name ArgumentName n)) _ refl (first_keeps _ (bare_keeps (tree_of_annotated x) (t.Optional ∷ []) refl)))
rest_tells (kind.Variadic p) (kind.Optional e) x y m n = apart_back (word_apart (argument_rest (kind.Optional e) y (any_name ArgumentName n)) _ refl (first_keeps _ (bare_keeps (tree_of_annotated x) (t.Optional ∷ []) refl)))

argument_tells : (a b : Argument) → Tells (SameArgument a b) (NoneAhead (t.Equals ∷ [])) (argument a) (argument b)
argument_tells a b =
    told (and_tells (extended_attributes_tell a.attributes b.attributes) (rest_tells a.kind b.kind a.ty b.ty a.name b.name) (rest_keeps a.kind a.ty (any_name ArgumentName a.name) (t.OpenBracket ∷ []) refl refl) (rest_keeps b.kind b.ty (any_name ArgumentName b.name) (t.OpenBracket ∷ []) refl refl))
    (λ p. record { attributes = p.0; kind = p.1.0; ty = p.1.1; name = p.1.2 })

argument_keeps : {F : List Lexeme → Type 0} (a : Argument) → Keeps (NoneAhead (t.CloseParen ∷ [])) F (argument a)
argument_keeps a = after_attributes a.attributes (argument_rest a.kind a.ty (any_name ArgumentName a.name)) (t.CloseParen ∷ []) refl (rest_keeps a.kind a.ty (any_name ArgumentName a.name) (t.CloseParen ∷ []) refl refl)

between_parentheses : SeparatedTell t.Comma (NoneAhead (t.Equals ∷ [])) (IsAhead t.CloseParen) argument SameArgument
between_parentheses = record {
  last = ahead_none t.CloseParen (t.Equals ∷ []) refl;
  next = λ x. begins_else (after t.Comma argument x) (t.Equals ∷ []) refl;
  more = λ x. begins_another t.CloseParen (after t.Comma argument x) refl;
  begins = λ x. not_before (argument_keeps x);
  tells = argument_tells;
}

pub in_parentheses_tells : (xs ys : List Argument) → Tells (SameArguments xs ys) Anywhere (in_parentheses xs) (in_parentheses ys)
in_parentheses_tells xs ys = word_then t.OpenParen (told (up_to t.CloseParen refl (separated_tell between_parentheses xs ys) nothing_told) (λ p. p.0))

-- arguments that may be left out, before a semicolon
pub optional_arguments_tell : (a b : Option (List Argument)) → Tells (SameOption SameArguments a b) (IsAhead t.Semicolon) (optional_arguments a) (optional_arguments b)
optional_arguments_tell a b = option_tells optional_arguments refl (λ x. begins_another t.Semicolon (in_parentheses x) refl) (λ x y. under (in_parentheses_tells x y)) a b
