-- Two trees of one spelling say the same.
use Rattle.std.specs.Prelude.{◌≡◌, List, []}
use Rattle.widl_idl.specs.declared.tree.fragments.Fragment.{Fragment}
use Rattle.widl_idl.specs.PlainTrees.{plain_definitions}
use Rattle.widl_lex.specs.Tokens.{Lexeme}
use Rattle.widl_syntax.specs.Signs.{UnparsesTo}
use Rattle.widl_syntax.specs.UnparsedDefinitions.{fragment}

-- two files that spell the same tokens have equal definitions, as plain terms: where the parts of a tree stand in memory is no part of what it says
abbrev pub EachSpellingHasOneTree : Type 0
EachSpellingHasOneTree = (a b : Fragment) (tokens : List Lexeme) → UnparsesTo (fragment a) tokens [] → UnparsesTo (fragment b) tokens [] → plain_definitions a.definitions ≡ plain_definitions b.definitions
