-- Which types lie inside others: each lies one level further in than the type that it is a part of.
use Rattle.std.specs.Prelude.{◌≡◌, Bool, true, false, List, Contains}
use Rattle.widl_predictive.specs.declared.grammar.Symbol.{Symbol}
use Rattle.widl_predictive.specs.declared.grammar.Symbol.TheVariants.{Token, Part, Inner}
use Rattle.widl_grammar.specs.declared.rule.Rule.{Rule}
use Rattle.widl_grammar.specs.declared.rule.Rule.TheVariants.{WholeType, DistinguishableBase, ExtendedAttributeList, UnionMember, Union, MoreUnionMembers}
use Rattle.widl_grammar.specs.declared.terminal.Terminal.{Terminal}
use Rattle.widl_grammar.specs.Rows.{rows_of}

-- the part lies inside the type whose rule has it: the type that a promise is of; the type that another generic type is of or the value of a record, and the extended attributes before it; each member of a union. The key of a record is a word and no type
abbrev pub lies_inside : Rule → Rule → Bool
lies_inside WholeType WholeType = true
lies_inside WholeType DistinguishableBase = true
lies_inside ExtendedAttributeList DistinguishableBase = true
lies_inside UnionMember Union = true
lies_inside UnionMember MoreUnionMembers = true
lies_inside part rule = false

-- a part of a row has the mark of a level further in exactly where it lies inside
abbrev pub IsMarked : Rule → Symbol Terminal Rule → Type 0
IsMarked rule (Token t) = Unit {0}
IsMarked rule (Part part) = lies_inside part rule ≡ false
IsMarked rule (Inner part) = lies_inside part rule ≡ true

-- so it is in every row
abbrev pub AreMarked : Type 0
AreMarked = (rule : Rule) (row : List (Symbol Terminal Rule)) (symbol : Symbol Terminal Rule) → Contains (rows_of rule) row → Contains row symbol → IsMarked rule symbol
