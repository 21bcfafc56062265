-- The trees of a script that is put together by hand: `do N.f(o.a[1], "x")`.
use Rattle.std.proofs.Common.{◌≡◌, List, [], ◌∷◌, refl}
use Rattle.std.specs.Prelude.{codes, pos}
use Rattle.widl_value.specs.declared.number.Number.TheVariants.{Whole}
use Rattle.widl_script_tree.specs.declared.expression.Expression.TheVariants as node
use Rattle.widl_script_tree.specs.declared.expression.MemberKey.TheVariants as key
use Rattle.widl_script_tree.specs.declared.statement.Statement.TheVariants as line
use Rattle.widl_script_tree.specs.Trees.{UndefinedT, NameT, NumberT, TextT, MemberT, IndexT, CallT, more, none, DoT, then_more, no_statements, ExpressionTree}
use Rattle.widl_script_tree.specs.Tables.{Tables, expression_tree, statement_tree, statements_tree}

abbrev sample : Tables
sample = record {
  expressions = node.Name 0 ∷ node.Member (record { of = 0; key = key.Named 1 }) ∷ node.Name 2 ∷ node.Member (record { of = 2; key = key.Named 3 }) ∷ node.Number (Whole (pos 1)) ∷ node.Member (record { of = 3; key = key.Computed 4 }) ∷ node.Text (codes "x") ∷ node.Item 5 ∷ node.Item 6 ∷ node.Call 1 (record { first = 7; count = 2 }) ∷ [];
  statements = line.Do 9 ∷ line.Item 0 ∷ [];
  functions = [];
  blocks = [];
  names = codes "N" ∷ codes "f" ∷ codes "o" ∷ codes "a" ∷ [];
  owners = [];
  targets = [];
  top = record { first = 1; count = 1 };
}

abbrev first_argument : ExpressionTree
first_argument = IndexT (MemberT (NameT (codes "o")) (codes "a")) (NumberT (Whole (pos 1)))

abbrev call : ExpressionTree
call = CallT (MemberT (NameT (codes "N")) (codes "f")) (more first_argument (more (TextT (codes "x")) none))

space_tree : expression_tree sample 0 ≡ NameT (codes "N")
unfolding expression_tree
space_tree = refl

callee_tree : expression_tree sample 1 ≡ MemberT (NameT (codes "N")) (codes "f")
unfolding expression_tree
callee_tree = refl

object_tree : expression_tree sample 2 ≡ NameT (codes "o")
unfolding expression_tree
object_tree = refl

member_tree : expression_tree sample 3 ≡ MemberT (NameT (codes "o")) (codes "a")
unfolding expression_tree
member_tree = refl

key_tree : expression_tree sample 4 ≡ NumberT (Whole (pos 1))
unfolding expression_tree
key_tree = refl

first_tree : expression_tree sample 5 ≡ first_argument
unfolding expression_tree
first_tree = refl

second_tree : expression_tree sample 6 ≡ TextT (codes "x")
unfolding expression_tree
second_tree = refl

item_tree : expression_tree sample 7 ≡ first_argument
unfolding expression_tree
item_tree = refl

second_item_tree : expression_tree sample 8 ≡ TextT (codes "x")
unfolding expression_tree
second_item_tree = refl

call_tree : expression_tree sample 9 ≡ call
unfolding expression_tree
call_tree = refl

past_tree : expression_tree sample 10 ≡ UndefinedT
unfolding expression_tree
past_tree = refl

statement_tree_0 : statement_tree sample 0 ≡ DoT call
unfolding expression_tree statement_tree
statement_tree_0 = refl

statement_tree_2 : statement_tree sample 2 ≡ DoT UndefinedT
unfolding expression_tree statement_tree
statement_tree_2 = refl

top_tree : statements_tree sample (record { first = 1; count = 1 }) ≡ then_more (DoT call) no_statements
unfolding expression_tree statement_tree
top_tree = refl
