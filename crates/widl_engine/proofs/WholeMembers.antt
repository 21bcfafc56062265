-- For proofs alone. An expression that ends in a member is evaluated as the member.
use Rattle.std.proofs.Common.{◌≡◌, sym, ap, ◌∙◌, refl}
use Rattle.widl_script_tree.specs.declared.expression.Expression.{Expression}
use Rattle.widl_script_tree.specs.declared.expression.Expression.TheVariants as node
use Rattle.widl_script_tree.specs.declared.expression.MemberOf.{MemberOf}
use Rattle.widl_script_tree.specs.Trees.{ExpressionTree, ExpressionTrees, MemberTree, NamedT, ComputedT, whole_member}
use Rattle.widl_script_tree.specs.Tables.{Tables, expression_tree, member_at, opened}
use Rattle.widl_runs.specs.Jobs.{ForRead, ForCall}
use Rattle.widl_runs.specs.Members.{member}
use Rattle.widl_runs.specs.Expressions.{evaluate, call_tree}

call_whole : (m : MemberTree) (args : ExpressionTrees) → call_tree (whole_member m) args ≡ member (ForCall args) m
call_whole (NamedT of name) args = refl
call_whole (ComputedT of key) args = refl

evaluate_whole : (m : MemberTree) → evaluate (whole_member m) ≡ member ForRead m
evaluate_whole (NamedT of name) = refl
evaluate_whole (ComputedT of key) = refl

whole_tree : (s : Tables) (t : ExpressionTree) (n : Expression) (m : MemberOf) → t ≡ opened s (expression_tree s) n → n ≡ node.Member m → t ≡ whole_member (member_at s m)
whole_tree s t n m tree is = tree ∙ ap (λ (k : Expression). opened s (expression_tree s) k) is

pub calls_member : (s : Tables) (t : ExpressionTree) (n : Expression) (m : MemberOf) (args : ExpressionTrees) → t ≡ opened s (expression_tree s) n → n ≡ node.Member m → member (ForCall args) (member_at s m) ≡ call_tree t args
calls_member s t n m args tree is = sym (ap (λ (k : ExpressionTree). call_tree k args) (whole_tree s t n m tree is) ∙ call_whole (member_at s m) args)

pub reads_member : (s : Tables) (t : ExpressionTree) (n : Expression) (m : MemberOf) → t ≡ opened s (expression_tree s) n → n ≡ node.Member m → member ForRead (member_at s m) ≡ evaluate t
reads_member s t n m tree is = sym (ap evaluate (whole_tree s t n m tree is) ∙ evaluate_whole (member_at s m))
