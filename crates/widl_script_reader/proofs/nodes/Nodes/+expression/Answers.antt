-- Expressions nest, so they are read by functions that call each other.
use Rattle.std.proofs.Common.{sym, ◌∙◌, ap, arith, refl, length, length-drop}
use Rattle.widl_script_reader.specs.ReadExpressions.{is_link, is_member}
use Rattle.widl_script_reader.proofs.Growing.{widens_then}
use Rattle.widl_script_words.proofs.Parts.{in_ok, in_both, on_ok, on_more}
use Rattle.widl_script_reader.proofs.BuiltExpressions.{call_continues, call_with_holds, begun, goes_on, over, index_continues, array_holds, object_holds, object_of_holds, new_holds, leaf_holds, lists_nothing, lists_more, lists_over, lists_none, lists_some, lists_from, row_holds}
use Rattle.widl_script_reader.proofs.Room.{taken, one_pushed}
use Rattle.widl_script_reader.proofs.nodes.Nodes.+expression.Goals as goal

pub call-returns-clause-tree : goal.call-returns-clause-tree
call-returns-clause-tree t c = in_ok c.put.result _ _ (λ place p. call_continues _ _ _ _ place _ _ _ _ c.requires.begins c.requires.within c.take.ensures c.in_ok-args.ensures.grown.grown c.in_ok-args.ensures.row p) c.put.ensures.put

pub call_with-returns-clause-tree : goal.call_with-returns-clause-tree
call_with-returns-clause-tree t c = in_ok c.put.result _ _ (λ place p. call_with_holds _ _ _ _ _ _ place _ _ _ _ _ _ _ _ c.requires.begins c.take.ensures c.take-2.ensures c.in_ok-callee.ensures.tree c.take-3.ensures c.in_ok-this.ensures.grown.grown c.in_ok-this.ensures.tree c.in_ok-args.ensures.grown.grown c.in_ok-args.ensures.row p) c.put.ensures.put

pub expression-links-init : goal.expression-links-init
expression-links-init t c = record { shorter = c.in_ok-place.ensures.shorter; grown = c.in_ok-place.ensures.grown; tree = begun _ _ _ _ c.in_ok-place.ensures.tree; paid = c.in_ok-place.ensures.paid }

pub expression-links-preserved : goal.expression-links-preserved
expression-links-preserved t c = record {
  shorter = omega (arith, c.links.invariant.shorter, c.in_ok-place-2.ensures.shorter);
  grown = widens_then c.links.invariant.grown c.in_ok-place-2.ensures.grown;
  tree = goes_on c.in-Some.link _ _ _ _ _ _ _ (sym c.ahead.ensures ∙ c.in-Some.ensures) c.links.invariant.tree c.in_ok-place-2.ensures.grown.grown c.in_ok-place-2.ensures.tree;
  paid = omega (arith, c.links.invariant.paid, c.in_ok-place-2.ensures.paid);
}

pub expression-returns-clause-tree : goal.expression-returns-clause-tree
expression-returns-clause-tree t c = over _ _ _ _ (ap is_link (sym c.ahead.ensures) ∙ c.in_default.ensures) c.links.invariant.tree

pub index_member-returns-clause-tree : goal.index_member-returns-clause-tree
index_member-returns-clause-tree t c = in_ok c.put.result _ _ (λ place p. index_continues _ _ _ _ _ place _ _ _ _ c.requires.begins c.requires.within c.take.ensures c.in_ok-expression.ensures.grown.grown c.in_ok-expression.ensures.tree c.take-2.ensures p) c.put.ensures.put

pub items-returns-clause-lists : goal.items-returns-clause-lists
items-returns-clause-lists t c = lists_some _ _ _ _ _ _ _ _ _ (c.is_ahead.ensures.no c.if-is_ahead.false) c.in_ok-place.ensures.tree c.in_ok-more_items.ensures.grown.grown c.new-places.ensures.items c.in_ok-push.ensures.items c.in_ok-more_items.ensures.lists

pub list-returns-clause-row : goal.list-returns-clause-row
list-returns-clause-row t c = in_both c.put_row.result _ _ _ (λ row r grown. row_holds _ _ _ _ row _ _ _ _ _ c.deref.ensures.value c.in_ok-places.ensures.lists c.take.ensures grown.grown r) c.put_row.ensures.row c.put_row.ensures.grown

pub more_items-items-preserved : goal.more_items-items-preserved
more_items-items-preserved t c = record { shorter = omega (arith, c.items.invariant.shorter, c.in_ok-place.ensures.shorter, ap length c.take.ensures, length-drop 1 c.items.reader); grown = widens_then c.items.invariant.grown c.in_ok-place.ensures.grown; lists = lists_more _ _ _ _ _ _ _ _ _ _ c.items.invariant.lists (c.is_ahead.ensures.yes c.items-test.true) c.take.ensures c.in_ok-place.ensures.grown.grown c.in_ok-place.ensures.tree c.in_ok-push.ensures.items; paid = omega (arith, c.items.invariant.paid, c.in_ok-place.ensures.paid, taken c.items.reader _ _ (c.is_ahead.ensures.yes c.items-test.true) refl c.take.ensures, one_pushed _ _ _ c.in_ok-push.ensures.items) }

pub more_items-returns-clause-lists : goal.more_items-returns-clause-lists
more_items-returns-clause-lists t c = lists_over _ _ _ _ _ (c.is_ahead.ensures.no c.items-test.false) c.items.invariant.lists

pub more_list-returns-clause-row : goal.more_list-returns-clause-row
more_list-returns-clause-row t c = in_both c.put_row.result _ _ _ (λ row r grown. row_holds _ _ _ _ row _ _ _ _ _ c.deref.ensures.value (lists_from _ _ _ _ _ _ _ _ c.new-places.ensures.items c.in_ok-more_items.ensures.lists) c.take.ensures grown.grown r) c.put_row.ensures.row c.put_row.ensures.grown

pub new_array-returns-clause-tree : goal.new_array-returns-clause-tree
new_array-returns-clause-tree t c = in_ok c.put.result _ _ (λ place p. array_holds _ _ place _ _ _ _ _ c.requires.begins c.take.ensures c.take-2.ensures c.in_ok-row.ensures.row p) c.put.ensures.put

pub new_object-returns-then-is_ahead-clause-tree : goal.new_object-returns-then-is_ahead-clause-tree
new_object-returns-then-is_ahead-clause-tree t c = in_ok c.put.result _ _ (λ place p. object_holds _ _ place _ _ _ _ c.requires.begins c.take.ensures c.take-2.ensures (c.is_ahead.ensures.yes c.if-is_ahead.true) c.take-then-is_ahead.ensures p) c.put.ensures.put

pub new_object-returns-clause-tree : goal.new_object-returns-clause-tree
new_object-returns-clause-tree t c = in_ok c.put-2.result _ _ (λ place p. object_of_holds _ _ _ place _ _ _ _ _ c.requires.begins c.take.ensures c.take-2.ensures (c.is_ahead.ensures.no c.if-is_ahead.false) c.in_ok-proto.ensures.tree c.take-3.ensures p) c.put-2.ensures.put

pub new_of-returns-clause-tree : goal.new_of-returns-clause-tree
new_of-returns-clause-tree t c = in_ok c.put.result _ _ (λ place p. new_holds _ _ _ _ place _ _ _ _ _ _ c.requires.begins c.take.ensures c.take-2.ensures c.in_ok-callee.ensures.tree c.in_ok-args.ensures.grown.grown c.in_ok-args.ensures.row p) c.put.ensures.put

pub primary-put-requires-clause-lower : goal.primary-put-requires-clause-lower
primary-put-requires-clause-lower t c = c.in-Some.ensures.lower c.args.self.now _

pub primary-returns-in-Some-clause-tree : goal.primary-returns-in-Some-clause-tree
primary-returns-in-Some-clause-tree t c = in_ok c.put.result _ _ (λ place p. leaf_holds _ _ _ _ place _ _ c.ahead-ahead.ensures c.in-Some.ensures c.take.ensures p) c.put.ensures.put

pub index_member-returns-clause-member : goal.index_member-returns-clause-member
index_member-returns-clause-member t c = in_ok c.put.result _ _ (λ place p. ap is_member p.held) c.put.ensures.put

pub new_of-returns-clause-grown : goal.new_of-returns-clause-grown
new_of-returns-clause-grown t c = on_ok c.put.result _ _ (λ place p. widens_then c.in_ok-callee.ensures.grown (widens_then c.in_ok-args.ensures.grown p.widens)) c.put.ensures.put

pub call-returns-clause-grown : goal.call-returns-clause-grown
call-returns-clause-grown t c = on_ok c.put.result _ _ (λ place p. widens_then c.in_ok-args.ensures.grown p.widens) c.put.ensures.put

pub call_with-returns-clause-grown : goal.call_with-returns-clause-grown
call_with-returns-clause-grown t c = on_ok c.put.result _ _ (λ place p. widens_then c.in_ok-callee.ensures.grown (widens_then c.in_ok-this.ensures.grown (widens_then c.in_ok-args.ensures.grown p.widens))) c.put.ensures.put

pub index_member-returns-clause-grown : goal.index_member-returns-clause-grown
index_member-returns-clause-grown t c = on_ok c.put.result _ _ (λ place p. widens_then c.in_ok-expression.ensures.grown p.widens) c.put.ensures.put

pub new_array-returns-clause-grown : goal.new_array-returns-clause-grown
new_array-returns-clause-grown t c = on_ok c.put.result _ _ (λ place p. widens_then c.in_ok-row.ensures.grown p.widens) c.put.ensures.put

pub new_object-returns-clause-grown : goal.new_object-returns-clause-grown
new_object-returns-clause-grown t c = on_ok c.put-2.result _ _ (λ place p. widens_then c.in_ok-proto.ensures.grown p.widens) c.put-2.ensures.put

pub list-returns-clause-grown : goal.list-returns-clause-grown
list-returns-clause-grown t c = on_more c.put_row.result _ _ (λ g. widens_then c.in_ok-places.ensures.grown g) c.put_row.ensures.grown

pub more_list-returns-clause-grown : goal.more_list-returns-clause-grown
more_list-returns-clause-grown t c = on_more c.put_row.result _ _ (λ g. widens_then c.in_ok-more_items.ensures.grown g) c.put_row.ensures.grown

pub items-returns-clause-grown : goal.items-returns-clause-grown
items-returns-clause-grown t c = widens_then c.in_ok-place.ensures.grown c.in_ok-more_items.ensures.grown
