use Rattle.std.proofs.Common.{arith, sym, ◌∙◌, ap, subst, ◌≡◌, Bool, true, false}
use Rattle.widl_lines.specs.declared.grammar.Rule.TheVariants as rule
use Rattle.widl_script_reader.specs.ReadExpressions.{is_link, Holds, member_tail}
use Rattle.widl_script_words.specs.Reading.{part}
use Rattle.widl_script_reader.proofs.Growing.{widens_then}
use Rattle.widl_script_reader.proofs.BuiltExpressions.{member_begun, member_goes_on, member_over, member_found, never_ended}
use Rattle.widl_script_reader.proofs.nodes.Nodes.member.Goals as goal

pub links-init : goal.links-init
links-init c = record { is = λ e. absurd (let bad : false ≡ true = e in cc); shorter = c.in_ok-place.ensures.shorter; grown = c.in_ok-place.ensures.grown; tree = member_begun _ _ _ _ c.in_ok-place.ensures.tree; paid = c.in_ok-place.ensures.paid }

pub links-preserved : goal.links-preserved
links-preserved c = record {
  shorter = omega (arith, c.links.invariant.shorter, c.in_ok-place-2.ensures.shorter);
  is = λ e. c.in_ok-place-2.ensures.member (sym c.ends_member-ended.ensures ∙ e);
  grown = widens_then c.links.invariant.grown c.in_ok-place-2.ensures.grown;
  tree = member_goes_on c.links.ended c.ends_member-ended.result c.in-Some.link _ _ _ _ _ _ _ c.ends_member-ended.ensures (sym c.ahead.ensures ∙ c.in-Some.ensures) c.links.invariant.tree c.in_ok-place-2.ensures.grown.grown c.in_ok-place-2.ensures.tree;
  paid = omega (arith, c.links.invariant.paid, c.in_ok-place-2.ensures.paid);
}

pub returns-then-ended-clause-tree : goal.returns-then-ended-clause-tree
returns-then-ended-clause-tree c = member_found c.member_at.result _ _ _ _ c.member_at.ensures (c.links.invariant.is c.if-ended.true) (member_over c.links.ended _ _ _ _ (ap is_link (sym c.ahead.ensures) ∙ c.in_default.ensures) c.links.invariant.tree)

pub returns-clause-tree : goal.returns-clause-tree
returns-clause-tree c = never_ended _ _ _ _ (ap is_link (sym c.ahead.ensures) ∙ c.in_default.ensures) (subst (λ (b : Bool). Holds (part rule.Member) (part (member_tail b)) c.links.self c.links.place c.args.reader.now c.links.reader) c.if-ended.false c.links.invariant.tree)
