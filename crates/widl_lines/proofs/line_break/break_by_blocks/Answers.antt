use Rattle.std.proofs.Common.{◌∙◌, ap, sym, subst, map, arith, inl, inr}
use Rattle.widl_first.specs.Keys.{IsFirst}
use Rattle.widl_lines.specs.WordTerms.{lexeme_of}
use Rattle.widl_lines.specs.Stacks.{blocks_of}
use Rattle.widl_lines.specs.Blocks.{is_opening}
use Rattle.widl_lines.specs.Breaks.{break_key, ByBlocks}
use Rattle.widl_lines.proofs.LineBreaks.{too_deep, not_by_blocks, never_none, not_opening}
use Rattle.widl_lines.proofs.Stacking.{same_length}
use Rattle.widl_lines.proofs.line_break.break_by_blocks.Goals as goal

pub returns-then-blocks-ge-MOST_NESTED_BLOCKS : goal.returns-then-blocks-ge-MOST_NESTED_BLOCKS
returns-then-blocks-ge-MOST_NESTED_BLOCKS c =
    subst (IsFirst break_key (ByBlocks (blocks_of c.args.blocks.now) (map lexeme_of c.args.words.now))) (sym c.broken-then-blocks-ge-MOST_NESTED_BLOCKS.ensures)
    (too_deep (blocks_of c.args.blocks.now) (map lexeme_of c.args.words.now) (sym (ap is_opening c.change_by-change.ensures) ∙ sym c.is_opening.ensures ∙ c.if-is_opening.true) (omega (arith, same_length c.args.blocks.now, c.if-blocks-ge-MOST_NESTED_BLOCKS.true)))

pub returns : goal.returns
returns c =
    not_by_blocks (blocks_of c.args.blocks.now) (map lexeme_of c.args.words.now)
    (λ e. never_none c.change_by-change.result _ c.is_none.result c.change_by-change.ensures c.is_none.ensures c.if-is_none.false e)
    (λ opens le. elim c.else-is_opening.either [
      | inl h ↦ omega (arith, same_length c.args.blocks.now, h.1, le)
      | inr h ↦ not_opening _ c.is_opening.result (c.is_opening.ensures ∙ ap is_opening c.change_by-change.ensures) opens h
    ])
