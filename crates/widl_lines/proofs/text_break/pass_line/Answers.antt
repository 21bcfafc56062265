use Rattle.std.proofs.Common.{sym, map}
use Rattle.widl_lines.specs.WordTerms.{lexeme_of}
use Rattle.widl_lines.proofs.Leaving.{told, seen_broken, none_broken, blocks_changed}
use Rattle.widl_lines.proofs.text_break.pass_line.Goals as goal

pub returns-then-is_some-clause-broken : goal.returns-then-is_some-clause-broken
returns-then-is_some-clause-broken c = seen_broken c.args.blocks.now.items c.deref.result.now _ c.in_ok-found.found c.deref.ensures.value c.in_ok-found.ensures

pub returns-then-is_some-clause-blocks : goal.returns-then-is_some-clause-blocks
returns-then-is_some-clause-blocks c = told c.in_ok-found.found _ (sym c.if-is_some.ensures)

pub returns-clause-broken : goal.returns-clause-broken
returns-clause-broken c = none_broken c.args.blocks.now.items c.deref.result.now _ c.in_ok-found.found c.deref.ensures.value (sym c.if-is_some.ensures) c.in_ok-found.ensures

pub returns-clause-blocks : goal.returns-clause-blocks
returns-clause-blocks c = blocks_changed c.args.blocks.now.items c.apply_change.new.blocks.items c.deref-2.result.now (map lexeme_of c.args.words.now) c.change_by-change.result c.deref-2.ensures.value c.change_by-change.ensures c.in_ok-apply_change.ensures
