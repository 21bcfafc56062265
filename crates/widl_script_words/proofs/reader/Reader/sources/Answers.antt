use Rattle.std.proofs.Common.{refl, sym, ◌∙◌, ap, arith, length, length-drop}
use Rattle.widl_script_words.proofs.Parts.{in_ok}
use Rattle.widl_script_words.proofs.BuiltSteps.{no_sources, first_source, next_source, all_sources}
use Rattle.widl_script_words.proofs.reader.Reader.sources.Goals as goal

pub more-init : goal.more-init
more-init c = first_source _ _ _ _ _ (c.is_ahead.ensures.no c.if-is_ahead.false) c.new-sources.ensures c.in_ok-push.ensures.ok c.in_ok-source.ensures.tree

pub more-preserved : goal.more-preserved
more-preserved c = next_source _ _ _ _ _ _ _ c.more.invariant (c.is_ahead-in-more.ensures.yes c.more-test.true) c.take.ensures c.in_ok-source-2.ensures.tree c.in_ok-push-2.ensures.ok

pub returns : goal.returns
returns c = all_sources _ _ _ c.more.invariant (c.is_ahead-in-more.ensures.no c.more-test.false)
