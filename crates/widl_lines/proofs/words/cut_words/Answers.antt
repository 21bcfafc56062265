use Rattle.std.proofs.Common.{◌∙◌, ◌-◌, sym, refl, arith, length, take, drop, map}
use Rattle.widl_lines.specs.WordTerms.{lexeme_of}
use Rattle.widl_lines.proofs.Cutting.{word_step}
use Rattle.widl_lines.proofs.words.cut_words.Goals as goal

pub loop-rest-preserved : goal.loop-rest-preserved
loop-rest-preserved c = record {
  passed = omega (arith, c.split_at.ensures.front_len, c.split_at.ensures.back_len, c.loop-rest.invariant.passed);
  words = word_step c.args.line.now c.loop-rest.rest.now (take (length c.loop-rest.rest.now - 1) (drop 1 c.loop-rest.rest.now)) c.split_at.result.0.now c.split_at.result.1.now c.loop-rest.context c.next_context-context.result c.loop-rest.column c.shape_of-shape.result (map lexeme_of c.loop-rest.words.items) (map lexeme_of c.push_cut.new.words.items) c.in-len1-up.len_at_least refl (sym c.is_blank.ensures ∙ c.if-is_blank.false) c.shape_of-shape.ensures.value c.shape_of-shape.ensures.most c.split_at.ensures.front c.split_at.ensures.back c.next_context-context.ensures c.in_ok-push_cut.ensures c.loop-rest.invariant.words;
}
