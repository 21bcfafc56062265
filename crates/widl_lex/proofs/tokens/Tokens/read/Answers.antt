use Rattle.std.proofs.Common.{refl, sym, subst, arith}
use Rattle.std.specs.Prelude.{IsUtf8, map}
use Rattle.widl_lex.specs.Comments.{NeverCloses}
use Rattle.widl_lex.specs.Tokens.{lexeme_of}
use Rattle.widl_lex.proofs.Cuts.{completes_more, completes_end, cut_into_sound, piece_utf8}
use Rattle.widl_lex.proofs.tokens.Tokens.read.Goals as goal

pub loop-rest-preserved : goal.loop-rest-preserved
loop-rest-preserved c = record {
  whole = c.loop-rest.invariant.whole;
  utf8 = subst IsUtf8 (sym c.split_at.ensures.back) (piece_utf8 c.loop-rest.rest.now c.longest_piece-len.result.1 c.longest_piece-len.result.0 c.loop-rest.invariant.utf8 c.longest_piece-len.ensures).1;
  within = omega arith;
  cut = completes_more c.args.file c.args.bytes.now c.loop-rest.rest.now c.split_at.result.0.now c.split_at.result.1.now c.loop-rest.items.items c.push_piece.new.items.items c.longest_piece-len.result.1 c.longest_piece-len.result.0 _ c.longest_piece-len.ensures c.split_at.ensures.front c.split_at.ensures.back refl c.loop-rest.invariant.within c.in_ok-push_piece.ensures.ok c.loop-rest.invariant.cut;
  unclosed = λ e. subst NeverCloses (sym c.split_at.ensures.back) (c.still_closes-closes.ensures.unclosed e);
}

pub invariant_of-result : goal.invariant_of-result
invariant_of-result c =
    let s = cut_into_sound c.args.file c.args.bytes.now (map lexeme_of c.loop-rest.items.items) c.loop-rest.invariant.whole (completes_end c.args.file c.args.bytes.now c.loop-rest.rest.now c.loop-rest.items.items c.loop-rest-test.ensures c.loop-rest.invariant.cut) in
    record { each = s.each; in_order = s.in_order }

pub returns-clause-tokens : goal.returns-clause-tokens
returns-clause-tokens c = record { file_is = refl; end_is = refl; cut = completes_end c.args.file c.args.bytes.now c.loop-rest.rest.now c.loop-rest.items.items c.loop-rest-test.ensures c.loop-rest.invariant.cut }

pub returns-clause-slices : goal.returns-clause-slices
returns-clause-slices c = (cut_into_sound c.args.file c.args.bytes.now (map lexeme_of c.loop-rest.items.items) c.loop-rest.invariant.whole (completes_end c.args.file c.args.bytes.now c.loop-rest.rest.now c.loop-rest.items.items c.loop-rest-test.ensures c.loop-rest.invariant.cut)).slices

pub returns-clause-in_order : goal.returns-clause-in_order
returns-clause-in_order c = (cut_into_sound c.args.file c.args.bytes.now (map lexeme_of c.loop-rest.items.items) c.loop-rest.invariant.whole (completes_end c.args.file c.args.bytes.now c.loop-rest.rest.now c.loop-rest.items.items c.loop-rest-test.ensures c.loop-rest.invariant.cut)).in_order
