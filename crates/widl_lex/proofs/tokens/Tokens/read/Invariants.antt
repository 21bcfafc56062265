use Rattle.std.proofs.Common.{◌≡◌, ◌≤◌, false, length}
use Rattle.std.specs.Prelude.{IsUtf8}
use Rattle.widl_lex.specs.Comments.{NeverCloses}
use Rattle.widl_lex.proofs.Cuts.{Completes}
use Rattle.widl_lex.proofs.tokens.Tokens.read.Given as goal

abbrev pub invariant-loop-rest : goal.invariant-loop-rest
invariant-loop-rest l = record {
  whole : IsUtf8 l.fn.bytes;
  utf8 : IsUtf8 l.rest;
  within : length l.rest ≤ length l.fn.bytes;
  cut : Completes l.file l.fn.bytes l.rest l.items.items;
  unclosed : l.closes ≡ false → NeverCloses l.rest;
}

abbrev pub decreases-loop-rest : goal.decreases-loop-rest
decreases-loop-rest l = length l.rest
