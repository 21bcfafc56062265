use Rattle.std.proofs.lemmas.Result.{IfOk-weaker}
use Rattle.widl_syntax.proofs.build.reader.Reader.argument.Goals as goal

pub returns-then-is_ahead : goal.returns-then-is_ahead
returns-then-is_ahead c = IfOk-weaker c.optional_argument.result _ _ (λ read f. f _ c.in_ok-attributes.ensures.reads (c.is_ahead.ensures.yes c.if-is_ahead.true)) c.optional_argument.ensures

pub returns-else-is_ahead : goal.returns-else-is_ahead
returns-else-is_ahead c = IfOk-weaker c.other_argument.result _ _ (λ read f. f _ c.in_ok-attributes.ensures.reads (c.is_ahead.ensures.no c.if-is_ahead.false)) c.other_argument.ensures
