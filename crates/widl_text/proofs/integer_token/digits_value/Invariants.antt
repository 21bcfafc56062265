use Rattle.std.proofs.Common.{◌≡◌, take}
use Rattle.std.specs.Str.Parse.{digits_value}
use Rattle.widl_text.specs.IntegerTokens.{saturated}
use Rattle.widl_text.proofs.integer_token.digits_value.Given as goal

abbrev pub invariant-loop-digit : goal.invariant-loop-digit
invariant-loop-digit l = l.value ≡ saturated (digits_value l.radix (take l.digit-index l.digits))
