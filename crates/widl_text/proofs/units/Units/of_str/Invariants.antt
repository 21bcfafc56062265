use Rattle.std.proofs.Common.{◌≡◌, ◌++◌, length, drop}
use Rattle.std.specs.Str.{chars}
use Rattle.widl_text.specs.Utf16.{utf16_of}
use Rattle.widl_text.proofs.units.Units.of_str.Given as goal

-- the units so far and those of the characters that are left are all the units
abbrev pub invariant-loop-character : goal.invariant-loop-character
invariant-loop-character l = l.items.items ++ utf16_of (drop (length l.yielded) (chars l.text)) ≡ utf16_of (chars l.text)
