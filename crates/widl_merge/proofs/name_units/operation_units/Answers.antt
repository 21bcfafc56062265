use Rattle.std.proofs.Common.{option_map, ap, sym, ◌∙◌}
use Rattle.std.specs.Str.{chars}
use Rattle.widl_idl.specs.MergedMembers.{operation_text}
use Rattle.widl_idl.specs.PlainTypes.{name_of}
use Rattle.widl_idl.specs.WrittenLiterals.{units_of}
use Rattle.widl_merge.proofs.name_units.operation_units.Goals as goal

pub returns-in-None : goal.returns-in-None
unfolding chars
returns-in-None c = c.new.ensures ∙ ap (λ name. units_of (operation_text (option_map name_of name))) (sym c.in-None.is)
