use Rattle.std.proofs.Common.{refl, [], ◌∷◌}
use Rattle.widl_grammar.specs.declared.rule.Rule.TheVariants as rule
use Rattle.widl_grammar.specs.declared.terminal.Terminal.TheVariants as terminal
use Rattle.widl_syntax.proofs.Reading.{by_row, by_rest, other_than, in_ok}
use Rattle.widl_syntax.proofs.build.reader.Reader.interface_member.Goals as goal

pub returns-then-is_ahead : goal.returns-then-is_ahead
returns-then-is_ahead c = by_row rule.InterfaceMember terminal.Constructor (c.is_ahead.ensures.yes c.if-is_ahead.true) refl refl c.in_ok-constructor.ensures

pub returns : goal.returns
returns c = in_ok c.partial_interface_member.result _ _ (λ kind f. by_rest rule.InterfaceMember (terminal.Constructor ∷ []) 0 refl refl (other_than terminal.Constructor _ (c.is_ahead.ensures.no c.if-is_ahead.false)) f) c.partial_interface_member.ensures
