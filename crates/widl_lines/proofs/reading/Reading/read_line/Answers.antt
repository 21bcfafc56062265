use Rattle.std.proofs.Common.{◌+◌, length}
use Rattle.widl_lines.specs.LineTerms.{state_of}
use Rattle.widl_lines.proofs.Leaving.{refused_read, passed_read}
use Rattle.widl_lines.proofs.reading.Reading.read_line.Goals as goal

pub returns-in-Some-clause-refused : goal.returns-in-Some-clause-refused
returns-in-Some-clause-refused c = refused_read (state_of c.args.self.now) c.args.number (length c.args.line.now + 1) _ c.in_ok-words.words.items c.deref-2.result.now c.deref-in-Some.result.now _ c.in_ok-found.field-0 c.in-Some.found _ c.in_ok-words.ensures c.in_ok-words.words.ok.0 c.if-is_empty.ensures c.deref-2.ensures.value c.deref-in-Some.ensures.value c.in_ok-found.ensures.broken c.in-Some.is c.place_in.ensures

pub returns-clause-ok : goal.returns-clause-ok
returns-clause-ok c = passed_read c.args.self.now.last _ c.args.self.now.open_blocks.items c.pass_line.new.blocks.items c.deref.result.now c.args.self.now.lines.items c.push.new.self.items (record { number = c.args.number; end = length c.args.line.now + 1; inside = c.innermost-inside.result; words = c.in_ok-words.words }) c.deref-2.result.now _ c.in_ok-found.field-0 c.in_ok-words.ensures c.in_ok-words.words.ok.0 c.if-is_empty.ensures c.deref-2.ensures.value c.in_ok-found.ensures.broken c.in_ok-found.ensures.blocks c.in_default.is c.innermost-inside.ensures c.deref.ensures.value c.in_ok-push.ensures.items
