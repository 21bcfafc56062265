use Rattle.std.proofs.Common.{◌≡◌, ◌∙◌, List, None, Some, ap, subst, sym}
use Rattle.widl_idl.specs.DefinitionTerms.{defs_term}
use Rattle.widl_lines.specs.TextBreaks.{Line, script_lines}
use Rattle.widl_script_rules.specs.LeastBreak.{IsLeastBreak}
use Rattle.widl_script_rules.specs.Surroundings.{plain_lines}
use Rattle.widl_script.proofs.WholeOutcome.{formed, lines_are, read_as, refused_form, refused_rules}
use Rattle.widl_script.proofs.read.read_over.Goals as goal

pub least_break-requires-clause-formed : goal.least_break-requires-clause-formed
least_break-requires-clause-formed c =
    let bytes = c.args.bytes.now in
    let same : plain_lines c.lines.result.now ≡ script_lines bytes = lines_are bytes c.lines.result.now c.in_ok-words.words c.lines.ensures.lines c.in_ok-words.ensures.ok in
    formed bytes (plain_lines c.lines.result.now) same c.in_ok-words.ensures.unbroken

pub returns-in-Some-clause-refused : goal.returns-in-Some-clause-refused
returns-in-Some-clause-refused c =
    let bytes = c.args.bytes.now in
    let list = defs_term c.args.list.now in
    let lines = plain_lines c.lines.result.now in
    let same : lines ≡ script_lines bytes = lines_are bytes c.lines.result.now c.in_ok-words.words c.lines.ensures.lines c.in_ok-words.ensures.ok in
    refused_rules bytes list lines c.in-Some.place same c.in_ok-words.ensures.unbroken (subst (IsLeastBreak list lines) c.in-Some.is c.in_ok-place.ensures)

pub returns-clause-ok : goal.returns-clause-ok
returns-clause-ok c =
    let bytes = c.args.bytes.now in
    let list = defs_term c.args.list.now in
    let lines = plain_lines c.lines.result.now in
    let same : lines ≡ script_lines bytes = lines_are bytes c.lines.result.now c.in_ok-words.words c.lines.ensures.lines c.in_ok-words.ensures.ok in
    read_as bytes list c.in_ok-words.words lines c.in_ok-script_of.field-0 c.in_ok-words.ensures.ok same c.in_ok-words.ensures.unbroken
    (subst (IsLeastBreak list lines) c.in_default.is c.in_ok-place.ensures) c.in_ok-script_of.ensures.tree c.in_ok-script_of.ensures.answers
