use Rattle.std.proofs.Common.{subst, sym, length}
use Rattle.widl_script_tree.specs.Tables.{Tables}
use Rattle.widl_script_reader.specs.ReadExpressions.{Widens}
use Rattle.widl_script_reader.specs.ReadLines.{HoldsLine}
use Rattle.widl_script_words.proofs.Parts.{on_more}
use Rattle.widl_script_reader.proofs.BlockLines.{statement_done, held_lower}
use Rattle.widl_script_reader.proofs.frames.Builder.statement_line.Goals as goal

pub add-requires-clause-lower : goal.add-requires-clause-lower
add-requires-clause-lower c =
    let Held : Tables → Type 0 = λ t. HoldsLine t c.in_ok-statement.statement c.args.reader.now c.statement_line.new.reader in
    held_lower _ _ _ _ (subst Held (sym c.in_ok-bind.ensures.nodes) c.in_ok-statement.ensures.tree)

pub returns-clause-done : goal.returns-clause-done
returns-clause-done c =
    let same = sym c.in_ok-bind.ensures.nodes in
    let Held : Tables → Type 0 = λ t. HoldsLine t c.in_ok-statement.statement c.args.reader.now c.statement_line.new.reader in
    let Widened : Tables → Type 0 = λ t. Widens c.args.self.now.nodes t in
    let holds = subst Held same c.in_ok-statement.ensures.tree in
    let widens = subst Widened same c.in_ok-statement.ensures.grown in
    on_more c.add.result _ _ (λ a. statement_done _ _ _ _ _ _ c.requires.sound c.requires.outside c.requires.other holds widens c.in_ok-bind.ensures.frames c.in_ok-bind.ensures.places c.in_ok-bind.ensures.names a) c.add.ensures.added
