use Rattle.std.proofs.Common.{map, ◌∙◌, sym, arith}
use Rattle.widl_idl.specs.DefinitionTerms.{defs_term, sig_term}
use Rattle.widl_tables.specs.EntriesByNumber.{entries_in}
use Rattle.widl_tables.proofs.Entries.{telling_more}
use Rattle.widl_tables.proofs.telling.telling_place.Goals as goal

pub loop-place-preserved : goal.loop-place-preserved
loop-place-preserved c =
    c.loop-place.invariant
    ∙ telling_more (defs_term c.args.defs.now).ifaces (entries_in (map sig_term c.args.sigs.now) c.args.argcount c.args.overloads.now) c.loop-place.place c.args.argcount (omega arith) (sym c.tells.ensures ∙ c.if-tells.false)
