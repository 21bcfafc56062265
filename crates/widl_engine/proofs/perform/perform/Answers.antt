use Rattle.std.proofs.Common.{refl, subst, sym}
use Rattle.widl_engine.specs.declared.due.Due.{Due}
use Rattle.widl_engine.specs.Frames.{program_of}
use Rattle.widl_engine.specs.Place.{Performs}
use Rattle.widl_engine.proofs.perform.perform.Goals as goal

pub returns-in-Depth : goal.returns-in-Depth
returns-in-Depth c over =
    subst (λ (d : Due). Performs (program_of c.args.tables.now c.args.script.now) c.args.script.now d c.args.store.now c.args.place.now c.args.store.now c.args.place.now c.deepen.result) (sym c.in-Depth.is) (c.deepen.ensures (program_of c.args.tables.now c.args.script.now) c.args.script.now)

pub returns-in-DepthOfNew : goal.returns-in-DepthOfNew
returns-in-DepthOfNew c over =
    subst (λ (d : Due). Performs (program_of c.args.tables.now c.args.script.now) c.args.script.now d c.args.store.now c.args.place.now c.args.store.now c.args.place.now c.deepen_new.result) (sym c.in-DepthOfNew.is) (c.deepen_new.ensures (program_of c.args.tables.now c.args.script.now) c.args.script.now)

pub returns-in-Reach : goal.returns-in-Reach
returns-in-Reach c over =
    subst (λ (d : Due). Performs (program_of c.args.tables.now c.args.script.now) c.args.script.now d c.args.store.now c.args.place.now c.args.store.now c.args.place.now c.reach.result) (sym c.in-Reach.is) (c.reach.ensures (program_of c.args.tables.now c.args.script.now) c.args.script.now)

pub returns-in-Enter : goal.returns-in-Enter
returns-in-Enter c over =
    subst (λ (d : Due). Performs (program_of c.args.tables.now c.args.script.now) c.args.script.now d c.args.store.now c.args.place.now c.args.store.now c.enters.new.place c.enters.result) (sym c.in-Enter.is) (c.enters.ensures (program_of c.args.tables.now c.args.script.now) refl)

pub returns-in-EnterBuiltin : goal.returns-in-EnterBuiltin
returns-in-EnterBuiltin c over =
    subst (λ (d : Due). Performs (program_of c.args.tables.now c.args.script.now) c.args.script.now d c.args.store.now c.args.place.now c.args.store.now c.enters_builtin.new.place c.enters_builtin.result) (sym c.in-EnterBuiltin.is) (c.enters_builtin.ensures (program_of c.args.tables.now c.args.script.now) c.args.script.now)

pub returns-in-ReadThis : goal.returns-in-ReadThis
returns-in-ReadThis c over =
    subst (λ (d : Due). Performs (program_of c.args.tables.now c.args.script.now) c.args.script.now d c.args.store.now c.args.place.now c.args.store.now c.args.place.now c.reads_this.result) (sym c.in-ReadThis.is) (c.reads_this.ensures (program_of c.args.tables.now c.args.script.now) c.args.script.now)

pub returns-in-ReadName : goal.returns-in-ReadName
returns-in-ReadName c over =
    subst (λ (d : Due). Performs (program_of c.args.tables.now c.args.script.now) c.args.script.now d c.args.store.now c.args.place.now c.args.store.now c.args.place.now c.reads_name.result) (sym c.in-ReadName.is) (c.reads_name.ensures (program_of c.args.tables.now c.args.script.now) over)

pub returns-in-Bind : goal.returns-in-Bind
returns-in-Bind c over =
    subst (λ (d : Due). Performs (program_of c.args.tables.now c.args.script.now) c.args.script.now d c.args.store.now c.args.place.now c.args.store.now c.binds_name.new.place c.binds_name.result) (sym c.in-Bind.is) (c.binds_name.ensures (program_of c.args.tables.now c.args.script.now))

pub returns-in-Add : goal.returns-in-Add
returns-in-Add c over =
    subst (λ (d : Due). Performs (program_of c.args.tables.now c.args.script.now) c.args.script.now d c.args.store.now c.args.place.now c.add.new.store c.args.place.now c.add.result) (sym c.in-Add.is) (c.add.ensures (program_of c.args.tables.now c.args.script.now))

pub returns-in-Find : goal.returns-in-Find
returns-in-Find c over =
    subst (λ (d : Due). Performs (program_of c.args.tables.now c.args.script.now) c.args.script.now d c.args.store.now c.args.place.now c.args.store.now c.args.place.now c.finds.result) (sym c.in-Find.is) (c.finds.ensures (program_of c.args.tables.now c.args.script.now) c.args.script.now)

pub returns-in-Put : goal.returns-in-Put
returns-in-Put c over =
    subst (λ (d : Due). Performs (program_of c.args.tables.now c.args.script.now) c.args.script.now d c.args.store.now c.args.place.now c.puts.new.store c.args.place.now c.puts.result) (sym c.in-Put.is) (c.puts.ensures (program_of c.args.tables.now c.args.script.now) c.args.script.now)

pub returns-in-Define : goal.returns-in-Define
returns-in-Define c over =
    subst (λ (d : Due). Performs (program_of c.args.tables.now c.args.script.now) c.args.script.now d c.args.store.now c.args.place.now c.defines.new.store c.args.place.now c.defines.result) (sym c.in-Define.is) (c.defines.ensures (program_of c.args.tables.now c.args.script.now) c.args.script.now)

pub returns-in-FindKeys : goal.returns-in-FindKeys
returns-in-FindKeys c over =
    subst (λ (d : Due). Performs (program_of c.args.tables.now c.args.script.now) c.args.script.now d c.args.store.now c.args.place.now c.args.store.now c.args.place.now c.lists_keys.result) (sym c.in-FindKeys.is) (c.lists_keys.ensures (program_of c.args.tables.now c.args.script.now) c.args.script.now)
