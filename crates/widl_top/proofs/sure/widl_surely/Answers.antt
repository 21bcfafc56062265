use Rattle.std.proofs.Common.{arith, refl}
use Rattle.std.specs.Prelude.{◌≢◌}
use Rattle.widl_top.specs.declared.status.Status.TheVariants as ends
use Rattle.widl_top.proofs.sure.widl_surely.Goals as goal

pub returns : goal.returns
returns c m =
    let r : c.widl.result ≢ ends.ReadFault = λ e. (let rose = c.widl.ensures.read_fault e in omega (arith, rose)) in
    let w : c.widl.result ≢ ends.WriteFault = λ e. (let rose = c.widl.ensures.write_fault e in omega (arith, rose)) in
    let p = c.widl.ensures.output c.args.folder.now.files refl m r w in
    (p.output, p.is, p.status)
