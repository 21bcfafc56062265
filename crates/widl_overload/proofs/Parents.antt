-- A way along the parents of interfaces, one parent on.
use Rattle.std.proofs.Common.{◌≡◌, ◌≢◌, ℕ, ◌+◌, ◌-◌, ◌<◌, Bool, true, false, cond, suc, List, length, nat_eq, arith, sym, ap, ◌∙◌}
use Rattle.std.specs.Prelude.{Option, Some}
use Rattle.widl_idl.specs.DefinitionTerms.{IfaceTerm}
use Rattle.widl_overload.specs.sets.Inheritance.{is_among, parent_of}

pub step_up : (ifaces : List IfaceTerm) (link n node : ℕ) (at next : Option ℕ) (whole : Bool) → link < length ifaces → at ≡ Some node → node ≢ n → next ≡ parent_of ifaces node
    → is_among ifaces (length ifaces - link) n at ≡ whole → is_among ifaces (length ifaces - (link + 1)) n next ≡ whole
step_up ifaces link n node at next whole below is differs goes so =
    let left : length ifaces - link ≡ suc (length ifaces - (link + 1)) = omega (arith, below) in
    let other : nat_eq node n ≡ false = grind arith in
    ap (is_among ifaces (length ifaces - (link + 1)) n) goes
    ∙ sym (ap (λ b. cond b true (is_among ifaces (length ifaces - (link + 1)) n (parent_of ifaces node))) other)
    ∙ sym (ap (λ k. is_among ifaces k n (Some node)) left) ∙ sym (ap (is_among ifaces (length ifaces - link) n) is) ∙ so
