use Rattle.std.proofs.Common.{◌≡◌, subst}
use Rattle.std.specs.Prelude.{Some, slice_get}
use Rattle.widl_value.specs.Copies.{IsFront, copied, parts}
use Rattle.widl_value.specs.IdlTerms.{idl_term}
use Rattle.widl_value.proofs.CopiedParts.{front_more, map_ok}
use Rattle.widl_value.proofs.copying.Copying.add.Goals as goal

pub returns-in-Values-clause-front : goal.returns-in-Values-clause-front
returns-in-Values-clause-front c =
    map_ok c.push.result
    (λ pushed. front_more _ _ _ (idl_term c.args.value) (subst IsFront c.in-Values.is c.requires.front) (subst (λ x. slice_get (parts x) (copied x) ≡ Some (idl_term c.args.value)) c.in-Values.is c.requires.next) pushed)
    c.push.ensures.ok

pub returns-in-Entries-clause-front : goal.returns-in-Entries-clause-front
returns-in-Entries-clause-front c = map_ok c.add_entry.result (λ longer. front_more _ _ _ longer.0 (subst IsFront c.in-Entries.is c.requires.front) longer.1 longer.2) c.add_entry.ensures

pub returns-in-Members-clause-front : goal.returns-in-Members-clause-front
returns-in-Members-clause-front c = map_ok c.add_member.result (λ longer. front_more _ _ _ longer.0 (subst IsFront c.in-Members.is c.requires.front) longer.1 longer.2) c.add_member.ensures
