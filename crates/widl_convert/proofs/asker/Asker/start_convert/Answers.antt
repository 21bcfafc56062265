use Rattle.std.proofs.Common.{◌+◌, ap, ◌∙◌}
use Rattle.widl_idl.specs.Terms.{type_term}
use Rattle.widl_steps.specs.Tasks.{Convert}
use Rattle.widl_convert.proofs.ScalarTypes.{stands_as}
use Rattle.widl_convert.proofs.asker.Asker.start_convert.Goals as goal

pub returns-clause-stands : goal.returns-clause-stands
returns-clause-stands c list =
    stands_as list c.start.result (Convert (type_term c.in_ok-ty.ty) c.args.value) (Convert (type_term c.args.ty.now) c.args.value) (c.in_ok-ty.ensures.same list) (c.start.ensures.stands list)

pub returns-clause-rest : goal.returns-clause-rest
returns-clause-rest c list = c.start.ensures.rest list ∙ c.in_ok-ty.ensures.same list

pub returns-clause-quiet : goal.returns-clause-quiet
returns-clause-quiet c list = c.start.ensures.quiet list ∙ ap (λ n. 1 + n) c.in_ok-ty.ensures.load
