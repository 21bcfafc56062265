use Rattle.std.proofs.Common.{sym, ap, ◌∙◌}
use Rattle.std.specs.List.{list_any}
use Rattle.widl_idl.specs.declared.dictionary.Member.{Member}
use Rattle.widl_fits.proofs.Inherited.{any_needed}
use Rattle.widl_fits.proofs.required_members.has_own.Goals as goal

pub returns : goal.returns
returns c = c.any_required.ensures ∙ ap (list_any (λ (m : Member). m.required)) c.as_slice.ensures ∙ sym (any_needed c.args.dict.now.members)
