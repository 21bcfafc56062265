use Rattle.std.proofs.Common.{◌∙◌, ap, Some}
use Rattle.widl_store.proofs.FewProperties.{found_at_place}
use Rattle.widl_store.proofs.few.get_few.Goals as goal

pub returns-in-Some : goal.returns-in-Some
returns-in-Some c = let p = c.in-Some.ensures.some in ap Some c.parts.ensures ∙ found_at_place c.args.key.now c.args.entries.now c.in-Some.place c.index-entries-place.result c.requires p.0 p.1
