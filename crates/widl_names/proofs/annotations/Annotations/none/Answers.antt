use Rattle.std.proofs.Common.{refl}
use Rattle.widl_names.proofs.SaidNotes.{says_none}
use Rattle.widl_names.proofs.annotations.Annotations.none.Goals as goal

pub returns : goal.returns
returns c = says_none _ refl refl refl refl
