-- For proofs and contracts alone; no step names these words. The kind of the ask whose answer a suspended conversion waits for.
use Rattle.widl_steps.specs.AskTerms.{AskKind, OfUnit}
use Rattle.widl_convert.specs.declared.asker.Asker.{Asker}
use Rattle.widl_convert.specs.declared.asker.State.{State}
use Rattle.widl_convert.specs.declared.asker.State.TheVariants.{Begins, Waits, Ended}
use Rattle.widl_convert.specs.Waits.{kind_for}

-- where it waits for none, the kind of an ask that takes a charge
abbrev pub kind_at : State → AskKind
kind_at (Begins j) = OfUnit
kind_at (Waits w) = kind_for w
kind_at Ended = OfUnit

abbrev pub kind_in : Asker → AskKind
kind_in asker = kind_at asker.state
