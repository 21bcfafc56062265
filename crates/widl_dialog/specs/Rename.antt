-- The steps of one set of rules within a larger one: each job has another name there.
use Rattle.widl_dialog.specs.Dialog.{Dialog, End, Say, Steps}

abbrev pub rename : {J I Q A R : Type 0} → (J → I) → Dialog J Q A R → Dialog I Q A R
rename f (End r) = End r
rename f (Say q k) = Say q (λ a. rename f (k a))
rename f (Steps j k) = Steps (f j) (λ r. rename f (k r))
