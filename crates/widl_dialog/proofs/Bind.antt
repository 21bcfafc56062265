-- The laws of `bind`.
use Rattle.std.specs.Prelude.{◌≡◌, refl}
use Rattle.widl_dialog.specs.Dialog.{Dialog, End, Say, Steps, bind}

pub bind_assoc : {J Q A R : Type 0} (d : Dialog J Q A R) (f g : R → Dialog J Q A R) → bind (bind d f) g ≡ bind d (λ r. bind (f r) g)
bind_assoc (End r) f g = refl
bind_assoc (Say q k) f g = λ i. Say q (λ a. bind_assoc (k a) f g i)
bind_assoc (Steps j k) f g = λ i. Steps j (λ r. bind_assoc (k r) f g i)

pub bind_end : {J Q A R : Type 0} (d : Dialog J Q A R) → bind d End ≡ d
bind_end (End r) = refl
bind_end (Say q k) = λ i. Say q (λ a. bind_end (k a) i)
bind_end (Steps j k) = λ i. Steps j (λ r. bind_end (k r) i)
