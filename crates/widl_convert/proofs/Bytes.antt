-- Texts of bytes, by the test of each unit.
use Rattle.std.proofs.Common.{◌≡◌, ℕ, ◌≤◌, Bool, true, false, List, refl, sym}
use Rattle.std.specs.Prelude.{◌↔◌, IsTrue, nat_le}
use Rattle.std.specs.List.{All}
use Rattle.std.proofs.lemmas.Bool.{le-leb, leb-true}
use Rattle.std.proofs.lemmas.List.Elements.{All-weaker}
use Rattle.std.proofs.lemmas.List.Sums.{AllPass-from_list_all, list_all-from_AllPass}
use Rattle.widl_steps.specs.Scalars.{is_bytes}

untrue : (b : Bool) → (b ≡ true → false ≡ true) → b ≡ false
untrue true h = sym (h refl)
untrue false h = refl

pub is_bytes_of : (b : Bool) (units : List ℕ) → IsTrue b ↔ All (λ u. u ≤ 255) units → is_bytes units ≡ b
is_bytes_of true units x =
    list_all-from_AllPass (λ u. nat_le u 255) units (All-weaker (λ u. u ≤ 255) (λ u. nat_le u 255 ≡ true) (λ u le. le-leb u 255 le) units (x.0 refl))
is_bytes_of false units x =
    untrue (is_bytes units) (λ e. x.1 (All-weaker (λ u. nat_le u 255 ≡ true) (λ u. u ≤ 255) (λ u le. leb-true u 255 le) units (AllPass-from_list_all (λ u. nat_le u 255) units e)))
