-- Lemmas on a search for a file by its name.
use Rattle.std.proofs.Common.{◌≡◌, ℕ, ◌+◌, List, [], ◌∷◌, drop, sym, ap, ◌∙◌, add-one, suc, true, false, cond}
use Rattle.std.specs.Prelude.{Some, slice_get}
use Rattle.std.specs.Str.{bytes_eq}
use Rattle.std.proofs.Math.Seq.{drop-cons}
use Rattle.std.proofs.lemmas.Option.{slice_get_within, get_or_from_slice_get}
use Rattle.widl_folder.specs.Files.{file_at, bytes_at}

at_place : (files : List (List ℕ × List ℕ)) (i : ℕ) (file : List ℕ × List ℕ) → slice_get files i ≡ Some file → drop i files ≡ file ∷ drop (i + 1) files
at_place files i file is =
    rw add-one (drop-cons files i file (slice_get_within files i file is) ∙ ap (λ z. z ∷ drop (suc i) files) (get_or_from_slice_get files i file file is))

-- the name is that of the file at this place
pub found_here : (files : List (List ℕ × List ℕ)) (name seen : List ℕ) (i : ℕ) (file : List ℕ × List ℕ) → file_at files name ≡ file_at (drop i files) name
    → slice_get files i ≡ Some file → seen ≡ file.0 → bytes_eq seen name ≡ true → file_at files name ≡ Some (bytes_at files i)
found_here files name seen i file inv is e same =
    inv ∙ ap (λ l. file_at l name) (at_place files i file is) ∙ ap (λ b. cond b (Some file.1) (file_at (drop (i + 1) files) name)) (ap (λ s. bytes_eq s name) (sym e) ∙ same)
    ∙ ap (λ f. Some f.1) (sym (get_or_from_slice_get files i file ([], []) is))

-- it isn't
pub found_later : (files : List (List ℕ × List ℕ)) (name seen : List ℕ) (i : ℕ) (file : List ℕ × List ℕ) → file_at files name ≡ file_at (drop i files) name
    → slice_get files i ≡ Some file → seen ≡ file.0 → bytes_eq seen name ≡ false → file_at files name ≡ file_at (drop (i + 1) files) name
found_later files name seen i file inv is e other =
    inv ∙ ap (λ l. file_at l name) (at_place files i file is) ∙ ap (λ b. cond b (Some file.1) (file_at (drop (i + 1) files) name)) (ap (λ s. bytes_eq s name) (sym e) ∙ other)
