-- Lemmas on files that are read one after the other.
use Rattle.std.proofs.Common.{◌≡◌, ℕ, ◌+◌, ◌-◌, ◌<◌, ◌≤◌, List, [], ◌∷◌, ◌++◌, length, drop, refl, sym, ap, ◌∙◌, subst, append_assoc, append-nil, add-one, suc, arith, drop_of_length-le, zero, get_or-drop}
use Rattle.std.specs.Prelude.{Option, Some, None, slice_get}
use Rattle.std.proofs.Math.Seq.{drop-cons}
use Rattle.std.proofs.lemmas.Bool.Decides.{nat_tests}
use Rattle.std.proofs.lemmas.List.{length_push}
use Rattle.std.proofs.lemmas.Option.{get_or_from_slice_get}
use Rattle.widl_folder.specs.Files.{file_at}
use Rattle.widl_folder.specs.Folders.{IsTooLong, next_count}
use Rattle.widl_folder.specs.declared.whole_file.FetchError.{FetchError}
use Rattle.widl_folder.specs.declared.whole_file.FetchError.TheVariants.{Memory, Missing, Failed, TooLong}
use Rattle.std.specs.Prelude.{IsNone, IsSome, IfSome}
use Rattle.widl_top.specs.Readings.{Reading, AllRead, MissingFile, LongFile, with_texts, file_then, read_in_order, StopsFor, Reads, starts_after}
use Rattle.widl_text.specs.Limits.{most_file_bytes}
use Rattle.widl_front.specs.Texts.{named, AreShort}

-- the argument at a place is its name
pub named_here : (words : List (List ℕ)) (i : ℕ) (word : List ℕ) → slice_get words i ≡ Some word → named words i ≡ word
named_here words i word is = get_or_from_slice_get words i word [] is

pub if_told : (P : List (List ℕ × List ℕ) → Type 0) (files : Option (List (List ℕ × List ℕ))) (told : List (List ℕ × List ℕ)) → files ≡ Some told → IfSome files P → P told
if_told P files told is h = subst (λ o. IfSome o P) is h

-- ---- one file

pub short_file : (name bytes : List ℕ) (file : Option (List ℕ)) (others : Reading) → file ≡ Some bytes → length bytes ≤ most_file_bytes → file_then name file others ≡ with_texts (bytes ∷ []) others
short_file name bytes file others is short = ap (λ f. file_then name f others) is ∙ grind (arith, nat_tests)

pub missing_file : (name : List ℕ) (file : Option (List ℕ)) (others : Reading) → IsNone file → file_then name file others ≡ MissingFile name
missing_file name None others none = refl
missing_file name (Some bytes) others none = (cc)

pub long_file : (name : List ℕ) (file : Option (List ℕ)) (others : Reading) → IsTooLong file → IsSome file → file_then name file others ≡ LongFile name
long_file name None others long some = (cc)
long_file name (Some bytes) others long some = grind (arith, nat_tests)

-- ---- one after the other

with_more : (texts more : List (List ℕ)) (reading : Reading) → with_texts texts (with_texts more reading) ≡ with_texts (texts ++ more) reading
with_more texts more (AllRead rest) = ap AllRead (sym (append_assoc texts more rest))
with_more texts more (MissingFile name) = refl
with_more texts more (LongFile name) = refl

pub with_none : (reading : Reading) → reading ≡ with_texts [] reading
with_none (AllRead rest) = refl
with_none (MissingFile name) = refl
with_none (LongFile name) = refl

-- the files from a place on are the one at the place and those after it
pub next_file : (told : List (List ℕ × List ℕ)) (words : List (List ℕ)) (i : ℕ) → i < length words
    → read_in_order told (drop i words) ≡ file_then (named words i) (file_at told (named words i)) (read_in_order told (drop (i + 1) words))
next_file told words i below = rw add-one (ap (read_in_order told) (drop-cons words i [] below))

-- one more was read
pub one_read : (files : Option (List (List ℕ × List ℕ))) (told : List (List ℕ × List ℕ)) (words old new : List (List ℕ)) (i : ℕ) (whole : Reading) → i < length words
    → files ≡ Some told → Reads files (named words i) old new → whole ≡ with_texts old (read_in_order told (drop i words))
    → whole ≡ with_texts new (read_in_order told (drop (i + 1) words))
one_read files told words old new i whole below is reads so_far =
    so_far ∙ ap (with_texts old) (next_file told words i below ∙ reads.told told is _)
    ∙ with_more old (reads.bytes ∷ []) _ ∙ ap (λ texts. with_texts texts (read_in_order told (drop (i + 1) words))) (sym reads.added)

pub one_more_counted : (old new : List (List ℕ)) (bytes : List ℕ) (i first : ℕ) → first ≤ i → new ≡ old ++ bytes ∷ [] → length old ≡ i - first → length new ≡ i + 1 - first
one_more_counted old new bytes i first from added counted = let one = ap length added ∙ length_push old bytes in omega (arith, one, counted)

pub short_none : (texts : List (List ℕ)) → texts ≡ [] → AreShort texts
short_none texts none j = subst (λ l. length (named l j) ≤ most_file_bytes) (sym none) (omega arith)

short_pushed : (old : List (List ℕ)) (bytes : List ℕ) → AreShort old → length bytes ≤ most_file_bytes → AreShort (old ++ bytes ∷ [])
short_pushed [] bytes so_far short zero = short
short_pushed [] bytes so_far short (suc j) = omega arith
short_pushed (text ∷ texts) bytes so_far short zero = so_far zero
short_pushed (text ∷ texts) bytes so_far short (suc j) = short_pushed texts bytes (λ k. so_far (suc k)) short j

pub short_more : (old new : List (List ℕ)) (bytes : List ℕ) → new ≡ old ++ bytes ∷ [] → AreShort old → length bytes ≤ most_file_bytes → AreShort new
short_more old new bytes added so_far short = subst AreShort (sym added) (short_pushed old bytes so_far short)

-- all were read
pub all_read : (told : List (List ℕ × List ℕ)) (words texts : List (List ℕ)) (i : ℕ) (whole : Reading) → length words ≤ i
    → whole ≡ with_texts texts (read_in_order told (drop i words)) → whole ≡ AllRead texts
all_read told words texts i whole past so_far =
    so_far ∙ ap (λ rest. with_texts texts (read_in_order told rest)) (drop_of_length-le words past) ∙ ap AllRead (append-nil texts)

-- one was not
stopped_texts : (texts : List (List ℕ)) (cause : FetchError) (name : List ℕ) (reading : Reading) → StopsFor cause name reading → StopsFor cause name (with_texts texts reading)
stopped_texts texts (Memory e) name reading stops = tt
stopped_texts texts Failed name reading stops = tt
stopped_texts texts Missing name reading stops = ap (with_texts texts) stops
stopped_texts texts TooLong name reading stops = ap (with_texts texts) stops

pub one_stopped : (told : List (List ℕ × List ℕ)) (words texts : List (List ℕ)) (i : ℕ) (cause : FetchError) (whole : Reading) → i < length words
    → whole ≡ with_texts texts (read_in_order told (drop i words))
    → StopsFor cause (named words i) (file_then (named words i) (file_at told (named words i)) (read_in_order told (drop (i + 1) words)))
    → StopsFor cause (named words i) whole
one_stopped told words texts i cause whole below so_far stops =
    subst (StopsFor cause (named words i)) (sym so_far)
    (stopped_texts texts cause (named words i) _ (subst (StopsFor cause (named words i)) (sym (next_file told words i below)) stops))

-- ---- the number of starts

pub starts_counted : (before more : ℕ) → before + more < 18446744073709551615 → starts_after before more ≡ before + more
starts_counted before zero small = omega arith
starts_counted before (suc more) small = let e : starts_after before more ≡ before + more = starts_counted before more (omega (arith, small)) in omega (arith, e, small)

pub one_start_more : (before middle now i first : ℕ) → first ≤ i → middle ≡ starts_after before (i - first) → now ≡ next_count middle → now ≡ starts_after before (i + 1 - first)
one_start_more before middle now i first from is next =
    let e : i + 1 - first ≡ suc (i - first) = omega arith in next ∙ ap next_count is ∙ ap (starts_after before) (sym e)

-- the file that was started last, of those whose names begin at a place
last_named : (words : List (List ℕ)) (first before now place : ℕ) → first ≤ place → place < length words → length words ≤ 67 → before < 18446744073709551000
    → now ≡ starts_after before (place - first + 1) → named (drop first words) (now - before - 1) ≡ named words place
last_named words first before now place from within most small is =
    let counted : starts_after before (place - first + 1) ≡ before + (place - first + 1) = starts_counted before (place - first + 1) (omega arith) in
    let at : now - before - 1 ≡ place - first = omega (arith, is, counted) in
    let place_is : first + (place - first) ≡ place = omega arith in
    ap (named (drop first words)) at ∙ get_or-drop first words (place - first) [] ∙ ap (named words) place_is

-- the same, by another word for the first place
pub last_named_from : (words : List (List ℕ)) (first n before now place : ℕ) → n ≡ first → n ≤ place → place < length words → length words ≤ 67 → before < 18446744073709551000
    → now ≡ starts_after before (place - n + 1) → named (drop first words) (now - before - 1) ≡ named words place
last_named_from words first n before now place same from within most small is =
    subst (λ k. named (drop k words) (now - before - 1) ≡ named words place) same (last_named words n before now place from within most small is)
