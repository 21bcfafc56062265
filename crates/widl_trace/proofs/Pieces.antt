-- Texts that are put together piece by piece: what one piece more makes of them, and that no piece is longer than the whole.
use Rattle.std.proofs.Common.{◌≡◌, ℕ, ◌+◌, ◌<◌, ◌≤◌, ◌++◌, cond, zero, suc, List, [], ◌∷◌, length, take, map, get_or, arith, refl, sym, ap, ◌∙◌, append-nil}
use Rattle.std.specs.Prelude.{Some, slice_get, option_map}
use Rattle.std.specs.List.{flat_map}
use Rattle.std.proofs.lemmas.Bool.{ne_eqb}
use Rattle.std.proofs.lemmas.List.{append_assoc, length-append}
use Rattle.std.proofs.lemmas.Option.{same_Some, slice_get-map, slice_get_read}
use Rattle.widl_spell.specs.Names.{separated, sign_before}

-- the pieces before a place and the piece there are no longer than all
pub piece_within : {X : Type 0} (f : X → List ℕ) (xs : List X) (i : ℕ) (x : X) → slice_get xs i ≡ Some x → length (flat_map f (take i xs)) + length (f x) ≤ length (flat_map f xs)
piece_within f [] i x is = absurd (cc)
piece_within f (y ∷ xs) zero x is =
    let e = length-append (f y) (flat_map f xs) in
    let same : length (f y) ≡ length (f x) = ap (λ z. length (f z)) (same_Some y x is) in
    omega (arith, e, same)
piece_within f (y ∷ xs) (suc i) x is =
    let e = length-append (f y) (flat_map f xs) in
    let g = length-append (f y) (flat_map f (take i xs)) in
    let rest = piece_within f xs i x is in
    omega (arith, e, g, rest)

-- one piece more
pub piece_more : {X : Type 0} (f : X → List ℕ) (xs : List X) (i : ℕ) (x : X) → slice_get xs i ≡ Some x → flat_map f (take (i + 1) xs) ≡ flat_map f (take i xs) ++ f x
piece_more f [] i x is = absurd (cc)
piece_more f (y ∷ xs) zero x is = append-nil (f y) ∙ ap f (same_Some y x is)
piece_more f (y ∷ xs) (suc i) x is =
    let n : suc i + 1 ≡ suc (i + 1) = omega arith in
    ap (λ k. flat_map f (take k (y ∷ xs))) n ∙ ap (λ zs. f y ++ zs) (piece_more f xs i x is) ∙ sym (append_assoc (f y) (flat_map f (take i xs)) (f x))

pub sign_later : (sign : List ℕ) (i : ℕ) → sign_before sign (suc i) ≡ sign
sign_later sign i = ap (λ b. cond b [] sign) (ne_eqb (suc i) 0 (λ e. absurd (omega (arith, e))))

-- the texts before a place, the sign and the text there are no longer than all
pub text_within : (sign : List ℕ) (texts : List (List ℕ)) (i : ℕ) (text : List ℕ) → slice_get texts i ≡ Some text → length (separated sign (take i texts)) + (length (sign_before sign i) + length text) ≤ length (separated sign texts)
text_within sign [] i text is = absurd (cc)
text_within sign (first ∷ texts) zero text is =
    let e = length-append first (flat_map (λ t. sign ++ t) texts) in
    let same : length first ≡ length text = ap length (same_Some first text is) in
    omega (arith, e, same)
text_within sign (first ∷ texts) (suc i) text is =
    let e = length-append first (flat_map (λ t. sign ++ t) texts) in
    let g = length-append first (flat_map (λ t. sign ++ t) (take i texts)) in
    let one = length-append sign text in
    let later : length (sign_before sign (suc i)) ≡ length sign = ap length (sign_later sign i) in
    let rest = piece_within (λ t. sign ++ t) texts i text is in
    omega (arith, e, g, one, later, rest)

-- one text more, with the sign before it
pub text_more : (sign : List ℕ) (texts : List (List ℕ)) (i : ℕ) (text : List ℕ) → slice_get texts i ≡ Some text → separated sign (take (i + 1) texts) ≡ separated sign (take i texts) ++ (sign_before sign i ++ text)
text_more sign [] i text is = absurd (cc)
text_more sign (first ∷ texts) zero text is = append-nil first ∙ same_Some first text is
text_more sign (first ∷ texts) (suc i) text is =
    let n : suc i + 1 ≡ suc (i + 1) = omega arith in
    ap (λ k. separated sign (take k (first ∷ texts))) n
    ∙ ap (λ zs. first ++ zs) (piece_more (λ t. sign ++ t) texts i text is)
    ∙ sym (append_assoc first (flat_map (λ t. sign ++ t) (take i texts)) (sign ++ text))
    ∙ ap (λ zs. (first ++ flat_map (λ t. sign ++ t) (take i texts)) ++ (zs ++ text)) (sym (sign_later sign i))

-- the text of an item at a place
pub text_at : {X : Type 0} (f : X → List ℕ) (xs : List X) (i : ℕ) (x : X) → i < length xs → x ≡ get_or xs i x → slice_get (map f xs) i ≡ Some (f x)
text_at f xs i x below is = slice_get-map f xs i ∙ ap (option_map f) (slice_get_read xs (length xs) i x refl below is)
