-- The cut of a text: what its tokens are, and that there is exactly one.
use Rattle.std.proofs.Common.{◌≡◌, ℕ, zero, suc, ◌+◌, ◌-◌, ◌<◌, ◌≤◌, true, List, [], ◌∷◌, ◌++◌, length, get_or, take, drop, refl, sym, ◌∙◌, ap, subst, arith, eqb-true, take-append-drop, length-drop, append_assoc, append-nil}
use Rattle.std.specs.Prelude.{All, IsUtf8, map, nat_eq}
use Rattle.std.proofs.lemmas.List.{drop-drop, get_or-map, length-map}
use Rattle.widl_text.specs.declared.place.Place.{Place}
use Rattle.widl_lex.specs.declared.token.PieceKind.{PieceKind}
use Rattle.widl_lex.specs.declared.token.PieceKind.TheVariants.{Token as OfToken, Gap}
use Rattle.widl_lex.specs.declared.token.TokenKind.{TokenKind}
use Rattle.widl_lex.specs.declared.token.TokenKind.TheVariants.{Quoted}
use Rattle.widl_lex.specs.declared.token.Token.{Token}
use Rattle.widl_lex.specs.Cut.{Piece, Longest, Cut, none, next}
use Rattle.widl_lex.specs.Tokens.{Lexeme, TokenList, lexeme_of, lexemes_of, tokens_from, IsCutInto, IsSliceOf, InOrder, IsSound, AreSound}
use Rattle.widl_lex.proofs.Computed.{length_take}
use Rattle.widl_lex.proofs.Characters.{utf8_bytes}
use Rattle.widl_lex.proofs.Scans.{longest_scan}
use Rattle.widl_lex.proofs.Whole.{scan_utf8}

-- a longest piece and what it leaves are UTF-8
pub piece_utf8 : (text : List ℕ) (kind : PieceKind) (n : ℕ) → IsUtf8 text → Longest kind n text → IsUtf8 (take n text) × IsUtf8 (drop n text)
piece_utf8 text kind n u long = let all = utf8_bytes text u in let s = longest_scan kind n text all long in scan_utf8 text s.0 n all u s.1

cancel : (u v w : List ℕ) → u ++ v ≡ u ++ w → v ≡ w
cancel [] v w e = e
cancel (x ∷ u) v w e = cancel u v w (let f : u ++ v ≡ u ++ w = cc in f)

pub rest_is : (n : ℕ) (text rest : List ℕ) → text ≡ take n text ++ rest → rest ≡ drop n text
rest_is n text rest e = cancel (take n text) rest (drop n text) (sym e ∙ sym (take-append-drop n text))

-- what holds of the tokens of a cut
pub record Sound (file offset : ℕ) (bytes : List ℕ) (lexemes : List Lexeme) : Type 0 where
  pub each : All (IsSound file) lexemes
  pub slices : All (IsSliceOf bytes) lexemes
  pub in_order : InOrder offset (length bytes) lexemes

All-cons : {X : Type 0} (P : X → Type 0) (x : X) (xs : List X) → P x → All P xs → All P (x ∷ xs)
All-cons P x xs p all zero d lt = p
All-cons P x xs p all (suc k) d lt = all k d (omega arith)

earlier : (a b end : ℕ) (lexemes : List Lexeme) → a ≤ b → InOrder b end lexemes → InOrder a end lexemes
earlier a b end [] le h = omega arith
earlier a b end (l ∷ more) le h = (omega (arith, h.0), h.1)

token_kind : (k : TokenKind) → OfToken k ≡ OfToken Quoted → k ≡ Quoted
token_kind k e = cc

sound_more : (file offset n : ℕ) (kind : PieceKind) (bytes text : List ℕ) (more : List Lexeme) → text ≡ drop offset bytes → IsUtf8 text → Longest kind n text → offset + length text ≡ length bytes → Sound file (offset + n) bytes more → Sound file offset bytes (lexemes_of (record { file = file; at = offset }) kind (take n text) ++ more)
sound_more file offset n Gap bytes text more at u long whole s = record { each = s.each; slices = s.slices; in_order = earlier offset (offset + n) (length bytes) more (omega arith) s.in_order }
sound_more file offset n (OfToken kind) bytes text more at u long whole s =
    let len : length (take n text) ≡ n = length_take n text long.within in
    let token : Lexeme = record { kind = kind; at = record { file = file; at = offset }; text = take n text } in
    record {
      each = All-cons (IsSound file) token more (record { file_is = refl; piece = long.piece; tie = λ q. token_kind kind (long.tie q); utf8 = (piece_utf8 text (OfToken kind) n u long).0 }) s.each;
      slices = All-cons (IsSliceOf bytes) token more (ap (λ i. take i text) (sym len) ∙ ap (take (length (take n text))) at) s.slices;
      in_order = (omega arith, subst (λ i. InOrder (offset + i) (length bytes) more) (sym len) s.in_order);
    }

pub cut_sound : {text : List ℕ} {pieces : List Piece} → Cut text pieces → (file offset : ℕ) (bytes : List ℕ) → text ≡ drop offset bytes → offset + length text ≡ length bytes → IsUtf8 text → Sound file offset bytes (tokens_from file offset pieces)
cut_sound none file offset bytes at whole u = record { each = λ k d lt. absurd (omega arith); slices = λ k d lt. absurd (omega arith); in_order = omega (arith, whole) }
cut_sound (next {text} {more} kind n rest long split cut) file offset bytes at whole u =
    let after : rest ≡ drop n text = rest_is n text rest split in
    let len : length (take n text) ≡ n = length_take n text long.within in
    let left : length rest ≡ length text - n = ap length after ∙ length-drop n text in
    let at_rest : rest ≡ drop (offset + n) bytes = after ∙ ap (drop n) at ∙ drop-drop n offset bytes in
    let later = cut_sound cut file (offset + n) bytes at_rest (omega (arith, whole, left, long.within)) (subst IsUtf8 (sym after) (piece_utf8 text kind n u long).1) in
    sound_more file offset n kind bytes text (tokens_from file (offset + length (take n text)) more) at u long whole (subst (λ i. Sound file (offset + n) bytes (tokens_from file (offset + i) more)) (sym len) later)

-- the token at a place
order_within : (lexemes : List Lexeme) (offset end k : ℕ) (d : Lexeme) → InOrder offset end lexemes → k < length lexemes → (get_or lexemes k d).at.at + length (get_or lexemes k d).text ≤ end
order_within [] offset end k d h lt = absurd (omega arith)
order_within (l ∷ []) offset end zero d h lt = omega (arith, h.1)
order_within (l ∷ []) offset end (suc k) d h lt = absurd (omega arith)
order_within (l ∷ m ∷ more) offset end zero d h lt = omega (arith, h.1.0, order_within (m ∷ more) (l.at.at + length l.text) end 0 d h.1 (omega arith))
order_within (l ∷ m ∷ more) offset end (suc k) d h lt = order_within (m ∷ more) (l.at.at + length l.text) end k d h.1 (omega arith)

token_at : (items : List Token) (k : ℕ) (x : Token) → k < length items → x ≡ get_or items k x → get_or (map lexeme_of items) k (lexeme_of x) ≡ lexeme_of x
token_at items k x lt e = get_or-map lexeme_of items k x (lexeme_of x) lt ∙ sym (ap lexeme_of e)

pub sound_at : (tokens : TokenList) (file end : ℕ) (items : List Token) (k : ℕ) (x : Token) → record { file = file; end = end; lexemes = map lexeme_of items } ≡ tokens → AreSound (record { file = file; end = end; lexemes = map lexeme_of items }) → k < length tokens.lexemes → x ≡ get_or items k x → IsSound tokens.file (lexeme_of x) × (x.at.at + length x.text.now ≤ tokens.end)
sound_at tokens file end items k x view s lt e = subst (λ t. IsSound t.file (lexeme_of x) × (x.at.at + length x.text.now ≤ t.end)) view (here, within)
  where
    below : k < length (map lexeme_of items)
    below = subst (λ t. k < length t.lexemes) (sym view) lt

    inside : k < length items
    inside = omega (arith, below, length-map items lexeme_of)

    here : IsSound file (lexeme_of x)
    here = subst (IsSound file) (token_at items k x inside e) (s.each k (lexeme_of x) below)

    within : x.at.at + length x.text.now ≤ end
    within = subst (λ l. l.at.at + length l.text ≤ end) (token_at items k x inside e) (order_within (map lexeme_of items) 0 end k (lexeme_of x) s.in_order below)

-- the loop: whatever cuts the rest completes what is cut so far
abbrev pub Completes : (file : ℕ) (bytes rest : List ℕ) (items : List Token) → Type 0
Completes file bytes rest items = (more : List Piece) → Cut rest more → IsCutInto file bytes (map lexeme_of items ++ tokens_from file (length bytes - length rest) more)

pub completes_start : (file : ℕ) (bytes : List ℕ) → Completes file bytes bytes []
completes_start file bytes more c = record { pieces = more; cut = c; tokens_are = ap (λ i. tokens_from file i more) (let none_yet : length bytes - length bytes ≡ 0 = omega arith in none_yet) }

pub completes_more : (file : ℕ) (bytes rest text after : List ℕ) (items pushed : List Token) (kind : PieceKind) (n : ℕ) (place : Place) → Longest kind n rest → text ≡ take n rest → after ≡ drop n rest → place ≡ record { file = file; at = length bytes - length rest } → length rest ≤ length bytes → map lexeme_of pushed ≡ map lexeme_of items ++ lexemes_of place kind text → Completes file bytes rest items → Completes file bytes after pushed
completes_more file bytes rest text after items pushed kind n place long front left place_is le push known more c =
    let whole : rest ≡ take n rest ++ after = sym (ap (λ u. take n rest ++ u) left ∙ take-append-drop n rest) in
    let one = known ((kind, take n rest) ∷ more) (next kind n after long whole c) in
    let len : length (take n rest) ≡ n = length_take n rest long.within in
    let left_len : length after ≡ length rest - n = ap length left ∙ length-drop n rest in
    let offset : length bytes - length rest + length (take n rest) ≡ length bytes - length after = omega (arith, len, left_len, long.within) in
    let list : map lexeme_of pushed ++ tokens_from file (length bytes - length after) more ≡ map lexeme_of items ++ tokens_from file (length bytes - length rest) ((kind, take n rest) ∷ more) =
    ap (λ u. u ++ tokens_from file (length bytes - length after) more) (push ∙ ap (λ t. map lexeme_of items ++ lexemes_of place kind t) front)
    ∙ append_assoc (map lexeme_of items) (lexemes_of place kind (take n rest)) (tokens_from file (length bytes - length after) more)
    ∙ ap (λ p. map lexeme_of items ++ (lexemes_of p kind (take n rest) ++ tokens_from file (length bytes - length after) more)) place_is
    ∙ ap (λ i. map lexeme_of items ++ (lexemes_of (record { file = file; at = length bytes - length rest }) kind (take n rest) ++ tokens_from file i more)) (sym offset) in
    record { pieces = one.pieces; cut = one.cut; tokens_are = list ∙ one.tokens_are }

nil_by_length : (w : List ℕ) → true ≡ nat_eq (length w) 0 → w ≡ []
nil_by_length [] e = refl
nil_by_length (x ∷ w) e = let h : length (x ∷ w) ≡ 0 = eqb-true (length (x ∷ w)) 0 (sym e) in absurd (omega arith)

pub completes_end : (file : ℕ) (bytes rest : List ℕ) (items : List Token) → true ≡ nat_eq (length rest) 0 → Completes file bytes rest items → IsCutInto file bytes (map lexeme_of items)
completes_end file bytes rest items e known =
    let r = known [] (subst (λ w. Cut w []) (sym (nil_by_length rest e)) none) in
    record { pieces = r.pieces; cut = r.cut; tokens_are = sym (append-nil (map lexeme_of items)) ∙ r.tokens_are }

pub cut_into_sound : (file : ℕ) (bytes : List ℕ) (lexemes : List Lexeme) → IsUtf8 bytes → IsCutInto file bytes lexemes → Sound file 0 bytes lexemes
cut_into_sound file bytes lexemes u c = subst (Sound file 0 bytes) (sym c.tokens_are) (cut_sound c.cut file 0 bytes refl (omega arith) u)
