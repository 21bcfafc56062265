-- Texts in a row, one text more.
use Rattle.std.proofs.Common.{◌≡◌, ℕ, ◌+◌, ◌<◌, ◌++◌, cond, List, [], ◌∷◌, length, take, map, get_or, arith, refl, sym, ap, ◌∙◌, append-nil}
use Rattle.std.specs.List.{flat_map}
use Rattle.std.proofs.lemmas.Bool.{ne_eqb}
use Rattle.std.proofs.lemmas.List.{append_assoc, length-map, length-take-le}
use Rattle.std.proofs.lemmas.List.Concat.{flat_map-append}
use Rattle.widl_idl.specs.declared.types.IdlType.{IdlType}
use Rattle.widl_idl.specs.DefinitionTerms.{DefsTerm}
use Rattle.widl_idl.specs.Terms.{TypeTerm, packed, type_term}
use Rattle.widl_idl.proofs.Members.{terms_more}
use Rattle.widl_spell.specs.Names.{separated, sign_before}
use Rattle.widl_spell.specs.TypeTexts.{member_texts, type_text}

separated_push : (sign : List ℕ) (texts : List (List ℕ)) (text : List ℕ) → separated sign (texts ++ text ∷ []) ≡ separated sign texts ++ (sign_before sign (length texts) ++ text)
separated_push sign [] text = append-nil text
separated_push sign (first ∷ texts) text =
    ap (λ xs. first ++ xs) (flat_map-append (λ t. sign ++ t) texts (text ∷ []) ∙ ap (λ xs. flat_map (λ t. sign ++ t) texts ++ xs) (append-nil (sign ++ text)))
    ∙ sym (append_assoc first (flat_map (λ t. sign ++ t) texts) (sign ++ text))
    ∙ ap (λ b. (first ++ flat_map (λ t. sign ++ t) texts) ++ (cond b [] sign ++ text)) (sym (ne_eqb (length (first ∷ texts)) 0 (λ e. absurd (omega (arith, e)))))

-- one text more, with the sign before it
pub one_more_text : (sign start old mid new : List ℕ) (texts : List (List ℕ)) (i : ℕ) (text : List ℕ) → length texts ≡ i → mid ≡ old ++ sign_before sign i → new ≡ mid ++ text → old ≡ start ++ separated sign texts
    → new ≡ start ++ separated sign (texts ++ text ∷ [])
one_more_text sign start old mid new texts i text size signed added so =
    added ∙ ap (λ xs. xs ++ text) (signed ∙ ap (λ xs. xs ++ sign_before sign i) so)
    ∙ append_assoc (start ++ separated sign texts) (sign_before sign i) text
    ∙ append_assoc start (separated sign texts) (sign_before sign i ++ text)
    ∙ ap (λ xs. start ++ xs) (ap (λ n. separated sign texts ++ (sign_before sign n ++ text)) (sym size) ∙ sym (separated_push sign texts text))

-- the texts of members, of types in a list
member_texts_of : (defs : DefsTerm) (ts : List TypeTerm) → member_texts defs (packed ts) ≡ map (type_text defs) ts
member_texts_of defs [] = refl
member_texts_of defs (t ∷ ts) = ap (λ texts. type_text defs t ∷ texts) (member_texts_of defs ts)

member_texts_push : (defs : DefsTerm) (ts : List TypeTerm) (t : TypeTerm) → member_texts defs (packed (ts ++ t ∷ [])) ≡ member_texts defs (packed ts) ++ type_text defs t ∷ []
member_texts_push defs [] t = refl
member_texts_push defs (u ∷ ts) t = ap (λ texts. type_text defs u ∷ texts) (member_texts_push defs ts t)

-- one member of a union more
pub one_more_member : (defs : DefsTerm) (sign start old mid new : List ℕ) (types : List IdlType) (i : ℕ) (t : IdlType) → i < length types → t ≡ get_or types i t → mid ≡ old ++ sign_before sign i → new ≡ mid ++ type_text defs (type_term t)
    → old ≡ start ++ separated sign (member_texts defs (packed (map type_term (take i types)))) → new ≡ start ++ separated sign (member_texts defs (packed (map type_term (take (i + 1) types))))
one_more_member defs sign start old mid new types i t below is signed added so =
    let texts = member_texts defs (packed (map type_term (take i types))) in
    let size : length texts ≡ i = ap length (member_texts_of defs (map type_term (take i types))) ∙ length-map (map type_term (take i types)) (type_text defs) ∙ length-map (take i types) type_term ∙ length-take-le i types (omega (arith, below)) in
    one_more_text sign start old mid new texts i (type_text defs (type_term t)) size signed added so
    ∙ ap (λ ts. start ++ separated sign ts) (sym (ap (λ ts. member_texts defs (packed ts)) (terms_more types i t below is) ∙ member_texts_push defs (map type_term (take i types)) (type_term t)))
