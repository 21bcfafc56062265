-- Arguments in a row, one argument more.
use Rattle.std.proofs.Common.{◌≡◌, ℕ, ◌+◌, ◌<◌, ◌++◌, zero, suc, List, [], ◌∷◌, length, take, arith, refl, ap, sym, ◌∙◌}
use Rattle.std.specs.Prelude.{Some, slice_get}
use Rattle.std.proofs.lemmas.Option.{same_Some}
use Rattle.widl_idl.specs.declared.argument.Optionality.{Optionality}
use Rattle.widl_idl.specs.DefinitionTerms.{DefsTerm}
use Rattle.widl_idl.specs.Terms.{TypeTerm}
use Rattle.widl_spell.specs.Names.{separated, sign_before}
use Rattle.widl_spell.proofs.JoinedTexts.{one_more_text}
use Rattle.widl_sets.specs.Lines.{argument_text, argument_texts}

texts_suc : (defs : DefsTerm) (types : List TypeTerm) (opts : List Optionality) (i : ℕ) (t : TypeTerm) (o : Optionality) → slice_get types i ≡ Some t → slice_get opts i ≡ Some o
    → argument_texts defs (take (suc i) types) (take (suc i) opts) ≡ argument_texts defs (take i types) (take i opts) ++ argument_text defs t o ∷ []
texts_suc defs [] opts i t o at_t at_o = absurd (cc)
texts_suc defs (u ∷ types) [] i t o at_t at_o = absurd (cc)
texts_suc defs (u ∷ types) (p ∷ opts) zero t o at_t at_o = λ j. argument_text defs (same_Some u t at_t j) (same_Some p o at_o j) ∷ []
texts_suc defs (u ∷ types) (p ∷ opts) (suc i) t o at_t at_o = ap (λ texts. argument_text defs u p ∷ texts) (texts_suc defs types opts i t o at_t at_o)

texts_length : (defs : DefsTerm) (types : List TypeTerm) (opts : List Optionality) (i : ℕ) → i < length types → length opts ≡ length types → length (argument_texts defs (take i types) (take i opts)) ≡ i
texts_length defs [] opts i below paired = absurd (omega (arith, below))
texts_length defs (u ∷ types) [] i below paired = absurd (omega (arith, paired))
texts_length defs (u ∷ types) (p ∷ opts) zero below paired = refl
texts_length defs (u ∷ types) (p ∷ opts) (suc i) below paired = ap suc (texts_length defs types opts i (omega (arith, below)) (omega (arith, paired)))

-- one argument more
pub one_more_argument : (defs : DefsTerm) (sign start old mid new : List ℕ) (types : List TypeTerm) (opts : List Optionality) (i : ℕ) (t : TypeTerm) (o : Optionality) → i < length types → length opts ≡ length types
    → slice_get types i ≡ Some t → slice_get opts i ≡ Some o → mid ≡ old ++ sign_before sign i → new ≡ mid ++ argument_text defs t o
    → old ≡ start ++ separated sign (argument_texts defs (take i types) (take i opts)) → new ≡ start ++ separated sign (argument_texts defs (take (i + 1) types) (take (i + 1) opts))
one_more_argument defs sign start old mid new types opts i t o below paired at_t at_o signed added so =
    let n : suc i ≡ i + 1 = omega arith in
    one_more_text sign start old mid new (argument_texts defs (take i types) (take i opts)) i (argument_text defs t o) (texts_length defs types opts i below paired) signed added so
    ∙ ap (λ ts. start ++ separated sign ts) (sym (texts_suc defs types opts i t o at_t at_o))
    ∙ ap (λ k. start ++ separated sign (argument_texts defs (take k types) (take k opts))) n
