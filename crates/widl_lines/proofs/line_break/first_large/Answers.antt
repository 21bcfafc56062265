use Rattle.std.proofs.Common.{◌≡◌, ◌∙◌, ◌<◌, true, false, sym, map, get_or, [], length, arith, below_more}
use Rattle.widl_lines.specs.declared.words.Word.{Word}
use Rattle.widl_lines.specs.declared.grammar.Terminal.TheVariants.{Name}
use Rattle.widl_lines.specs.declared.word_form.WordForm.TheVariants.{Bare}
use Rattle.widl_lines.specs.WordTerms.{lexeme_of}
use Rattle.widl_lines.specs.Breaks.{large_of}
use Rattle.widl_lines.proofs.FromMachine.{large_at}
use Rattle.widl_lines.proofs.line_break.first_large.Goals as goal

none : Word
none = record { text = record { ref_ptr = (0, 0); now = [] }; column = 0; form = Bare; terminal = Name }

pub returns-then-is_large_word : goal.returns-then-is_large_word
unfolding none
returns-then-is_large_word c =
    let within : c.loop-place.place < length c.args.words.now = omega (arith, c.requires, c.loop-place-test.true) in
    (c.loop-place-test.true, large_at c.args.words.now c.loop-place.place none within ∙ sym c.is_large_word.ensures ∙ c.if-is_large_word.true, c.loop-place.invariant)

pub loop-place-preserved : goal.loop-place-preserved
unfolding none
loop-place-preserved c =
    let within : c.loop-place.place < length c.args.words.now = omega (arith, c.requires, c.loop-place-test.true) in
    let small : get_or (large_of (map lexeme_of c.args.words.now)) c.loop-place.place false ≡ false = large_at c.args.words.now c.loop-place.place none within ∙ sym c.is_large_word.ensures ∙ c.if-is_large_word.false in
    below_more _ _ c.loop-place.invariant (λ h. (let e : true ≡ false = sym h ∙ small in cc))
