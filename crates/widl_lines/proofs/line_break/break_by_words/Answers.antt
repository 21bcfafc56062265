use Rattle.std.proofs.Common.{refl, sym, subst, map}
use Rattle.widl_lines.specs.WordTerms.{lexeme_of}
use Rattle.widl_lines.specs.Breaks.{WordBreaks}
use Rattle.widl_lines.proofs.LineBreaks.{form_first, deep_first, large_before_form, large_before_deep, large_in_line}
use Rattle.widl_lines.proofs.FromMachine.{syntax_of, deep_of, accepted_of, no_break}
use Rattle.widl_lines.proofs.line_break.break_by_words.Goals as goal

pub returns-in-Some : goal.returns-in-Some
returns-in-Some c =
    let fault = syntax_of c.args.start c.args.words.now _ _ _ c.in-Err-Syntax.word c.in-Err-Syntax.field-0-is refl c.requires.terminals c.in-Err-Syntax.ensures.fault in
    subst (WordBreaks c.args.start (map lexeme_of c.args.words.now)) (sym c.broken.ensures) (large_before_form c.args.start (map lexeme_of c.args.words.now) c.in-Some.large c.in-Err-Syntax.word fault c.in-Some.ensures.0 c.in-Some.ensures.1 c.in-Some.ensures.2)

pub returns-in-None : goal.returns-in-None
returns-in-None c =
    let fault = syntax_of c.args.start c.args.words.now _ _ _ c.in-Err-Syntax.word c.in-Err-Syntax.field-0-is refl c.requires.terminals c.in-Err-Syntax.ensures.fault in
    subst (WordBreaks c.args.start (map lexeme_of c.args.words.now)) (sym c.broken-in-None.ensures) (form_first c.args.start (map lexeme_of c.args.words.now) c.in-Err-Syntax.word fault c.in-None.ensures)

pub returns-in-Some-first_large : goal.returns-in-Some-first_large
returns-in-Some-first_large c =
    let fault = deep_of c.args.start c.args.words.now _ _ _ c.in-Err-TooDeep.word c.in-Err-TooDeep.field-0-is refl c.requires.terminals c.in-Err-TooDeep.ensures.fault in
    subst (WordBreaks c.args.start (map lexeme_of c.args.words.now)) (sym c.broken-in-Some-first_large.ensures) (large_before_deep c.args.start (map lexeme_of c.args.words.now) c.in-Some-first_large.large c.in-Err-TooDeep.word fault c.in-Some-first_large.ensures.0 c.in-Some-first_large.ensures.1 c.in-Some-first_large.ensures.2)

pub returns-in-None-first_large : goal.returns-in-None-first_large
returns-in-None-first_large c =
    let fault = deep_of c.args.start c.args.words.now _ _ _ c.in-Err-TooDeep.word c.in-Err-TooDeep.field-0-is refl c.requires.terminals c.in-Err-TooDeep.ensures.fault in
    subst (WordBreaks c.args.start (map lexeme_of c.args.words.now)) (sym c.broken-in-None-first_large.ensures) (deep_first c.args.start (map lexeme_of c.args.words.now) c.in-Err-TooDeep.word fault c.in-None-first_large.ensures)

pub returns-in-Some-first_large-2 : goal.returns-in-Some-first_large-2
returns-in-Some-first_large-2 c =
    subst (WordBreaks c.args.start (map lexeme_of c.args.words.now)) (sym c.broken-in-Some-first_large-2.ensures) (large_in_line c.args.start (map lexeme_of c.args.words.now) c.in-Some-first_large-2.large (accepted_of c.args.start c.args.words.now _ _ refl c.requires.terminals c.in-Ok.ensures.ok) c.in-Some-first_large-2.ensures.1 c.in-Some-first_large-2.ensures.2)

pub returns-in-None-first_large-2 : goal.returns-in-None-first_large-2
returns-in-None-first_large-2 c =
    let accepted = accepted_of c.args.start c.args.words.now _ _ refl c.requires.terminals c.in-Ok.ensures.ok in
    (no_break c.args.start c.args.words.now accepted c.in-None-first_large-2.ensures, accepted)
