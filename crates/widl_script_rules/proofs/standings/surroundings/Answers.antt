use Rattle.std.proofs.Common.{◌≡◌, ◌+◌, ◌∷◌, ◌∙◌, [], ap, arith, sym, length, length-append, subst}
use Rattle.std.proofs.lemmas.List.{length-map}
use Rattle.widl_script_rules.specs.Surroundings.{plain_line, plain_lines, AreAround}
use Rattle.widl_script_rules.proofs.Surrounding.{moved, pushed, some_line, word_at}
use Rattle.widl_script_rules.proofs.standings.surroundings.Goals as goal

pub lines-preserved : goal.lines-preserved
lines-preserved c =
    let lines = plain_lines c.args.lines.now in
    let found = some_line lines c.lines.place (omega (arith, c.lines-test.true, c.requires.count, length-map c.args.lines.now plain_line)) in
    let line = found.0 in
    let count : length c.push.new.self.items ≡ c.lines.place + 1 =
    ap length c.in_ok-push.ensures.items ∙ length-append c.lines.all.items (c.lines.around ∷ []) ∙ ap (λ n. n + 1) c.lines.invariant.0 in
    let known : AreAround lines c.push.new.self.items =
    subst (AreAround lines) (sym c.in_ok-push.ensures.items) (pushed lines c.lines.all.items c.lines.around c.lines.place c.lines.invariant.0 c.lines.invariant.1 c.lines.invariant.2) in
    let seen : AreAround lines c.deref.result.now = subst (AreAround lines) (sym c.deref.ensures.value) known in (
      count,
      known,
      moved lines c.lines.place _ line _ c.after-around.result found.1 (sym (word_at lines c.args.words.now c.lines.place line _ c.requires.words c.lines-test.true found.1)) (ap length c.deref.ensures.value ∙ count)
          (c.after-around.ensures lines line found.1 (sym (word_at lines c.args.words.now c.lines.place line _ c.requires.words c.lines-test.true found.1)) seen c.lines.invariant.2),
    )
