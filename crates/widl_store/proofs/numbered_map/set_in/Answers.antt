use Rattle.std.proofs.Common.{ℕ, sym, ◌∙◌, ap}
use Rattle.std.specs.Map.{lookup, set_value}
use Rattle.std.specs.Option.{option_copied_mut}
use Rattle.widl_store.specs.Created.{Created}
use Rattle.widl_store.specs.Objects.{same_key}
use Rattle.widl_store.proofs.KeyEquality.{test_is, distinct_by_test}
use Rattle.widl_store.proofs.Changing.{written_changes, unchanged}
use Rattle.widl_store.proofs.numbered_map.set_in.Goals as goal

pub returns-in-Some-clause-changed : goal.returns-in-Some-clause-changed
returns-in-Some-clause-changed c =
    let numbered : ℕ → Created = λ n. record { number = n; prop = c.args.prop } in
    (c.get_mut.follows.holds c.new.result).0
    ∙ ap (λ test. set_value test c.args.entries.now.entries c.new.result) (test_is c.args.key.now)
    ∙ ap (set_value (same_key c.args.key.now) c.args.entries.now.entries) (c.new.ensures ∙ ap numbered c.number.ensures)
    ∙ written_changes c.args.key.now c.args.prop c.args.entries.now.entries c.in-Some.held.now (distinct_by_test _ c.get_mut.ensures.unique) (sym (c.in-Some.ensures.value ∙ ap (λ test. lookup test c.args.entries.now.entries) (test_is c.args.key.now)))

pub returns-in_default-clause-changed : goal.returns-in_default-clause-changed
returns-in_default-clause-changed c =
    ap (λ m. m.entries) c.get_mut.follows.holds-at-none
    ∙ sym (unchanged c.args.key.now c.args.prop c.args.entries.now.entries (sym (ap option_copied_mut (sym c.in_default.is) ∙ c.get_mut.ensures.value ∙ ap (λ test. lookup test c.args.entries.now.entries) (test_is c.args.key.now))))
