use Rattle.std.proofs.Common.{refl, inl, inr, arith, ap, sym, ◌∙◌, ◌≡◌, ◌<◌, ◌≤◌, length, drop, zero, ◌-◌}
use Rattle.widl_top.specs.Readings.{with_texts, read_in_order, starts_after}
use Rattle.widl_top.proofs.Fetches.{with_none, one_read, one_start_more, one_more_counted, short_none, short_more}
use Rattle.widl_top.proofs.fetching.fetch_all.Goals as goal

pub loop-place-init : goal.loop-place-init
loop-place-init g c =
    let none : c.args.first - c.args.first ≡ zero = omega arith in
    record {
      count = ap length c.new-texts.ensures ∙ sym none;
      short = short_none _ c.new-texts.ensures;
      read = λ told is. with_none _ ∙ ap (λ texts. with_texts texts (read_in_order told (drop c.args.first c.args.words.now))) (sym c.new-texts.ensures);
      given = inl refl;
      faults = refl;
      misses = refl;
      starts = ap (starts_after (g.F.Folder.starts c.args.folder.now)) (sym none);
      files = refl;
    }

pub loop-place-preserved : goal.loop-place-preserved
loop-place-preserved g c =
    let i = c.loop-place.invariant in
    let below : c.loop-place.place < length c.args.words.now = omega (arith, c.loop-place-test.true, c.len-place-end.ensures) in
    let from : c.args.first ≤ c.loop-place.place = c.loop-place.auto.place in
    record {
      count = one_more_counted _ _ _ c.loop-place.place c.args.first from c.in_ok-fetch_one.ensures.reads.added i.count;
      short = short_more _ _ _ c.in_ok-fetch_one.ensures.reads.added i.short c.in_ok-fetch_one.ensures.reads.short;
      read = λ told is. one_read _ told c.args.words.now _ _ c.loop-place.place _ below (i.files ∙ is) c.in_ok-fetch_one.ensures.reads (i.read told is);
      given = inr c.in_ok-fetch_one.ensures.given_ok;
      faults = c.in_ok-fetch_one.ensures.failed.kept (λ e. e) ∙ i.faults;
      misses = c.in_ok-fetch_one.ensures.missing.kept (λ e. e) ∙ i.misses;
      starts = one_start_more _ _ _ c.loop-place.place c.args.first from i.starts c.in_ok-fetch_one.ensures.starts;
      files = c.in_ok-fetch_one.ensures.files ∙ i.files;
    }
