use Rattle.std.proofs.Common.{ap, arith, sym, subst, ◌∙◌, ◌-◌, ◌<◌, ◌≤◌, drop, length}
use Rattle.widl_top.specs.Outputs.{IsReadingOutput, IsCommandOutput}
use Rattle.widl_top.specs.Readings.{StopsAt, read_in_order}
use Rattle.widl_top.specs.Requests.{first_name}
use Rattle.widl_front.specs.Texts.{named}
use Rattle.widl_top.proofs.Endings.{plain_command, read_ends, never_usage, stopped_ends, answers_named}
use Rattle.widl_top.proofs.Fetches.{named_here, last_named_from}
use Rattle.widl_top.proofs.Names.{names_first, names_most, texts_named}
use Rattle.widl_top.proofs.top.answer_files.Goals as goal

pub fetch_all-requires : goal.fetch_all-requires
fetch_all-requires g c = let below : first_name c.args.command < length c.args.words.now = names_first c.args.command _ c.requires.names in omega (arith, below, c.first_name.ensures)

pub answer_texts-requires-clause-texts : goal.answer_texts-requires-clause-texts
answer_texts-requires-clause-texts g c = texts_named c.args.command (length c.args.words.now) _ c.requires.names (c.in-Ok.ensures.count ∙ ap (λ n. length c.args.words.now - n) c.first_name.ensures)

pub returns-in-Ok-clause-ends : goal.returns-in-Ok-clause-ends
returns-in-Ok-clause-ends g c =
    read_ends _ _ _ _ _ _ _ (IsCommandOutput c.args.command c.in-Ok.texts) c.answer_texts.ensures.answered c.answer_texts.ensures.at_once (plain_command c.args.command c.in-Ok.texts)
    (λ told is output p. subst (λ r. IsReadingOutput (IsCommandOutput c.args.command) r output) (sym (ap (λ n. read_in_order told (drop n c.args.words.now)) (sym c.first_name.ensures) ∙ c.in-Ok.ensures.all told is)) p)
    (c.in-Ok.ensures.failed.kept (λ e. e)) (c.in-Ok.ensures.missing.kept (λ e. e)) c.in-Ok.ensures.given_ok

pub returns-in-Ok-clause-usage : goal.returns-in-Ok-clause-usage
returns-in-Ok-clause-usage g c = never_usage _ _ _ _ _ _ c.answer_texts.ensures.answered (plain_command c.args.command c.in-Ok.texts)

pub returns-in-Err-clause-ends : goal.returns-in-Err-clause-ends
returns-in-Err-clause-ends g c =
    let e = c.in-Err.ensures in
    let name = named_here c.args.words.now c.in-Err.unread.place _ c.at.ensures in
    let most : length c.args.words.now ≤ 67 = names_most c.args.command _ c.requires.names in
    stopped_ends _ _ (IsCommandOutput c.args.command) _ _ _ _ (named c.args.words.now c.in-Err.unread.place) c.in-Err.unread.cause _
    (record {
      stops = λ told is. subst (λ n. StopsAt (read_in_order told (drop n c.args.words.now)) c.args.words.now c.in-Err.unread) c.first_name.ensures (e.stops told is);
      faults = e.failed;
      misses = e.missing;
      long = e.given_long;
      not_missing = e.given_missing;
      not_failed = e.given_failed;
      named = λ small. last_named_from c.args.words.now (first_name c.args.command) c.first_name.result _ _ c.in-Err.unread.place c.first_name.ensures e.place.0 e.place.1 most small e.starts;
    })
    (answers_named c.in-Err.unread.cause _ _ (c.as_str-name.ensures.value ∙ sym name) _ _ _ _ _ c.answer_unread.ensures.answers) c.answer_unread.ensures.memory
