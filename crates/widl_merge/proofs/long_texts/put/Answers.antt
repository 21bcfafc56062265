use Rattle.std.proofs.lemmas.Map.Text.{hash_map_updates_str}
use Rattle.widl_merge.proofs.KeptTexts.{kept_more}
use Rattle.widl_merge.proofs.long_texts.put.Goals as goal

pub returns : goal.returns
returns c = λ text units found.
    kept_more c.args.text.now text c.args.units units _ _ (hash_map_updates_str c.args.text.now c.args.kept.now c.insert.new.self _ c.in_ok-insert.ensures.updates text) c.requires.units (c.requires.kept text) found
