use Rattle.std.proofs.lemmas.Map.Text.{hash_map_updates_str}
use Rattle.widl_merge.proofs.operation_numbers.keep_number.Goals as goal

pub returns : goal.returns
returns c = λ other. hash_map_updates_str c.args.text.now c.args.numbers.now c.insert.new.self _ c.in_ok-insert.ensures.updates other
