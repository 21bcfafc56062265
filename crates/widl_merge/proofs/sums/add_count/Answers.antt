use Rattle.std.proofs.lemmas.Map.Text.{hash_map_updates_str}
use Rattle.std.proofs.Common.{rules}
use Rattle.widl_merge.proofs.Portioned.{count_kept}
use Rattle.widl_merge.proofs.sums.add_count.Goals as goal

pub returns : goal.returns
returns c = λ other. count_kept c.args.added.now c.insert.new.self c.args.text.now other c.args.size c.plus.result (search rules) (hash_map_updates_str c.args.text.now c.args.added.now c.insert.new.self _ c.in_ok-insert.ensures.updates other)
