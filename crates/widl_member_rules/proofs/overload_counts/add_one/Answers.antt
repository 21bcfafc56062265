use Rattle.std.proofs.Common.{rules}
use Rattle.std.proofs.lemmas.Map.Text.{hash_map_updates_str}
use Rattle.widl_member_rules.proofs.Counted.{count_kept}
use Rattle.widl_member_rules.proofs.overload_counts.add_one.Goals as goal

pub returns : goal.returns
returns c = λ other. count_kept c.args.counts.now c.insert.new.self c.args.text.now other _ (search rules) (hash_map_updates_str c.args.text.now c.args.counts.now c.insert.new.self _ c.in_ok-insert.ensures.updates other)
