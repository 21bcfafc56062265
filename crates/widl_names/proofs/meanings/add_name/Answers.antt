use Rattle.std.proofs.Common.{rules}
use Rattle.std.proofs.lemmas.Map.Text.{hash_map_updates_str}
use Rattle.widl_names.specs.Numbers.{number_in}
use Rattle.widl_names.proofs.Numbers.{kept_new}
use Rattle.widl_names.proofs.meanings.add_name.Goals as goal

pub returns-in_ok-insert : goal.returns-in_ok-insert
returns-in_ok-insert c = λ other. kept_new (number_in c.args.numbers.now) c.args.text.now other c.args.number _ (search rules) (hash_map_updates_str c.args.text.now c.args.numbers.now c.insert.new.self _ c.in_ok-insert.ensures.updates other)
