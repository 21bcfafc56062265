use Rattle.std.proofs.Common.{◌≡◌, take, [], nat_eq}
use Rattle.std.specs.Prelude.{fold}
use Rattle.indexmap.specs.IndexSet.{insert_key}
use Rattle.widl_script_reader.proofs.blocks.local_params.Given as goal

abbrev pub invariant-loop-name : goal.invariant-loop-name
invariant-loop-name l = l.names ≡ fold (insert_key nat_eq) [] (take l.name-index l.name-items)
