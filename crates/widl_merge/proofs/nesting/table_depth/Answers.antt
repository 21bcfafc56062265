use Rattle.std.proofs.Common.{None, Some, refl}
use Rattle.widl_idl.specs.PlainTrees.{plain_definitions}
use Rattle.widl_idl.specs.PlainTypes.{name_of}
use Rattle.widl_merge.proofs.TableDepths.{table_is}
use Rattle.widl_merge.proofs.nesting.table_depth.Goals as goal

pub returns-in-None : goal.returns-in-None
returns-in-None c = table_is (plain_definitions c.args.meanings.now) c.args.depths.now (name_of c.args.name.now) c.as_str.result.now None None c.requires c.as_str.ensures.value c.in-None.ensures refl

pub returns-in-Some : goal.returns-in-Some
returns-in-Some c = table_is (plain_definitions c.args.meanings.now) c.args.depths.now (name_of c.args.name.now) c.as_str.result.now (Some c.in-Some.number) c.depth_in_table.result c.requires c.as_str.ensures.value c.in-Some.ensures c.depth_in_table.ensures
