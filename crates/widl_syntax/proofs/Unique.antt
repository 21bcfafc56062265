-- No two trees have the same spelling.
use Rattle.std.proofs.Common.{refl, []}
use Rattle.widl_syntax.specs.OneTree.{EachSpellingHasOneTree}
use Rattle.widl_syntax.proofs.Unique.Definitions.{definitions_tell}
use Rattle.widl_syntax.proofs.Unique.Equal.{equal_definitions}
pub mod Same
pub mod Equal
pub mod Ahead
pub mod Tells
pub mod Items
pub mod Parts
pub mod Numbers
pub mod Names
pub mod Types
pub mod Arguments
pub mod Members
pub mod MemberKinds
pub mod Definitions

pub each_has_one : EachSpellingHasOneTree
each_has_one a b tokens s r = equal_definitions a.definitions b.definitions ((definitions_tell a.definitions b.definitions).tells tokens [] [] s r refl refl).0
