use Rattle.std.proofs.Common.{ap}
use Rattle.widl_value.specs.declared.class.Class.{Class}
use Rattle.widl_tables.specs.Tests.{meets}
use Rattle.widl_tables.proofs.laws.tests_ask_classes.Goals as goal

pub returns : goal.returns
returns c = λ list test v w t opt same. ap (λ (class : Class). meets list test class t opt) same
