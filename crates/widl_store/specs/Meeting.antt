-- For proofs alone. What a put answers where it meets this.
use Rattle.std.specs.declared.result.Result.{Result}
use Rattle.std.specs.declared.result.Result.TheVariants.{Ok, Err}
use Rattle.widl_store.specs.declared.effects.Put.{Put}
use Rattle.widl_store.specs.declared.effects.Put.TheVariants as puts
use Rattle.widl_store.specs.declared.effects.PutFault.{PutFault}
use Rattle.widl_store.specs.declared.effects.PutFault.TheVariants as faults
use Rattle.widl_store.specs.declared.meets.Meets.{Meets}
use Rattle.widl_store.specs.declared.meets.Meets.TheVariants.{Way, ReadOnly, NoSetter, Setter}
use Rattle.widl_value.specs.declared.value.Value.{Value}

abbrev pub answer_of : Meets → Value → Result Put PutFault
answer_of Way value = Ok puts.Done
answer_of (ReadOnly flags) value = Err (faults.ReadOnly flags)
answer_of NoSetter value = Err faults.NoSetter
answer_of (Setter setter) value = Ok (puts.Setter setter value)
