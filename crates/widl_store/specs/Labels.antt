-- For proofs alone. The keys of objects that have few properties.
use Rattle.std.specs.Prelude.{codes}
use Rattle.widl_store.specs.declared.label.Short.{Short}
use Rattle.widl_store.specs.declared.label.Short.TheVariants as shorts
use Rattle.widl_text.specs.declared.key.Key.{Key}
use Rattle.widl_text.specs.declared.key.Key.TheVariants as keys

abbrev pub key_of : Short → Key
key_of shorts.Length = keys.Name (codes "length")
key_of shorts.Name = keys.Name (codes "name")
key_of (shorts.Text units) = keys.Name units.value
key_of (shorts.Sym id) = keys.Sym id
