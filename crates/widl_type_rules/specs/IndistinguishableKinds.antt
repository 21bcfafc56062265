-- For proofs alone. The kinds of the members of a union that were seen, as tests.
use Rattle.std.specs.Prelude.{Bool, true, false, ◌||◌}
use Rattle.widl_overload.specs.declared.category.Category.{Category}
use Rattle.widl_overload.specs.declared.category.Category.TheVariants.{Never, Undefined, Boolean, Numeric, String, Object, Interface, Function, DictionaryLike, SequenceLike}
use Rattle.widl_type_rules.specs.declared.kinds_seen.KindsSeen.{KindsSeen}

abbrev pub nothing_seen : KindsSeen
nothing_seen = record { some = false; never = false; undefined = false; boolean = false; numeric = false; string = false; object = false; interface = false; function = false; dictionary_like = false; sequence_like = false }

abbrev pub has_objects : KindsSeen → Bool
has_objects s = s.interface || (s.function || (s.dictionary_like || s.sequence_like))

-- whether a kind meets one that was seen, where two interfaces don't count
abbrev pub is_met : KindsSeen → Category → Bool
is_met s Never = s.some
is_met s Undefined = s.never || (s.undefined || s.dictionary_like)
is_met s Boolean = s.never || s.boolean
is_met s Numeric = s.never || s.numeric
is_met s String = s.never || s.string
is_met s Object = s.never || (s.object || has_objects s)
is_met s (Interface n) = s.never || s.object
is_met s Function = s.never || (s.object || s.function)
is_met s DictionaryLike = s.never || (s.object || (s.undefined || s.dictionary_like))
is_met s SequenceLike = s.never || (s.object || s.sequence_like)

-- the kinds with one more
abbrev pub with_kind : KindsSeen → Category → KindsSeen
with_kind s Never = record s { some = true; never = true }
with_kind s Undefined = record s { some = true; undefined = true }
with_kind s Boolean = record s { some = true; boolean = true }
with_kind s Numeric = record s { some = true; numeric = true }
with_kind s String = record s { some = true; string = true }
with_kind s Object = record s { some = true; object = true }
with_kind s (Interface n) = record s { some = true; interface = true }
with_kind s Function = record s { some = true; function = true }
with_kind s DictionaryLike = record s { some = true; dictionary_like = true }
with_kind s SequenceLike = record s { some = true; sequence_like = true }
