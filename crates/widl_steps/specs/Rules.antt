-- The steps of each task: all conversions and the choice of an overload, together.
-- Source: the sections named at the head of each file that is cited here.
use Rattle.std.specs.Prelude.{if◌then◌else◌}
use Rattle.widl_idl.specs.DefinitionTerms.{DefsTerm}
use Rattle.widl_idl.specs.Terms.{DictionaryType}
use Rattle.widl_steps.specs.Built.{Built}
use Rattle.widl_steps.specs.Defaults.{default, defaults}
use Rattle.widl_steps.specs.Dictionaries.{members}
use Rattle.widl_steps.specs.Primitives.{to_primitive}
use Rattle.widl_steps.specs.Records.{entries}
use Rattle.widl_steps.specs.Resolution.{resolve, arguments}
use Rattle.widl_steps.specs.Results.{out, out_items, out_units}
use Rattle.widl_steps.specs.Scalars.{to_scalar, convert}
use Rattle.widl_steps.specs.Sequences.{sequence_from, turns}
use Rattle.widl_steps.specs.Tasks.{Task, Primitive, Scalar, Convert, SequenceFrom, Turns, Entries, Members, Resolve, Arguments, Default, Defaults, Out, OutItems, OutUnits, Talk}
use Rattle.widl_steps.specs.Words.{not_built}

-- over a list of definitions, of what is built
abbrev pub rule : Built → DefsTerm → Task → Talk
rule built list (Primitive hint v) = to_primitive hint v
rule built list (Scalar want v) = to_scalar want v
rule built list (Convert t v) = convert built list t v
rule built list (SequenceFrom t o method) = sequence_from t o method
rule built list (Turns t iterator next made) = turns t iterator next made
rule built list (Entries key t o left made) = entries key t o left made
rule built list (Members n o left made) = if built.to_type (DictionaryType n) then members n o left made else not_built
rule built list (Resolve callee args) = resolve list callee args
rule built list (Arguments callee entries place left made) = arguments built list callee entries place left made
rule built list (Default t literal) = default list t literal
rule built list (Defaults callee overload made) = defaults list callee overload made
rule built list (Out t w) = out built list t w
rule built list (OutItems container left made) = out_items container left made
rule built list (OutUnits left container made) = out_units left container made
