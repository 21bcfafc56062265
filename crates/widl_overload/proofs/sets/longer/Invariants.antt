use Rattle.std.proofs.Common.{◌≡◌, ◌++◌, replicate, map}
use Rattle.widl_idl.specs.declared.argument.Optionality.TheVariants.{Variadic}
use Rattle.widl_idl.specs.DefinitionTerms.{arg_term}
use Rattle.widl_idl.specs.Terms.{type_term, type_terms}
use Rattle.widl_overload.specs.sets.Sets.{declared_opts, declared_types}
use Rattle.widl_overload.proofs.sets.longer.Given as goal

abbrev pub invariant-loop-copy : goal.invariant-loop-copy
invariant-loop-copy l = record {
  number : l.tuple.overload ≡ l.fn.number;
  types : type_terms l.tuple.types ≡ declared_types (map arg_term l.fn.args) ++ replicate l._copy (type_term l.last.ty);
  opts : l.tuple.opts ≡ declared_opts (map arg_term l.fn.args) ++ replicate l._copy Variadic;
}
