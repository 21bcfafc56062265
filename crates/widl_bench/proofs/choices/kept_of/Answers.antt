use Rattle.std.proofs.Common.{length, ◌<◌, ◌^◌, sym, subst}
use Rattle.widl_idl.specs.declared.defs.Defs.{Defs}
use Rattle.widl_idl.specs.DefinitionTerms.{defs_term}
use Rattle.widl_overload.specs.sets.Entries.{overloads_of}
use Rattle.widl_tables.proofs.FewOverloads.{few_overloads}
use Rattle.widl_bench.proofs.choices.kept_of.Goals as goal

pub kept-requires : goal.kept-requires
kept-requires c =
    record { few = subst (λ (d : Defs). length (overloads_of (defs_term d) c.args.callee.now) < 2 ^ 32) (sym c.defs.ensures.defs) (few_overloads c.args.list.now.defs c.args.callee.now c.defs.ensures.merged.numbered) }
