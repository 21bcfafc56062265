use Rattle.std.proofs.Common.{◌≡◌, ◌≤◌, ◌+◌, ◌-◌, arith, subst, map}
use Rattle.widl_idl.specs.DefinitionTerms.{defs_term, sig_term}
use Rattle.widl_overload.specs.sets.Numbers.{IsRow}
use Rattle.widl_overload.specs.rules.OverloadRules.{DifferEarly, LacksIndex}
use Rattle.widl_overload.specs.sets.Sets.{effective_tuples, longest}
use Rattle.widl_overload.proofs.DifferingTuples.{smallest_all, smallest_more}
use Rattle.widl_overload.proofs.Rows.{early, lacks, row_of}
use Rattle.widl_overload.proofs.overload_sizes.breaking_lengths.Goals as goal

pub loop-m-preserved : goal.loop-m-preserved
loop-m-preserved c =
    let ifaces = (defs_term c.args.defs.now).ifaces in
    let sigs = map sig_term c.args.sigs.now in
    let tuples = effective_tuples sigs 0 in
    let m = c.loop-m.m in
    let row = c.in_ok-row.row in
    let most = c.requires.most in
    let within : m ≤ longest sigs = omega arith in
    let is_row = c.in_ok-row.ensures.row in
    let fit = row_of sigs c.args.spans.now m row.overloads within c.requires.spans c.in_ok-row.ensures.now in
    let same : m ≡ m + 1 - 1 = omega arith in
    record {
      row = subst (λ k. IsRow ifaces sigs k row) same is_row;
      listed = λ k above below. c.in_ok-row.ensures.listed k (omega arith) below;
      indistinguishable = smallest_more (LacksIndex ifaces tuples) m c.loop-m.indistinguishable c.found_or-indistinguishable.result c.lacks_index-lacks.result c.loop-m.invariant.indistinguishable (lacks ifaces sigs tuples m row.overloads fit row.index c.lacks_index-lacks.result is_row.index c.lacks_index-lacks.ensures) c.found_or-indistinguishable.ensures;
      early = smallest_more (DifferEarly ifaces tuples) m c.loop-m.early c.found_or-early.result row.early c.loop-m.invariant.early (early ifaces sigs tuples m row.overloads fit row.index row.early is_row.index is_row.early) c.found_or-early.ensures;
    }

pub returns : goal.returns
returns c =
    let ifaces = (defs_term c.args.defs.now).ifaces in
    let tuples = effective_tuples (map sig_term c.args.sigs.now) 0 in
    record {
      indistinguishable = smallest_all (LacksIndex ifaces tuples) c.loop-m.m c.args.most c.loop-m.indistinguishable (omega arith) c.loop-m.invariant.indistinguishable;
      early = smallest_all (DifferEarly ifaces tuples) c.loop-m.m c.args.most c.loop-m.early (omega arith) c.loop-m.invariant.early;
    }
