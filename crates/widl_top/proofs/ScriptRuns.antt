-- Lemmas on what is written where the engine runs a script.
use Rattle.std.proofs.Common.{◌≡◌, ℕ, ◌≤◌, List, [], ◌++◌, append-nil, refl, sym, ap, subst, ◌∙◌, inr, arith}
use Rattle.std.proofs.lemmas.Grind.{flat_map-append}
use Rattle.std.specs.Prelude.{Option}
use Rattle.std.specs.Io.KnownBytes.{append_known}
use Rattle.widl_sink.specs.Causes.{Rose}
use Rattle.widl_sink.specs.Growth.{GrewByPrefix, Sends}
use Rattle.widl_sink.specs.Lines.{ended}
use Rattle.widl_sink.proofs.Grows.{prefix_longer, sends_flushed, sends_torn}
use Rattle.widl_idl.specs.DefinitionTerms.{DefsTerm, defs_term}
use Rattle.widl_idl.specs.MergedSets.{MergedSet}
use Rattle.widl_script_tree.specs.Trees.{ScriptTree}
use Rattle.widl_script.specs.Scripts.{IsScriptOf}
use Rattle.widl_runs.specs.Laws.{HasOneTrace}
use Rattle.widl_runs.specs.Traces.{Ending, EndsDone, EndsStopped, EndsUncaught, IsTrace}
use Rattle.widl_engine.specs.declared.runs.Counts.{Counts}
use Rattle.widl_engine.specs.declared.runs.End.{End}
use Rattle.widl_engine.specs.declared.runs.End.TheVariants as the_end
use Rattle.widl_engine.specs.Outcomes.{FaultsOf, RanAs}
use Rattle.widl_engine.specs.Output as output_state
use Rattle.widl_engine.specs.Output.{bytes_of_lines, output}
use Rattle.widl_top.specs.declared.status.Status.{Status}
use Rattle.widl_top.specs.declared.status.Status.TheVariants as ends
use Rattle.widl_top.specs.Answers.{Answered}
use Rattle.widl_top.specs.Output.{Output}
use Rattle.widl_top.specs.ScriptOutputs.{IsScriptRun, status_of, status_of_end}
use Rattle.widl_top.proofs.Endings.{never, plain_ending}

-- the bytes of lines and then of others
bytes_then : (lines more : List (List ℕ)) → bytes_of_lines (lines ++ more) ≡ bytes_of_lines lines ++ bytes_of_lines more
bytes_then lines more = flat_map-append ended lines more

-- a prefix of the first lines is one of all
prefix_of_all : (a b : Option (List ℕ)) (lines more all : List (List ℕ)) → all ≡ lines ++ more → GrewByPrefix a b (bytes_of_lines lines) → GrewByPrefix a b (bytes_of_lines all)
prefix_of_all a b lines more all is p =
    subst (GrewByPrefix a b) (sym (ap bytes_of_lines is ∙ bytes_then lines more)) (prefix_longer a b (bytes_of_lines lines) (bytes_of_lines more) p)

-- what was written whole is a prefix
prefix_whole : (a b : Option (List ℕ)) (bytes : List ℕ) → b ≡ append_known a bytes → GrewByPrefix a b bytes
prefix_whole a b bytes grew = record { written = bytes; rest = []; whole = sym (append-nil bytes); grew = grew }

module _ (list : DefsTerm) (text : List ℕ) (tree : ScriptTree) (budget : ℕ) (read : IsScriptOf text list tree) (traced : HasOneTrace list tree budget) where
  -- what is written for a trace
  abbrev told : List (List ℕ) → Ending → Output
  told lines end = record { bytes = bytes_of_lines lines; status = status_of end }

  is_run : (lines : List (List ℕ)) (end : Ending) → IsTrace list tree budget lines end → IsScriptRun list text budget (told lines end)
  is_run lines end trace = record { tree = tree; read = read; lines = lines; end = end; trace = trace; output_is = refl }

  module _ (old mid new : Option (List ℕ)) (kept : List ℕ) (before risen now : ℕ) where
    abbrev Said : Status → Type 0
    Said result = Answered (IsScriptRun list text budget) old new before now result

    abbrev Ran : End → Counts → Type 0
    Ran end counts = RanAs list tree budget (output old []) (output mid kept) end counts

    -- all lines were emitted, and the writer was emptied
    whole : (lines : List (List ℕ)) (end : Ending) → IsTrace list tree budget lines end → Sends old mid [] (bytes_of_lines lines) kept → new ≡ append_known mid kept → now ≡ before → Said (status_of end)
    whole lines end trace sent flushed same = inr (
      told lines end,
      is_run lines end trace,
      record {
        later = subst (λ n. before ≤ n) (sym same) (omega (arith));
        status = λ m w. refl;
        wrote = λ m w. sends_flushed old mid new [] (bytes_of_lines lines) kept sent flushed;
        rose = λ e. absurd (never ends.WriteFault (status_of end) (λ p. p) (plain_ending end) e);
        kept = λ w. same;
        torn = λ e. absurd (never ends.WriteFault (status_of end) (λ p. p) (plain_ending end) e);
        short = λ e. absurd (never ends.Memory (status_of end) (λ p. p) (plain_ending end) e);
      },
    )

    -- the sink failed at last
    torn : (lines more all : List (List ℕ)) (end : Ending) → IsTrace list tree budget all end → all ≡ lines ++ more → GrewByPrefix old new (bytes_of_lines lines) → before ≤ now → Rose before now → Said ends.WriteFault
    torn lines more all end trace is grew later rose = inr (
      told all end,
      is_run all end trace,
      record {
        later = later;
        status = λ m w. absurd (w refl);
        wrote = λ m w. absurd (w refl);
        rose = λ e. rose;
        kept = λ w. absurd (w refl);
        torn = λ e. prefix_of_all old new lines more all is grew;
        short = λ e. absurd (let bad : ends.WriteFault ≡ ends.Memory = e in cc);
      },
    )

    -- memory was short after some lines, and the writer was emptied
    short : (lines more all : List (List ℕ)) (end : Ending) → IsTrace list tree budget all end → all ≡ lines ++ more → new ≡ append_known old (bytes_of_lines lines) → now ≡ before → Said ends.Memory
    short lines more all end trace is grew same = inr (
      told all end,
      is_run all end trace,
      record {
        later = subst (λ n. before ≤ n) (sym same) (omega (arith));
        status = λ m w. absurd (m refl);
        wrote = λ m w. absurd (m refl);
        rose = λ e. absurd (let bad : ends.Memory ≡ ends.WriteFault = e in cc);
        kept = λ w. same;
        torn = λ e. absurd (let bad : ends.Memory ≡ ends.WriteFault = e in cc);
        short = λ e. prefix_of_all old new lines more all is (prefix_whole old new (bytes_of_lines lines) grew);
      },
    )

    -- 1. The run ended without a fault of the sink, and what the writer kept was written

    ended_so : (end : End) (counts : Counts) → Ran end counts → FaultsOf before risen end → (end ≡ the_end.WriteFault → ⊥) → new ≡ append_known mid kept → now ≡ risen → Said (status_of_end end)
    ended_so the_end.Done counts ran calm not flushed same = whole ran.lines EndsDone ran.trace ran.emitted flushed (same ∙ calm)
    ended_so the_end.Uncaught counts ran calm not flushed same = whole ran.lines EndsUncaught ran.trace ran.emitted flushed (same ∙ calm)
    ended_so (the_end.Stopped stop) counts ran calm not flushed same = whole ran.lines (EndsStopped stop) ran.trace ran.emitted flushed (same ∙ calm)
    ended_so the_end.WriteFault counts ran calm not flushed same = absurd (not refl)
    ended_so the_end.Memory counts ran calm not flushed same =
        let first = ran.begins traced.some.lines traced.some.end traced.some.trace in
        short ran.lines first.0 traced.some.lines traced.some.end traced.some.trace first.1 (sends_flushed old mid new [] (bytes_of_lines ran.lines) kept ran.emitted flushed) (same ∙ calm)

    pub ended_run : (end : End) (counts : Counts) (result : Status) → result ≡ status_of_end end → Ran end counts → FaultsOf before risen end → (end ≡ the_end.WriteFault → ⊥) → new ≡ append_known mid kept → now ≡ risen → Said result
    ended_run end counts result is ran calm not flushed same = subst Said (sym is) (ended_so end counts ran calm not flushed same)

    -- 2. The same, but what the writer kept wasn't written

    pub broken_run : (end : End) (counts : Counts) → Ran end counts → FaultsOf before risen end → (end ≡ the_end.WriteFault → ⊥) → GrewByPrefix mid new kept → risen ≤ now → Rose risen now → Said ends.WriteFault
    broken_run the_end.Done counts ran calm not grew later rose =
        torn ran.lines [] ran.lines EndsDone ran.trace (sym (append-nil ran.lines)) (sends_torn old mid new [] (bytes_of_lines ran.lines) kept ran.emitted grew) (subst (λ n. n ≤ now) calm later) (subst (λ n. Rose n now) calm rose)
    broken_run the_end.Uncaught counts ran calm not grew later rose =
        torn ran.lines [] ran.lines EndsUncaught ran.trace (sym (append-nil ran.lines)) (sends_torn old mid new [] (bytes_of_lines ran.lines) kept ran.emitted grew) (subst (λ n. n ≤ now) calm later) (subst (λ n. Rose n now) calm rose)
    broken_run (the_end.Stopped stop) counts ran calm not grew later rose =
        torn ran.lines [] ran.lines (EndsStopped stop) ran.trace (sym (append-nil ran.lines)) (sends_torn old mid new [] (bytes_of_lines ran.lines) kept ran.emitted grew) (subst (λ n. n ≤ now) calm later) (subst (λ n. Rose n now) calm rose)
    broken_run the_end.WriteFault counts ran calm not grew later rose = absurd (not refl)
    broken_run the_end.Memory counts ran calm not grew later rose =
        let first = ran.begins traced.some.lines traced.some.end traced.some.trace in
        torn ran.lines first.0 traced.some.lines traced.some.end traced.some.trace first.1 (sends_torn old mid new [] (bytes_of_lines ran.lines) kept ran.emitted grew) (subst (λ n. n ≤ now) calm later) (subst (λ n. Rose n now) calm rose)

    -- 3. The sink failed while the script ran

    failed : (counts : Counts) → Ran the_end.WriteFault counts → FaultsOf before risen the_end.WriteFault → new ≡ mid → now ≡ risen → Said ends.WriteFault
    failed counts ran rose same still =
        let all = traced.some.lines in
        let grew : GrewByPrefix old new (bytes_of_lines all) = subst (λ o. GrewByPrefix old o (bytes_of_lines all)) (sym same) (ran.tears all traced.some.end traced.some.trace) in
        torn all [] all traced.some.end traced.some.trace (sym (append-nil all)) grew (subst (λ n. before ≤ n) (sym still) rose.0) (subst (λ n. Rose before n) (sym still) rose.1)

    pub failed_run : (end : End) (counts : Counts) → Ran end counts → FaultsOf before risen end → end ≡ the_end.WriteFault → new ≡ mid → now ≡ risen → Said ends.WriteFault
    failed_run end counts ran rose is same still = failed counts (subst (λ (e : End). Ran e counts) is ran) (subst (λ (e : End). FaultsOf before risen e) is rose) same still

-- the set is another one that is the same, and the writer kept nothing before
pub ran_over : (a b : MergedSet) (tree : ScriptTree) (budget : ℕ) (old : Option (List ℕ)) (kept : List ℕ) (after : output_state.Output) (end : End) (counts : Counts) → a ≡ b → kept ≡ []
    → RanAs (defs_term a.defs) tree budget (output old kept) after end counts → RanAs (defs_term b.defs) tree budget (output old []) after end counts
ran_over a b tree budget old kept after end counts same none p =
    subst (λ (set : MergedSet). RanAs (defs_term set.defs) tree budget (output old []) after end counts) same
    (subst (λ (w : List ℕ). RanAs (defs_term a.defs) tree budget (output old w) after end counts) none p)
