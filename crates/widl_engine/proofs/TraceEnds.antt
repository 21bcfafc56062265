-- For proofs alone. What became of a whole run, as its trace.
use Rattle.std.proofs.Common.{◌≡◌, ℕ, ◌+◌, List, [], ◌∷◌, ◌++◌, map, sym, ap, subst, ◌∙◌, refl, arith, append-nil, append_assoc, length-append}
use Rattle.std.proofs.lemmas.List.{map-append, length-map}
use Rattle.widl_dialog.specs.Runs.{Finish, Ended, Halted}
use Rattle.widl_dialog.proofs.Running.{one_outcome}
use Rattle.widl_sink.proofs.Grows.{sends_then, sends_prefix, prefix_longer}
use Rattle.widl_store.specs.Objects.{StoreState}
use Rattle.widl_store.specs.Realm.{realm_of}
use Rattle.widl_trace.specs.EventLines.{line_of}
use Rattle.widl_trace.specs.EventTerms.{EventTerm}
use Rattle.widl_runs.specs.Ends.{JobEnd, Normal, Returned, Thrown, Talked, Seen}
use Rattle.widl_runs.specs.declared.stop.Stop.{Stop}
use Rattle.widl_runs.specs.Actions.{act}
use Rattle.widl_runs.specs.Jobs.{Program}
use Rattle.widl_runs.specs.Rules.{rule}
use Rattle.widl_runs.specs.Traces.{Ending, EndsStopped, ending_of, stop_event, stop_events}
use Rattle.widl_runs.specs.Worlds.{World}
use Rattle.widl_engine.specs.declared.machine.Way.{Way}
use Rattle.widl_engine.specs.declared.machine.Way.TheVariants as way
use Rattle.widl_engine.specs.declared.runs.Counts.{Counts}
use Rattle.widl_engine.specs.declared.runs.End.{End}
use Rattle.widl_engine.specs.declared.runs.End.TheVariants as ends
use Rattle.widl_engine.specs.Outcomes.{IsWhole, IsFirstPart, IsTorn, RanAs}
use Rattle.widl_engine.specs.Output.{Output, Emits, Tears, bytes_of_lines}
use Rattle.widl_engine.specs.declared.ends.JobEnd as job_ends
use Rattle.widl_engine.specs.Frames.{job_end_of}
use Rattle.widl_engine.specs.Running.{bytes_of_events, Finished, Begun, Broken, Became}
use Rattle.widl_engine.specs.Stops.{ends_with, bytes_of_stop, Said}
use Rattle.widl_engine.proofs.WholeRuns.{bytes_append}

module _ (p : Program) (budget : ℕ) where
  -- 1. Runs that end

  whole_ended : (before after : Output) (c : JobEnd) (end : Ending) (counts : Counts) → end ≡ ending_of (Ended c) → Finished p (realm_of p.list) budget before after (Ended c) counts → IsWhole p.list p.script budget before after end counts
  whole_ended before after c end counts is x = record {
    lines = map (line_of p.list) x.world.lines;
    trace = record { world = x.world; finish = Ended c; runs = x.runs; written = ap (map (line_of p.list)) (sym (append-nil x.world.lines)); ended = is };
    emitted = x.emitted;
    events = x.events ∙ sym (length-map x.world.lines (line_of p.list));
    units = x.units;
  }

  pub ended_as : (before after : Output) (c : JobEnd) (counts : Counts) → Finished p (realm_of p.list) budget before after (Ended c) counts → RanAs p.list p.script budget before after (ends_with c) counts
  ended_as before after (Normal v) counts x = whole_ended before after (Normal v) _ counts refl x
  ended_as before after (Returned v) counts x = whole_ended before after (Returned v) _ counts refl x
  ended_as before after (Thrown v) counts x = whole_ended before after (Thrown v) _ counts refl x
  ended_as before after (Talked end) counts x = whole_ended before after (Talked end) _ counts refl x
  ended_as before after (Seen answer) counts x = whole_ended before after (Seen answer) _ counts refl x

  -- 2. Parts

  pub first_part : (before after : Output) → Begun p (realm_of p.list) budget before after → IsFirstPart p.list p.script budget before after
  first_part before after x = record {
    lines = map (line_of p.list) x.events;
    emitted = x.emitted;
    begins = λ all end trace.
        let more = x.begins trace.world trace.finish trace.runs in
        let rest : List EventTerm = more.0 ++ stop_events trace.finish in (
          map (line_of p.list) rest,
          trace.written
              ∙ ap (map (line_of p.list)) (ap (λ (l : List EventTerm). l ++ stop_events trace.finish) more.1 ∙ append_assoc x.events more.0 (stop_events trace.finish))
              ∙ map-append (line_of p.list) x.events rest,
        );
  }

  pub torn_part : (before after : Output) → Broken p (realm_of p.list) budget before after → IsTorn p.list p.script budget before after
  torn_part before after x = record {
    tears = λ all end trace.
        let more : List ℕ = bytes_of_events p (stop_events trace.finish) in
        let longer = prefix_longer before.held after.held (before.kept ++ bytes_of_events p trace.world.lines) more (x.tears trace.world trace.finish trace.runs) in
        let bytes : (before.kept ++ bytes_of_events p trace.world.lines) ++ more ≡ before.kept ++ bytes_of_lines all =
        append_assoc before.kept (bytes_of_events p trace.world.lines) more
        ∙ ap (λ (l : List ℕ). before.kept ++ l) (sym (bytes_append p trace.world.lines (stop_events trace.finish)) ∙ ap bytes_of_lines (sym trace.written)) in
        subst (Rattle.widl_sink.specs.Growth.GrewByPrefix before.held after.held) bytes longer;
  }

  -- 3. The line of a stop

  module _ (before mid after : Output) (stop : Stop) (counts more : Counts) (x : Finished p (realm_of p.list) budget before mid (Halted stop) counts) where
    stop_bytes : bytes_of_events p x.world.lines ++ bytes_of_stop p.list stop ≡ bytes_of_events p (x.world.lines ++ stop_event stop ∷ [])
    stop_bytes =
        ap (λ (l : List ℕ). bytes_of_events p x.world.lines ++ l) (sym (append-nil (bytes_of_stop p.list stop)))
        ∙ sym (bytes_append p x.world.lines (stop_event stop ∷ []))

    begun : Begun p (realm_of p.list) budget before mid
    begun = record {
      events = x.world.lines;
      emitted = x.emitted;
      begins = λ v f run. ([], ap (λ (w : World). w.lines) (one_outcome (rule p) (act p.list) run x.runs).0 ∙ sym (append-nil x.world.lines));
    }

    stopped : (said : Stop) → more.events ≡ counts.events + 1 → more.units ≡ counts.units → said ≡ stop → Emits mid after (bytes_of_stop p.list stop) → IsWhole p.list p.script budget before after (EndsStopped said) more
    stopped said events units is emitted =
        let size = length-append x.world.lines (stop_event stop ∷ []) in
        let lines = length-map (x.world.lines ++ stop_event stop ∷ []) (line_of p.list) in
        record {
          lines = map (line_of p.list) (x.world.lines ++ stop_event stop ∷ []);
          trace = record { world = x.world; finish = Halted stop; runs = x.runs; written = refl; ended = ap EndsStopped is };
          emitted = subst (Emits before after) stop_bytes (sends_then before.held mid.held after.held before.kept (bytes_of_events p x.world.lines) mid.kept (bytes_of_stop p.list stop) after.kept x.emitted emitted);
          events = omega (arith, events, x.events, size, lines);
          units = units ∙ x.units;
        }

    stop_torn : Tears mid after (bytes_of_stop p.list stop) → IsTorn p.list p.script budget before after
    stop_torn tears = record {
      tears = λ all end trace.
          let one = one_outcome (rule p) (act p.list) trace.runs x.runs in
          let lines : all ≡ map (line_of p.list) (x.world.lines ++ stop_event stop ∷ []) =
          trace.written ∙ ap (λ (w : World). map (line_of p.list) (w.lines ++ stop_events trace.finish)) one.0 ∙ ap (λ (f : Finish JobEnd Stop). map (line_of p.list) (x.world.lines ++ stop_events f)) one.1 in
          subst (Tears before after) (stop_bytes ∙ ap bytes_of_lines (sym lines))
          (sends_prefix before.held mid.held after.held before.kept (bytes_of_events p x.world.lines) mid.kept (bytes_of_stop p.list stop) x.emitted tears);
    }

    pub stop_said : (end : End) → more.events ≡ counts.events + 1 → more.units ≡ counts.units → Said p.list stop mid after end → RanAs p.list p.script budget before after end more
    stop_said ends.Done events units h = absurd h
    stop_said ends.Uncaught events units h = absurd h
    stop_said (ends.Stopped said) events units h = stopped said events units h.0 h.1
    stop_said ends.WriteFault events units h = stop_torn h
    stop_said ends.Memory events units h = subst (IsFirstPart p.list p.script budget before) (sym h) (first_part before mid begun)

  -- 4. What became of a run from the store of the list

  module _ (start : StoreState) (first : start ≡ realm_of p.list) (before mid after : Output) (how : Way) (counts : Counts) (x : Became p start budget before mid how counts) where
    from_realm : Became p (realm_of p.list) budget before mid how counts
    from_realm = subst (λ (t : StoreState). Became p t budget before mid how counts) first x

    at_way : (w : Way) → how ≡ w → Became p (realm_of p.list) budget before mid w counts
    at_way w is = subst (λ (w : Way). Became p (realm_of p.list) budget before mid w counts) is from_realm

    pub run_ended : (c : job_ends.JobEnd) (end : End) → how ≡ way.Ended c → end ≡ ends_with (job_end_of c) → RanAs p.list p.script budget before mid end counts
    run_ended c end is ends = subst (λ (e : End). RanAs p.list p.script budget before mid e counts) (sym ends) (ended_as before mid (job_end_of c) counts (at_way (way.Ended c) is))

    pub run_stopped : (stop : Stop) (end : End) (more : Counts) → how ≡ way.Stopped stop → more.events ≡ counts.events + 1 → more.units ≡ counts.units → Said p.list stop mid after end → RanAs p.list p.script budget before after end more
    run_stopped stop end more is events units said = stop_said before mid after stop counts more (at_way (way.Stopped stop) is) end events units said

    pub run_torn : how ≡ way.WriteFault → IsTorn p.list p.script budget before mid
    run_torn is = torn_part before mid (at_way way.WriteFault is)

    pub run_begun : how ≡ way.Memory → IsFirstPart p.list p.script budget before mid
    run_begun is = first_part before mid (at_way way.Memory is)
