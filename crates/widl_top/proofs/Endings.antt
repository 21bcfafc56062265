-- Lemmas on how a call ends.
use Rattle.std.proofs.Common.{◌≡◌, ℕ, ◌+◌, ◌-◌, ◌<◌, ◌≤◌, List, drop, refl, sym, ap, ◌∙◌, subst, arith, inl, inr}
use Rattle.std.specs.Prelude.{◌≢◌, ◌⊎◌, Option, Some}
use Rattle.std.specs.Io.KnownBytes.{append_known}
use Rattle.widl_sink.specs.Growth.{GrewByPrefix}
use Rattle.widl_sink.specs.Lines.{ended}
use Rattle.widl_folder.specs.Folders.{Counts}
use Rattle.widl_folder.specs.declared.whole_file.FetchError.{FetchError}
use Rattle.widl_folder.specs.declared.whole_file.FetchError.TheVariants.{Memory, Missing, Failed, TooLong}
use Rattle.widl_idl.specs.MergedSets.{MergedSet}
use Rattle.widl_top.specs.declared.request.Command.{Command}
use Rattle.widl_top.specs.declared.request.Command.TheVariants.{Check, Sets}
use Rattle.widl_top.specs.declared.request.Command.TheVariants as commands
use Rattle.widl_top.specs.declared.status.Status.{Status}
use Rattle.widl_top.specs.declared.status.Status.TheVariants as ends
use Rattle.widl_front.specs.declared.verdict.Verdict.{Verdict}
use Rattle.widl_front.specs.declared.verdict.Verdict.TheVariants.{Fault, Broken, Accepted}
use Rattle.widl_top.specs.Causes.{Outside, Ends, CountsStarts, last_fault}
use Rattle.widl_top.specs.Answers.{Answers, AnswersOr, AnswersPartly, Answered, unread_output}
use Rattle.widl_idl.specs.DefinitionTerms.{DefsTerm, defs_term}
use Rattle.widl_runs.specs.Traces.{Ending, EndsDone, EndsStopped, EndsUncaught}
use Rattle.widl_top.specs.Output.{Output}
use Rattle.widl_top.specs.Outputs.{IsOutputOf, IsRunOutput, served, not_served, accepted_output, sets_output, IsCommandOutput, IsVerdictOutput, IsReadingOutput, fault_line}
use Rattle.widl_top.specs.ScriptOutputs.{IsScriptOutput, breaks_rule, runs_whole, status_of}
use Rattle.widl_top.specs.Readings.{Reading, StopsFor, IsMemory}
use Rattle.widl_front.specs.Texts.{named}
use Rattle.widl_text.specs.Limits.{most_file_bytes}

-- a status that no failure has, and that is no answer to the arguments alone
abbrev pub IsPlain : Status → Type 0
IsPlain ends.ReadFault = ⊥
IsPlain ends.Missing = ⊥
IsPlain ends.TooLong = ⊥
IsPlain ends.WriteFault = ⊥
IsPlain ends.Memory = ⊥
IsPlain ends.Usage = ⊥
IsPlain ends.Done = Unit {0}
IsPlain ends.Refused = Unit {0}
IsPlain ends.ScriptRefused = Unit {0}
IsPlain ends.Stopped = Unit {0}
IsPlain ends.Uncaught = Unit {0}

plain_as : (output real : Output) → output ≡ real → IsPlain real.status → IsPlain output.status
plain_as output real is plain = subst (λ o. IsPlain o.status) (sym is) plain

pub plain_ending : (end : Ending) → IsPlain (status_of end)
plain_ending EndsDone = tt
plain_ending EndsUncaught = tt
plain_ending (EndsStopped stop) = tt

plain_script : (list : DefsTerm) (script : List ℕ) (budget : ℕ) (output : Output) → IsScriptOutput list script budget output → IsPlain output.status
plain_script list script budget output (breaks_rule p) = plain_as output _ p.output_is tt
plain_script list script budget output (runs_whole p) = plain_as output _ p.output_is (plain_ending p.end)

plain_run : (budget : ℕ) (script : List ℕ) (set : MergedSet) (output : Output) → IsRunOutput budget script set output → IsPlain output.status
plain_run budget script set output (served list p) = plain_script (defs_term set.defs) script budget output p
plain_run budget script set output (not_served not is) = plain_as output _ is tt

plain_verdict : (verdict : Verdict) (Others : MergedSet → Output → Type 0) (output : Output) → ((set : MergedSet) (o : Output) → Others set o → IsPlain o.status) → IsOutputOf verdict Others output → IsPlain output.status
plain_verdict (Fault finding) Others output plain is = plain_as output _ is tt
plain_verdict (Broken refusal) Others output plain is = plain_as output _ is tt
plain_verdict (Accepted set) Others output plain is = plain set output is

plain_fragments : (fragments : List (List ℕ)) (Others : MergedSet → Output → Type 0) (output : Output) → ((set : MergedSet) (o : Output) → Others set o → IsPlain o.status) → IsVerdictOutput fragments Others output → IsPlain output.status
plain_fragments fragments Others output plain p = plain_verdict p.verdict Others output plain p.output_is

pub plain_command : (command : Command) (texts : List (List ℕ)) (output : Output) → IsCommandOutput command texts output → IsPlain output.status
plain_command Check texts output p = plain_fragments texts (λ set o. o ≡ accepted_output set) output (λ set o is. plain_as o _ is tt) p
plain_command Sets texts output p = plain_fragments texts (λ set o. o ≡ sets_output set) output (λ set o is. plain_as o _ is tt) p
plain_command (commands.Run budget) texts output p = plain_fragments (drop 1 texts) (IsRunOutput budget (named texts 0)) output (plain_run budget (named texts 0)) p

pub never : (bad result : Status) → (IsPlain bad → ⊥) → IsPlain result → result ≡ bad → ⊥
never bad result h p e = h (subst IsPlain e p)

-- a plain output is answered plainly, or the write failed or memory was short
pub answered_plain : {Short : Type 0} (output : Output) (a b : Option (List ℕ)) (f h : ℕ) (result bad : Status) → AnswersOr Short output a b f h result → IsPlain output.status
    → (bad ≡ ends.Memory → ⊥) → (bad ≡ ends.WriteFault → ⊥) → (IsPlain bad → ⊥) → result ≡ bad → ⊥
answered_plain output a b f h result bad p plain m w n e =
    n (subst IsPlain (sym (p.status (λ q. m (sym e ∙ q)) (λ q. w (sym e ∙ q))) ∙ e) plain)

write_or_not : (status : Status) → (status ≡ ends.WriteFault) ⊎ (status ≡ ends.WriteFault → ⊥)
write_or_not ends.WriteFault = inl refl
write_or_not status = inr (λ e. (cc))

-- where the sink's count grew, the write fault is answered
pub wrote_always : {Short : Type 0} (output : Output) (a b : Option (List ℕ)) (f h : ℕ) (result : Status) → AnswersOr Short output a b f h result → f < h → result ≡ ends.WriteFault
wrote_always output a b f h result p grew =
    elim (write_or_not result) as (λ _. result ≡ ends.WriteFault) [ inl e ↦ e | inr n ↦ absurd (omega (arith, grew, p.kept n)) ]

-- one of three answers
three : (result status : Status) → (result ≢ ends.Memory → result ≢ ends.WriteFault → result ≡ status) → (result ≡ ends.WriteFault) ⊎ ((result ≡ status) ⊎ (result ≡ ends.Memory))
three ends.Memory status h = inr (inr refl)
three ends.WriteFault status h = inl refl
three result status h = inr (inl (h (λ e. (cc)) (λ e. (cc))))

-- two statuses that differ
status_not : {result a b : Status} → result ≡ a → result ≡ b → (a ≡ b → ⊥) → ⊥
status_not e q n = n (sym e ∙ q)

-- ---- memory was short, and nothing was written

pub memory_ends : (AtOnce : Type 0) (files : Option (List (List ℕ × List ℕ))) (IsIt : List (List ℕ × List ℕ) → Output → Type 0) (names : List (List ℕ)) (old new : Outside) (result : Status)
    → result ≡ ends.Memory → new.held ≡ old.held → new.sink_faults ≡ old.sink_faults → Ends AtOnce files IsIt names old new result
memory_ends AtOnce files IsIt names old new result is held kept = record {
  written = λ told files_are m r w. absurd (m is);
  short = λ now e. held;
  short_part = λ told files_are e. inl held;
  short_fault = λ grew e. held;
  torn = λ told files_are calm e. absurd (status_not is e (λ q. (cc)));
  torn_fault = λ told files_are counts e. absurd (status_not is e (λ q. (cc)));
  fault_written = λ counts e. absurd (status_not is e (λ q. (cc)));
  read_fault = λ e. absurd (status_not is e (λ q. (cc)));
  missing = λ e. absurd (status_not is e (λ q. (cc)));
  too_long = λ e. absurd (status_not is e (λ q. (cc)));
  write_fault = λ e. absurd (status_not is e (λ q. (cc)));
  write_always = λ grew. absurd (omega (arith, grew, kept));
  fault_always = λ grew. inr (inr is);
  miss_always = λ grew. inr (inr is);
  long_always = λ long. inr (inr is);
}

-- ---- all files were read

one_ends : (AtOnce : Type 0) (files : Option (List (List ℕ × List ℕ))) (IsIt : List (List ℕ × List ℕ) → Output → Type 0) (names : List (List ℕ)) (old new : Outside) (result : Status) (real : Output)
    → AnswersPartly real old.held new.held old.sink_faults new.sink_faults result → (AtOnce → result ≡ ends.Memory → new.held ≡ old.held) → IsPlain real.status
    → ((told : List (List ℕ × List ℕ)) → files ≡ Some told → IsIt told real)
    → new.faults ≡ old.faults → new.misses ≡ old.misses → new.given ≤ most_file_bytes → Ends AtOnce files IsIt names old new result
one_ends AtOnce files IsIt names old new result real p at_once plain same faults misses given = record {
  written = λ told is m r w. record { output = real; is = same told is; status = p.status m w; bytes = p.wrote m w };
  short = at_once;
  short_part = λ told is e. inr (record { output = real; is = same told is; part = p.short e });
  short_fault = λ grew e. absurd (omega (arith, grew, faults));
  torn = λ told is calm e. record { output = real; is = same told is; part = p.torn e };
  torn_fault = λ told is counts e. inl (record { output = real; is = same told is; part = p.torn e });
  fault_written = λ counts e. absurd (answered_plain real _ _ _ _ result ends.ReadFault p plain (λ q. (cc)) (λ q. (cc)) (λ q. q) e);
  read_fault = λ e. absurd (answered_plain real _ _ _ _ result ends.ReadFault p plain (λ q. (cc)) (λ q. (cc)) (λ q. q) e);
  missing = λ e. absurd (answered_plain real _ _ _ _ result ends.Missing p plain (λ q. (cc)) (λ q. (cc)) (λ q. q) e);
  too_long = λ e. absurd (answered_plain real _ _ _ _ result ends.TooLong p plain (λ q. (cc)) (λ q. (cc)) (λ q. q) e);
  write_fault = p.rose;
  write_always = wrote_always real _ _ _ _ result p;
  fault_always = λ grew. absurd (omega (arith, grew, faults));
  miss_always = λ grew. absurd (omega (arith, grew, misses));
  long_always = λ long. absurd (omega (arith, long, given));
}

pub read_ends : (AtOnce : Type 0) (files : Option (List (List ℕ × List ℕ))) (IsIt : List (List ℕ × List ℕ) → Output → Type 0) (names : List (List ℕ)) (old new : Outside) (result : Status) (IsReal : Output → Type 0)
    → Answered IsReal old.held new.held old.sink_faults new.sink_faults result → (AtOnce → result ≡ ends.Memory → new.held ≡ old.held) → ((output : Output) → IsReal output → IsPlain output.status)
    → ((told : List (List ℕ × List ℕ)) → files ≡ Some told → (output : Output) → IsReal output → IsIt told output)
    → new.faults ≡ old.faults → new.misses ≡ old.misses → new.given ≤ most_file_bytes → Ends AtOnce files IsIt names old new result
read_ends AtOnce files IsIt names old new result IsReal (inl p) at_once plain same faults misses given = memory_ends AtOnce files IsIt names old new result p.0 p.1 p.2
read_ends AtOnce files IsIt names old new result IsReal (inr p) at_once plain same faults misses given =
    one_ends AtOnce files IsIt names old new result p.0 p.2 at_once (plain p.0 p.1) (λ told is. same told is p.0 p.1) faults misses given

-- a call that reads files and then answers them never answers usage
pub never_usage : (IsReal : Output → Type 0) (a b : Option (List ℕ)) (f h : ℕ) (result : Status) → Answered IsReal a b f h result → ((output : Output) → IsReal output → IsPlain output.status)
    → result ≡ ends.Usage → ⊥
never_usage IsReal a b f h result (inl p) plain e = status_not p.0 e (λ q. (cc))
never_usage IsReal a b f h result (inr p) plain e = answered_plain p.0 a b f h result ends.Usage p.2 (plain p.0 p.1) (λ q. (cc)) (λ q. (cc)) (λ q. q) e

-- ---- a file was not read

-- what is known where a file was not read
pub record Stopped (files : Option (List (List ℕ × List ℕ))) (reading : List (List ℕ × List ℕ) → Reading) (names : List (List ℕ)) (old new : Outside) (name : List ℕ) (cause : FetchError) : Type 0 where
  pub stops : (told : List (List ℕ × List ℕ)) → files ≡ Some told → StopsFor cause name (reading told)
  pub faults : Counts (cause ≡ Failed) old.faults new.faults
  pub misses : Counts (cause ≡ Missing) old.misses new.misses
  pub long : cause ≡ TooLong → new.given ≡ most_file_bytes + 1
  pub not_missing : cause ≡ Missing → new.given ≤ most_file_bytes
  pub not_failed : cause ≡ Failed → new.given ≤ most_file_bytes
  pub named : CountsStarts old → named names (new.starts - old.starts - 1) ≡ name

fault_at : (names : List (List ℕ)) (old new : Outside) (name : List ℕ) → named names (new.starts - old.starts - 1) ≡ name → ended (fault_line name) ≡ last_fault names old new
fault_at names old new name is = ap (λ n. ended (fault_line n)) (sym is)

pub stopped_ends : (AtOnce : Type 0) (files : Option (List (List ℕ × List ℕ))) (P : List (List ℕ) → Output → Type 0) (reading : List (List ℕ × List ℕ) → Reading) (names : List (List ℕ)) (old new : Outside)
    (name : List ℕ) (cause : FetchError) (result : Status) → Stopped files reading names old new name cause
    → Answers (unread_output cause name) old.held new.held old.sink_faults new.sink_faults result → (IsMemory cause → result ≡ ends.Memory)
    → Ends AtOnce files (λ told. IsReadingOutput P (reading told)) names old new result
stopped_ends AtOnce files P reading names old new name (Memory e) result s p memory =
    memory_ends AtOnce files _ names old new result (memory tt) (p.short (memory tt)) (p.kept (λ w. status_not (memory tt) w (λ q. (cc))))
stopped_ends AtOnce files P reading names old new name Failed result s p memory = record {
  written = λ told is m r w. absurd (r (p.status m w));
  short = λ now e. p.short e;
  short_part = λ told is e. inl (p.short e);
  short_fault = λ grew e. p.short e;
  torn = λ told is calm e. absurd (calm (s.faults.rose refl));
  torn_fault = λ told is counts e. inr (subst (GrewByPrefix old.held new.held) (fault_at names old new name (s.named counts)) (p.torn e));
  fault_written = λ counts e. subst (λ l. new.held ≡ append_known old.held l) (fault_at names old new name (s.named counts)) (p.wrote (λ q. status_not e q (λ u. (cc))) (λ q. status_not e q (λ u. (cc))));
  read_fault = λ e. s.faults.rose refl;
  missing = λ e. absurd (status_not e (p.status (λ q. status_not e q (λ u. (cc))) (λ q. status_not e q (λ u. (cc)))) (λ u. (cc)));
  too_long = λ e. absurd (status_not e (p.status (λ q. status_not e q (λ u. (cc))) (λ q. status_not e q (λ u. (cc)))) (λ u. (cc)));
  write_fault = p.rose;
  write_always = wrote_always _ _ _ _ _ result p;
  fault_always = λ grew. three result ends.ReadFault p.status;
  miss_always = λ grew. absurd (omega (arith, grew, s.misses.kept (λ e. (cc))));
  long_always = λ long. absurd (omega (arith, long, s.not_failed refl));
}
stopped_ends AtOnce files P reading names old new name Missing result s p memory = record {
  written = λ told is m r w. record { output = unread_output Missing name; is = missing_is told is; status = p.status m w; bytes = p.wrote m w };
  short = λ now e. p.short e;
  short_part = λ told is e. inl (p.short e);
  short_fault = λ grew e. p.short e;
  torn = λ told is calm e. record { output = unread_output Missing name; is = missing_is told is; part = p.torn e };
  torn_fault = λ told is counts e. inl (record { output = unread_output Missing name; is = missing_is told is; part = p.torn e });
  fault_written = λ counts e. absurd (status_not e (p.status (λ q. status_not e q (λ u. (cc))) (λ q. status_not e q (λ u. (cc)))) (λ u. (cc)));
  read_fault = λ e. absurd (status_not e (p.status (λ q. status_not e q (λ u. (cc))) (λ q. status_not e q (λ u. (cc)))) (λ u. (cc)));
  missing = λ e. s.misses.rose refl;
  too_long = λ e. absurd (status_not e (p.status (λ q. status_not e q (λ u. (cc))) (λ q. status_not e q (λ u. (cc)))) (λ u. (cc)));
  write_fault = p.rose;
  write_always = wrote_always _ _ _ _ _ result p;
  fault_always = λ grew. absurd (omega (arith, grew, s.faults.kept (λ e. (cc))));
  miss_always = λ grew. three result ends.Missing p.status;
  long_always = λ long. absurd (omega (arith, long, s.not_missing refl));
}
  where
    missing_is : (told : List (List ℕ × List ℕ)) → files ≡ Some told → IsReadingOutput P (reading told) (unread_output Missing name)
    missing_is told is = subst (λ r. IsReadingOutput P r (unread_output Missing name)) (sym (s.stops told is)) refl
stopped_ends AtOnce files P reading names old new name TooLong result s p memory = record {
  written = λ told is m r w. record { output = unread_output TooLong name; is = long_is told is; status = p.status m w; bytes = p.wrote m w };
  short = λ now e. p.short e;
  short_part = λ told is e. inl (p.short e);
  short_fault = λ grew e. p.short e;
  torn = λ told is calm e. record { output = unread_output TooLong name; is = long_is told is; part = p.torn e };
  torn_fault = λ told is counts e. inl (record { output = unread_output TooLong name; is = long_is told is; part = p.torn e });
  fault_written = λ counts e. absurd (status_not e (p.status (λ q. status_not e q (λ u. (cc))) (λ q. status_not e q (λ u. (cc)))) (λ u. (cc)));
  read_fault = λ e. absurd (status_not e (p.status (λ q. status_not e q (λ u. (cc))) (λ q. status_not e q (λ u. (cc)))) (λ u. (cc)));
  missing = λ e. absurd (status_not e (p.status (λ q. status_not e q (λ u. (cc))) (λ q. status_not e q (λ u. (cc)))) (λ u. (cc)));
  too_long = λ e. s.long refl;
  write_fault = p.rose;
  write_always = wrote_always _ _ _ _ _ result p;
  fault_always = λ grew. absurd (omega (arith, grew, s.faults.kept (λ e. (cc))));
  miss_always = λ grew. absurd (omega (arith, grew, s.misses.kept (λ e. (cc))));
  long_always = λ long. three result ends.TooLong p.status;
}
  where
    long_is : (told : List (List ℕ × List ℕ)) → files ≡ Some told → IsReadingOutput P (reading told) (unread_output TooLong name)
    long_is told is = subst (λ r. IsReadingOutput P r (unread_output TooLong name)) (sym (s.stops told is)) refl

-- the same answer, by an equal name
pub answers_named : (cause : FetchError) (name other : List ℕ) → name ≡ other → (a b : Option (List ℕ)) (f h : ℕ) (result : Status)
    → Answers (unread_output cause name) a b f h result → Answers (unread_output cause other) a b f h result
answers_named cause name other same a b f h result p = subst (λ n. Answers (unread_output cause n) a b f h result) same p
