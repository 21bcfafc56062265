-- Lemmas on answers that are written at once, and on those of one kind that are of another.
use Rattle.std.proofs.Common.{ℕ, List, refl, inl, inr}
use Rattle.std.specs.Prelude.{Option}
use Rattle.widl_idl.specs.DefinitionTerms.{DefsTerm}
use Rattle.widl_idl.specs.MergedSets.{MergedSet}
use Rattle.widl_idl.specs.declared.refusal.Refusal.{Refusal}
use Rattle.widl_front.specs.Findings.{finding_line}
use Rattle.widl_front.specs.Verdicts.{IsVerdict, refusal_line}
use Rattle.widl_front.specs.declared.finding.Finding.{Finding}
use Rattle.widl_front.specs.declared.verdict.Verdict.TheVariants.{Fault, Broken}
use Rattle.widl_lines.specs.declared.script_place.ScriptPlace.{ScriptPlace}
use Rattle.widl_script.specs.Scripts.{IsFirstBreak}
use Rattle.widl_sink.proofs.Grows.{prefix_none}
use Rattle.widl_top.specs.Answers.{Answered, Answers, AnswersPartly}
use Rattle.widl_top.specs.Output.{Output, last}
use Rattle.widl_top.specs.Outputs.{IsVerdictOutput}
use Rattle.widl_top.specs.ScriptOutputs.{IsScriptOutput, IsScriptRun, breaks_rule, runs_whole, script_line}
use Rattle.widl_top.specs.declared.status.Status.{Status}
use Rattle.widl_top.specs.declared.status.Status.TheVariants as ends

-- nothing is a part
partly : (output : Output) (a b : Option (List ℕ)) (f h : ℕ) (result : Status) → Answers output a b f h result → AnswersPartly output a b f h result
partly output a b f h result p = record {
  later = p.later;
  status = p.status;
  wrote = p.wrote;
  rose = p.rose;
  kept = p.kept;
  torn = p.torn;
  short = λ e. prefix_none a b output.bytes (p.short e);
}

pub at_once : (IsIt : Output → Type 0) (output : Output) (a b : Option (List ℕ)) (f h : ℕ) (result : Status) → IsIt output → Answers output a b f h result → Answered IsIt a b f h result
at_once IsIt output a b f h result is p = inr (output, is, partly output a b f h result p)

pub answered_as : (IsIt IsThat : Output → Type 0) (a b : Option (List ℕ)) (f h : ℕ) (result : Status) → ((output : Output) → IsIt output → IsThat output) → Answered IsIt a b f h result → Answered IsThat a b f h result
answered_as IsIt IsThat a b f h result same (inl p) = inl p
answered_as IsIt IsThat a b f h result same (inr p) = inr (p.0, same p.0 p.1, p.2)

-- 1. Verdicts

-- the fragments have a fault, which is named
pub fault_answered : (fragments : List (List ℕ)) (Others : MergedSet → Output → Type 0) (finding : Finding) (a b : Option (List ℕ)) (f h : ℕ) (result : Status) → IsVerdict fragments (Fault finding)
    → Answers (last (finding_line finding) ends.Refused) a b f h result → Answered (IsVerdictOutput fragments Others) a b f h result
fault_answered fragments Others finding a b f h result is p =
    at_once (IsVerdictOutput fragments Others) _ a b f h result (record { verdict = Fault finding; verdict_is = is; output_is = refl }) p

-- the fragments break a rule, which is named
pub broken_answered : (fragments : List (List ℕ)) (Others : MergedSet → Output → Type 0) (refusal : Refusal) (a b : Option (List ℕ)) (f h : ℕ) (result : Status) → IsVerdict fragments (Broken refusal)
    → Answers (last (refusal_line refusal) ends.Refused) a b f h result → Answered (IsVerdictOutput fragments Others) a b f h result
broken_answered fragments Others refusal a b f h result is p =
    at_once (IsVerdictOutput fragments Others) _ a b f h result (record { verdict = Broken refusal; verdict_is = is; output_is = refl }) p

-- 2. Scripts

pub break_answered : (list : DefsTerm) (text : List ℕ) (budget : ℕ) (place : ScriptPlace) (a b : Option (List ℕ)) (f h : ℕ) (result : Status) → IsFirstBreak text list place
    → Answers (last (script_line place) ends.ScriptRefused) a b f h result → Answered (IsScriptOutput list text budget) a b f h result
break_answered list text budget place a b f h result is p =
    at_once (IsScriptOutput list text budget) _ a b f h result (breaks_rule (record { place = place; first = is; output_is = refl })) p

pub run_answered : (list : DefsTerm) (text : List ℕ) (budget : ℕ) (a b : Option (List ℕ)) (f h : ℕ) (result : Status) → Answered (IsScriptRun list text budget) a b f h result
    → Answered (IsScriptOutput list text budget) a b f h result
run_answered list text budget a b f h result p = answered_as (IsScriptRun list text budget) (IsScriptOutput list text budget) a b f h result (λ output o. runs_whole o) p
