-- Lemmas: the arguments and the files have at most one output.
use Rattle.std.proofs.Common.{◌≡◌, ℕ, List, drop, ap, refl, subst, sym, ◌∙◌}
use Rattle.std.specs.Prelude.{Option, Some, None}
use Rattle.widl_idl.specs.MergedSets.{MergedSet}
use Rattle.widl_sets.specs.Listing.{all_lines}
use Rattle.widl_front.specs.Findings.{finding_line}
use Rattle.widl_front.specs.Texts.{named}
use Rattle.widl_front.specs.Verdicts.{AreAlike, AreSameSets, IsVerdict, refusal_line}
use Rattle.widl_front.specs.declared.verdict.Verdict.{Verdict}
use Rattle.widl_front.specs.declared.verdict.Verdict.TheVariants.{Fault, Broken, Accepted}
use Rattle.widl_idl.specs.DefinitionTerms.{DefsTerm, defs_term}
use Rattle.widl_lines.specs.declared.script_place.ScriptPlace.{ScriptPlace}
use Rattle.widl_convert.specs.Served.{IsServed}
use Rattle.widl_script_tree.specs.Trees.{ScriptTree}
use Rattle.widl_script.specs.Scripts.{IsFirstBreak, IsScriptOf}
use Rattle.widl_runs.specs.Laws.{HasOneTrace}
use Rattle.widl_runs.specs.Traces.{IsTrace}
use Rattle.widl_engine.specs.Output.{bytes_of_lines}
use Rattle.widl_top.specs.Output.{Output, last}
use Rattle.widl_top.specs.Outputs.{IsOutputOf, IsRunOutput, served, not_served, IsVerdictOutput, IsReadingOutput, IsRequestOutput, IsCommandOutput, IsOutput, accepted_output, sets_output}
use Rattle.widl_top.specs.ScriptOutputs.{IsScriptOutput, IsScriptRun, breaks_rule, runs_whole, script_line, status_of}
use Rattle.widl_top.specs.Readings.{Reading, AllRead, MissingFile, LongFile, read_in_order}
use Rattle.widl_top.specs.Requests.{request_of, names_of}
use Rattle.widl_top.specs.declared.request.Command.{Command}
use Rattle.widl_top.specs.declared.request.Command.TheVariants.{Check, Sets, Run}
use Rattle.widl_top.specs.declared.request.Request.{Request}
use Rattle.widl_top.specs.declared.request.Request.TheVariants.{Help, Version, OverFiles}
use Rattle.widl_top.specs.declared.status.Status.TheVariants as ends

-- what is known of verdicts
abbrev pub OneVerdict : Type 0
OneVerdict = (texts : List (List ℕ)) (a b : Verdict) → IsVerdict texts a → IsVerdict texts b → AreAlike a b

-- what is written for an accepted set is one thing, and doesn't depend on where the set lies in memory
abbrev pub TellsSets : (MergedSet → Output → Type 0) → Type 0
TellsSets Others = (a b : MergedSet) → AreSameSets a b → (o p : Output) → Others a o → Others b p → o ≡ p

alike_output : (Others : MergedSet → Output → Type 0) → TellsSets Others → (a b : Verdict) → AreAlike a b → (o p : Output) → IsOutputOf a Others o → IsOutputOf b Others p → o ≡ p
alike_output Others tells (Fault finding) (Fault other) alike o p is also = is ∙ ap (λ f. last (finding_line f) ends.Refused) alike ∙ sym also
alike_output Others tells (Fault finding) (Broken other) alike o p is also = absurd alike
alike_output Others tells (Fault finding) (Accepted other) alike o p is also = absurd alike
alike_output Others tells (Broken refusal) (Fault other) alike o p is also = absurd alike
alike_output Others tells (Broken refusal) (Broken other) alike o p is also = is ∙ ap (λ r. last (refusal_line r) ends.Refused) alike ∙ sym also
alike_output Others tells (Broken refusal) (Accepted other) alike o p is also = absurd alike
alike_output Others tells (Accepted set) (Fault other) alike o p is also = absurd alike
alike_output Others tells (Accepted set) (Broken other) alike o p is also = absurd alike
alike_output Others tells (Accepted set) (Accepted other) alike o p is also = tells set other alike o p is also

one_verdict_output : OneVerdict → (fragments : List (List ℕ)) (Others : MergedSet → Output → Type 0) → TellsSets Others → (a b : Output) → IsVerdictOutput fragments Others a → IsVerdictOutput fragments Others b → a ≡ b
one_verdict_output one fragments Others tells a b is other =
    alike_output Others tells is.verdict other.verdict (one fragments is.verdict other.verdict is.verdict_is other.verdict_is) a b is.output_is other.output_is

-- a function of sets whose values are told
told_by : (others : MergedSet → Output) → ((a b : MergedSet) → AreSameSets a b → others a ≡ others b) → TellsSets (λ set o. o ≡ others set)
told_by others same a b alike o p is also = is ∙ same a b alike ∙ sym also

-- the lines of sets are told by the terms of the list
lines_told : (a b : MergedSet) → AreSameSets a b → sets_output a ≡ sets_output b
lines_told a b same = ap (λ list. record { bytes = all_lines list; status = ends.Done }) same.merged

-- what is known of verdicts, of scripts and of traces
pub record Known : Type 0 where
  pub verdicts : OneVerdict
  pub trees : (bytes : List ℕ) (list : DefsTerm) (one other : ScriptTree) → IsScriptOf bytes list one → IsScriptOf bytes list other → one ≡ other
  pub breaks : (bytes : List ℕ) (list : DefsTerm) (one other : ScriptPlace) → IsFirstBreak bytes list one → IsFirstBreak bytes list other → one ≡ other
  pub unbroken : (bytes : List ℕ) (list : DefsTerm) (tree : ScriptTree) (place : ScriptPlace) → IsScriptOf bytes list tree → IsFirstBreak bytes list place → ⊥
  pub traces : (list : DefsTerm) (script : ScriptTree) (budget : ℕ) → HasOneTrace list script budget

one_run : Known → (list : DefsTerm) (script : List ℕ) (budget : ℕ) (o p : Output) → IsScriptRun list script budget o → IsScriptRun list script budget p → o ≡ p
one_run known list script budget o p a b =
    let same : a.tree ≡ b.tree = known.trees script list a.tree b.tree a.read b.read in
    let both : (a.lines ≡ b.lines) × (a.end ≡ b.end) =
    (known.traces list b.tree budget).one a.lines b.lines a.end b.end (subst (λ t. IsTrace list t budget a.lines a.end) same a.trace) b.trace in
    a.output_is ∙ (ap (λ l. record { bytes = bytes_of_lines l; status = status_of a.end }) both.0 ∙ ap (λ e. record { bytes = bytes_of_lines b.lines; status = status_of e }) both.1) ∙ sym b.output_is

one_script_output : Known → (list : DefsTerm) (script : List ℕ) (budget : ℕ) (o p : Output) → IsScriptOutput list script budget o → IsScriptOutput list script budget p → o ≡ p
one_script_output known list script budget o p (breaks_rule a) (breaks_rule b) =
    a.output_is ∙ ap (λ place. last (script_line place) ends.ScriptRefused) (known.breaks script list a.place b.place a.first b.first) ∙ sym b.output_is
one_script_output known list script budget o p (breaks_rule a) (runs_whole b) = absurd (known.unbroken script list b.tree a.place b.read a.first)
one_script_output known list script budget o p (runs_whole a) (breaks_rule b) = absurd (known.unbroken script list a.tree b.place a.read b.first)
one_script_output known list script budget o p (runs_whole a) (runs_whole b) = one_run known list script budget o p a b

-- a run is told by the terms of the list and by the bytes
run_told : Known → (budget : ℕ) (script : List ℕ) → TellsSets (IsRunOutput budget script)
run_told known budget script a b alike o p (served list is) (served also other) =
    one_script_output known (defs_term b.defs) script budget o p (subst (λ l. IsScriptOutput l script budget o) alike.merged is) other
run_told known budget script a b alike o p (served list is) (not_served not other) = absurd (not (subst IsServed alike.merged list))
run_told known budget script a b alike o p (not_served not is) (served list other) = absurd (not (subst IsServed (sym alike.merged) list))
run_told known budget script a b alike o p (not_served not is) (not_served also other) = is ∙ sym other

one_command : Known → (command : Command) (texts : List (List ℕ)) (a b : Output) → IsCommandOutput command texts a → IsCommandOutput command texts b → a ≡ b
one_command known Check texts a b is other = one_verdict_output known.verdicts texts _ (told_by accepted_output (λ p q same. refl)) a b is other
one_command known Sets texts a b is other = one_verdict_output known.verdicts texts _ (told_by sets_output lines_told) a b is other
one_command known (Run budget) texts a b is other =
    one_verdict_output known.verdicts (drop 1 texts) _ (run_told known budget (named texts 0)) a b is other

one_reading : (P : List (List ℕ) → Output → Type 0) → ((texts : List (List ℕ)) (a b : Output) → P texts a → P texts b → a ≡ b) → (reading : Reading) (a b : Output) → IsReadingOutput P reading a → IsReadingOutput P reading b → a ≡ b
one_reading P one (AllRead texts) a b is other = one texts a b is other
one_reading P one (MissingFile name) a b is other = is ∙ sym other
one_reading P one (LongFile name) a b is other = is ∙ sym other

one_request : Known → (request : Option Request) (reading : Reading) (a b : Output) → IsRequestOutput request reading a → IsRequestOutput request reading b → a ≡ b
one_request known None reading a b is other = is ∙ sym other
one_request known (Some Help) reading a b is other = is ∙ sym other
one_request known (Some Version) reading a b is other = is ∙ sym other
one_request known (Some (OverFiles command)) reading a b is other = one_reading (IsCommandOutput command) (one_command known command) reading a b is other

pub one_output : Known → (words : List (List ℕ)) (files : List (List ℕ × List ℕ)) (a b : Output) → IsOutput words files a → IsOutput words files b → a ≡ b
unfolding IsOutput
one_output known words files a b is other = one_request known (request_of words) (read_in_order files (names_of (request_of words) words)) a b is other
