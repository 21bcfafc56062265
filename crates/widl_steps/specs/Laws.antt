-- The laws of conversations, for these tasks and those of the crates above. The functions of `laws` have them as contracts.
-- Source: this program's own.
use Rattle.std.specs.Prelude.{◌≡◌, ℕ, ◌+◌, true, List, [], ◌∷◌, ◌++◌}
use Rattle.widl_dialog.specs.Conversation.{Next, Asks, Ends, Comes}
use Rattle.widl_dialog.specs.Laws.{AsksGoOn, PartsAsk, PartsJoin, WholesSplit}
use Rattle.widl_text.specs.Limits.{most_chained_dictionaries}
use Rattle.widl_idl.specs.DefinitionTerms.{DefsTerm, defs_term}
use Rattle.widl_idl.specs.MergedSets.{MergedSet}
use Rattle.widl_idl.specs.Terms.{DictionaryType}
use Rattle.widl_overload.specs.rules.Dictionaries.{BeginsChain}
use Rattle.widl_overload.specs.rules.Validity.{IsValid}
use Rattle.widl_value.specs.declared.value.Value.{Value}
use Rattle.widl_steps.specs.AskTerms.{AskTerm, AnswerTerm, ThrownAnswer, Fits}
use Rattle.widl_steps.specs.Built.{Built}
use Rattle.widl_steps.specs.Tasks.{TaskEnd, Rethrow, TalkOf}

-- asks with their answers
abbrev pub Said : Type 0
Said = List (AskTerm × AnswerTerm)

-- Where dictionaries are built, no chain begins with one that has more of them than it may have: each is the type of a member of the one before.
-- A dictionary with a member `D d = {}` of its own type would never be done. Validity forbids both (Web IDL, "Dictionaries").
abbrev pub ChainsEnd : Built → DefsTerm → Type 0
ChainsEnd built list = (n : ℕ) → built.to_type (DictionaryType n) ≡ true → BeginsChain list.dicts (most_chained_dictionaries + 1) n → ⊥

-- so it is over the list of each valid set of files
abbrev pub ValidChainsEnd : Type 0
ValidChainsEnd = (set : MergedSet) → IsValid set → (built : Built) → ChainsEnd built (defs_term set.defs)

module _ {Job : Type 0} (rule : Job → TalkOf Job) where
  -- what comes next in a task's conversation, after these asks and answers
  abbrev pub IsNext : Job → Said → Next AskTerm TaskEnd → Type 0
  IsNext task said next = Comes rule Fits (rule task) said next

  -- a whole conversation of a task
  abbrev pub IsTalk : Job → Said → TaskEnd → Type 0
  IsTalk task talk end = IsNext task talk (Ends end)

  pub record HasOneNext (task : Job) (said : Said) : Type 0 where
    pub next : Next AskTerm TaskEnd
    pub comes : IsNext task said next
    pub one : (other : Next AskTerm TaskEnd) → IsNext task said other → other ≡ next

  -- exactly one thing comes next after what begins a whole conversation
  abbrev pub BeginningsHaveOneNext : Type 0
  BeginningsHaveOneNext = (task : Job) (said more : Said) (end : TaskEnd) → IsTalk task (said ++ more) end → HasOneNext task said

  -- an ask comes next exactly where some whole conversation goes on with it, whichever answer it gets that fits
  abbrev pub AsksAreTalked : Type 0
  AsksAreTalked = (task : Job) → AsksGoOn rule Fits task

  -- each task has a whole conversation
  abbrev pub EachTaskEnds : Type 0
  EachTaskEnds = (task : Job) → (talk : Said) × (end : TaskEnd) × IsTalk task talk end

  -- after a value that is thrown for an answer nothing is asked: the conversation ends with that value
  abbrev pub FaultsEnd : Type 0
  FaultsEnd = (task : Job) (said : Said) (ask : AskTerm) (v : Value) → IsNext task said (Asks ask) → Fits ask (ThrownAnswer v) → IsTalk task (said ++ (ask, ThrownAnswer v) ∷ []) (Rethrow v)

  -- a part's conversation followed by the rest's is the whole's, and the whole's is one of these; what a part asks, the whole asks
  pub record PartsMakeWholes : Type 0 where
    pub join : PartsJoin rule Fits
    pub split : WholesSplit rule Fits
    pub ask : PartsAsk rule Fits
