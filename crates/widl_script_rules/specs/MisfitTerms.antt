-- For proofs alone. What doesn't fit in one line of a steps block.
use Rattle.std.specs.Prelude.{◌≡◌, List, Some, Contains}
use Rattle.widl_idl.specs.DefinitionTerms.{CallbackTerm, DefsTerm}
use Rattle.widl_idl.specs.Terms.{TypeTerm}
use Rattle.widl_lines.specs.declared.script_place.ScriptPlace.{ScriptPlace}
use Rattle.widl_lines.specs.TextBreaks.{Line}
use Rattle.widl_script_tree.specs.declared.steps.StepLine.{StepLine}
use Rattle.widl_script_rules.specs.CallbacksAndPairs.{callback_called}
use Rattle.widl_script_rules.specs.Fits.{SourceFits, TypeFits, is_returned, wanted}
use Rattle.widl_script_rules.specs.Standings.{IsAtWord}
use Rattle.widl_script_rules.specs.StepUses.{Invoked, Used}
use Rattle.widl_script_rules.specs.Targets.{Overload}

module _ (list : DefsTerm) (o : Overload) (step : StepLine) where
  -- a source doesn't fit what the line does with it
  pub record SourceMisfits (u : Used) : Type 0 where
    pub type_wanted : TypeTerm
    pub wants : wanted list o step u ≡ Some type_wanted
    pub misfits : SourceFits list o u.source type_wanted → ⊥

  -- the result of a callback that the line returns doesn't fit
  pub record ResultMisfits : Type 0 where
    pub called : Invoked
    pub listed : Contains (is_returned step) called
    pub callback : CallbackTerm
    pub is : callback_called list o called ≡ Some callback
    pub misfits : TypeFits list callback.sig.returned o.signature.returned → ⊥

  module _ (line : Line) where
    -- at the first word of the source
    abbrev pub IsSourceMisfit : Used → ScriptPlace → Type 0
    IsSourceMisfit u place = SourceMisfits u × IsAtWord 13 line u.word place

    -- at `invoke`, the second word of the line
    abbrev pub IsResultMisfit : ScriptPlace → Type 0
    IsResultMisfit place = ResultMisfits × IsAtWord 13 line 1 place

    -- one of these sources doesn't fit
    abbrev pub SomeSource : List Used → ScriptPlace → Type 0
    SomeSource uses place = (u : Used) × Contains uses u × IsSourceMisfit u place
