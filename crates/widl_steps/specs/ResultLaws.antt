-- The laws of results: what is said of an array or an object on its way to script. The functions of `laws` have them as contracts.
-- Source: this program's own.
use Rattle.std.specs.Prelude.{◌≡◌, ℕ, suc, List, [], ◌∷◌, ◌++◌, length, replicate}
use Rattle.widl_idl.specs.DefinitionTerms.{DefsTerm}
use Rattle.widl_value.specs.declared.value.Value.{Value}
use Rattle.widl_value.specs.IdlTerms.{IdlTerm, IdlTerms, no_values, more_values, UndefinedValue, NullValue, MissingValue, BooleanValue, IntegerValue, StringValue, EnumerationValue, ObjectValue, AnyValue, SequenceValue, RecordValue, DictionaryValue, PromiseValue}
use Rattle.widl_steps.specs.AskTerms.{AnswerTerm, UnitAsk, DoneAnswer}
use Rattle.widl_steps.specs.Built.{Built}
use Rattle.widl_steps.specs.Laws.{Said, IsTalk}
use Rattle.widl_steps.specs.Results.{container_ask, item_task}
use Rattle.widl_steps.specs.Rules.{rule}
use Rattle.widl_steps.specs.Tasks.{Container, OutItems, Plain}

-- 1. The conversations of the items come first, in their order; then a unit is taken for each, and then the container is made

-- these items become these values, each by a conversation of its own, one after another
abbrev pub AreConverted : Built → DefsTerm → IdlTerms → List Value → Said → Type 0
AreConverted built list no_values [] talk = talk ≡ []
AreConverted built list no_values (v ∷ made) talk = ⊥
AreConverted built list (more_values w left) [] talk = ⊥
AreConverted built list (more_values w left) (v ∷ made) talk =
    (part : Said) × (more : Said) × (talk ≡ part ++ more) × IsTalk (rule built list) (item_task w) part (Plain v) × AreConverted built list left made more

-- so many units, then the container
abbrev pub own_asks : ℕ → Container → List Value → AnswerTerm → Said
own_asks n container made answer = replicate n (UnitAsk, DoneAnswer) ++ (container_ask container made, answer) ∷ []

pub record IsMade (built : Built) (list : DefsTerm) (container : Container) (items : IdlTerms) (talk : Said) : Type 0 where
  pub made : List Value
  pub asks : Said
  pub answer : AnswerTerm
  pub whole : talk ≡ asks ++ own_asks (length made) container made answer
  pub converted : AreConverted built list items made asks

abbrev pub ItemsComeFirst : Built → DefsTerm → Type 0
ItemsComeFirst built list =
    (container : Container) (items : IdlTerms) (talk : Said) (v : Value) → IsTalk (rule built list) (OutItems container items []) talk (Plain v) → IsMade built list container items talk

-- 2. So nothing else is said of a container without a container in it

abbrev pub IsNoContainer : IdlTerm → Type 0
IsNoContainer UndefinedValue = Unit {0}
IsNoContainer NullValue = Unit {0}
IsNoContainer MissingValue = Unit {0}
IsNoContainer (BooleanValue b) = Unit {0}
IsNoContainer (IntegerValue n) = Unit {0}
IsNoContainer (StringValue text) = Unit {0}
IsNoContainer (EnumerationValue n place) = Unit {0}
IsNoContainer (ObjectValue o) = Unit {0}
IsNoContainer (AnyValue v) = Unit {0}
IsNoContainer (SequenceValue _) = ⊥
IsNoContainer (RecordValue _) = ⊥
IsNoContainer (DictionaryValue n _) = ⊥
IsNoContainer (PromiseValue o) = Unit {0}

abbrev pub HaveNoContainer : IdlTerms → Type 0
HaveNoContainer no_values = Unit {0}
HaveNoContainer (more_values w left) = IsNoContainer w × HaveNoContainer left

abbrev pub item_count : IdlTerms → ℕ
item_count no_values = 0
item_count (more_values w left) = suc (item_count left)

abbrev pub UnitsAreAllThatIsSaid : Built → DefsTerm → Type 0
UnitsAreAllThatIsSaid built list =
    (container : Container) (items : IdlTerms) (talk : Said) (v : Value) → HaveNoContainer items → IsTalk (rule built list) (OutItems container items []) talk (Plain v)
    → (made : List Value) × (answer : AnswerTerm) × (talk ≡ own_asks (item_count items) container made answer)
