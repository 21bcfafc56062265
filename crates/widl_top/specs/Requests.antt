-- The forms that the arguments of a command line can have.
use Rattle.std.specs.Prelude.{◌≡◌, ℕ, ◌+◌, ◌<◌, ◌≤◌, nat_lt, nat_le, List, [], ◌∷◌, Option, Some, None, ◌&&◌, if◌then◌else◌, option_and_then, codes, drop, length}
use Rattle.std.specs.Fmt.{decimal}
use Rattle.std.specs.Str.Parse.{digits_value}
use Rattle.std.specs.Str.{bytes_eq}
use Rattle.widl_text.specs.Limits.{most_files, most_units}
use Rattle.widl_top.specs.declared.request.Request as the
use Rattle.widl_top.specs.declared.request.Request.TheVariants.{Help, Version, OverFiles}
use Rattle.widl_top.specs.declared.request.Command.{Command}
use Rattle.widl_top.specs.declared.request.Command.TheVariants.{Check, Sets, Run}

-- the argument is the decimal text of a number from 1 to the most units
pub record IsBudget (word : List ℕ) (units : ℕ) : Type 0 where
  pub text : word ≡ decimal units
  pub earliest : 0 < units
  pub most : units ≤ most_units

-- the same as a function: the value of the argument's digits, where the argument is its decimal text
abbrev pub budget_from : List ℕ → ℕ → Option ℕ
budget_from word units = if bytes_eq word (decimal units) && (nat_lt 0 units && nat_le units most_units) then Some units else None

unfoldable pub budget_of : List ℕ → Option ℕ
budget_of word = budget_from word (digits_value 10 word)

abbrev pub option_of : List ℕ → Option the.Request
option_of word = if bytes_eq word (codes "--help") then Some Help else if bytes_eq word (codes "--version") then Some Version else None

-- a command over fragments: one at least, and at most as many as a set may have files
abbrev pub with_files : Command → List (List ℕ) → Option the.Request
with_files command [] = None
with_files command (name ∷ names) = if nat_le (length (name ∷ names)) most_files then Some (OverFiles command) else None

-- `run`, then a budget, the name of a script and the names of fragments
abbrev pub run_of : List (List ℕ) → Option the.Request
run_of (budget ∷ script ∷ names) = option_and_then (λ units. with_files (Run units) names) (budget_of budget)
run_of words = None

abbrev pub command_of : List ℕ → List (List ℕ) → Option the.Request
command_of command [] = option_of command
command_of command (word ∷ words) =
    if bytes_eq command (codes "check") then with_files Check (word ∷ words)
    else if bytes_eq command (codes "sets") then with_files Sets (word ∷ words)
    else if bytes_eq command (codes "run") then run_of (word ∷ words) else None

unfoldable pub request_of : List (List ℕ) → Option the.Request
request_of [] = None
request_of (command ∷ words) = command_of command words

-- the place of the first file's name among the arguments
abbrev pub first_name : Command → ℕ
first_name Check = 1
first_name Sets = 1
first_name (Run budget) = 2

-- the place of the first fragment's name among the arguments: after the script's, if there is one
abbrev pub first_fragment : Command → ℕ
first_fragment Check = 1
first_fragment Sets = 1
first_fragment (Run budget) = 3

-- the names of the files that are read, in this order
abbrev pub names_of : Option the.Request → List (List ℕ) → List (List ℕ)
names_of None words = []
names_of (Some Help) words = []
names_of (Some Version) words = []
names_of (Some (OverFiles command)) words = drop (first_name command) words

-- these are as many arguments as the command can have
abbrev pub HasNames : Command → ℕ → Type 0
HasNames command count = (first_fragment command < count) × (count ≤ first_fragment command + most_files)

-- a budget is within the limits
abbrev pub IsWithin : Command → Type 0
IsWithin Check = Unit {0}
IsWithin Sets = Unit {0}
IsWithin (Run budget) = (0 < budget) × (budget ≤ most_units)

abbrev pub HasFiles : the.Request → ℕ → Type 0
HasFiles Help count = Unit {0}
HasFiles Version count = Unit {0}
HasFiles (OverFiles command) count = HasNames command count × IsWithin command

-- all commands but `run` write nothing before all that they write is known
abbrev pub WritesAtOnce : Command → Type 0
WritesAtOnce Check = Unit {0}
WritesAtOnce Sets = Unit {0}
WritesAtOnce (Run budget) = ⊥

abbrev pub AnswersAtOnce : Option the.Request → Type 0
AnswersAtOnce None = Unit {0}
AnswersAtOnce (Some Help) = Unit {0}
AnswersAtOnce (Some Version) = Unit {0}
AnswersAtOnce (Some (OverFiles command)) = WritesAtOnce command

-- so many texts are those of a command: for `run` the script's comes first
abbrev pub HasTexts : Command → ℕ → Type 0
HasTexts command count = HasNames command (first_name command + count)
