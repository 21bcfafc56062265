-- Lemmas on how many files a command names.
use Rattle.std.proofs.Common.{◌≡◌, ℕ, ◌-◌, ◌<◌, ◌≤◌, arith}
use Rattle.widl_top.specs.Requests.{HasNames, HasTexts, first_name}
use Rattle.widl_top.specs.declared.request.Command.{Command}
use Rattle.widl_top.specs.declared.request.Command.TheVariants.{Check, Sets, Run}

-- the first name is one of the arguments
pub names_first : (command : Command) (count : ℕ) → HasNames command count → first_name command < count
names_first Check count is = is.0
names_first Sets count is = is.0
names_first (Run budget) count is = (let some = is.0 in omega (arith, some))

pub names_most : (command : Command) (count : ℕ) → HasNames command count → count ≤ 67
names_most Check count is = (let most = is.1 in omega (arith, most))
names_most Sets count is = (let most = is.1 in omega (arith, most))
names_most (Run budget) count is = (let most = is.1 in omega (arith, most))

-- the texts of the files that are named are those of the command
pub texts_named : (command : Command) (count files : ℕ) → HasNames command count → files ≡ count - first_name command → HasTexts command files
texts_named Check count files is are = (let some = is.0 in let most = is.1 in (omega (arith, some, most, are), omega (arith, some, most, are)))
texts_named Sets count files is are = (let some = is.0 in let most = is.1 in (omega (arith, some, most, are), omega (arith, some, most, are)))
texts_named (Run budget) count files is are = (let some = is.0 in let most = is.1 in (omega (arith, some, most, are), omega (arith, some, most, are)))
