-- The numbers of the main definitions by their names, as the program keeps them.
use Rattle.std.specs.Prelude.{◌≡◌, ℕ, Bool, false, nat_lt, List, Option, None, Some, bytes_eq, if◌then◌else◌}
use Rattle.std.specs.Option.{option_or}
use Rattle.std.specs.Borrow.{Bor}
use Rattle.indexmap.specs.IndexMap.{IndexMap, get_by}
use Rattle.widl_idl.specs.PlainTypes.{PlainName}
use Rattle.widl_idl.specs.Meanings.{is_text_of}

-- the number that is kept for a text
abbrev pub number_in : {S : Type 0} → IndexMap (Bor (List ℕ)) ℕ S → List ℕ → Option ℕ
number_in numbers text = get_by (λ k. bytes_eq text k.now) numbers

-- the number is kept for the name, if there is one, unless another was kept for it before
abbrev pub Keeps : {S : Type 0} → IndexMap (Bor (List ℕ)) ℕ S → IndexMap (Bor (List ℕ)) ℕ S → Option PlainName → ℕ → Type 0
Keeps old new name number = (text : List ℕ) → number_in new text ≡ option_or (number_in old text) (if is_text_of text name then Some number else None)

-- whether there is a number, and it is below n
abbrev pub is_below : ℕ → Option ℕ → Bool
is_below n None = false
is_below n (Some m) = nat_lt m n
