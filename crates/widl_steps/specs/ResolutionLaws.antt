-- The laws of the choice of an overload. The functions of `laws` have them as contracts.
-- Source: this program's own.
use Rattle.std.specs.Prelude.{◌≡◌, ℕ, ◌+◌, suc, if◌then◌else◌, List, [], ◌∷◌, length, take, drop}
use Rattle.widl_dialog.specs.Conversation.{Next}
use Rattle.widl_idl.specs.declared.callee.Callee.{Callee}
use Rattle.widl_idl.specs.DefinitionTerms.{DefsTerm, ArgTerm}
use Rattle.widl_overload.specs.sets.Entries.{declared_args}
use Rattle.widl_overload.specs.sets.Sets.{is_variadic}
use Rattle.widl_value.specs.declared.value.Value.{Value}
use Rattle.widl_value.specs.IdlTerms.{IdlTerm}
use Rattle.widl_tables.specs.Kept.{argcount_of}
use Rattle.widl_steps.specs.AskTerms.{AskTerm}
use Rattle.widl_steps.specs.Laws.{Said, IsNext, IsTalk}
use Rattle.widl_steps.specs.Tasks.{Task, Resolve, TaskEnd, Picks, Talk}

-- how many of the arguments come before a variadic one
abbrev pub before_variadic : List ArgTerm → ℕ
before_variadic [] = 0
before_variadic (a ∷ args) = if is_variadic a.opt then 0 else suc (before_variadic args)

-- so many arguments of a call count, and these declared ones come after them but a variadic one
abbrev pub value_count : DefsTerm → Callee → ℕ → ℕ → ℕ
value_count list callee count overload = count + before_variadic (drop count (declared_args list callee overload))

module _ (rule : Task → Talk) (list : DefsTerm) where
  -- the overload that is chosen has a value for each argument that counts, and for each declared one after them but a variadic one
  abbrev pub ValuesAreCounted : Type 0
  ValuesAreCounted =
      (callee : Callee) (args : List Value) (talk : Said) (overload : ℕ) (values : List IdlTerm) → IsTalk rule (Resolve callee args) talk (Picks overload values) → length values ≡ value_count list callee (argcount_of list callee (length args)) overload

  -- what is said of a call is the same whatever its arguments are beyond those that count: so none of them is asked of
  abbrev pub OthersAreNotLookedAt : Type 0
  OthersAreNotLookedAt =
      (callee : Callee) (args others : List Value) (said : Said) (next : Next AskTerm TaskEnd) → length args ≡ length others → take (argcount_of list callee (length args)) args ≡ take (argcount_of list callee (length args)) others → IsNext rule (Resolve callee args) said next → IsNext rule (Resolve callee others) said next
