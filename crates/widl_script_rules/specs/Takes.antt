-- For proofs alone. How many sources callbacks take, counted once for each.
use Rattle.std.specs.Prelude.{◌≡◌, ◌&&◌, ◌||◌, ℕ, Bool, List, count_by, length, map, nat_le, slice_get, Option, None}
use Rattle.std.specs.List.{list_any}
use Rattle.widl_idl.specs.DefinitionTerms.{ArgTerm, CallbackTerm, DefsTerm}
use Rattle.widl_idl.specs.Terms.{TypeTerm, CallbackFunctionType, CallbackInterfaceType}
use Rattle.widl_script_rules.specs.declared.callbacks_and_pairs.Takes.{Takes}
use Rattle.widl_script_rules.specs.declared.callbacks_and_pairs.CallbackTakes.{CallbackTakes}
use Rattle.widl_script_rules.specs.Arguments.{is_variadic}
use Rattle.widl_script_rules.specs.CallbacksAndPairs.{is_required}

abbrev pub takes_of : List ArgTerm → Takes
takes_of args = record { required = count_by (λ (a : ArgTerm). is_required a.opt) args; declared = length args; variadic = list_any (λ (a : ArgTerm). is_variadic a.opt) args }

abbrev pub is_taken : Takes → ℕ → Bool
is_taken t count = nat_le t.required count && (nat_le count t.declared || t.variadic)

abbrev pub all_takes : List CallbackTerm → List Takes
all_takes callbacks = map (λ (c : CallbackTerm). takes_of c.sig.args) callbacks

pub record AreTakes (list : DefsTerm) (t : CallbackTakes) : Type 0 where
  pub functions : t.functions.items ≡ all_takes list.callback_fns
  pub interfaces : t.interfaces.items ≡ all_takes list.callback_ifaces

-- how many sources a callback of the type takes
abbrev pub taken_in : CallbackTakes → TypeTerm → Option Takes
taken_in t (CallbackFunctionType n) = slice_get t.functions.items n
taken_in t (CallbackInterfaceType n) = slice_get t.interfaces.items n
taken_in t ty = None
