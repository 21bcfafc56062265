-- For proofs alone. Scripts over `namespace N { .. };` and where they break the rules on names and places.
use Rattle.std.proofs.Common.{◌≡◌, ℕ, List, [], ◌∷◌, ◌++◌, codes, refl}
use Rattle.widl_idl.specs.DefinitionTerms.{DefsTerm, SpaceTerm}
use Rattle.widl_lines.specs.declared.script_place.ScriptPlace.{ScriptPlace}
use Rattle.widl_lines.specs.TextBreaks.{script_lines}
use Rattle.widl_lines.specs.Lines.{lines_of}
use Rattle.widl_lines.specs.Terminals.{terminal_of}
use Rattle.widl_lines.specs.Words.{words_of}
use Rattle.widl_script_rules.specs.Standings.{Standing, standings}
use Rattle.widl_script_rules.specs.Names.{unknown_names}
use Rattle.widl_script_rules.specs.Placing.{misplaced_words}
use Rattle.widl_script_rules.specs.RepeatedFunctions.{repeated_functions}
use Rattle.widl_script_rules.specs.RepeatedParameters.{repeated_parameters}

abbrev space : SpaceTerm
space = record { at = record { file = 0; at = 0 }; name = codes "N"; members = record { ops = []; attrs = []; consts = []; order = [] } }

abbrev list : DefsTerm
list = record { ifaces = []; spaces = space ∷ []; dicts = []; choices = []; callback_fns = []; callback_ifaces = [] }

abbrev at : ℕ → ℕ → ℕ → ScriptPlace
at rule line column = record { rule = rule; line = line; column = column }

abbrev joined : List (List ℕ) → List ℕ
joined [] = []
joined (line ∷ lines) = line ++ 10 ∷ joined lines

abbrev script : List (List ℕ) → List Standing
script lines = standings (script_lines (joined lines))

-- the places at which the four rules are broken, rule by rule
abbrev breaks : List (List ℕ) → List ScriptPlace
breaks lines = unknown_names list (script lines) ++ misplaced_words (script lines) ++ repeated_functions list (script lines) ++ repeated_parameters (script lines)

unknown_namespace : breaks (codes "do M.f(1)" ∷ []) ≡ at 5 1 4 ∷ []
unfolding words_of lines_of terminal_of
unknown_namespace = refl

local_outside : breaks (codes "function f()" ∷ codes "let x = 1" ∷ codes "end" ∷ codes "do x" ∷ []) ≡ at 5 4 4 ∷ []
unfolding words_of lines_of terminal_of
local_outside = refl

called_before : breaks (codes "do f()" ∷ codes "function f()" ∷ codes "end" ∷ []) ≡ []
unfolding words_of lines_of terminal_of
called_before = refl

caught : breaks (codes "try" ∷ codes "do N.f(e)" ∷ codes "catch e" ∷ codes "end" ∷ codes "let N = 1" ∷ []) ≡ []
unfolding words_of lines_of terminal_of
caught = refl

returns_outside : breaks (codes "return 1" ∷ []) ≡ at 7 1 1 ∷ []
unfolding words_of lines_of terminal_of
returns_outside = refl

function_in_try : breaks (codes "try" ∷ codes "function f()" ∷ codes "end" ∷ codes "catch e" ∷ codes "end" ∷ codes "do f" ∷ []) ≡ at 7 2 1 ∷ []
unfolding words_of lines_of terminal_of
function_in_try = refl

two_functions : breaks (codes "function f()" ∷ codes "return 1" ∷ codes "end" ∷ codes "function f()" ∷ codes "end" ∷ []) ≡ at 8 4 10 ∷ []
unfolding words_of lines_of terminal_of
two_functions = refl

named_as_namespace : breaks (codes "function N()" ∷ codes "end" ∷ codes "function f(a, a)" ∷ codes "end" ∷ []) ≡ at 8 1 10 ∷ at 8 3 15 ∷ []
unfolding words_of lines_of terminal_of
named_as_namespace = refl

block_in_block : breaks (codes "steps N.f#0" ∷ codes "steps N.f#0" ∷ codes "end" ∷ codes "end" ∷ []) ≡ at 7 2 1 ∷ []
unfolding words_of lines_of terminal_of
block_in_block = refl

function_in_function : breaks (codes "function f()" ∷ codes "function g()" ∷ codes "let x = 1" ∷ codes "end" ∷ codes "do x" ∷ codes "do g" ∷ codes "end" ∷ []) ≡ at 5 5 4 ∷ at 5 6 4 ∷ at 7 2 1 ∷ []
unfolding words_of lines_of terminal_of
function_in_function = refl

function_in_steps : breaks (codes "steps N.f#0" ∷ codes "function h()" ∷ codes "return this" ∷ codes "end" ∷ codes "return slot a" ∷ codes "end" ∷ codes "do h()" ∷ []) ≡ at 7 2 1 ∷ []
unfolding words_of lines_of terminal_of
function_in_steps = refl

in_accessors : breaks (codes "define o.a get g set s" ∷ codes "let x = x" ∷ codes "do x.arg[slot].get(arg)" ∷ []) ≡ at 5 1 8 ∷ at 5 1 16 ∷ at 5 1 22 ∷ at 5 3 10 ∷ at 5 3 20 ∷ []
unfolding words_of lines_of terminal_of
in_accessors = refl
