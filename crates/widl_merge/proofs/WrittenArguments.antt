-- Arguments that are made of written ones, an item at a time.
use Rattle.std.proofs.Common.{◌≡◌, ℕ, ◌+◌, ◌<◌, ◌++◌, List, [], ◌∷◌, length, take, map, get_or, arith, sym, ap, ◌∙◌}
use Rattle.std.proofs.lemmas.List.{map-append, take_all}
use Rattle.std.proofs.lemmas.Simd.{map-map}
use Rattle.widl_idl.specs.declared.argument.Arg.{Arg}
use Rattle.widl_idl.specs.declared.tree.arguments.Argument.{Argument}
use Rattle.widl_idl.specs.DefinitionTerms.{ArgTerm, arg_term}
use Rattle.widl_idl.specs.MergedMembers.{arg_of}
use Rattle.widl_idl.specs.PlainTrees.{PlainDefinition, argument_of, arguments_of}
use Rattle.widl_names.proofs.PlainLists.{mapped_more}

module _ (definitions : List PlainDefinition) where
  abbrev terms_written : List Argument → List ArgTerm
  terms_written arguments = map (λ x. arg_of definitions (argument_of x)) arguments

  -- the arguments up to the next one
  pub args_more : (arguments : List Argument) (i : ℕ) (x : Argument) (args new : List Arg) (a : Arg) → i < length arguments → x ≡ get_or arguments i x → arg_term a ≡ arg_of definitions (argument_of x) → new ≡ args ++ a ∷ [] → map arg_term args ≡ terms_written (take i arguments) → map arg_term new ≡ terms_written (take (i + 1) arguments)
  args_more arguments i x args new a below is here pushed so =
      ap (map arg_term) pushed ∙ map-append arg_term args (a ∷ []) ∙ (λ j. so j ++ here j ∷ []) ∙ sym (mapped_more (λ y. arg_of definitions (argument_of y)) arguments i x below is)

  args_whole : (arguments : List Argument) (i : ℕ) (args : List Arg) → i ≡ length arguments → map arg_term args ≡ terms_written (take i arguments) → map arg_term args ≡ terms_written arguments
  args_whole arguments i args end so = so ∙ ap terms_written (take_all i arguments (omega arith))

  -- all of them
  pub args_all : (arguments : List Argument) (i : ℕ) (args : List Arg) → i ≡ length arguments → map arg_term args ≡ terms_written (take i arguments) → map arg_term args ≡ map (arg_of definitions) (arguments_of arguments)
  args_all arguments i args end so = args_whole arguments i args end so ∙ sym (map-map (arg_of definitions) argument_of arguments)
