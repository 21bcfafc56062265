use Rattle.std.proofs.Common.{◌≡◌, ◌∙◌, [], ap, length, map, nat_lt, option_map, slice_get, Some, subst, sym, true, unwrap_or}
use Rattle.widl_idl.specs.Counts.{IsNumbered, NumberedNamespace}
use Rattle.widl_idl.specs.DefinitionTerms.{space_term}
use Rattle.widl_script_tree.specs.Tables.{Tables, statements_tree}
use Rattle.widl_script.specs.CalleeBlocks.{lines_at, target_at}
use Rattle.widl_script.specs.Scripts.{callee_of}
use Rattle.widl_script_rules.specs.Targets.{is_target_of}
use Rattle.widl_script.proofs.FirstBlocks.{lines_found, lines_or_none}
use Rattle.widl_script.proofs.OverloadTargets.{overload_there, some_low}
use Rattle.widl_script_words.proofs.Parts.{in_ok}
use Rattle.widl_script.proofs.callee_blocks.blocks_of_overloads.Goals as goal

pub targets_of-requires : goal.targets_of-requires
targets_of-requires c = subst (λ spaces. IsNumbered NumberedNamespace spaces) (sym c.as_slice-spaces.ensures) c.requires.numbered.spaces

pub returns : goal.returns
returns c = in_ok c.targets_of.result _ _
    (λ targets told n m k space o at there asked.
    let t : Tables = c.args.tables.now in
    let blocks = c.in_ok-blocks.blocks in
    let is : slice_get (map space_term c.as_slice-spaces.result.now) n ≡ Some space = ap (λ spaces. slice_get (map space_term spaces) n) c.as_slice-spaces.ensures ∙ at in
    lines_found t (target_at targets.entries (callee_of n m) k)
    ∙ ap (λ x. unwrap_or (option_map (lines_at t) x) []) (told n m k ∙ overload_there blocks space o m k (slice_get (map space_term c.as_slice-spaces.result.now) n) is there (some_low o.sigs k asked))
    ∙ ap (λ x. unwrap_or x []) (c.in_ok-blocks.ensures space o k)
    ∙ lines_or_none (is_target_of space o k) (statements_tree t c.args.statements))
    c.targets_of.ensures
