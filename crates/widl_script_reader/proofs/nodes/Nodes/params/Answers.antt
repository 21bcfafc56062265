use Rattle.widl_script_reader.proofs.Growing.{widens_then}
use Rattle.widl_script_reader.proofs.LineForms.{names_none, names_some}
use Rattle.widl_script_reader.proofs.nodes.Nodes.params.Goals as goal

pub returns-then-is_ahead-clause-lists : goal.returns-then-is_ahead-clause-lists
returns-then-is_ahead-clause-lists c = names_none _ _ _ c.new-params.ensures (c.is_ahead.ensures.yes c.if-is_ahead.true)

pub returns-clause-lists : goal.returns-clause-lists
returns-clause-lists c = names_some _ _ _ _ _ _ _ _ _ _ (c.is_ahead.ensures.no c.if-is_ahead.false) c.in_ok-name.ensures.name c.in_ok-more_params.ensures.grown c.new-params.ensures c.in_ok-push.ensures.ok c.in_ok-more_params.ensures.lists

pub returns-clause-grown : goal.returns-clause-grown
returns-clause-grown c = widens_then c.in_ok-name.ensures.grown c.in_ok-more_params.ensures.grown
