use Rattle.widl_top.proofs.Budgets.{budget_is, budget_missing, budget_read_if, budget_some, budget_unread}
use Rattle.widl_top.proofs.reader.read_budget.Goals as goal

pub returns-in-Ok-clause-none : goal.returns-in-Ok-clause-none
returns-in-Ok-clause-none c = budget_read_if c.args.word.now _ c.in-Ok.units _ c.parse.ensures.value.0 c.in-Ok.is c.if_budget.ensures.none

pub returns-in-Ok-clause-value : goal.returns-in-Ok-clause-value
returns-in-Ok-clause-value c = budget_is _ _ (budget_some _ _ _ c.if_budget.ensures.some) (returns-in-Ok-clause-none c)

pub returns-in-Err-clause-none : goal.returns-in-Err-clause-none
returns-in-Err-clause-none c = budget_unread c.args.word.now _ c.in-Err.field-0 c.parse.ensures.value.0 c.in-Err.is

pub returns-in-Err-clause-value : goal.returns-in-Err-clause-value
returns-in-Err-clause-value c = budget_missing _ (returns-in-Err-clause-none c)
