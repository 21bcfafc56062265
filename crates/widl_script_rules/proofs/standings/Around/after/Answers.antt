use Rattle.widl_script_rules.specs.Surroundings.{around_at}
use Rattle.widl_script_rules.proofs.Surrounding.{function_opened, opens_another, other_opened}
use Rattle.widl_script_rules.proofs.standings.Around.after.Goals as goal

pub returns-in-Function : goal.returns-in-Function
returns-in-Function c = λ lines line is begins known now. function_opened lines _ c.args.place line c.args.word c.requires is begins c.in-Function.is

pub returns-in-Steps : goal.returns-in-Steps
returns-in-Steps c = λ lines line is begins known now.
    let other = opens_another c.args.word c.in-Steps.is in
    other_opened lines _ c.args.place line c.args.word c.requires is begins c.args.self.function other.0 (other.1 line (around_at lines c.args.place)) now.function
