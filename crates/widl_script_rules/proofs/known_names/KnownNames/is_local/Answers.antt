use Rattle.std.proofs.Common.{◌≡◌, ◌∙◌, ◌||◌, ap, false, option_map, Some, subst, sym, true}
use Rattle.std.proofs.lemmas.Option.{same_Some}
use Rattle.widl_lines.specs.TextBreaks.{Line}
use Rattle.widl_script_rules.specs.Names.{bound_where, has_name, locals_of, parameters_in}
use Rattle.widl_script_rules.specs.Standings.{standings}
use Rattle.widl_script_rules.specs.Surroundings.{has_pair, plain_lines, IsFunction}
use Rattle.widl_script_rules.proofs.BoundWords.{both_names}
use Rattle.widl_script_rules.proofs.known_names.KnownNames.is_local.Goals as goal

pub returns-then-contains : goal.returns-then-contains
returns-then-contains c = λ list around known now.
    let lines = plain_lines c.args.lines.now in
    let name = c.args.name.now in
    let at : IsFunction lines (Some c.in-Some.place) around = subst (λ f. IsFunction lines f around) c.in-Some.is now in
    let bound = bound_where (standings lines) (Some at.0) in
    let yes : has_name (parameters_in at.0) name ≡ true = sym (known.parameters c.in-Some.place at.0 name at.1) ∙ sym c.contains.ensures ∙ c.if-contains.true in
    sym (ap (λ o. has_name (locals_of (standings lines) o) name) at.2 ∙ both_names (parameters_in at.0) bound name ∙ ap (λ b. b || has_name bound name) yes)

pub returns-in-Some-function_number : goal.returns-in-Some-function_number
returns-in-Some-function_number c = λ list around known now.
    let lines = plain_lines c.args.lines.now in
    let name = c.args.name.now in
    let at : IsFunction lines (Some c.in-Some.place) around = subst (λ f. IsFunction lines f around) c.in-Some.is now in
    let bound = bound_where (standings lines) (Some at.0) in
    let no : has_name (parameters_in at.0) name ≡ false = sym (known.parameters c.in-Some.place at.0 name at.1) ∙ sym c.contains.ensures ∙ c.if-contains.false in
    let number : c.in-Some-function_number.number ≡ at.0.number = same_Some c.in-Some-function_number.number at.0.number (c.in-Some-function_number.ensures around at ∙ ap (option_map (λ (l : Line). l.number)) at.2) in
    c.contains-in-Some-function_number.ensures ∙ ap (λ n. has_pair c.args.self.now.locals.keys n name) number ∙ known.locals at.0 name
    ∙ sym (ap (λ o. has_name (locals_of (standings lines) o) name) at.2 ∙ both_names (parameters_in at.0) bound name ∙ ap (λ b. b || has_name bound name) no)
