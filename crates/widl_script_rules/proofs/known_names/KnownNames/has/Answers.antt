use Rattle.std.proofs.Common.{◌≡◌, ◌∙◌, ◌||◌, ap, false, sym, true}
use Rattle.widl_script_rules.specs.Names.{globals_of, has_name, is_owner_name, locals_of}
use Rattle.widl_script_rules.specs.Standings.{function_around, standings}
use Rattle.widl_script_rules.specs.Surroundings.{plain_lines}
use Rattle.widl_script_rules.proofs.known_names.KnownNames.has.Goals as goal

pub returns-then-is_local : goal.returns-then-is_local
returns-then-is_local c = λ list around known now.
    let script = standings (plain_lines c.args.lines.now) in
    let name = c.args.name.now in
    let local = has_name (locals_of script (function_around around)) name in
    let global = has_name (globals_of script) name in
    let owner = is_owner_name list name in
    let yes : local ≡ true = sym (c.is_local.ensures list around known now) ∙ c.if-is_local.true in
    sym (ap (λ b. (b || global) || owner) yes)

pub returns-then-contains : goal.returns-then-contains
returns-then-contains c = λ list around known now.
    let script = standings (plain_lines c.args.lines.now) in
    let name = c.args.name.now in
    let local = has_name (locals_of script (function_around around)) name in
    let global = has_name (globals_of script) name in
    let owner = is_owner_name list name in
    let no : local ≡ false = sym (c.is_local.ensures list around known now) ∙ c.if-is_local.false in
    let yes : global ≡ true = sym (known.globals name) ∙ sym c.contains.ensures ∙ c.if-contains.true in
    sym (ap (λ b. (b || global) || owner) no ∙ ap (λ b. b || owner) yes)

pub returns : goal.returns
returns c = λ list around known now.
    let script = standings (plain_lines c.args.lines.now) in
    let name = c.args.name.now in
    let local = has_name (locals_of script (function_around around)) name in
    let global = has_name (globals_of script) name in
    let owner = is_owner_name list name in
    let no : local ≡ false = sym (c.is_local.ensures list around known now) ∙ c.if-is_local.false in
    let neither : global ≡ false = sym (known.globals name) ∙ sym c.contains.ensures ∙ c.if-contains.false in
    c.in_ok-is_owner.ensures ∙ known.owners name ∙ sym (ap (λ b. (b || global) || owner) no ∙ ap (λ b. b || owner) neither)
