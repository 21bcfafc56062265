use Rattle.std.proofs.Common.{◌≡◌, ◌∙◌, ◌&&◌, ℕ, ap, Bool, cond, false, if◌then◌else◌, None, Option, refl, Some, sym, true}
use Rattle.std.specs.Prelude.{nat_eq}
use Rattle.std.specs.Map.{lookup}
use Rattle.std.specs.Option.{option_or}
use Rattle.widl_script_tree.specs.Tables.{CalleeOverload, same_callee, same_overload}
use Rattle.widl_script_tree.proofs.SameOverload.{pairs}
use Rattle.widl_script.proofs.OverloadTargets.{put_first}
use Rattle.widl_script.proofs.callee_blocks.add_overload.Goals as goal

pub returns : goal.returns
returns c = λ other k.
    put_first _ (pairs _ (λ a b. refl)) c.args.targets.now.entries c.insert.new.self.entries (c.args.callee, Some c.args.overload) (other, Some k) c.in-Some.number (c.in_ok-insert.ensures.updates.0 (other, Some k))
    ∙ ap (λ (b : Option ℕ). option_or (if same_callee c.args.callee other && nat_eq c.args.overload k then b else None) (lookup (same_overload (other, Some k)) c.args.targets.now.entries)) (sym c.in-Some.is)
