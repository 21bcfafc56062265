use Rattle.std.proofs.Common.{refl, ap, ◌∙◌}
use Rattle.widl_script_reader.proofs.frames.Builder.open.Goals as goal

pub returns-clause-opened : goal.returns-clause-opened
returns-clause-opened c = record {
  frame = record { block = c.args.block; before = c.replace-before.result };
  block_is = refl;
  before_is = ap (λ v. v.items) c.replace-before.ensures.value;
  frames = c.in_ok-push.ensures.items;
  places = ap (λ v. v.items) c.replace-before.ensures.after ∙ c.new.ensures.items;
  names = refl;
  nodes = refl;
}
