use Rattle.std.proofs.Common.{refl, sym, ap}
use Rattle.widl_runs.specs.Actions.{IsBody, body_at}
use Rattle.widl_engine.specs.Frames.{body_of}
use Rattle.widl_engine.proofs.Acting.{seen}
use Rattle.widl_engine.proofs.acts.find_body.Goals as goal

pub returns : goal.returns
returns c p s = seen (IsBody (body_at c.args.store.now.objects c.args.f)) (IsBody (body_of c.body_of-body.result)) (λ k ls. refl) (ap IsBody (sym c.body_of-body.ensures)) refl
