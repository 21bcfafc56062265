use Rattle.widl_lex.proofs.Cuts.{sound_at}
use Rattle.widl_lex.proofs.tokens.Tokens.at.Goals as goal

pub returns-clause-sound : goal.returns-clause-sound
returns-clause-sound c = (sound_at c.args.self.now c.self.inside.file c.self.inside.end c.self.inside.items.items c.args.place c.index.result.now c.self.view_is c.self.invariant c.requires c.index.ensures).0

pub returns-clause-within : goal.returns-clause-within
returns-clause-within c = (sound_at c.args.self.now c.self.inside.file c.self.inside.end c.self.inside.items.items c.args.place c.index.result.now c.self.view_is c.self.invariant c.requires c.index.ensures).1
