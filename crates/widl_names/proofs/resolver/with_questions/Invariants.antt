use Rattle.std.proofs.Common.{◌≡◌}
use Rattle.widl_idl.specs.Terms.{type_term}
use Rattle.widl_names.specs.TypeUses.{questioned}
use Rattle.widl_names.proofs.resolver.with_questions.Given as goal

abbrev pub invariant-loop-question : goal.invariant-loop-question
invariant-loop-question l = type_term l.ty ≡ questioned l._question (type_term l.initial.ty)
