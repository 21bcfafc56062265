use Rattle.std.proofs.Common.{◌≡◌, ◌+◌, ◌*◌, [], map, take}
use Rattle.widl_idl.specs.PlainTrees.{plain_definitions}
use Rattle.widl_idl.specs.PlainTypes.{annotated_of, form_term, type_of}
use Rattle.widl_idl.specs.Terms.{packed, type_terms}
use Rattle.widl_names.specs.Extents.{made}
use Rattle.widl_names.specs.TypeUses.{container_meaning, form_meaning, meaning_at, meaning_of_use, own_meaning}
use Rattle.widl_names.proofs.Heights.{height, heights}
use Rattle.widl_names.proofs.resolver.Resolver.+resolve.Given as goal

abbrev pub decreases-use_type : goal.decreases-use_type
decreases-use_type l = 8 * height (meaning_of_use (plain_definitions l.self.now) [] l.start.now) + 3

abbrev pub decreases-form_type : goal.decreases-form_type
decreases-form_type l = 8 * height (form_meaning (plain_definitions l.self.now) l.last.now.usage.typedefs [] (form_term l.last.now.usage.form.now)) + 2

abbrev pub decreases-container_type : goal.decreases-container_type
decreases-container_type l = 8 * height (container_meaning (plain_definitions l.self.now) l.left l.container (annotated_of l.inner.now)) + 1

abbrev pub decreases-member_types : goal.decreases-member_types
decreases-member_types l = 8 * heights (packed (map (λ m. own_meaning (plain_definitions l.self.now) l.left (annotated_of m)) l.members.now)) + 6

abbrev pub decreases-boxed_type : goal.decreases-boxed_type
decreases-boxed_type l = 8 * height (own_meaning (plain_definitions l.self.now) l.left (annotated_of l.ty.now)) + 5

abbrev pub decreases-promised_type : goal.decreases-promised_type
decreases-promised_type l = 8 * height (meaning_at (plain_definitions l.self.now) l.left [] (type_of l.ty.now)) + 5

abbrev pub decreases-annotated_type : goal.decreases-annotated_type
decreases-annotated_type l = 8 * height (own_meaning (plain_definitions l.self.now) l.left (annotated_of l.ty.now)) + 4

abbrev pub invariant-member_types-loop-member : goal.invariant-member_types-loop-member
invariant-member_types-loop-member l = type_terms l.types ≡ map (λ m. made l.extent (own_meaning (plain_definitions l.self) l.left (annotated_of m))) (take l.member-index l.members)
