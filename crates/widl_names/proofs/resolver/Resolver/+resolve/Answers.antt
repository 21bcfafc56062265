use Rattle.std.proofs.Common.{◌≡◌, ◌+◌, List, [], map, rules, arith, ap, sym, subst, ◌∙◌}
use Rattle.std.proofs.lemmas.List.{take_all}
use Rattle.std.proofs.lemmas.Result.{IfOk-weaker}
use Rattle.widl_idl.specs.declared.tree.types.TypeForm.{the_lemmas}
use Rattle.widl_idl.specs.PlainTrees.{plain_definitions}
use Rattle.widl_idl.specs.PlainTypes.{PlainContainer, PlainPromise, PlainRecord, PlainUnion, annotated_of, attribute_of, form_term, plain_annotated, type_of, union_of}
use Rattle.widl_idl.specs.Resolution.{Note}
use Rattle.widl_idl.specs.Terms.{packed, type_term}
use Rattle.widl_idl.specs.WrittenTypes.{notes_of}
use Rattle.widl_names.specs.declared.extent.Extent.TheVariants.{Whole}
use Rattle.widl_names.specs.Extents.{made, made_inside, made_members}
use Rattle.widl_names.specs.SaidNotes.{Says}
use Rattle.widl_names.specs.TypeUses.{container_meaning, form_meaning, meaning_at, meaning_of_use, own_meaning, questioned}
use Rattle.widl_names.proofs.Extents.{made_packed, made_questioned, made_whole}
use Rattle.widl_names.proofs.TypeUses.{container_means, members_mean, record_means, use_made}
use Rattle.widl_names.proofs.Heights.{height, heights, height_led, height_written, lower_member}
use Rattle.widl_names.proofs.resolver.Resolver.+resolve.Goals as goal

pub annotated_type-returns : goal.annotated_type-returns
annotated_type-returns t c =
    let definitions = plain_definitions c.args.self.now in
    let own = notes_of (map attribute_of c.args.ty.now.attributes) in
    let is : annotated_of c.args.ty.now ≡ plain_annotated c.args.ty.now.at (map attribute_of c.args.ty.now.attributes) (type_of c.args.ty.now.ty) = search (rules, the_lemmas) in
    let said = subst (λ list. Says c.of.result (notes_of (map attribute_of list))) c.as_slice.ensures c.of.ensures in
    IfOk-weaker c.use_type.result
    (λ x. (notes : List Note) → Says c.of-start.result.annotations notes → type_term x ≡ made c.args.extent (meaning_of_use definitions notes c.of-start.result))
    (λ x. type_term x ≡ made c.args.extent (own_meaning definitions c.args.left (annotated_of c.args.ty.now)))
    (λ x so. use_made definitions c.args.extent c.of-start.result (type_of c.args.ty.now.ty) c.of.result c.args.left c.of-start.ensures.same c.of-start.ensures.annotations c.of-start.ensures.count (type_term x) so own said ∙ ap (λ a. made c.args.extent (own_meaning definitions c.args.left a)) (sym is))
    c.use_type.ensures

pub member_types-returns : goal.member_types-returns
member_types-returns t c =
    let definitions = plain_definitions c.args.self.now in
    ap packed (c.loop-member.invariant ∙ ap (map (λ m. made c.args.extent (own_meaning definitions c.args.left (annotated_of m)))) (take_all c.loop-member.member-index c.args.members.now (omega arith)))
    ∙ made_packed c.args.extent (λ m. own_meaning definitions c.args.left (annotated_of m)) c.args.members.now
    ∙ ap (made_members c.args.extent) (members_mean definitions c.args.left c.args.members.now)

pub promised_type-returns-in_ok-new-in-Whole : goal.promised_type-returns-in_ok-new-in-Whole
promised_type-returns-in_ok-new-in-Whole t c =
    let definitions = plain_definitions c.args.self.now in
    let meant = meaning_at definitions c.args.left [] (type_of c.args.ty.now) in
    ap type_term c.in_ok-new-in-Whole.ensures.ok
    ∙ use_made definitions Whole c.of-start.result (type_of c.args.ty.now) c.none.result c.args.left c.of-start.ensures.same c.of-start.ensures.annotations c.of-start.ensures.count (type_term c.in_ok-value-in-Whole.value) c.in_ok-value-in-Whole.ensures [] c.none.ensures
    ∙ made_whole meant
    ∙ ap (λ extent. made_inside extent meant) (sym c.in-Whole.is)

pub boxed_type-returns-in_ok-new-in-Whole : goal.boxed_type-returns-in_ok-new-in-Whole
boxed_type-returns-in_ok-new-in-Whole t c =
    let meant = own_meaning (plain_definitions c.args.self.now) c.args.left (annotated_of c.args.ty.now) in
    ap type_term c.in_ok-new-in-Whole.ensures.ok ∙ c.in_ok-value-in-Whole.ensures ∙ made_whole meant ∙ ap (λ extent. made_inside extent meant) (sym c.in-Whole.is)

pub use_type-form_type-requires : goal.use_type-form_type-requires
use_type-form_type-requires t c =
    let led = height_led (plain_definitions c.args.self.now) c.args.start.now c.follow-last.result.usage c.follow-last.ensures.leads in
    (omega (arith, led), (c.follow-last.ensures.last, c.follow-last.ensures.known))

pub use_type-returns : goal.use_type-returns
use_type-returns t c =
    let definitions = plain_definitions c.args.self.now in
    let last = c.follow-last.result.usage in
    IfOk-weaker c.with_questions.result
    (λ x. type_term x ≡ questioned last.questions (type_term c.in_ok-inner.inner))
    (λ x. (notes : List Note) → Says c.args.start.now.annotations notes → type_term x ≡ made c.args.extent (meaning_of_use definitions notes c.args.start.now))
    (λ x so notes said.
    let m = c.follow-last.ensures.leads.same notes in
    so ∙ ap (questioned last.questions) (c.in_ok-inner.ensures m.0 (m.1 said)) ∙ made_questioned c.args.extent last.questions (form_meaning definitions last.typedefs m.0 (form_term last.form.now)) ∙ ap (made c.args.extent) (sym m.2))
    c.with_questions.ensures

pub annotated_type-use_type-requires : goal.annotated_type-use_type-requires
annotated_type-use_type-requires t c =
    let definitions = plain_definitions c.args.self.now in
    let own = notes_of (map attribute_of c.args.ty.now.attributes) in
    let is : annotated_of c.args.ty.now ≡ plain_annotated c.args.ty.now.at (map attribute_of c.args.ty.now.attributes) (type_of c.args.ty.now.ty) = search (rules, the_lemmas) in
    let same = height_written definitions c.of-start.result (type_of c.args.ty.now.ty) c.args.left own c.of-start.ensures.same c.of-start.ensures.count ∙ ap (λ a. height (own_meaning definitions c.args.left a)) (sym is) in
    (omega (arith, same), tt)

pub promised_type-use_type-requires : goal.promised_type-use_type-requires
promised_type-use_type-requires t c =
    let same = height_written (plain_definitions c.args.self.now) c.of-start.result (type_of c.args.ty.now) c.args.left [] c.of-start.ensures.same c.of-start.ensures.count in
    (omega (arith, same), tt)

pub boxed_type-annotated_type-requires : goal.boxed_type-annotated_type-requires
boxed_type-annotated_type-requires t c = (omega arith, tt)

pub container_type-boxed_type-requires : goal.container_type-boxed_type-requires
container_type-boxed_type-requires t c =
    let higher : height (container_meaning (plain_definitions c.args.self.now) c.args.left c.args.container (annotated_of c.args.inner.now)) ≡ height (own_meaning (plain_definitions c.args.self.now) c.args.left (annotated_of c.args.inner.now)) + 1
    = ap (λ k. height (container_meaning (plain_definitions c.args.self.now) c.args.left k (annotated_of c.args.inner.now))) c.in-Sequence.is in
    (omega (arith, higher), tt)

pub member_types-annotated_type-requires : goal.member_types-annotated_type-requires
member_types-annotated_type-requires t c =
    let lower = lower_member (λ m. own_meaning (plain_definitions c.args.self.now) c.args.left (annotated_of m)) c.args.members.now c.loop-member.member-index c.member-item.result (omega arith) c.member-item.is in
    (omega (arith, lower), tt)

pub form_type-container_type-requires : goal.form_type-container_type-requires
form_type-container_type-requires t c =
    let form : form_term c.args.last.now.usage.form.now ≡ PlainContainer c.in-Container.container (annotated_of c.deref.result.now) = search (rules, the_lemmas) in
    let same = ap (λ f. height (form_meaning (plain_definitions c.args.self.now) c.args.last.now.usage.typedefs [] f)) form ∙ ap height (container_means (plain_definitions c.args.self.now) c.args.last.now.usage.typedefs [] c.in-Container.container (annotated_of c.deref.result.now)) in
    (omega (arith, same), tt)

pub form_type-boxed_type-requires : goal.form_type-boxed_type-requires
form_type-boxed_type-requires t c =
    let form : form_term c.args.last.now.usage.form.now ≡ PlainRecord c.in-Record.key (annotated_of c.deref-in-Record.result.now) = search (rules, the_lemmas) in
    let same = ap (λ f. height (form_meaning (plain_definitions c.args.self.now) c.args.last.now.usage.typedefs [] f)) form ∙ ap height (record_means (plain_definitions c.args.self.now) c.args.last.now.usage.typedefs [] c.in-Record.key (annotated_of c.deref-in-Record.result.now)) in
    (omega (arith, same), tt)

pub form_type-promised_type-requires : goal.form_type-promised_type-requires
form_type-promised_type-requires t c =
    let form : form_term c.args.last.now.usage.form.now ≡ PlainPromise (type_of c.deref-in-Promise.result.now) = search (rules, the_lemmas) in
    let same = ap (λ f. height (form_meaning (plain_definitions c.args.self.now) c.args.last.now.usage.typedefs [] f)) form in
    (omega (arith, same), tt)

pub form_type-member_types-requires : goal.form_type-member_types-requires
form_type-member_types-requires t c =
    let definitions = plain_definitions c.args.self.now in
    let left = c.args.last.now.usage.typedefs in
    let form : form_term c.args.last.now.usage.form.now ≡ PlainUnion (union_of c.as_slice.result.now) = search (rules, the_lemmas) in
    let same = ap (λ f. height (form_meaning definitions left [] f)) form in
    let members = ap heights (members_mean definitions left c.as_slice.result.now) in
    (omega (arith, same, members), tt)
