-- A value that stands in others, whose copies are begun: the outermost first, each the next one in the one before.
use Rattle.std.proofs.Common.{◌≡◌, ℕ, ◌+◌, ◌<◌, ◌++◌, List, [], ◌∷◌, drop, arith, refl, sym, ap, subst, ◌∙◌}
use Rattle.std.specs.Prelude.{Some, slice_get}
use Rattle.widl_value.specs.IdlTerms.{IdlTerm, entry_terms, idl_terms, member_terms}
use Rattle.widl_value.specs.Copies.{IsFront, copied, parts, source_term}
use Rattle.widl_value.specs.declared.copying.Copying.{Copying}
use Rattle.widl_value.specs.declared.copying.Copying.TheVariants as kinds
use Rattle.widl_value.proofs.Places.{drop_at}
use Rattle.widl_value.proofs.Sizes.{entries_sizes, members_sizes, part_sizes, value_size, values_sizes}

abbrev pub StandsIn : List Copying → IdlTerm → IdlTerm → Type 0
StandsIn [] inner whole = inner ≡ whole
StandsIn (outer ∷ rest) inner whole = (next : IdlTerm) × (source_term outer ≡ whole) × IsFront outer × (slice_get (parts outer) (copied outer) ≡ Some next) × StandsIn rest inner next

pub stands_push : (outer : List Copying) (x : Copying) (next whole : IdlTerm) → StandsIn outer (source_term x) whole → IsFront x → slice_get (parts x) (copied x) ≡ Some next → StandsIn (outer ++ x ∷ []) next whole
stands_push [] x next whole p front is = (next, p, front, is, refl)
stands_push (o ∷ outer) x next whole p front is = (p.0, p.1, p.2, p.3, stands_push outer x next p.0 p.4 front is)

stands_last : (rest : List Copying) (x : Copying) (inner whole : IdlTerm) → StandsIn (rest ++ x ∷ []) inner whole → StandsIn rest (source_term x) whole × IsFront x × (slice_get (parts x) (copied x) ≡ Some inner)
stands_last [] x inner whole p = (p.1, p.2, p.3 ∙ ap Some (sym p.4))
stands_last (o ∷ rest) x inner whole p =
    let q = stands_last rest x inner p.0 p.4 in
    ((p.0, p.1, p.2, p.3, q.0), q.1, q.2)

pub stands_pop : (outer rest : List Copying) (x : Copying) (inner whole : IdlTerm) → outer ≡ rest ++ x ∷ [] → StandsIn outer inner whole → StandsIn rest (source_term x) whole × IsFront x × (slice_get (parts x) (copied x) ≡ Some inner)
stands_pop outer rest x inner whole is p = stands_last rest x inner whole (subst (λ o. StandsIn o inner whole) is p)

-- how much is left to copy of the values in one, and of the values around it behind the next one
abbrev pub left_size : Copying → ℕ
left_size x = 1 + part_sizes (drop (copied x) (parts x))

abbrev pub outer_size : List Copying → ℕ
outer_size [] = 0
outer_size (o ∷ outer) = 1 + part_sizes (drop (copied o + 1) (parts o)) + outer_size outer

source_size : (x : Copying) → value_size (source_term x) ≡ 1 + part_sizes (parts x)
source_size (kinds.Values source _) = ap (λ n. 1 + n) (values_sizes (idl_terms source.now))
source_size (kinds.Entries source _) = ap (λ n. 1 + n) (entries_sizes (entry_terms source.now))
source_size (kinds.Members _ source _) = ap (λ n. 1 + n) (members_sizes (member_terms source.now))

outer_more : (outer : List Copying) (x : Copying) → outer_size (outer ++ x ∷ []) ≡ outer_size outer + (1 + part_sizes (drop (copied x + 1) (parts x)))
outer_more [] x = omega arith
outer_more (o ∷ outer) x = let rest = outer_more outer x in omega (arith, rest)

left_then : (x now : Copying) → parts now ≡ parts x → copied now ≡ copied x + 1 → left_size now ≡ 1 + part_sizes (drop (copied x + 1) (parts x))
left_then x now same more = ap (λ ps. 1 + part_sizes (drop (copied now) ps)) same ∙ ap (λ n. 1 + part_sizes (drop n (parts x))) more

left_next : (x : Copying) (value : IdlTerm) → slice_get (parts x) (copied x) ≡ Some value → left_size x ≡ 1 + (1 + value_size value + part_sizes (drop (copied x + 1) (parts x)))
left_next x value is = ap (λ ps. 1 + part_sizes ps) (drop_at (parts x) (copied x) value is)

pub less_whole : (outer : List Copying) (x now : Copying) (value : IdlTerm) → slice_get (parts x) (copied x) ≡ Some value → parts now ≡ parts x → copied now ≡ copied x + 1
    → left_size now + outer_size outer < left_size x + outer_size outer
less_whole outer x now value is same more =
    let then = left_then x now same more in
    let next = left_next x value is in
    omega (arith, then, next)

pub less_within : (outer items : List Copying) (x inner : Copying) (value : IdlTerm) → slice_get (parts x) (copied x) ≡ Some value → source_term inner ≡ value → copied inner ≡ 0 → items ≡ outer ++ x ∷ []
    → left_size inner + outer_size items < left_size x + outer_size outer
less_within outer items x inner value is source none pushed =
    let next = left_next x value is in
    let begun : left_size inner ≡ 1 + part_sizes (parts inner) = ap (λ n. 1 + part_sizes (drop n (parts inner))) none in
    let size = sym (source_size inner) ∙ ap value_size source in
    let more = ap outer_size pushed ∙ outer_more outer x in
    omega (arith, next, begun, size, more)

pub less_popped : (outer rest : List Copying) (x next now : Copying) → outer ≡ rest ++ next ∷ [] → parts now ≡ parts next → copied now ≡ copied next + 1
    → left_size now + outer_size rest < left_size x + outer_size outer
less_popped outer rest x next now popped same more =
    let then = left_then next now same more in
    let all = ap outer_size popped ∙ outer_more rest next in
    omega (arith, then, all)
