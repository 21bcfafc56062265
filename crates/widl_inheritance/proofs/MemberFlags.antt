-- Flags of the members of interfaces, a number at a time.
use Rattle.std.proofs.Common.{◌≡◌, ℕ, ◌+◌, ◌<◌, ◌≤◌, ◌++◌, Bool, true, false, nat_lt, List, [], ◌∷◌, length, get_or, option_map, arith, refl, sym, ap, ◌∙◌, length-append}
use Rattle.std.proofs.lemmas.List.{get_or_append_left, get_or_past}
use Rattle.std.proofs.lemmas.Option.{slice_get_past}
use Rattle.std.proofs.Math.Seq.{get_or-append_seam}
use Rattle.widl_idl.specs.PlainTrees.{PlainDefinition, PlainMember}
use Rattle.widl_inheritance.specs.InterfaceMembers.{members_at}
use Rattle.widl_inheritance.specs.Iterations.{TellsMembers}
use Rattle.widl_inheritance.proofs.NumberedMembers.{none_there}

-- the flags tell of the first numbers whether the members pass the test
pub record TellsFirst (test : List PlainMember → Bool) (definitions : List PlainDefinition) (count : ℕ) (flags : List Bool) : Type 0 where
  pub size : length flags ≡ count
  pub tells : (number : ℕ) → number < count → get_or flags number false ≡ test (members_at definitions number)

module _ (test : List PlainMember → Bool) (definitions : List PlainDefinition) where
  pub no_flags : TellsFirst test definitions 0 []
  no_flags = record { size = refl; tells = λ number below. absurd (omega (arith, below)) }

  -- one number more
  pub flags_next : (count : ℕ) (old new : List Bool) (flag : Bool) → flag ≡ test (members_at definitions count) → new ≡ old ++ flag ∷ [] → TellsFirst test definitions count old → TellsFirst test definitions (count + 1) new
  flags_next count old new flag e is known = record { size = (let size = known.size in let longer : length new ≡ length old + 1 = ap length is ∙ length-append old (flag ∷ []) in omega (arith, size, longer)); tells = λ number below. by_place number below (nat_lt number count) refl }
    where
      by_place : (number : ℕ) → number < count + 1 → (b : Bool) → nat_lt number count ≡ b → get_or new number false ≡ test (members_at definitions number)
      by_place number below true h =
          let lower : number < count = grind arith in
          let size = known.size in
          ap (λ fs. get_or fs number false) is ∙ get_or_append_left old (flag ∷ []) false number (omega (arith, lower, size)) ∙ known.tells number lower
      by_place number below false h =
          let last : number ≡ count = grind arith in
          ap (λ fs. get_or fs number false) is ∙ ap (λ n. get_or (old ++ flag ∷ []) n false) (last ∙ sym known.size) ∙ get_or-append_seam old flag [] false ∙ e ∙ ap (λ n. test (members_at definitions n)) (sym last)

  -- after the last number
  pub flags_all : (count : ℕ) (flags : List Bool) → length definitions ≤ count → test [] ≡ false → TellsFirst test definitions count flags → TellsMembers test definitions flags
  flags_all count flags past fails known = record { tells = λ number. by_place number (nat_lt number count) refl }
    where
      by_place : (number : ℕ) (b : Bool) → nat_lt number count ≡ b → get_or flags number false ≡ test (members_at definitions number)
      by_place number true h = known.tells number (grind arith)
      by_place number false h =
          let beyond : count ≤ number = grind arith in
          let size = known.size in
          get_or_past flags number false (omega (arith, beyond, size)) ∙ sym fails
          ∙ ap test (sym (none_there definitions number (ap (option_map (λ (d : PlainDefinition). d.kind)) (slice_get_past definitions number (omega (arith, beyond, past))))))
