-- A stack of blocks, and its innermost first.
use Rattle.std.proofs.Common.{◌≡◌, ℕ, suc, ◌+◌, ◌-◌, ◌<◌, List, [], ◌∷◌, ◌++◌, length, get_or, Option, Some, None, refl, sym, ◌∙◌, ap, arith, true, false, nat_eq, eqb-true, eq-eqb}
use Rattle.std.specs.Prelude.{MatchOption, option_to_list, slice_get}
use Rattle.std.proofs.lemmas.Option.{slice_get-get_or}
use Rattle.widl_lines.specs.declared.blocks.Block.{Block}
use Rattle.widl_lines.specs.Blocks.{innermost, outer}
use Rattle.widl_lines.specs.Stacks.{inner_first, blocks_of}

opened : (stack : List Block) (b : Block) (blocks : List Block) → inner_first (stack ++ b ∷ []) blocks ≡ b ∷ inner_first stack blocks
opened [] b blocks = refl
opened (x ∷ stack) b blocks = opened stack b (x ∷ blocks)

pub pushed : (old new : List Block) (b : Block) → new ≡ old ++ b ∷ [] → blocks_of new ≡ b ∷ blocks_of old
pushed old new b e = ap blocks_of e ∙ opened old b []

none_left : (old new : List Block) → old ≡ new ++ [] → length old ≡ 0 → blocks_of new ≡ outer (blocks_of old)
none_left [] [] e z = refl
none_left [] (x ∷ new) e z = cc
none_left (x ∷ old) new e z = absurd (omega arith)

pub popped : (old new : List Block) (b : Option Block) (n m : ℕ) → old ≡ new ++ option_to_list b → MatchOption b ((n ≡ 0) × (m ≡ 0)) (λ _. m + 1 ≡ n) → n ≡ length old → blocks_of new ≡ outer (blocks_of old)
popped old new None n m e cases len = let z : length old ≡ 0 = sym len ∙ cases.0 in none_left old new e z
popped old new (Some b) n m e cases len = sym (ap outer (pushed new old b e))

inner_length : (stack blocks : List Block) → length (inner_first stack blocks) ≡ length stack + length blocks
inner_length [] blocks = omega arith
inner_length (x ∷ stack) blocks = let r = inner_length stack (x ∷ blocks) in omega (arith, r)

pub same_length : (stack : List Block) → length (blocks_of stack) ≡ length stack
same_length stack = omega (arith, inner_length stack [])

last_of : (stack blocks : List Block) (d : Block) → 0 < length stack → innermost (inner_first stack blocks) ≡ Some (get_or stack (length stack - 1) d)
last_of [] blocks d lt = absurd (omega arith)
last_of (x ∷ []) blocks d lt = refl
last_of (x ∷ y ∷ stack) blocks d lt = let e : suc (suc (length stack)) - 1 ≡ suc (suc (length stack) - 1) = omega arith in last_of (y ∷ stack) (x ∷ blocks) d (omega arith) ∙ ap (λ k. Some (get_or (x ∷ y ∷ stack) k d)) (sym e)

pub last_block : (stack : List Block) → slice_get stack (length stack - 1) ≡ innermost (blocks_of stack)
last_block [] = refl
last_block (x ∷ stack) = slice_get-get_or (x ∷ stack) (suc (length stack) - 1) x (omega arith) ∙ sym (last_of (x ∷ stack) [] x (omega arith))

pub none_open : (stack : List Block) → length stack ≡ 0 → blocks_of stack ≡ []
none_open [] e = refl
none_open (x ∷ stack) e = absurd (omega arith)

pub closed_stack : (stack : List Block) (n : ℕ) → n ≡ length stack → true ≡ nat_eq n 0 → blocks_of stack ≡ []
closed_stack stack n count empty = none_open stack (sym count ∙ eqb-true n 0 (sym empty))

pub open_stack : (stack : List Block) (n : ℕ) → n ≡ length stack → false ≡ nat_eq n 0 → blocks_of stack ≡ [] → ⊥
open_stack stack n count some none = let l : length stack ≡ 0 = sym (same_length stack) ∙ ap length none in let z : nat_eq n 0 ≡ true = eq-eqb n 0 (count ∙ l) in let e : false ≡ true = some ∙ z in cc
