-- Each callee of a list that 32 bits can number has fewer overloads than that; and the place of an entry alone.
use Rattle.std.proofs.Common.{◌≡◌, ℕ, zero, suc, ◌<◌, ◌^◌, List, [], ◌∷◌, length, Option, None, Some, arith, refl}
use Rattle.std.specs.Option.{ForSome, unwrap_or}
use Rattle.widl_idl.specs.declared.callee.Callee.{Callee}
use Rattle.widl_idl.specs.declared.defs.Defs.{Defs}
use Rattle.widl_idl.specs.Counts.{IsNumberedList}
use Rattle.widl_idl.specs.DefinitionTerms.{DefsTerm, SigTerm, defs_term}
use Rattle.widl_overload.specs.sets.Entries.{overloads_of}
use Rattle.widl_overload.specs.sets.Sets.{AreNumbered, TupleTerm, overloads_of as declared_overloads}
use Rattle.widl_overload.proofs.Numbered.{overloads_numbered}
use Rattle.widl_tables.specs.Kept.{choosing_place, telling_from, telling_place}

-- 1. The overloads of a callee

few_of : (found : Option (List SigTerm)) → ForSome found AreNumbered → length (unwrap_or found []) < 2 ^ 32
few_of None h = omega arith
few_of (Some sigs) h = (h sigs refl).few

-- what `kept` asks for
pub few_overloads : (defs : Defs) (callee : Callee) → IsNumberedList defs → length (overloads_of (defs_term defs) callee) < 2 ^ 32
few_overloads defs callee h = few_of (declared_overloads (defs_term defs) callee) (overloads_numbered defs callee h)

-- 2. The place of entries that need none

alone_at : (list : DefsTerm) (t : TupleTerm) (m : ℕ) → telling_from list.ifaces (t ∷ []) 0 m ≡ 0
alone_at list t zero = refl
alone_at list t (suc m) = refl

-- the place that tells entries apart is that by which a value chooses, and 0 where there is none
pub place_or_0 : (list : DefsTerm) (entries : List TupleTerm) → telling_place list entries ≡ unwrap_or (choosing_place list entries) 0
place_or_0 list [] = refl
place_or_0 list (t ∷ []) = alone_at list t (length t.types)
place_or_0 list (t ∷ u ∷ more) = refl
