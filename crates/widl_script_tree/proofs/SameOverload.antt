-- The equality of the code at callees and overloads is that of the definition.
use Rattle.std.proofs.Common.{◌≡◌, ℕ, Bool, Option, Some, None, List, refl}
use Rattle.std.specs.Prelude.{◌&&◌, nat_eq}
use Rattle.std.specs.Option.{option_eq}
use Rattle.indexmap.specs.IndexMap.{insert_entry}
use Rattle.widl_idl.specs.declared.callee.Callee.{Callee}
use Rattle.widl_idl.specs.declared.callee.Owner.{Owner}
use Rattle.widl_idl.specs.declared.callee.Owner.TheVariants.{Iface, Space}
use Rattle.widl_idl.specs.declared.callee.Part.{Part}
use Rattle.widl_idl.specs.declared.callee.Part.TheVariants.{Op, Constructor, Get, Set, Text}
use Rattle.widl_idl.specs.contracts.callee.CalleePartialEq.TheImpl as callee
use Rattle.widl_idl.specs.contracts.callee.OwnerPartialEq.TheImpl as owner
use Rattle.widl_idl.specs.contracts.callee.PartPartialEq.TheImpl as part
use Rattle.widl_script_tree.specs.Tables.{CalleeOverload, same_callee, same_owner, same_part, same_overload}

owners : (a b : Owner) → (owner.ghosts).eq a b ≡ same_owner a b
owners (Iface a) (Iface b) = refl
owners (Iface a) (Space b) = refl
owners (Space a) (Iface b) = refl
owners (Space a) (Space b) = refl

parts : (a b : Part) → (part.ghosts).eq a b ≡ same_part a b
parts (Op a) (Op b) = refl
parts (Op a) Constructor = refl
parts (Op a) (Get b) = refl
parts (Op a) (Set b) = refl
parts (Op a) Text = refl
parts Constructor (Op b) = refl
parts Constructor Constructor = refl
parts Constructor (Get b) = refl
parts Constructor (Set b) = refl
parts Constructor Text = refl
parts (Get a) (Op b) = refl
parts (Get a) Constructor = refl
parts (Get a) (Get b) = refl
parts (Get a) (Set b) = refl
parts (Get a) Text = refl
parts (Set a) (Op b) = refl
parts (Set a) Constructor = refl
parts (Set a) (Get b) = refl
parts (Set a) (Set b) = refl
parts (Set a) Text = refl
parts Text (Op b) = refl
parts Text Constructor = refl
parts Text (Get b) = refl
parts Text (Set b) = refl
parts Text Text = refl

pub callees : (a b : Callee) → (callee.ghosts).eq a b ≡ same_callee a b
callees a b = let o = owners a.owner b.owner in let p = parts a.part b.part in λ i. o i && p i

-- an insertion by an equality that is that of the definition
pub inserted : (E : CalleeOverload → CalleeOverload → Bool) → ((a b : CalleeOverload) → E a b ≡ same_overload a b) → (entries : List (CalleeOverload × ℕ)) (key : CalleeOverload) (number : ℕ) → insert_entry E entries key number ≡ insert_entry same_overload entries key number
inserted E same entries key number = λ i. insert_entry (λ a b. same a b i) entries key number

pub pairs : (F : Option ℕ → Option ℕ → Bool) → ((a b : Option ℕ) → F a b ≡ option_eq nat_eq a b) → (a b : CalleeOverload) → ((callee.ghosts).eq a.0 b.0 && F a.1 b.1) ≡ same_overload a b
pairs F same a b = let c = callees a.0 b.0 in let o = same a.1 b.1 in λ i. c i && o i
