-- The overloads of a callee in a list that 32 bits can number.
use Rattle.std.proofs.Common.{◌≡◌, ℕ, ◌<◌, List, [], ◌∷◌, length, map, get_or, arith, refl, sym, subst}
use Rattle.std.specs.Prelude.{Option, None, Some, slice_get, option_and_then, option_map}
use Rattle.std.specs.List.{All}
use Rattle.std.specs.Option.{ForSome}
use Rattle.std.proofs.lemmas.List.{get_or-map, length-map}
use Rattle.std.proofs.lemmas.Option.{get_or_from_slice_get, slice_get-map, slice_get_within}
use Rattle.widl_idl.specs.declared.callee.Callee.{Callee}
use Rattle.widl_idl.specs.declared.callee.Owner.{Owner}
use Rattle.widl_idl.specs.declared.callee.Owner.TheVariants as owners
use Rattle.widl_idl.specs.declared.callee.Part.{Part}
use Rattle.widl_idl.specs.declared.callee.Part.TheVariants as parts
use Rattle.widl_idl.specs.declared.defs.Defs.{Defs}
use Rattle.widl_idl.specs.declared.interface.Iface.{Iface}
use Rattle.widl_idl.specs.declared.namespace.Space.{Space}
use Rattle.widl_idl.specs.declared.operation.OpName.{OpName}
use Rattle.widl_idl.specs.declared.signature.Sig.{Sig}
use Rattle.widl_idl.specs.Counts.{IsNumbered, IsNumberedList, NumberedInterface, NumberedNamespace, NumberedOp, NumberedSig}
use Rattle.widl_idl.specs.DefinitionTerms.{OpNameTerm, SigTerm, arg_term, defs_term, iface_term, op_name_term, sig_term, space_term}
use Rattle.widl_overload.specs.sets.Sets.{AreNumbered, HasFewArgs, interface_overloads, namespace_overloads, overloads_in, overloads_of}

each_at : {X : Type 0} (P : X → Type 0) (xs : List X) (n : ℕ) (x : X) → All P xs → slice_get xs n ≡ Some x → P x
each_at P xs n x all e = subst P (get_or_from_slice_get xs n x x e) (all n x (slice_get_within xs n x e))

few_args : (sigs : List Sig) → All (λ (s : Sig). length s.args < 4294967296) sigs → All HasFewArgs (map sig_term sigs)
few_args [] h k d below = absurd (omega arith)
few_args (s ∷ sigs) h k d below =
    let within : k < length (s ∷ sigs) = omega (arith, length-map (s ∷ sigs) sig_term) in
    let few = h k s within in
    subst HasFewArgs (sym (get_or-map sig_term (s ∷ sigs) k s d within)) (omega (arith, few, length-map (get_or (s ∷ sigs) k s).args arg_term))

-- few overloads, each with few arguments
pub few_terms : (sigs : List Sig) → length sigs < 4294967296 → All (λ (s : Sig). length s.args < 4294967296) sigs → AreNumbered (map sig_term sigs)
few_terms sigs few each = record { few = omega (arith, few, length-map sigs sig_term); each = few_args sigs each }

pub sigs_numbered : (sigs : List Sig) → IsNumbered NumberedSig sigs → AreNumbered (map sig_term sigs)
sigs_numbered sigs h = few_terms sigs h.few (λ k d below. (h.each k d below).args.few)

given : (sigs other : List SigTerm) → AreNumbered sigs → Some sigs ≡ Some other → AreNumbered other
given sigs other h e = let same : sigs ≡ other = cc in subst AreNumbered same h

-- what holds of the terms that are found
found : {X Y : Type 0} (f : X → Y) (xs : List X) (n : ℕ) (P : Option Y → Type 0) → P (option_map f (slice_get xs n)) → P (slice_get (map f xs) n)
found f xs n P h = subst P (sym (slice_get-map f xs n)) h

named_numbered : (ops : List OpName) (m : ℕ) (o : Option OpName) → IsNumbered NumberedOp ops → slice_get ops m ≡ o → ForSome (option_map (λ (op : OpNameTerm). op.sigs) (option_map op_name_term o)) AreNumbered
named_numbered ops m None h is sigs e = absurd (cc)
named_numbered ops m (Some op) h is sigs e = given (map sig_term op.sigs) sigs (sigs_numbered op.sigs (each_at NumberedOp ops m op h.each is)) e

operations_numbered : (ops : List OpName) (m : ℕ) → IsNumbered NumberedOp ops → ForSome (option_map (λ (op : OpNameTerm). op.sigs) (slice_get (map op_name_term ops) m)) AreNumbered
operations_numbered ops m h = found op_name_term ops m (λ o. ForSome (option_map (λ (op : OpNameTerm). op.sigs) o) AreNumbered) (named_numbered ops m (slice_get ops m) h refl)

interface_numbered : (part : Part) (i : Iface) → NumberedInterface i → ForSome (interface_overloads part (iface_term i)) AreNumbered
interface_numbered (parts.Op m) i h = operations_numbered i.ops m h.ops
interface_numbered parts.Constructor i h = λ other e. given (map sig_term i.ctors) other (sigs_numbered i.ctors h.ctors) e
interface_numbered part i h = λ sigs e. absurd (cc)

namespace_numbered : (part : Part) (s : Space) → NumberedNamespace s → ForSome (namespace_overloads part (space_term s)) AreNumbered
namespace_numbered (parts.Op m) s h = operations_numbered s.ops m h.ops
namespace_numbered part s h = λ sigs e. absurd (cc)

in_interface : (defs : Defs) (n : ℕ) (part : Part) (o : Option Iface) → IsNumberedList defs → slice_get defs.ifaces n ≡ o → ForSome (option_and_then (interface_overloads part) (option_map iface_term o)) AreNumbered
in_interface defs n part None h is = λ sigs e. absurd (cc)
in_interface defs n part (Some i) h is = interface_numbered part i (each_at NumberedInterface defs.ifaces n i h.ifaces.each is)

in_namespace : (defs : Defs) (n : ℕ) (part : Part) (o : Option Space) → IsNumberedList defs → slice_get defs.spaces n ≡ o → ForSome (option_and_then (namespace_overloads part) (option_map space_term o)) AreNumbered
in_namespace defs n part None h is = λ sigs e. absurd (cc)
in_namespace defs n part (Some s) h is = namespace_numbered part s (each_at NumberedNamespace defs.spaces n s h.spaces.each is)

in_owner : (defs : Defs) (owner : Owner) (part : Part) → IsNumberedList defs → ForSome (overloads_in (defs_term defs) owner part) AreNumbered
in_owner defs (owners.Iface n) part h = found iface_term defs.ifaces n (λ o. ForSome (option_and_then (interface_overloads part) o) AreNumbered) (in_interface defs n part (slice_get defs.ifaces n) h refl)
in_owner defs (owners.Space n) part h = found space_term defs.spaces n (λ o. ForSome (option_and_then (namespace_overloads part) o) AreNumbered) (in_namespace defs n part (slice_get defs.spaces n) h refl)

-- what `effective_set` asks holds of each callee of a list that 32 bits can number
pub overloads_numbered : (defs : Defs) (callee : Callee) → IsNumberedList defs → ForSome (overloads_of (defs_term defs) callee) AreNumbered
overloads_numbered defs callee h = in_owner defs callee.owner callee.part h
