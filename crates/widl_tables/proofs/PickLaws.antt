-- The laws of the choice: where picks come from, and when a value is probed.
use Rattle.std.proofs.Common.{◌≡◌, ◌↔◌, ℕ, suc, ◌<◌, ◌++◌, ◌&&◌, Bool, true, false, cond, Contains, List, [], ◌∷◌, length, Option, None, Some, arith, refl, sym, ap, subst, ◌∙◌}
use Rattle.widl_idl.specs.DefinitionTerms.{DefsTerm}
use Rattle.widl_idl.specs.Flattened.{flattened_members}
use Rattle.widl_idl.specs.Terms.{TypeTerms}
use Rattle.widl_overload.specs.sets.Entries.{optionality_at, type_at}
use Rattle.widl_overload.specs.sets.Sets.{TupleTerm}
use Rattle.widl_value.specs.declared.class.Class.{Class}
use Rattle.widl_tables.specs.declared.entry_test.Test.{Test}
use Rattle.widl_tables.specs.declared.entry_test.Test.TheVariants.{IsOptional, IsNullable, IsImplemented, IsCallback, IsSequence, IsObject, IsBoolean, IsNumeric, TakesText, TakesNumber, TakesTruth, TakesAny}
use Rattle.widl_tables.specs.declared.pick.Pick.{Pick}
use Rattle.widl_tables.specs.declared.pick.Pick.TheVariants.{Entry, Probe, Refuse}
use Rattle.widl_tables.specs.Kept.{numbers_of}
use Rattle.widl_tables.specs.Laws.{IsProbed}
use Rattle.widl_tables.specs.Picks.{Met, first_entry, first_pick, is_probe, met_by, met_members, pick_member_of, pick_of, picks_by, tests}
use Rattle.widl_tables.specs.Tests.{is_an_object, is_sequence, meets, some_type}
use Rattle.widl_tables.proofs.Finding.{told_unasked}

-- 1. Picks are of entries

-- what a pick names
abbrev Names : Pick → ℕ → Type 0
Names (Entry k) e = k ≡ e
Names (Probe k) e = k ≡ e
Names Refuse e = ⊥

contains_more : (x e : ℕ) (xs : List ℕ) → Contains xs e → Contains (x ∷ xs) e
contains_more x e xs h = (suc h.0, (let below : h.0 < length xs = h.1 in omega arith), h.2)

by_entry : (b : Bool) (t : TupleTerm) (rest : Option ℕ) (e : ℕ) (entries : List TupleTerm) → (rest ≡ Some e → Contains (numbers_of entries) e) → cond b (Some t.overload) rest ≡ Some e → Contains (numbers_of (t ∷ entries)) e
by_entry true t rest e entries h is = (0, omega arith, cc)
by_entry false t rest e entries h is = contains_more t.overload e (numbers_of entries) (h is)

entry_in : (list : DefsTerm) (place : ℕ) (class : Class) (test : Test) (entries : List TupleTerm) (e : ℕ) → first_entry list place class test entries ≡ Some e → Contains (numbers_of entries) e
entry_in list place class test [] e is = cc
entry_in list place class test (t ∷ entries) e is =
    by_entry (meets list test class (type_at t place) (optionality_at t place)) t (first_entry list place class test entries) e entries (entry_in list place class test entries e) is

names_by : (probed needs_method : Bool) (o : Option ℕ) (later : Pick) (e : ℕ) (P : Type 0) → (o ≡ Some e → P) → (Names later e → P) → Names (picks_by probed needs_method o later) e → P
names_by probed false None later e P here h is = h is
names_by probed true None later e P here h is = h is
names_by probed false (Some k) later e P here h is = here (ap Some is)
names_by true true (Some k) later e P here h is = h is
names_by false true (Some k) later e P here h is = here (ap Some is)

named_in : (list : DefsTerm) (entries : List TupleTerm) (place : ℕ) (class : Class) (probed : Bool) (some_tests : List Test) (e : ℕ) → Names (first_pick probed (met_by list entries place class some_tests)) e → Contains (numbers_of entries) e
named_in list entries place class probed [] e is = absurd is
named_in list entries place class probed (t ∷ more) e is =
    names_by probed (is_probe t) (first_entry list place class t entries) (first_pick probed (met_by list entries place class more)) e (Contains (numbers_of entries) e)
    (entry_in list place class t entries e) (named_in list entries place class probed more e) is

pub entry_is_kept : (list : DefsTerm) (entries : List TupleTerm) (place : ℕ) (class : Class) (probed : Bool) (e : ℕ) → pick_of list entries place class probed ≡ Entry e → Contains (numbers_of entries) e
entry_is_kept list entries place class probed e is = named_in list entries place class probed tests e (subst (λ (p : Pick). Names p e) (sym is) refl)

pub probe_is_kept : (list : DefsTerm) (entries : List TupleTerm) (place : ℕ) (class : Class) (probed : Bool) (e : ℕ) → pick_of list entries place class probed ≡ Probe e → Contains (numbers_of entries) e
probe_is_kept list entries place class probed e is = named_in list entries place class probed tests e (subst (λ (p : Pick). Names p e) (sym is) refl)

-- 2. Where nothing is probed

-- no test that needs a method is met
abbrev AreQuiet : List Met → Type 0
AreQuiet [] = Unit {0}
AreQuiet (m ∷ more) = (m.needs_method ≡ true → m.entry ≡ None) × AreQuiet more

quiet_by : (needs_method : Bool) (o : Option ℕ) (one other : Pick) → (needs_method ≡ true → o ≡ None) → one ≡ other → picks_by true needs_method o one ≡ picks_by false needs_method o other
quiet_by false None one other h same = same
quiet_by false (Some e) one other h same = refl
quiet_by true None one other h same = same
quiet_by true (Some e) one other h same = (let not : Some e ≡ None = h refl in cc)

quiet_same : (ms : List Met) → AreQuiet ms → first_pick true ms ≡ first_pick false ms
quiet_same [] h = refl
quiet_same (m ∷ more) h = quiet_by m.needs_method m.entry (first_pick true more) (first_pick false more) h.0 (quiet_same more h.1)

no_sequence : (list : DefsTerm) (place : ℕ) (class : Class) (entries : List TupleTerm) → is_an_object class ≡ false → first_entry list place class IsSequence entries ≡ None
no_sequence list place class [] plain = refl
no_sequence list place class (t ∷ entries) plain =
    ap (λ (b : Bool). cond (b && some_type is_sequence (type_at t place)) (Some t.overload) (first_entry list place class IsSequence entries)) plain ∙ no_sequence list place class entries plain

pub plain_overload : (list : DefsTerm) (entries : List TupleTerm) (place : ℕ) (class : Class) → is_an_object class ≡ false → pick_of list entries place class true ≡ pick_of list entries place class false
plain_overload list entries place class plain =
    quiet_same (met_by list entries place class tests)
    ((λ h. cc), ((λ h. cc), ((λ h. cc), ((λ h. cc), ((λ h. no_sequence list place class entries plain), ((λ h. cc), ((λ h. cc), ((λ h. cc), ((λ h. cc), ((λ h. cc), ((λ h. cc), ((λ h. cc), tt))))))))))))

pub plain_member : (list : DefsTerm) (members : TypeTerms) (class : Class) → is_an_object class ≡ false → pick_member_of list members class true ≡ pick_member_of list members class false
plain_member list members class plain =
    quiet_same (met_members list class (flattened_members members))
    ((λ h. cc), ((λ h. cc), ((λ h. cc), ((λ h. cc), ((λ h. cc), ((λ h. sym (told_unasked (is_an_object class) is_sequence (flattened_members members) plain)), ((λ h. cc), ((λ h. cc), ((λ h. cc), ((λ h. cc), ((λ h. cc), ((λ h. cc), ((λ h. cc), ((λ h. cc), ((λ h. cc), tt)))))))))))))))

-- 3. When a value is probed

abbrev NeedNone : List Met → Type 0
NeedNone [] = Unit {0}
NeedNone (m ∷ more) = (m.needs_method ≡ false) × NeedNone more

never_by : (probed needs_method : Bool) (o : Option ℕ) (later : Pick) (e : ℕ) → needs_method ≡ false → (later ≡ Probe e → ⊥) → picks_by probed needs_method o later ≡ Probe e → ⊥
never_by probed true o later e plain h is = cc
never_by probed false None later e plain h is = h is
never_by probed false (Some k) later e plain h is = cc

never_probes : (probed : Bool) (ms : List Met) (e : ℕ) → NeedNone ms → first_pick probed ms ≡ Probe e → ⊥
never_probes probed [] e plain is = cc
never_probes probed (m ∷ more) e plain is = never_by probed m.needs_method m.entry (first_pick probed more) e plain.0 (never_probes probed more e plain.1) is

-- what a probe at this test says
record ProbedAt (probed : Bool) (earlier : List Met) (o : Option ℕ) (e : ℕ) : Type 0 where
  unprobed : probed ≡ false
  refused : first_pick false earlier ≡ Refuse
  entry : o ≡ Some e

probe_here : (probed : Bool) (o : Option ℕ) (later : Pick) (e : ℕ) → (later ≡ Probe e → ⊥) → picks_by probed true o later ≡ Probe e → ProbedAt probed [] o e
probe_here probed None later e h is = absurd (h is)
probe_here true (Some k) later e h is = absurd (h is)
probe_here false (Some k) later e h is = record { unprobed = refl; refused = refl; entry = (let same : k ≡ e = cc in ap Some same) }

probe_later : (probed needs_method : Bool) (o : Option ℕ) (later : Pick) (earlier : List Met) (entry : Option ℕ) (e : ℕ) → needs_method ≡ false → (later ≡ Probe e → ProbedAt probed earlier entry e) → picks_by probed needs_method o later ≡ Probe e
    → (probed ≡ false) × (picks_by false needs_method o (first_pick false earlier) ≡ Refuse) × (entry ≡ Some e)
probe_later probed true o later earlier entry e plain h is = cc
probe_later probed false None later earlier entry e plain h is = let at = h is in (at.unprobed, at.refused, at.entry)
probe_later probed false (Some k) later earlier entry e plain h is = cc

probed_at : (probed : Bool) (earlier : List Met) (m : Met) (later : List Met) (e : ℕ) → NeedNone earlier → m.needs_method ≡ true → NeedNone later → first_pick probed (earlier ++ m ∷ later) ≡ Probe e → ProbedAt probed earlier m.entry e
probed_at probed [] m later e plain needs after is =
    probe_here probed m.entry (first_pick probed later) e (never_probes probed later e after) (ap (λ (b : Bool). picks_by probed b m.entry (first_pick probed later)) (sym needs) ∙ is)
probed_at probed (x ∷ earlier) m later e plain needs after is =
    let at = probe_later probed x.needs_method x.entry (first_pick probed (earlier ++ m ∷ later)) earlier m.entry e plain.0 (probed_at probed earlier m later e plain.1 needs after) is in
    record { unprobed = at.0; refused = at.1; entry = at.2 }

refused_by : (needs_method : Bool) (o : Option ℕ) (earlier later : Pick) → needs_method ≡ false → (earlier ≡ Refuse → later ≡ later) → picks_by false needs_method o earlier ≡ Refuse → (o ≡ None) × (earlier ≡ Refuse)
refused_by true o earlier later plain h is = cc
refused_by false None earlier later plain h is = (refl, is)
refused_by false (Some k) earlier later plain h is = cc

probes_at : (earlier : List Met) (m : Met) (later : List Met) (e : ℕ) → NeedNone earlier → m.needs_method ≡ true → first_pick false earlier ≡ Refuse → m.entry ≡ Some e → first_pick false (earlier ++ m ∷ later) ≡ Probe e
probes_at [] m later e plain needs refused is =
    ap (λ (b : Bool). picks_by false b m.entry (first_pick false later)) needs ∙ ap (λ (o : Option ℕ). picks_by false true o (first_pick false later)) is
probes_at (x ∷ earlier) m later e plain needs refused is =
    let both = refused_by x.needs_method x.entry (first_pick false earlier) Refuse plain.0 (λ h. refl) refused in
    ap (λ (b : Bool). picks_by false b x.entry (first_pick false (earlier ++ m ∷ later))) plain.0
    ∙ ap (λ (o : Option ℕ). picks_by false false o (first_pick false (earlier ++ m ∷ later))) both.0
    ∙ probes_at earlier m later e plain.1 needs both.1 is

object_by : (b : Bool) (o : Option ℕ) (e : ℕ) → (b ≡ false → o ≡ None) → o ≡ Some e → b ≡ true
object_by true o e h is = refl
object_by false o e h is = (let none : o ≡ None = h refl in cc)

abbrev before_sequences : List Test
before_sequences = IsOptional ∷ IsNullable ∷ IsImplemented ∷ IsCallback ∷ []

abbrev after_sequences : List Test
after_sequences = IsObject ∷ IsBoolean ∷ IsNumeric ∷ TakesText ∷ TakesNumber ∷ TakesTruth ∷ TakesAny ∷ []

abbrev sequence_test : DefsTerm → List TupleTerm → ℕ → Class → Met
sequence_test list entries place class = record { needs_method = true; entry = first_entry list place class IsSequence entries }

is_probed : (list : DefsTerm) (entries : List TupleTerm) (place : ℕ) (class : Class) (probed : Bool) (e : ℕ) → pick_of list entries place class probed ≡ Probe e → IsProbed list entries place class probed e
is_probed list entries place class probed e is =
    let at = probed_at probed (met_by list entries place class before_sequences) (sequence_test list entries place class) (met_by list entries place class after_sequences) e
    (refl, (refl, (refl, (refl, tt)))) refl (refl, (refl, (refl, (refl, (refl, (refl, (refl, tt))))))) is in
    record {
      unprobed = at.unprobed;
      object = object_by (is_an_object class) (first_entry list place class IsSequence entries) e (no_sequence list place class entries) at.entry;
      earlier = at.refused;
      sequence = at.entry;
    }

probes : (list : DefsTerm) (entries : List TupleTerm) (place : ℕ) (class : Class) (probed : Bool) (e : ℕ) → IsProbed list entries place class probed e → pick_of list entries place class probed ≡ Probe e
probes list entries place class probed e h =
    ap (λ (b : Bool). pick_of list entries place class b) h.unprobed
    ∙ probes_at (met_by list entries place class before_sequences) (sequence_test list entries place class) (met_by list entries place class after_sequences) e (refl, (refl, (refl, (refl, tt)))) refl h.earlier h.sequence

pub probe_is : (list : DefsTerm) (entries : List TupleTerm) (place : ℕ) (class : Class) (probed : Bool) (e : ℕ) → pick_of list entries place class probed ≡ Probe e ↔ IsProbed list entries place class probed e
probe_is list entries place class probed e = (is_probed list entries place class probed e, probes list entries place class probed e)
