-- How deep types nest that are read at a level.
use Rattle.std.proofs.Common.{◌≡◌, ℕ, suc, ◌+◌, ◌<◌, ◌≤◌, ◌-◌, Bool, true, false, Option, Some, List, [], ◌∷◌, ◌++◌, refl, sym, ◌∙◌, ap, subst, arith, max, le-leb, lt-ltb, if◌then◌else◌}
use Rattle.std.specs.Prelude.{map, Result, Ok, Err, IfOk, nat_le, nat_lt}
use Rattle.widl_text.specs.declared.place.Place.{Place}
use Rattle.widl_idl.specs.PlainTypes.{plain_of, plain_inner, plain_union, type_of, annotated_of}
use Rattle.widl_idl.specs.TypeTrees.{packed_members, tree_of_type, tree_of_annotated}
use Rattle.widl_idl.specs.declared.tree.types.AnnotatedType.{AnnotatedType}
use Rattle.widl_idl.specs.declared.tree.types.Container.{Container}
use Rattle.widl_idl.specs.declared.tree.types.Container.TheVariants as container
use Rattle.widl_idl.specs.declared.tree.types.WrittenType.{WrittenType}
use Rattle.widl_lex.specs.Tokens.{Lexeme}
use Rattle.widl_predictive.specs.declared.grammar.Symbol.TheVariants.{Token, Part, Inner}
use Rattle.widl_predictive.specs.Derivation.{Terminal as Derived, Nonterminal}
use Rattle.widl_predictive.specs.Grammar as gr
use Rattle.widl_predictive.specs.Grammar.{Leveled}
use Rattle.widl_predictive.specs.Lookahead.{choice, nth}
use Rattle.widl_predictive.specs.Predictive.{ahead}
use Rattle.widl_predictive.specs.Runs.{plain, stripped}
use Rattle.widl_predictive.proofs.Running.{row_stripped}
use Rattle.widl_grammar.specs.declared.rule.Rule.{Rule}
use Rattle.widl_grammar.specs.declared.rule.Rule.TheVariants as rule
use Rattle.widl_grammar.specs.declared.terminal.Terminal.{Terminal}
use Rattle.widl_grammar.specs.declared.terminal.Terminal.TheVariants as terminal
use Rattle.widl_grammar.specs.Rows.{grammar, rows_of, begins_type}
use Rattle.widl_grammar.specs.Tables.{sets, picked}
use Rattle.widl_grammar.specs.Source.{terminal_of}
use Rattle.widl_syntax.specs.Deriving.{Symbols, Stack, Levels}
use Rattle.widl_syntax.specs.Leveled.{IsWithin, over, taken, chosen}
use Rattle.widl_syntax.specs.Nesting.{type_levels, annotated_levels, member_levels}
use Rattle.widl_syntax.specs.Reading.{Reads, part, token, terminal_ahead, IsTaken}
use Rattle.widl_syntax.specs.Signs.{Sign, UnparsesTo, Nowhere}
use Rattle.widl_syntax.specs.TypeLevels.{Row, Nests, BeginsNested}
use Rattle.widl_syntax.specs.UnparsedTypes.{container_terminal, inner_type, written_type, within_levels}
use Rattle.widl_syntax.proofs.Leveling.{after_read, parts_of}
use Rattle.widl_syntax.proofs.Lists.{append_none}
use Rattle.widl_syntax.proofs.Reading.{ahead_is, is_among, is_other, is_rest, only_row, rest_picks, that_row, took}

abbrev terminals : List Lexeme → List Terminal
terminals tokens = map terminal_of tokens

-- what a part that comes first is read as
pub levels_chosen : {n : Leveled Rule} {z : Stack} {w : List Terminal} → Levels (Nonterminal n ∷ z) w → (α : Row) × (choice grammar sets n.0 (ahead w) ≡ Some α) × IsWithin grammar sets n × Levels (gr.row_at grammar n.1 α ++ z) w
levels_chosen (chosen α c i l) = (α, c, i, l)

-- the row of a rule is known by what is ahead
pub record Picks (rule : Rule) (α : Row) (w : List Lexeme) : Type 0 where
  pub picked_is : (β : Row) → choice grammar sets rule (ahead (terminals w)) ≡ Some β → β ≡ α

pub picks_at : (rule : Rule) (t : Terminal) {α : Row} {w : List Lexeme} → terminal_ahead w ≡ t → is_other t ≡ false → choice grammar sets rule (Some t) ≡ Some α → Picks rule α w
picks_at rule t {α} {w} e other c = record {
  picked_is = λ β is.
      let row : choice grammar sets rule (ahead (terminals w)) ≡ Some α = ap (choice grammar sets rule) (ahead_is t w other e) ∙ c in
      cc;
}

pub picks_only : (rule : Rule) {α : Row} {w : List Lexeme} → rows_of rule ≡ α ∷ [] → Picks rule α w
picks_only rule {α} {w} one = record { picked_is = λ β is. only_row (picked rule (ahead (terminals w))) (ap (λ rows. nth rows (picked rule (ahead (terminals w)))) (sym one) ∙ is) }

pub picks_rest : (rule : Rule) (others : List Terminal) (k : ℕ) {α : Row} {w : List Lexeme} → is_rest rule others k ≡ true → nth (rows_of rule) k ≡ Some α → is_among others (terminal_ahead w) ≡ false → Picks rule α w
picks_rest rule others k {α} {w} test e differ = record { picked_is = λ β is. that_row (rows_of rule) k (picked rule (ahead (terminals w))) α β (rest_picks rule others k w test differ) e is }

abbrev pub generic : Row
generic = Part rule.Container ∷ Token terminal.Less ∷ Inner rule.ExtendedAttributeList ∷ Inner rule.WholeType ∷ Token terminal.Greater ∷ []

pub picks_generic : (kind : Container) {w : List Lexeme} → terminal_ahead w ≡ container_terminal kind → Picks rule.DistinguishableBase generic w
picks_generic container.Sequence e = picks_at rule.DistinguishableBase terminal.Sequence e refl refl
picks_generic container.AsyncSequence e = picks_at rule.DistinguishableBase terminal.AsyncSequence e refl refl
picks_generic container.FrozenArray e = picks_at rule.DistinguishableBase terminal.FrozenArray e refl refl
picks_generic container.ObservableArray e = picks_at rule.DistinguishableBase terminal.ObservableArray e refl refl

-- a rule nests as its row does
pub nests_by : {α : Row} {levels : ℕ} {w : List Lexeme} (rule : Rule) → Picks rule α w → Nests α levels w → Nests (Part rule ∷ []) levels w
nests_by {α} {levels} {w} rule picks n = record {
  nests = λ l others run le.
      let c = levels_chosen run in
      n.nests l others (subst (λ row. Levels (gr.row_at grammar l row ++ others) (terminals w)) (picks.picked_is c.0 c.1) c.3) le;
}

pub begins_by : {α : Row} {levels : ℕ} {w : List Lexeme} (rule : Rule) → begins_type rule ≡ true → Picks rule α w → Nests α levels w → BeginsNested (Part rule ∷ []) levels w
begins_by {α} {levels} {w} rule begins picks n = record {
  nests = λ l others run.
      let c = levels_chosen run in
      let lt = c.2.begins begins in
      n.nests l others (subst (λ row. Levels (gr.row_at grammar l row ++ others) (terminals w)) (picks.picked_is c.0 c.1) c.3) (omega (arith, lt));
}

-- where the row begins a type
pub begun_by : {α : Row} {levels : ℕ} {w : List Lexeme} (rule : Rule) → Picks rule α w → BeginsNested α levels w → BeginsNested (Part rule ∷ []) levels w
begun_by {α} {levels} {w} rule picks n = record {
  nests = λ l others run.
      let c = levels_chosen run in
      n.nests l others (subst (λ row. Levels (gr.row_at grammar l row ++ others) (terminals w)) (picks.picked_is c.0 c.1) c.3);
}

row_append : (l : ℕ) (α β : Row) (others : Stack) → gr.row_at grammar l (α ++ β) ++ others ≡ gr.row_at grammar l α ++ (gr.row_at grammar l β ++ others)
row_append l [] β others = refl
row_append l (x ∷ α) β others = ap (λ s. gr.at_level grammar l x ∷ s) (row_append l α β others)

-- what was read before
pub nests_after : (α : Row) {β : Row} {x : List Sign} {levels : ℕ} {w m : List Lexeme} → Reads (plain α) x w m → Nests β levels m → Nests (α ++ β) levels w
nests_after α {β} {w = w} f n = record {
  nests = λ l others run le.
      n.nests l others (after_read f (gr.row_at grammar l α) (gr.row_at grammar l β ++ others) (row_stripped grammar l α) (subst (λ s. Levels s (terminals w)) (row_append l α β others) run)) le;
}

pub begins_after : (α : Row) {β : Row} {x : List Sign} {levels : ℕ} {w m : List Lexeme} → Reads (plain α) x w m → BeginsNested β levels m → BeginsNested (α ++ β) levels w
begins_after α {β} {w = w} f n = record {
  nests = λ l others run.
      n.nests l others (after_read f (gr.row_at grammar l α) (gr.row_at grammar l β ++ others) (row_stripped grammar l α) (subst (λ s. Levels s (terminals w)) (row_append l α β others) run));
}

-- what is read after
pub nests_first : {α : Row} (β : Row) {levels : ℕ} {w : List Lexeme} → Nests α levels w → Nests (α ++ β) levels w
nests_first {α} β {levels} {w} n = record {
  nests = λ l others run le. n.nests l (gr.row_at grammar l β ++ others) (subst (λ s. Levels s (terminals w)) (row_append l α β others) run) le;
}

pub of_levels : {α : Row} {n m : ℕ} {w : List Lexeme} → m ≡ n → Nests α n w → Nests α m w
of_levels {α} {w = w} e h = subst (λ k. Nests α k w) (sym e) h

pub of_nested : {α : Row} {n m : ℕ} {w : List Lexeme} → m ≡ n → BeginsNested α n w → BeginsNested α m w
of_nested {α} {w = w} e h = subst (λ k. BeginsNested α k w) (sym e) h

-- a type of one level
pub nests_flat : {α : Row} {levels : ℕ} {w : List Lexeme} → levels ≡ 1 → Nests α levels w
nests_flat one = record { nests = λ l others run le. omega (arith, one, le) }

pub nests_begun : {α : Row} {levels : ℕ} {w : List Lexeme} → BeginsNested α levels w → Nests α levels w
nests_begun n = record { nests = λ l others run le. n.nests l others run }

next_is : (l : ℕ) → l ≤ 16 → gr.next_level 17 l ≡ l + 1
next_is l le = ap (λ b. if b then l + 1 else l) (lt-ltb l 17 (omega (arith, le)))

-- a type one level further in
pub nests_inside : (rule : Rule) {β : Row} {levels : ℕ} {w : List Lexeme} → BeginsNested (Part rule ∷ []) levels w → Nests (Inner rule ∷ β) (suc levels) w
nests_inside rule {β} {levels} {w} n = record {
  nests = λ l others run le.
      let fits = n.nests (l + 1) (gr.row_at grammar l β ++ others) (subst (λ k. Levels (Nonterminal (rule, k) ∷ (gr.row_at grammar l β ++ others)) (terminals w)) (next_is l le) run) in
      omega (arith, fits);
}

pub nests_annotated : {β : Row} {levels : ℕ} {w : List Lexeme} → BeginsNested (Part rule.ExtendedAttributeList ∷ Part rule.WholeType ∷ []) levels w → Nests (Inner rule.ExtendedAttributeList ∷ Inner rule.WholeType ∷ β) (suc levels) w
nests_annotated {β} {levels} {w} n = record {
  nests = λ l others run le.
      let fits = n.nests (l + 1) (gr.row_at grammar l β ++ others) (subst (λ k. Levels (Nonterminal (rule.ExtendedAttributeList, k) ∷ Nonterminal (rule.WholeType, k) ∷ (gr.row_at grammar l β ++ others)) (terminals w)) (next_is l le) run) in
      omega (arith, fits);
}

-- the members of a union so far
abbrev pub list_levels : List AnnotatedType → ℕ
list_levels [] = 0
list_levels (x ∷ xs) = max (annotated_levels (annotated_of x)) (list_levels xs)

pub levels_of_list : (xs : List AnnotatedType) → member_levels (plain_union (packed_members (map tree_of_annotated xs))) ≡ list_levels xs
levels_of_list [] = refl
levels_of_list (x ∷ xs) = ap (max (annotated_levels (annotated_of x))) (levels_of_list xs)

levels_more : (xs : List AnnotatedType) (x : AnnotatedType) (most : ℕ) → list_levels xs ≤ most → annotated_levels (annotated_of x) ≤ most → list_levels (xs ++ x ∷ []) ≤ most
levels_more [] x most le one = omega (arith, one)
levels_more (y ∷ ys) x most le one = let rest = levels_more ys x most (omega (arith, le)) one in omega (arith, le, rest)

abbrev pub union_row : Row
union_row = Inner rule.UnionMember ∷ Token terminal.Or ∷ Inner rule.UnionMember ∷ Part rule.MoreUnionMembers ∷ []

pub record InUnion (start now : List Lexeme) (members : List AnnotatedType) : Type 0 where
  pub fits : (l : ℕ) (others : Stack) → Levels (gr.row_at grammar l union_row ++ others) (terminals start) → l ≤ 16 → Levels (Nonterminal (rule.MoreUnionMembers, l) ∷ others) (terminals now) × (suc l + list_levels members ≤ 17)

member_read : {x : List Sign} {levels : ℕ} {w m : List Lexeme} (l : ℕ) (others : Stack) → Reads (part rule.UnionMember) x w m → BeginsNested (Part rule.UnionMember ∷ []) levels w → l ≤ 16 → Levels (Nonterminal (rule.UnionMember, gr.next_level 17 l) ∷ others) (terminals w) → Levels others (terminals m) × (suc l + levels ≤ 17)
member_read {x} {levels} {w} {m} l others f n le run =
    let at_next : Levels (Nonterminal (rule.UnionMember, l + 1) ∷ others) (terminals w) = subst (λ k. Levels (Nonterminal (rule.UnionMember, k) ∷ others) (terminals w)) (next_is l le) run in
    let fits = n.nests (l + 1) others at_next in
    (after_read f (Nonterminal (rule.UnionMember, l + 1) ∷ []) others refl at_next, omega (arith, fits))

or_read : {place : Place} {w m : List Lexeme} (others : Stack) → IsTaken place w m → Levels (Derived terminal.Or ∷ others) (terminals w) → Levels others (terminals m)
or_read others t run = after_read (took terminal.Or t) (Derived terminal.Or ∷ []) others refl run

-- the first two members
pub union_begins : {x y : List Sign} {place : Place} {start first mid now : List Lexeme} {one two : AnnotatedType} {members : List AnnotatedType} → members ≡ one ∷ two ∷ [] → Reads (part rule.UnionMember) x start first → BeginsNested (Part rule.UnionMember ∷ []) (annotated_levels (annotated_of one)) start → IsTaken place first mid → Reads (part rule.UnionMember) y mid now → BeginsNested (Part rule.UnionMember ∷ []) (annotated_levels (annotated_of two)) mid → InUnion start now members
union_begins {start = start} {now = now} {one} {two} is f n t g k = subst (InUnion start now) (sym is) (record {
  fits = λ l others run le.
      let a = member_read l (Derived terminal.Or ∷ Nonterminal (rule.UnionMember, gr.next_level 17 l) ∷ Nonterminal (rule.MoreUnionMembers, l) ∷ others) f n le run in
      let b = member_read l (Nonterminal (rule.MoreUnionMembers, l) ∷ others) g k le (or_read (Nonterminal (rule.UnionMember, gr.next_level 17 l) ∷ Nonterminal (rule.MoreUnionMembers, l) ∷ others) t a.0) in
      (b.0, omega (arith, a.1, b.1));
})

-- one member more
pub union_goes_on : (one : AnnotatedType) {x : List Sign} {place : Place} {start now mid next : List Lexeme} {members all : List AnnotatedType} → all ≡ members ++ one ∷ [] → InUnion start now members → terminal_ahead now ≡ terminal.Or → IsTaken place now mid → Reads (part rule.UnionMember) x mid next → BeginsNested (Part rule.UnionMember ∷ []) (annotated_levels (annotated_of one)) mid → InUnion start next all
union_goes_on one {start = start} {now = now} {next = next} {members} is u or_ahead t g k = subst (InUnion start next) (sym is) (record {
  fits = λ l others run le.
      let a = u.fits l others run le in
      let c = levels_chosen a.0 in
      let row : Row = Token terminal.Or ∷ Inner rule.UnionMember ∷ Part rule.MoreUnionMembers ∷ [] in
      let opened = subst (λ α. Levels (gr.row_at grammar l α ++ others) (terminals now)) ((picks_at rule.MoreUnionMembers terminal.Or {α = row} {w = now} or_ahead refl refl).picked_is c.0 c.1) c.3 in
      let b = member_read l (Nonterminal (rule.MoreUnionMembers, l) ∷ others) g k le (or_read (Nonterminal (rule.UnionMember, gr.next_level 17 l) ∷ Nonterminal (rule.MoreUnionMembers, l) ∷ others) t opened) in
      (b.0, let most = levels_more members one (16 - l) (omega (arith, a.1, le)) (omega (arith, b.1, le)) in omega (arith, most, le));
})

pub union_nests : {start now : List Lexeme} {members : List AnnotatedType} {levels : ℕ} → levels ≡ suc (list_levels members) → InUnion start now members → Nests union_row levels start
union_nests is u = record { nests = λ l others run le. let a = (u.fits l others run le).1 in omega (arith, is, a) }

-- a type inside no other
none_left : (s : Stack) → stripped s ≡ [] → s ≡ []
none_left [] e = refl
none_left (Derived t ∷ s) e = cc
none_left (Nonterminal n ∷ s) e = cc

one_part : (r : Rule) (s : Stack) → stripped s ≡ Nonterminal r ∷ [] → (l : ℕ) × (s ≡ Nonterminal (r, l) ∷ [])
one_part r [] e = cc
one_part r (Derived t ∷ s) e = cc
one_part r (Nonterminal n ∷ s) e =
    let same : n.0 ≡ r = cc in
    let rest : stripped s ≡ [] = cc in
    (n.1, ap (λ t. Nonterminal n ∷ t) (none_left s rest) ∙ ap (λ q. Nonterminal (q, n.1) ∷ []) same)

unguarded : (ty : WrittenType) (w v : List Lexeme) → type_levels (type_of ty) ≤ 16 → UnparsesTo (inner_type ty) w v → UnparsesTo (written_type ty) w v
unguarded ty w v le h =
    let none : within_levels (tree_of_type ty) ≡ [] = ap (λ b. if b then [] else Nowhere ∷ []) (le-leb (type_levels (type_of ty)) 16 le) in
    subst (λ g. UnparsesTo (inner_type ty ++ g) w v) (sym none) (subst (λ s. UnparsesTo s w v) (sym (append_none (inner_type ty))) h)

pub outer : (ty : WrittenType) {w v : List Lexeme} → BeginsNested (Part rule.WholeType ∷ []) (type_levels (type_of ty)) w → Reads (part rule.WholeType) (inner_type ty) w v → Reads (part rule.WholeType) (written_type ty) w v
outer ty {w} {v} n f = record {
  reads = λ others r.
      let h = f.reads others r in
      let p = parts_of r.0 (part rule.WholeType) others r.1 in
      let one = one_part rule.WholeType p.first p.first_is in
      let run = subst (λ s. Levels s (terminals w)) (p.is ∙ ap (λ s. s ++ p.rest) one.1) r.2 in
      let low = (levels_chosen run).2.low in
      let fits = n.nests one.0 p.rest run in
      (unguarded ty w v (omega (arith, low, fits)) h.0, h.1);
}

pub outer_ok : {E : Type 0} (w v : List Lexeme) (r : Result WrittenType E) → IfOk r (λ ty. BeginsNested (Part rule.WholeType ∷ []) (type_levels (type_of ty)) w) → IfOk r (λ ty. Reads (part rule.WholeType) (inner_type ty) w v) → IfOk r (λ ty. Reads (part rule.WholeType) (written_type ty) w v)
outer_ok w v (Ok ty) n f = outer ty n f
outer_ok w v (Err e) n f = tt

pub outer_flat : (ty : WrittenType) {α : Symbols} {w v : List Lexeme} → type_levels (type_of ty) ≡ 1 → Reads α (inner_type ty) w v → Reads α (written_type ty) w v
outer_flat ty {α} {w} {v} one f = record { reads = λ others r. let h = f.reads others r in (unguarded ty w v (omega (arith, one)) h.0, h.1) }
