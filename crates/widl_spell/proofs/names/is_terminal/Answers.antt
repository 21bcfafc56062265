use Rattle.std.proofs.Common.{◌≡◌, Bool, true, false, List, ℕ, refl, sym, ap}
use Rattle.std.specs.Cmp.{IsEquivalence}
use Rattle.std.specs.Str.{bytes_eq}
use Rattle.std.proofs.lemmas.Map.Views.{Contains-from_any, list_any-from_Contains}
use lib.Pointwise.{bytes_decides}
use Rattle.widl_lex.specs.Quoted.{quoted_terminals}
use Rattle.widl_spell.specs.Names.{is_terminal}
use Rattle.widl_spell.proofs.names.is_terminal.Goals as goal

both : (a b : Bool) → (a ≡ true → b ≡ true) → (b ≡ true → a ≡ true) → a ≡ b
both true b to back = sym (to refl)
both false true to back = back refl
both false false to back = refl

equal : IsEquivalence bytes_eq
equal = record {
  refl = λ x. (bytes_decides x x).1 refl;
  symm = λ x y. both (bytes_eq x y) (bytes_eq y x) (λ e. (bytes_decides y x).1 (sym ((bytes_decides x y).0 e))) (λ e. (bytes_decides x y).1 (sym ((bytes_decides y x).0 e)));
  congr = λ x y z e. ap (λ w. bytes_eq w z) ((bytes_decides x y).0 e);
}

pub returns : goal.returns
unfolding is_terminal
returns c = both _ _
    (λ t. list_any-from_Contains equal c.args.text.now quoted_terminals (c.is_quoted.ensures.0 t))
    (λ t. c.is_quoted.ensures.1 (Contains-from_any (λ x y e. (bytes_decides x y).0 e) c.args.text.now quoted_terminals t))
