use Rattle.std.proofs.Common.{◌≡◌, ℕ, ◌<◌, List, length, map, refl, sym, ap, ◌∙◌, arith, get_or, String, Global, string_bytes}
use Rattle.std.specs.Prelude.{slice_set, slice_get, Some}
use Rattle.std.specs.Option.{option_map}
use Rattle.std.proofs.lemmas.List.{map-set, length-map}
use Rattle.std.proofs.lemmas.Option.{slice_get-map, slice_get_read}
use Rattle.widl_top.proofs.words.Words.replace.Goals as goal

replaced : (items : List (String Global)) (words : List (List ℕ)) (i : ℕ) (new item : String Global) → map string_bytes items ≡ words → new ≡ item
    → map string_bytes (slice_set items i new) ≡ slice_set words i (string_bytes item)
replaced items words i new item is same =
    map-set string_bytes items i new ∙ ap (λ s. slice_set (map string_bytes items) i (string_bytes s)) same ∙ ap (λ l. slice_set l i (string_bytes item)) is

former : (items : List (String Global)) (words : List (List ℕ)) (i : ℕ) (old : String Global) → map string_bytes items ≡ words → i < length words → old ≡ get_or items i old
    → slice_get words i ≡ Some (string_bytes old)
former items words i old is below read =
    let within : i < length items = omega (arith, below, ap length is, length-map items (string_bytes {Z = Global})) in
    ap (λ l. slice_get l i) (sym is) ∙ slice_get-map string_bytes items i ∙ ap (option_map string_bytes) (slice_get_read items (length items) i old refl within read)

read_same : (items : List (String Global)) (old read : String Global) (i : ℕ) → old ≡ read → read ≡ get_or items i read → old ≡ get_or items i old
read_same items old read i same is = same ∙ is ∙ ap (get_or items i) (sym same)

pub returns-clause-list : goal.returns-clause-list
returns-clause-list c = replaced c.self.inside.items.items _ c.args.place _ _ c.self.view_is c.replace.ensures.after

pub returns-clause-former : goal.returns-clause-former
returns-clause-former c = former c.self.inside.items.items _ c.args.place _ c.self.view_is c.requires (read_same _ _ _ c.args.place c.replace.ensures.value c.index_mut.ensures.value)
