-- For proofs alone. Whether a source of one type fits another, as the program tests it in lists without interfaces.
use Rattle.std.specs.Prelude.{Bool, ◌||◌}
use Rattle.widl_idl.specs.Sameness.{same_term}
use Rattle.widl_idl.specs.Terms.{TypeTerm, NullableType}
use Rattle.widl_script_rules.specs.Fits.{without_annotations}

-- the types are the same without annotations
abbrev pub same_plain : TypeTerm → TypeTerm → Bool
same_plain t u = same_term (without_annotations t) (without_annotations u)

abbrev pub fits_by : TypeTerm → TypeTerm → Bool
fits_by t (NullableType u) = same_plain t (NullableType u) || fits_by t u
fits_by t u = same_plain t u
